-- What a compilation for a caller outside answers, and what it leaves in the handed tables.
use Rattle.std.specs.Prelude.{◌≡◌, ℕ, ◌^◌, ◌<◌, cond, ◌⊎◌, List, ◌++◌, map, length, take, drop, ℤ, Some, None, Option}
use Rattle.bounds.specs.Meaning.{Meaning}
use Rattle.bounds.specs.RowList.{rows_meaning}
use Rattle.bounds.specs.Timetables.{Feasible}
use Rattle.bounds.specs.declared.told.Told.{Told}
use Rattle.network.specs.Compiled.{TablesOf, leaves_distances}
use Rattle.network.specs.Grid.{zeroed}
use Rattle.network.specs.Refusals.{told}
use Rattle.network.specs.declared.compiler.Compiled.{Compiled}
use Rattle.network.specs.declared.refusal.Refusal.TheVariants.{NoTimetable}
use Rattle.network.specs.declared.tables.GroupEntry.{GroupEntry}
use Rattle.network.specs.declared.tables.Link.{Link}
use Rattle.bench.specs.Plain.{plain_group, plain_link, plain_row}
use Rattle.bench.specs.declared.Outcome.{Outcome}
use Rattle.bench.specs.declared.PlainBound.{PlainBound}
use Rattle.bench.specs.declared.PlainGroup.{PlainGroup}
use Rattle.bench.specs.declared.PlainLink.{PlainLink}

-- the job of n steps, n at most 65,535, and the handed bounds
abbrev pub job : (n : ℕ) → n < 2 ^ 16 → List PlainBound → Meaning
job n few bounds = rows_meaning n few (map plain_row bounds)

-- the outcome for what a refusal tells
abbrev pub refusal_outcome : Told → Outcome
refusal_outcome t = record { refusal = t.number; groups = 0; links = 0 }

-- a refusal is answered, and the tables are left as `compile` leaves them: the n × n distances are zero after a refusal that does not leave them
pub record Refused (n : ℕ) (t : Told) (r : Outcome) (distances distances' : List ℤ) (groups groups' : List PlainGroup) (links links' : List PlainLink) : Type 0 where
  pub outcome : r ≡ refusal_outcome t
  pub distances_left : distances' ≡ cond (leaves_distances t) distances (zeroed n distances)
  pub groups_left : groups' ≡ groups
  pub links_left : links' ≡ links

-- the tables of the job are handed out: its distances, and at the front of the others the group of each step and the kept links, with what was there behind them
pub record Handed (m : Meaning) (r : Outcome) (distances : List ℤ) (groups groups' : List PlainGroup) (links links' : List PlainLink) : Type 0 where
  pub compiled : Compiled
  pub group_table : List GroupEntry
  pub link_table : List Link
  pub tables : TablesOf m compiled distances group_table link_table
  pub each_step : length group_table ≡ m.steps
  pub outcome : r ≡ record { refusal = 0; groups = compiled.groups; links = compiled.links }
  pub groups_out : groups' ≡ map plain_group group_table ++ drop m.steps groups
  pub links_out : links' ≡ map plain_link (take compiled.links link_table) ++ drop compiled.links links

-- an early refusal is the one given; without one the tables are handed out exactly when there is a timetable, and the job is refused with 9 exactly when there is none
abbrev pub Answered : Meaning → Option Told → Outcome → List ℤ → List ℤ → List PlainGroup → List PlainGroup → List PlainLink → List PlainLink → Type 0
Answered m (Some t) r distances distances' groups groups' links links' = Refused m.steps t r distances distances' groups groups' links links'
Answered m None r distances distances' groups groups' links links' =
    (Feasible m × Handed m r distances' groups groups' links links')
    ⊎ ((Feasible m → ⊥) × Refused m.steps (told NoTimetable) r distances distances' groups groups' links links')
