-- What `compile` answers, and what it leaves in the three tables.
use Rattle.std.specs.Prelude.{◌≡◌, ℕ, ◌-◌, ◌*◌, ◌≤◌, Bool, cond, ◌||◌, List, length, take, drop, ℤ, Some, None, Ok, Err, Option, Result, ◌==◌}
use Rattle.std.specs.Option.{unwrap_or}
use Rattle.bounds.specs.Meaning.{Meaning}
use Rattle.bounds.specs.Timetables.{Feasible, Distances}
use Rattle.bounds.specs.declared.told.Told.{Told}
use Rattle.network.specs.declared.compiler.Compiled.{Compiled}
use Rattle.network.specs.declared.refusal.Refusal.{Refusal}
use Rattle.network.specs.declared.refusal.Refusal.TheVariants.{NoTimetable}
use Rattle.network.specs.declared.tables.GroupEntry.{GroupEntry}
use Rattle.network.specs.declared.tables.Link.{Link}
use Rattle.network.specs.Grid.{entry_at, zeroed}
use Rattle.network.specs.Groups.{GroupTable}
use Rattle.network.specs.Links.{LinkTable}
use Rattle.network.specs.Refusals.{told}

-- an early refusal is the one given; without one there are two numbers within their bounds, or there is no timetable
abbrev pub Answered : ℕ → Option Told → Result Compiled Refusal → Type 0
Answered n early (Ok c) = (early ≡ None) × (c.groups ≤ n) × (c.links ≤ n * (n - 1))
Answered n early (Err e) = told e ≡ unwrap_or early (told NoTimetable)

-- without an early refusal the source passes exactly when it has a timetable, and is refused with 9 exactly when it has none
abbrev pub Decided : Meaning → Option Told → Result Compiled Refusal → Type 0
Decided m early (Ok c) = (early ≡ None) × Feasible m
Decided m None (Err e) = (told e ≡ told NoTimetable) × (Feasible m → ⊥)
Decided m (Some early) (Err e) = told e ≡ early

-- the tables of a source: its distances, the group of each step, and the kept links at the front
pub record TablesOf (m : Meaning) (c : Compiled) (distances : List ℤ) (groups : List GroupEntry) (links : List Link) : Type 0 where
  pub distances_of : Distances m (entry_at m.steps distances)
  pub groups_of : GroupTable m.steps (entry_at m.steps distances) groups c.groups
  pub links_of : LinkTable m.steps (entry_at m.steps distances) groups (take c.links links)
  pub links_in_table : c.links ≤ length links

-- a source that passes has its tables
abbrev pub Tabled : Meaning → Result Compiled Refusal → List ℤ → List GroupEntry → List Link → Type 0
Tabled m (Ok c) distances groups links = TablesOf m c distances groups links
Tabled m (Err e) distances groups links = Unit {0}

-- the two refusals that leave the distances as they were
abbrev pub leaves_distances : Told → Bool
leaves_distances t = t.number == 7 || t.number == 8

-- the distances: behind the first n × n entries as they were; those are zero after a refusal that does not leave them
abbrev pub DistancesAfter : ℕ → Result Compiled Refusal → List ℤ → List ℤ → Type 0
DistancesAfter n (Ok c) before after = drop (n * n) after ≡ drop (n * n) before
DistancesAfter n (Err e) before after = after ≡ cond (leaves_distances (told e)) before (zeroed n before)

-- the groups: behind the first n entries as they were, and all of them after a refusal
abbrev pub GroupsAfter : ℕ → Result Compiled Refusal → List GroupEntry → List GroupEntry → Type 0
GroupsAfter n (Ok c) before after = drop n after ≡ drop n before
GroupsAfter n (Err e) before after = after ≡ before

-- the links: behind the answered number of them as they were, and all of them after a refusal
abbrev pub LinksAfter : Result Compiled Refusal → List Link → List Link → Type 0
LinksAfter (Ok c) before after = drop c.links after ≡ drop c.links before
LinksAfter (Err e) before after = after ≡ before
