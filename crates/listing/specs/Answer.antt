-- What is printed for a card, and for any source.
use Rattle.std.specs.Prelude.{◌≡◌, ℕ, ◌-◌, ◌*◌, ◌≤◌, List, length, take, ℤ, Some, None, Ok, Err, String, string_bytes, Option, Result}
use Rattle.std.specs.Option.{unwrap_or}
use Rattle.bounds.specs.Limits.{most_steps}
use Rattle.bounds.specs.Meaning.{Meaning}
use Rattle.card.specs.Meaning.{card_meaning}
use Rattle.card.specs.Opening.{open_refusal}
use Rattle.bounds.specs.Timetables.{Feasible}
use Rattle.bounds.specs.declared.told.Told.{Told}
use Rattle.network.specs.Compiled.{TablesOf}
use Rattle.network.specs.Refusals.{told, early_refusal}
use Rattle.network.specs.declared.compiler.Compiled.{Compiled}
use Rattle.network.specs.declared.refusal.Refusal.TheVariants.{NoTimetable}
use Rattle.network.specs.declared.tables.GroupEntry.{GroupEntry}
use Rattle.network.specs.declared.tables.Link.{Link}
use Rattle.listing.specs.declared.answer.NotListed.{NotListed}
use Rattle.listing.specs.declared.answer.NotListed.TheVariants.{Refused, Memory}
use Rattle.std.specs.declared.alloc.Global.{Global}
use Rattle.listing.specs.Text.{listing_text, refusal_text}

-- the refusal of a job before a timetable is looked for, if there is one, with tables for the most steps
abbrev pub refused_early : Meaning → Option Told
refused_early job = early_refusal job (most_steps * most_steps) most_steps (most_steps * (most_steps - 1))

-- the line of what a refusal tells
abbrev pub told_text : Told → List ℕ
told_text t = refusal_text t.number t.place

-- the text lists a group for each step of the job, and then links
pub record Lists (job : Meaning) (text : List ℕ) : Type 0 where
  pub groups : List GroupEntry
  pub links : List Link
  pub each : length groups ≡ job.steps
  pub most : length links ≤ job.steps * (job.steps - 1)
  pub shown : text ≡ listing_text groups links

-- the answer for a job, unless memory is short: its listing, unless it is refused early; or the line of the early refusal, else of the want of a timetable
abbrev pub JobAnswer : Meaning → Result (String Global) NotListed → Type 0
JobAnswer job (Ok text) = (refused_early job ≡ None) × Lists job (string_bytes text)
JobAnswer job (Err (Refused text)) = string_bytes text ≡ told_text (unwrap_or (refused_early job) (told NoTimetable))
JobAnswer job (Err (Memory e)) = Unit {0}

-- the answer for bytes that open, as the card's job, and for those that do not, by the number of the refusal
abbrev pub OpenedAnswer : Option ℕ → Meaning → Result (String Global) NotListed → Type 0
OpenedAnswer None job answer = JobAnswer job answer
OpenedAnswer (Some number) job (Ok text) = ⊥
OpenedAnswer (Some number) job (Err (Refused text)) = string_bytes text ≡ refusal_text number None
OpenedAnswer (Some number) job (Err (Memory e)) = Unit {0}

-- the answer for bytes
abbrev pub CardAnswer : List ℕ → Result (String Global) NotListed → Type 0
CardAnswer bytes answer = OpenedAnswer (open_refusal bytes) (card_meaning bytes) answer

-- the text lists the tables of the job: the group of each step, then the kept links
pub record ListsTables (job : Meaning) (text : List ℕ) : Type 0 where
  pub compiled : Compiled
  pub distances : List ℤ
  pub groups : List GroupEntry
  pub links : List Link
  pub tables : TablesOf job compiled distances groups links
  pub shown : text ≡ listing_text (take job.steps groups) (take compiled.links links)

-- the line for a job that is not taken: that of the early refusal; without one there is no timetable
abbrev pub RefusedAs : Meaning → Option Told → List ℕ → Type 0
RefusedAs job (Some early) text = text ≡ told_text early
RefusedAs job None text = (text ≡ told_text (told NoTimetable)) × (Feasible job → ⊥)

-- by its timetables: its listing where it is not refused early and has one, else the line of its refusal
abbrev pub JobDecided : Meaning → Result (String Global) NotListed → Type 0
JobDecided job (Ok text) = (refused_early job ≡ None) × Feasible job × ListsTables job (string_bytes text)
JobDecided job (Err (Refused text)) = RefusedAs job (refused_early job) (string_bytes text)
JobDecided job (Err (Memory e)) = Unit {0}

-- bytes that open, by the timetables of the card's job
abbrev pub CardDecided : List ℕ → Result (String Global) NotListed → Type 0
CardDecided bytes answer = open_refusal bytes ≡ None → JobDecided (card_meaning bytes) answer
