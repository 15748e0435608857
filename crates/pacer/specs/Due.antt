-- The list of what is due: an entry for each uncued step, by upper end and then by step.
use Rattle.std.specs.Prelude.{◌≡◌, ℕ, ◌<◌, ◌≤◌, ◌↔◌, List, length, take, drop, is_none, count_by, Ok, Err, Result}
use Rattle.std.specs.List.{range_with_len}
use mathlib.Core.List.{Memᴰ}
use Rattle.network.specs.Order.{due_before}
use Rattle.network.specs.declared.due.DueEntry.{DueEntry}
use Rattle.queue.specs.Order.{Strictly}
use Rattle.pacer.specs.declared.refusal.Short.{Short}
use Rattle.pacer.specs.declared.state.State.{State}
use Rattle.pacer.specs.declared.tables.Tables.{Tables}
use Rattle.pacer.specs.Rules.{Uncued, upper_end}
use Rattle.pacer.specs.States.{cue_at}

-- how many of the first n steps are not cued
abbrev pub uncued_count : State → ℕ → ℕ
uncued_count s n = count_by (λ step. is_none (cue_at s step)) (range_with_len 0 n)

-- the entry of a step
abbrev pub due_of : Tables → State → ℕ → DueEntry
due_of t s step = record { step = step; upper = upper_end t s step }

-- an entry of one of the first n steps that is due
abbrev pub Due : ℕ → Tables → State → DueEntry → Type 0
Due n t s x = Uncued n s x.step × (x.upper ≡ upper_end t s x.step)

-- the entries are exactly the due ones, each once, in their order
pub record DueTable (t : Tables) (s : State) (xs : List DueEntry) : Type 0 where
  pub ascending : Strictly due_before xs
  pub exact : (x : DueEntry) → Memᴰ x xs ↔ Due t.steps t s x

-- the entries stand at the front of the buffer, and what is behind them stays
pub record Filled (t : Tables) (s : State) (before after : List DueEntry) (k : ℕ) : Type 0 where
  pub number : k ≡ uncued_count s t.steps
  pub room : k ≤ length before
  pub entries : DueTable t s (take k after)
  pub behind : drop k after ≡ drop k before

-- the answer of `list`, and the buffer after it
abbrev pub Listed : Tables → State → List DueEntry → List DueEntry → Result ℕ Short → Type 0
Listed t s before after (Ok k) = Filled t s before after k
Listed t s before after (Err e) = (length before < uncued_count s t.steps) × (after ≡ before)
