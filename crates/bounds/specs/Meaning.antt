-- What a source means: a number of steps and a list of items, under a law.
use Rattle.std.specs.Prelude.{ℕ, ◌+◌, ◌^◌, ◌<◌, min, cond, List, length, Ok, Err, Result, nat_lt}
use Rattle.std.specs.Option.{ok_or}
use Rattle.std.specs.List.{AllByRecursion, slice_get}
use Rattle.bounds.specs.Items.{Item}
use Rattle.bounds.specs.declared.item.NoSuchPlace.{NoSuchPlace}
use Rattle.bounds.specs.Limits.{most_items}

-- a bound names two steps below n
abbrev pub Below : ℕ → Item → Type 0
Below n (Ok b) = (b.from < n) × (b.to < n)
Below n (Err f) = Unit {0}

-- n is at most 65,535, and each bound of the list names two steps below it
pub record Lawful (n : ℕ) (xs : List Item) : Type 0 where
  pub few : n < 2 ^ 16
  pub each : AllByRecursion (Below n) xs

pub record Meaning : Type 0 where
  pub steps : ℕ
  pub items : List Item
  pub law : Lawful steps items

-- what `count` answers: the length, or one more than the most that are read
abbrev pub counted : List Item → ℕ
counted xs = min (length xs) (most_items + 1)

abbrev pub refused : NoSuchPlace
refused = record {}

-- what `item` answers: the item at the place, refused past the list's end and past the most that are read
abbrev pub read_at : List Item → ℕ → Result Item NoSuchPlace
read_at xs place = cond (nat_lt place most_items) (ok_or (slice_get xs place) refused) (Err refused)
