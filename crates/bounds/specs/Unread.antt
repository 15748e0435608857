-- What is left of a source's list.
use Rattle.std.specs.Prelude.{◌≡◌, ℕ, ◌+◌, List, [], ◌∷◌, drop, Some, None, Option}
use Rattle.bounds.specs.Items.{Item}
use Rattle.bounds.specs.Spoiled.{readable}

-- the items from place i on, as far as they can be read
abbrev pub unread : List Item → ℕ → List Item
unread xs i = drop i (readable xs)

-- the first item from place i on is taken, with its place, and j is the next place; or none is left
abbrev pub TakesItem : List Item → ℕ → Option (ℕ × Item) → ℕ → Type 0
TakesItem xs i None j = (unread xs i ≡ []) × (j ≡ i)
TakesItem xs i (Some taken) j = (taken.0 ≡ i) × (unread xs i ≡ taken.1 ∷ unread xs j) × (j ≡ i + 1)
