-- The first spoiled item of a list.
use Rattle.std.specs.Prelude.{ℕ, ◌+◌, List, [], ◌∷◌, take, Some, None, Ok, Err, Option}
use Rattle.bounds.specs.Items.{Item}
use Rattle.bounds.specs.declared.scan.SpoiledItem.{SpoiledItem}
use Rattle.bounds.specs.Limits.{most_items}

-- the items at the places that can be read; shut, since `take` of so many would compute to as many nested cases
unfoldable pub readable : List Item → List Item
readable xs = take most_items xs

-- the first spoiled item, its place counted from i
abbrev pub first_spoiled : ℕ → List Item → Option SpoiledItem
first_spoiled i [] = None
first_spoiled i (Ok b ∷ xs) = first_spoiled (i + 1) xs
first_spoiled i (Err f ∷ xs) = Some (record { place = i; fault = f })
