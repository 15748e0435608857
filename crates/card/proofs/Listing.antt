-- What is read from the list of a card's items.
use Rattle.std.proofs.Common.{◌≡◌, ℕ, ◌<◌, ◌≤◌, List, length, Some, Ok, Err, sym, ap, ◌∙◌, arith}
use Rattle.std.specs.Option.{ok_or}
use Rattle.std.specs.List.{slice_get}
use Rattle.std.proofs.lemmas.List.FromFn.{length-map-range_with_len, get_or-map-range_with_len}
use Rattle.std.proofs.lemmas.Option.{slice_get-get_or}
use Rattle.bounds.specs.Limits.{most_items}
use Rattle.bounds.specs.Meaning.{read_at, refused}
use Rattle.bounds.proofs.Reading.{read_below, read_none}
use Rattle.card.specs.Layout.{count_of, item_at, items_of}

-- a card has an item for each record
pub length_items : (xs : List ℕ) → length (items_of xs) ≡ count_of xs
unfolding items_of
length_items xs = length-map-range_with_len (item_at xs) 0 (count_of xs)

-- which is what its record is
pub nth_items : (xs : List ℕ) (k : ℕ) → k < count_of xs → slice_get (items_of xs) k ≡ Some (item_at xs k)
unfolding items_of
nth_items xs k h =
    slice_get-get_or (items_of xs) k (item_at xs k) (omega (arith, length_items xs)) ∙ ap Some (get_or-map-range_with_len (item_at xs) 0 (count_of xs) k k (item_at xs k) h (omega arith))

-- so a place below the count and the limit reads as its record
pub read_item : (xs : List ℕ) (k : ℕ) → k < most_items → k < count_of xs → Ok (item_at xs k) ≡ read_at (items_of xs) k
read_item xs k l h = sym (read_below (items_of xs) k l ∙ ap (λ o. ok_or o refused) (nth_items xs k h))

-- and any other place is refused
pub read_no_item : (xs : List ℕ) (k : ℕ) → (k < most_items → count_of xs ≤ k) → Err refused ≡ read_at (items_of xs) k
read_no_item xs k h = read_none (items_of xs) k (λ l. omega (arith, length_items xs, h l))
