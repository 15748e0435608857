-- That the items of any bytes keep the law of a source: each bound names two steps below the number of steps.
use Rattle.std.specs.Prelude.{ℕ, zero, suc, ◌+◌, ◌*◌, List, map}
use Rattle.std.proofs.Common.{arith}
use Rattle.std.specs.List.{AllByRecursion, range_with_len}
use Rattle.bits.proofs.Fields.{field_lt}
use Rattle.bounds.specs.Laws.{row_below}
use Rattle.bounds.specs.Meaning.{Below, Lawful}
use Rattle.card.specs.Layout.{steps_field, header_start, header_bits, record_bits, steps_of, count_of, row_at, item_at, items_of}

-- what holds of each f k holds of each of the list
all_listed : {X : Type 0} (P : X → Type 0) (f : ℕ → X) → ((k : ℕ) → P (f k)) → (i n : ℕ) → AllByRecursion P (map f (range_with_len i n))
all_listed P f h i zero = tt
all_listed P f h i (suc n) = (h i, all_listed P f h (i + 1) n)

-- the law of a card
pub card_lawful : (xs : List ℕ) → Lawful (steps_of xs) (items_of xs)
unfolding items_of
card_lawful xs = record {
  few = omega (arith, field_lt xs (header_start + steps_field.start) steps_field.width);
  each = all_listed (Below (steps_of xs)) (item_at xs) (λ k. row_below (steps_of xs) (row_at xs (header_bits + record_bits * k))) 0 (count_of xs);
}
