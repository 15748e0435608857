-- The turns of the writer: the records so far.
use Rattle.std.proofs.Common.{◌≡◌, ℕ, ◌+◌, ◌*◌, ◌<◌, List, length, Some, Ok, sym, ap, ◌∙◌, inl, inr, arith}
use Rattle.std.specs.Option.{ok_or}
use Rattle.std.specs.List.{slice_get}
use Rattle.std.proofs.lemmas.Option.{slice_get_within}
use Rattle.std.proofs.lemmas.Bool.{cases_eq}
use Rattle.bits.specs.Wrote.{KeptOutside}
use Rattle.bits.proofs.Writes.{kept_none, kept_within}
use Rattle.bounds.specs.declared.bound.Bound.{Bound}
use Rattle.bounds.specs.Items.{Item}
use Rattle.bounds.specs.Limits.{most_items}
use Rattle.bounds.specs.Meaning.{read_at, refused}
use Rattle.bounds.proofs.Reading.{read_below}
use Rattle.card.specs.Layout.{header_bits, record_bits, row_at}
use Rattle.card.specs.Records.{HasRecords, bound_row}
use Rattle.card.proofs.Puts.{row_kept}

-- the first k records are written
pub record Filling (items : List Item) (xs ys : List ℕ) (k : ℕ) : Type 0 where
  pub kept : KeptOutside xs ys header_bits (header_bits + record_bits * k)
  pub records : (j : ℕ) (b : Bound) → j < k → slice_get items j ≡ Some (Ok b) → row_at ys (header_bits + record_bits * j) ≡ bound_row b

pub filling_none : (items : List Item) (xs : List ℕ) → Filling items xs xs 0
filling_none items xs = record { kept = kept_none xs header_bits (header_bits + record_bits * 0); records = λ j b l _. absurd (omega arith) }

-- one record more
pub filling_more : (items : List Item) (xs ys zs : List ℕ) (k : ℕ) (x : Item) → slice_get items k ≡ Some x → Filling items xs ys k
    → KeptOutside ys zs (header_bits + record_bits * k) (header_bits + record_bits * k + record_bits)
    → ((b : Bound) → x ≡ Ok b → row_at zs (header_bits + record_bits * k) ≡ bound_row b)
    → Filling items xs zs (k + 1)
filling_more items xs ys zs k x at h w r = record {
  kept = kept_within xs ys zs header_bits (header_bits + record_bits * k) (header_bits + record_bits * k) (header_bits + record_bits * k + record_bits) header_bits (header_bits + record_bits * (k + 1)) (omega arith) (omega arith) (omega arith) (omega arith) h.kept w;
  records = λ j b a e. elim (cases_eq j k) [
    | inl f ↦ ap (λ i. row_at zs (header_bits + record_bits * i)) f ∙ r b (same (sym at ∙ ap (slice_get items) (sym f) ∙ e))
    | inr f ↦ row_kept ys zs (header_bits + record_bits * k) (header_bits + record_bits * k + record_bits) (header_bits + record_bits * j) w (inl (omega arith)) ∙ h.records j b (omega arith) e
  ];
}
  where
    same : {y z : Item} → Some y ≡ Some z → y ≡ z
    same h = cc

-- all of them
pub filling_all : (items : List Item) (xs ys : List ℕ) (k : ℕ) → k ≡ length items → Filling items xs ys k → HasRecords ys items
filling_all items xs ys k e h = λ j b f. h.records j b (omega (arith, slice_get_within items j (Ok b) f)) f

-- and nothing else is changed
pub filling_kept : (items : List Item) (xs ys : List ℕ) (k : ℕ) → Filling items xs ys k → KeptOutside xs ys header_bits (header_bits + record_bits * k)
filling_kept items xs ys k h = h.kept
