-- What was written opens as the card of the source.
use Rattle.std.proofs.Common.{◌≡◌, ℕ, zero, suc, ◌+◌, ◌*◌, ◌≤◌, false, List, [], ◌∷◌, length, map, take, Some, None, Ok, Err, sym, refl, ap, ◌∙◌, subst, inl, arith}
use Rattle.std.specs.List.{AllByRecursion, range_with_len, slice_get}
use Rattle.std.proofs.lemmas.List.{length-take-le}
use Rattle.bits.specs.Field.{field}
use Rattle.bits.specs.Wrote.{KeptOutside}
use Rattle.bits.proofs.Bytes.{drop_kept, field_take}
use Rattle.bits.proofs.Writes.{field_kept, kept_within}
use Rattle.bounds.specs.Items.{Item}
use Rattle.bounds.specs.Meaning.{Meaning, Below}
use Rattle.bounds.specs.Rows.{row_item}
use Rattle.bounds.specs.Spoiled.{first_spoiled, readable}
use Rattle.bounds.specs.Told.{beyond_limits}
use Rattle.card.specs.Layout.{header_start, header_bits, record_bits, steps_of, row_at, item_at, items_of}
use Rattle.card.specs.Records.{HasHeader, HasRecords}
use Rattle.card.specs.Writing.{card_size, IsCardOf, WroteCard, write_refusal}
use Rattle.std.proofs.lemmas.Option.{slice_get_within}
use Rattle.card.proofs.Puts.{row_as}
use Rattle.card.proofs.Rows.{bound_row_item}
use Rattle.bounds.proofs.Reading.{readable_all}
use Rattle.bounds.proofs.Within.{Within, within}
use Rattle.card.proofs.Tests.{opens, no_spoiled, refused_spoiled}

-- lists

listed_is : {X : Type 0} (f : ℕ → X) (i : ℕ) (xs : List X) → ((k : ℕ) (x : X) → slice_get xs k ≡ Some x → f (i + k) ≡ x) → map f (range_with_len i (length xs)) ≡ xs
listed_is f i [] h = refl
listed_is f i (x ∷ xs) h =
    let a : f i ≡ x = ap f (omega arith) ∙ h 0 x refl in
    let b = listed_is f (i + 1) xs (λ k y e. ap f (omega arith) ∙ h (suc k) y e) in
    rw (a, b)

all_nth : {X : Type 0} (P : X → Type 0) (xs : List X) (i : ℕ) (x : X) → AllByRecursion P xs → slice_get xs i ≡ Some x → P x
all_nth P [] i x a h = absurd (cc)
all_nth P (y ∷ ys) zero x a h = let e : y ≡ x = cc in subst P e a.0
all_nth P (y ∷ ys) (suc i) x a h = all_nth P ys i x a.1 h

-- a header and a record, in other bytes with the same fields
header_as : (xs ys : List ℕ) (n count : ℕ) → ((s w : ℕ) → s + w ≤ header_bits → field ys s w ≡ field xs s w) → HasHeader xs n count → HasHeader ys n count
header_as xs ys n count same h = record {
  edition = same 0 4 (omega arith) ∙ h.edition;
  steps = ap (λ x. x + 1) (same 4 6 (omega arith)) ∙ h.steps;
  count = same 10 10 (omega arith) ∙ h.count;
  spare = same 20 4 (omega arith) ∙ h.spare;
}

row_take : (m : ℕ) (xs : List ℕ) (s : ℕ) → s + record_bits ≤ 8 * m → row_at (take m xs) s ≡ row_at xs s
row_take m xs s l = row_as xs (take m xs) s (λ i w k. field_take m xs (s + i) w (omega arith))

-- the card at the front of bytes with its header and its records
pub is_card : (m : Meaning) (ys : List ℕ) → Within m → card_size m ≤ length ys → first_spoiled 0 m.items ≡ None → HasHeader ys m.steps (length m.items) → HasRecords ys m.items → IsCardOf m (take (card_size m) ys)
unfolding items_of
is_card m ys can room none header records =
    let card = take (card_size m) ys in
    let long = length-take-le (card_size m) ys room in
    let h = header_as ys card m.steps (length m.items) (λ s w l. field_take (card_size m) ys s w (omega arith)) header in
    let c = h.count in
    let few = can.few in
    record {
      opens = opens card (record { edition = h.edition; spare = h.spare; few = omega arith; long = omega arith });
      steps = h.steps;
      items = ap (λ n. map (item_at card) (range_with_len 0 n)) h.count ∙ listed_is (item_at card) 0 m.items (λ k x e. one k x e h.steps (all_nth (Below m.steps) m.items k x m.law.each e));
    }
  where
    one : (k : ℕ) (x : Item) → slice_get m.items k ≡ Some x → steps_of (take (card_size m) ys) ≡ m.steps → Below m.steps x → item_at (take (card_size m) ys) (0 + k) ≡ x
    one k (Err f) e g below = absurd (no_spoiled 0 m.items none k f e)
    one k (Ok b) e g below =
        let zs = take (card_size m) ys in
        let start : header_bits + record_bits * (0 + k) ≡ header_bits + record_bits * k = omega arith in
        let l = slice_get_within m.items k (Ok b) e in
        ap (λ n. row_item n (row_at zs (header_bits + record_bits * (0 + k)))) g
        ∙ ap (λ i. row_item m.steps (row_at zs i)) start
        ∙ ap (row_item m.steps) (row_take (card_size m) ys (header_bits + record_bits * k) (omega arith) ∙ records k b e)
        ∙ bound_row_item m.steps b below.0 below.1

-- the header and then the records
pub wrote_card : (m : Meaning) (size : ℕ) (xs ys zs : List ℕ) → size ≡ card_size m → beyond_limits m ≡ false → card_size m ≤ length xs → None ≡ first_spoiled 0 (readable m.items)
    → KeptOutside xs ys header_start header_bits → HasHeader ys m.steps (length m.items)
    → KeptOutside ys zs header_bits (header_bits + record_bits * length m.items) → HasRecords zs m.items
    → (write_refusal m (length xs) ≡ None) × WroteCard m size xs zs
wrote_card m size xs ys zs e limits room none front header back records =
    let clean : first_spoiled 0 m.items ≡ None = sym (none ∙ ap (first_spoiled 0) (readable_all m.items (within m limits).few)) in
    let h = header_as ys zs m.steps (length m.items) (λ s w l. field_kept ys zs _ _ s w back (inl (omega arith))) header in
    let all : KeptOutside xs zs 0 (header_bits + record_bits * length m.items) = kept_within xs ys zs _ _ _ _ 0 (header_bits + record_bits * length m.items) (omega arith) (omega arith) (omega arith) (omega arith) front back in
    let l = all.long in (
      refused_spoiled m (length xs) None limits room none,
      record {
        size = e;
        fits = omega arith;
        card = subst (λ n. IsCardOf m (take n zs)) (sym e) (is_card m zs (within m limits) (omega arith) clean h records);
        header = h;
        records = records;
        behind = drop_kept xs zs 0 (header_bits + record_bits * length m.items) size all (omega arith);
      },
    )
