-- A source without a spoiled item has one card.
use Rattle.std.proofs.Common.{◌≡◌, ℕ, ◌+◌, ◌-◌, ◌*◌, ◌/◌, ◌<◌, ◌≤◌, Bool, true, false, cond, ℤ, eqb, List, length, get_or, take, drop, Some, None, Ok, Err, sym, refl, ap, ◌∙◌, subst, inl, inr, arith, length-take}
use Rattle.std.specs.List.{slice_get}
use Rattle.std.proofs.lemmas.List.{take_all, get_or-take, get_or_past}
use Rattle.std.proofs.lemmas.Bool.{cases_lt}
use Rattle.std.proofs.lemmas.Bool.Decides.{nat_tests}
use Rattle.bits.specs.Field.{bit, field}
use Rattle.bits.specs.Signed.{signed, unsigned}
use Rattle.bits.proofs.Bytes.{bits_same_at, take_same}
use Rattle.bits.proofs.Fields.{field_lt}
use Rattle.bits.proofs.Signs.{unsigned_signed}
use Rattle.bounds.specs.Items.{Item}
use Rattle.bounds.specs.Meaning.{Meaning}
use Rattle.bounds.specs.Spoiled.{first_spoiled}
use Rattle.card.specs.Layout.{lower_present_field, upper_present_field, lower_field, upper_field, header_bits, record_bits, signed_at, is_set_at, steps_of, count_of, row_at, item_at}
use Rattle.card.specs.Meaning.{card_meaning}
use Rattle.card.specs.Opening.{open_refusal}
use Rattle.card.specs.Rewriting.{opened_or, rewrite_refusal}
use Rattle.card.specs.Writing.{IsCardOf, WroteCard, card_size, write_refusal}
use Rattle.card.proofs.Listing.{length_items, nth_items}
use Rattle.bounds.specs.declared.row.LooseEnd.{LooseEnd}
use Rattle.bounds.specs.declared.row.LooseEnd.TheVariants.{Present, Absent}
use Rattle.card.proofs.Rows.{row_item_back}
use Rattle.card.proofs.Tests.{Opened, opened, no_spoiled, refused_none}

-- the fields of equal records

mark_same : (x y : ℕ) → x < 2 → y < 2 → eqb x 1 ≡ eqb y 1 → x ≡ y
mark_same x y p q e = grind (arith, nat_tests)

signed_same : (xs ys : List ℕ) (s w : ℕ) → signed w (field xs s w) ≡ signed w (field ys s w) → field xs s w ≡ field ys s w
signed_same xs ys s w e = sym (unsigned_signed w (field xs s w) (field_lt xs s w)) ∙ ap (unsigned w) e ∙ unsigned_signed w (field ys s w) (field_lt ys s w)

-- equal ends have the same mark and the same value
ends_same : (b c : Bool) (y z : ℤ) → ◌≡◌ {A = LooseEnd} (cond b (Present y) (Absent y)) (cond c (Present z) (Absent z)) → (b ≡ c) × (y ≡ z)
ends_same true true y z e = (refl, cc)
ends_same false false y z e = (refl, cc)
ends_same true false y z e = absurd (cc)
ends_same false true y z e = absurd (cc)

-- equal records have the same bits
row_bits : (xs ys : List ℕ) (s : ℕ) → row_at xs s ≡ row_at ys s → (i : ℕ) → s ≤ i → i < s + record_bits → bit xs i ≡ bit ys i
row_bits xs ys s e i l h =
    let lower = ends_same (is_set_at xs s lower_present_field) (is_set_at ys s lower_present_field) (signed_at xs s lower_field) (signed_at ys s lower_field) (ap (λ r. r.lower) e) in
    let upper = ends_same (is_set_at xs s upper_present_field) (is_set_at ys s upper_present_field) (signed_at xs s upper_field) (signed_at ys s upper_field) (ap (λ r. r.upper) e) in
    elim (cases_lt i (s + 6)) [
      | inl a ↦ bits_same_at xs ys (s + 0) 6 (ap (λ r. r.from) e) i (omega arith) (omega arith)
      | inr a ↦ elim (cases_lt i (s + 12)) [
        | inl b ↦ bits_same_at xs ys (s + 6) 6 (ap (λ r. r.to) e) i (omega arith) (omega arith)
        | inr b ↦ elim (cases_lt i (s + 13)) [
          | inl c ↦ bits_same_at xs ys (s + 12) 1 (mark_same _ _ (field_lt xs (s + 12) 1) (field_lt ys (s + 12) 1) lower.0) i (omega arith) (omega arith)
          | inr c ↦ elim (cases_lt i (s + 14)) [
            | inl d ↦ bits_same_at xs ys (s + 13) 1 (mark_same _ _ (field_lt xs (s + 13) 1) (field_lt ys (s + 13) 1) upper.0) i (omega arith) (omega arith)
            | inr d ↦ elim (cases_lt i (s + 35)) [
              | inl f ↦ bits_same_at xs ys (s + 14) 21 (signed_same xs ys (s + 14) 21 lower.1) i (omega arith) (omega arith)
              | inr f ↦ bits_same_at xs ys (s + 35) 21 (signed_same xs ys (s + 35) 21 upper.1) i (omega arith) (omega arith)
            ]
          ]
        ]
      ]
    ]

-- two cards of one source

module _ (m : Meaning) (xs ys : List ℕ) (cx : IsCardOf m xs) (cy : IsCardOf m ys) (none : first_spoiled 0 m.items ≡ None) where
  ox : Opened xs
  ox = opened xs cx.opens

  oy : Opened ys
  oy = opened ys cy.opens

  count_x : count_of xs ≡ length m.items
  count_x = sym (length_items xs) ∙ ap length cx.items

  count_y : count_of ys ≡ length m.items
  count_y = sym (length_items ys) ∙ ap length cy.items

  header_bits_same : (i : ℕ) → i < header_bits → bit xs i ≡ bit ys i
  header_bits_same i l =
      let steps : field xs 4 6 ≡ field ys 4 6 = omega (arith, cx.steps, cy.steps) in
      elim (cases_lt i 4) [
        | inl a ↦ bits_same_at xs ys 0 4 (ox.edition ∙ sym oy.edition) i (omega arith) (omega arith)
        | inr a ↦ elim (cases_lt i 10) [
          | inl b ↦ bits_same_at xs ys 4 6 steps i (omega arith) (omega arith)
          | inr b ↦ elim (cases_lt i 20) [
            | inl c ↦ bits_same_at xs ys 10 10 (count_x ∙ sym count_y) i (omega arith) (omega arith)
            | inr c ↦ bits_same_at xs ys 20 4 (ox.spare ∙ sym oy.spare) i (omega arith) (omega arith)
          ]
        ]
      ]

  record_same : (k : ℕ) → k < length m.items → row_at xs (header_bits + record_bits * k) ≡ row_at ys (header_bits + record_bits * k)
  record_same k l =
      let nx : slice_get m.items k ≡ Some (item_at xs k) = ap (λ l. slice_get l k) (sym cx.items) ∙ nth_items xs k (omega (arith, count_x)) in
      let ny : slice_get m.items k ≡ Some (item_at ys k) = ap (λ l. slice_get l k) (sym cy.items) ∙ nth_items ys k (omega (arith, count_y)) in
      at (item_at xs k) refl nx ny
    where
      at : (x : Item) → item_at xs k ≡ x → slice_get m.items k ≡ Some (item_at xs k) → slice_get m.items k ≡ Some (item_at ys k) → row_at xs (header_bits + record_bits * k) ≡ row_at ys (header_bits + record_bits * k)
      at (Err f) e nx ny = absurd (no_spoiled 0 m.items none k f (nx ∙ ap Some e))
      at (Ok b) e nx ny =
          let f : item_at ys k ≡ Ok b = same (item_at ys k) (item_at xs k) (sym ny ∙ nx) ∙ e in
          row_item_back (steps_of xs) (row_at xs (header_bits + record_bits * k)) b e ∙ sym (row_item_back (steps_of ys) (row_at ys (header_bits + record_bits * k)) b f)
        where
          same : (x y : Item) → Some x ≡ Some y → x ≡ y
          same x y h = cc

  pub bits_agree : (i : ℕ) → i < header_bits + record_bits * length m.items → bit xs i ≡ bit ys i
  bits_agree i l = elim (cases_lt i header_bits) [ inl h ↦ header_bits_same i h | inr h ↦ behind h ]
    where
      behind : header_bits ≤ i → bit xs i ≡ bit ys i
      behind h = let k : ℕ = (i - header_bits) / record_bits in row_bits xs ys (header_bits + record_bits * k) (record_same k (omega arith)) i (omega arith) (omega arith)

  -- they are the same bytes
  pub card_unique : ((i : ℕ) → get_or xs i 0 < 256) → ((i : ℕ) → get_or ys i 0 < 256) → xs ≡ ys
  card_unique p q =
      let n = length xs in
      let lx = ox.long in
      let ly = oy.long in
      sym (take_all n xs (omega arith))
      ∙ take_same xs ys n (omega arith) (omega (arith, count_x, count_y)) p q (λ i l. bits_agree i (omega (arith, count_x)))
      ∙ take_all n ys (omega (arith, count_x, count_y))

-- what bytes are

-- bytes that open are the card of what they mean
self_card : (xs : List ℕ) → open_refusal xs ≡ None → IsCardOf (card_meaning xs) xs
self_card xs o = record { opens = o; steps = refl; items = refl }

-- so what was written of a card that was opened is that card again
pub rewritten : (bytes read xs ys : List ℕ) (size : ℕ) → open_refusal bytes ≡ None → read ≡ bytes → write_refusal (card_meaning read) (length xs) ≡ None → WroteCard (card_meaning read) size xs ys
    → ((i : ℕ) → get_or bytes i 0 < 256) → ((i : ℕ) → get_or ys i 0 < 256)
    → (rewrite_refusal bytes (length xs) ≡ None) × (size ≡ length bytes) × (take size ys ≡ bytes) × (drop size ys ≡ drop size xs)
rewritten bytes read xs ys size o e a w p q =
    let b : write_refusal (card_meaning bytes) (length xs) ≡ None = subst (λ l. write_refusal (card_meaning l) (length xs) ≡ None) e a in
    let s : size ≡ card_size (card_meaning bytes) = w.size ∙ ap (λ l. card_size (card_meaning l)) e in
    let c : IsCardOf (card_meaning bytes) (take size ys) = subst (λ l. IsCardOf (card_meaning l) (take size ys)) e w.card in (
      ap (λ x. opened_or x (write_refusal (card_meaning bytes) (length xs))) o ∙ b,
      omega (arith, s, (opened bytes o).long, length_items bytes),
      card_unique (card_meaning bytes) (take size ys) bytes c (self_card bytes o) (refused_none (card_meaning bytes) (length xs) b) (λ i. taken i) p,
      w.behind,
    )
  where
    taken : (i : ℕ) → get_or (take size ys) i 0 < 256
    taken i = elim (cases_lt i size) [ inl l ↦ subst (λ b. b < 256) (sym (get_or-take size ys i 0 l)) (q i) | inr l ↦ subst (λ b. b < 256) (sym (get_or_past (take size ys) i 0 (omega (arith, length-take size ys)))) (omega arith) ]
