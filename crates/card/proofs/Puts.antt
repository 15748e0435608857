-- A header and a record, one field after another.
use Rattle.std.proofs.Common.{◌≡◌, ℕ, ◌+◌, ◌-◌, ◌*◌, ◌<◌, ◌≤◌, true, ◌⊎◌, List, length, ℤ, pos, negsuc, Some, None, Option, unwrap_or, ap, ◌∙◌, inl, inr, arith}
use Rattle.std.specs.Option.{option_len}
use Rattle.std.proofs.lemmas.Int.{ints}
use Rattle.std.proofs.lemmas.Bool.{and_parts}
use Rattle.bits.specs.Field.{field}
use Rattle.bits.specs.Signed.{signed, unsigned, InRange}
use Rattle.bits.specs.Wrote.{KeptOutside, Wrote}
use Rattle.bits.proofs.Writes.{kept_none, kept_within, field_kept, field_written, signed_written}
use Rattle.bounds.specs.declared.bound.Bound.{Bound}
use Rattle.bounds.specs.Limits.{most_steps, most_items}
use Rattle.bounds.specs.Reach.{end_in_reach}
use Rattle.card.specs.declared.layout.Field.{Field}
use Rattle.card.specs.Layout.{edition_field, steps_field, count_field, spare_field, from_field, to_field, lower_present_field, upper_present_field, lower_field, upper_field, edition_number, header_start, header_bytes, record_bits, row_at, bits_at, signed_at, end_at}
use Rattle.card.specs.Records.{HasHeader, loose_end, bound_row}

-- the write of a field in the part that begins at s
abbrev pub Put : List ℕ → List ℕ → ℕ → Field → ℕ → Type 0
Put xs ys s f v = Wrote xs ys (s + f.start) f.width v

-- the header

-- the four fields of the header
pub header_put : (x0 x1 x2 x3 x4 : List ℕ) (n count : ℕ) → 0 < n → n ≤ most_steps → count ≤ most_items → header_bytes ≤ length x0
    → Put x0 x1 header_start edition_field edition_number → Put x1 x2 header_start steps_field (n - 1) → Put x2 x3 header_start count_field count → Put x3 x4 header_start spare_field 0
    → HasHeader x4 n count
header_put x0 x1 x2 x3 x4 n count some most few room w1 w2 w3 w4 =
    let k3 : KeptOutside x2 x4 10 24 = kept_within x2 x3 x4 _ _ _ _ 10 24 (omega arith) (omega arith) (omega arith) (omega arith) w3.kept w4.kept in
    let k2 : KeptOutside x1 x4 4 24 = kept_within x1 x2 x4 _ _ _ _ 4 24 (omega arith) (omega arith) (omega arith) (omega arith) w2.kept k3 in
    let l1 = w1.kept.long in
    let l2 = w2.kept.long in
    let l3 = w3.kept.long in
    let steps : field x4 4 6 ≡ n - 1 = field_written x1 x2 x4 _ _ _ _ _ w2 (omega arith) (omega arith) k3 (omega arith) in
    record {
      edition = field_written x0 x1 x4 _ _ _ _ _ w1 (omega arith) (omega arith) k2 (omega arith);
      steps = omega (arith, steps);
      count = field_written x2 x3 x4 _ _ _ _ _ w3 (omega arith) (omega arith) w4.kept (omega arith);
      spare = field_written x3 x4 x4 _ _ _ 24 24 w4 (omega arith) (omega arith) (kept_none x4 24 24) (omega arith);
    }

-- a record

-- an end in reach fits its field
end_fits : (end : Option ℤ) → end_in_reach end ≡ true → InRange 21 (unwrap_or end (pos 0))
end_fits None e = record { low = omega (arith, ints); high = omega (arith, ints) }
end_fits (Some (pos n)) e = let l : n ≤ 1000000 = grind arith in record { low = omega (arith, ints); high = omega (arith, ints) }
end_fits (Some (negsuc n)) e = let l : n ≤ 999999 = grind arith in record { low = omega (arith, ints); high = omega (arith, ints) }

-- the mark of an end is a bit
mark_lt : (end : Option ℤ) → option_len end < 2
mark_lt None = omega arith
mark_lt (Some z) = omega arith

-- its mark and its value are the end
end_put : (xs : List ℕ) (s : ℕ) (mark value : Field) (end : Option ℤ) → bits_at xs s mark ≡ option_len end → signed_at xs s value ≡ unwrap_or end (pos 0) → end_at xs s mark value ≡ loose_end end
end_put xs s mark value None e f = rw (e, f)
end_put xs s mark value (Some z) e f = rw (e, f)

-- the six fields of a record are the record of the bound
pub bound_put : (x0 x1 x2 x3 x4 x5 x6 : List ℕ) (s : ℕ) (b : Bound) → s + record_bits ≤ 8 * length x0 → b.from < most_steps → b.to < most_steps
    → Put x0 x1 s from_field b.from → Put x1 x2 s to_field b.to
    → Put x2 x3 s lower_present_field (option_len b.lower) → Put x3 x4 s lower_field (unsigned 21 (unwrap_or b.lower (pos 0)))
    → Put x4 x5 s upper_present_field (option_len b.upper) → Put x5 x6 s upper_field (unsigned 21 (unwrap_or b.upper (pos 0)))
    → row_at x6 s ≡ bound_row b
bound_put x0 x1 x2 x3 x4 x5 x6 s b room from to w1 w2 w3 w4 w5 w6 =
    let k5 : KeptOutside x4 x6 (s + 13) (s + 56) = kept_within x4 x5 x6 _ _ _ _ (s + 13) (s + 56) (omega arith) (omega arith) (omega arith) (omega arith) w5.kept w6.kept in
    let k4 : KeptOutside x3 x6 (s + 13) (s + 56) = kept_within x3 x4 x6 _ _ _ _ (s + 13) (s + 56) (omega arith) (omega arith) (omega arith) (omega arith) w4.kept k5 in
    let k3 : KeptOutside x2 x6 (s + 12) (s + 56) = kept_within x2 x3 x6 _ _ _ _ (s + 12) (s + 56) (omega arith) (omega arith) (omega arith) (omega arith) w3.kept k4 in
    let k2 : KeptOutside x1 x6 (s + 6) (s + 56) = kept_within x1 x2 x6 _ _ _ _ (s + 6) (s + 56) (omega arith) (omega arith) (omega arith) (omega arith) w2.kept k3 in
    let l1 = w1.kept.long in
    let l2 = w2.kept.long in
    let l3 = w3.kept.long in
    let l4 = w4.kept.long in
    let l5 = w5.kept.long in
    let near = and_parts (end_in_reach b.lower) (end_in_reach b.upper) b.near in
    let f1 : field x6 (s + 0) 6 ≡ b.from = field_written x0 x1 x6 _ _ _ _ _ w1 (omega arith) (omega arith) k2 (omega arith) in
    let f2 : field x6 (s + 6) 6 ≡ b.to = field_written x1 x2 x6 _ _ _ _ _ w2 (omega arith) (omega arith) k3 (omega arith) in
    let f3 : field x6 (s + 12) 1 ≡ option_len b.lower = field_written x2 x3 x6 _ _ _ _ _ w3 (omega arith) (mark_lt b.lower) k4 (omega arith) in
    let f5 : field x6 (s + 13) 1 ≡ option_len b.upper = field_written x4 x5 x6 _ _ _ _ _ w5 (omega arith) (mark_lt b.upper) w6.kept (omega arith) in
    let stays : field x6 (s + 14) 21 ≡ field x4 (s + 14) 21 = field_kept x5 x6 _ _ (s + 14) 21 w6.kept (inl (omega arith)) ∙ field_kept x4 x5 _ _ (s + 14) 21 w5.kept (inr (omega arith)) in
    let f4 : signed 21 (field x6 (s + 14) 21) ≡ unwrap_or b.lower (pos 0) = ap (signed 21) stays ∙ signed_written x3 x4 (s + 14) 21 _ w4 (end_fits b.lower near.0) (omega arith) in
    let f6 : signed 21 (field x6 (s + 35) 21) ≡ unwrap_or b.upper (pos 0) = signed_written x5 x6 (s + 35) 21 _ w6 (end_fits b.upper near.1) (omega arith) in
    let lower = end_put x6 s lower_present_field lower_field b.lower f3 f4 in
    let upper = end_put x6 s upper_present_field upper_field b.upper f5 f6 in
    rw (f1, f2, lower, upper)

-- a record with the same fields in other bytes is the same
pub row_as : (xs ys : List ℕ) (s : ℕ) → ((i w : ℕ) → i + w ≤ record_bits → field ys (s + i) w ≡ field xs (s + i) w) → row_at ys s ≡ row_at xs s
row_as xs ys s same =
    let f1 = same 0 6 (omega arith) in
    let f2 = same 6 6 (omega arith) in
    let f3 = same 12 1 (omega arith) in
    let f4 = same 13 1 (omega arith) in
    let f5 = same 14 21 (omega arith) in
    let f6 = same 35 21 (omega arith) in
    rw (f1, f2, f3, f4, f5, f6)

-- a record that lies before or behind a change is kept
pub row_kept : (xs ys : List ℕ) (s e a : ℕ) → KeptOutside xs ys s e → (a + record_bits ≤ s) ⊎ (e ≤ a) → row_at ys a ≡ row_at xs a
row_kept xs ys s e a h o = row_as xs ys a (λ i w l. field_kept xs ys s e (a + i) w h (elim o [ inl p ↦ inl (omega arith) | inr p ↦ inr (omega arith) ]))
