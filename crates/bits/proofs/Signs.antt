-- Two's complement: its two halves, its range, that it is the one number in range congruent to the bits, and the way back.
use Rattle.std.proofs.Common.{List, ◌≡◌, ℕ, suc, ◌-◌, ◌*◌, ◌%◌, ◌^◌, ◌<◌, ◌≤◌, ltb, ℤ, pos, negsuc, ◌-ℤ◌, sym, refl, ap, ◌∙◌, subst, inl, inr, mod-eq_of_lt, arith}
use Rattle.std.proofs.lemmas.Nat.{mod_below, pow_pos, one_shl}
use Rattle.std.proofs.lemmas.Int.{ints}
use Rattle.std.proofs.lemmas.Bool.{cond-true, cond-false, lt-ltb, le-ltb, cases_lt}
use Rattle.std.proofs.Math.Pow.{pow_mono}
use Rattle.bits.specs.Limits.{most_signed_bits}
use Rattle.bits.proofs.Fields.{field_lt}
use Rattle.bits.specs.Field.{field}
use Rattle.bits.specs.Signed.{signed, unsigned, InRange, Congruent, StandsFor}

-- the lower half of the values
pub signed_low : (w x : ℕ) → x * 2 < 2 ^ w → signed w x ≡ pos x
signed_low w x h = cond-true (ltb (x * 2) (2 ^ w)) (pos x) (pos x -ℤ pos (2 ^ w)) (lt-ltb (x * 2) (2 ^ w) h)

-- the upper half
pub signed_high : (w x : ℕ) → 2 ^ w ≤ x * 2 → signed w x ≡ pos x -ℤ pos (2 ^ w)
signed_high w x h = cond-false (ltb (x * 2) (2 ^ w)) (pos x) (pos x -ℤ pos (2 ^ w)) (le-ltb (x * 2) (2 ^ w) h)

-- where it is negative
pub signed_negative : (w x : ℕ) → x < 2 ^ w → 2 ^ w ≤ x * 2 → signed w x ≡ negsuc (2 ^ w - suc x)
signed_negative w x l h = signed_high w x h ∙ omega (arith, ints)

-- what bits stand for is in range
pub signed_in_range : (w x : ℕ) → x < 2 ^ w → InRange w (signed w x)
signed_in_range w x h = elim (cases_lt (x * 2) (2 ^ w)) [ inl l ↦ low l | inr g ↦ high g ]
  where
    low : x * 2 < 2 ^ w → InRange w (signed w x)
    low l = let e = signed_low w x l in record { low = omega (arith, ints, e); high = omega (arith, ints, e) }

    high : 2 ^ w ≤ x * 2 → InRange w (signed w x)
    high g = let e = signed_high w x g in record { low = omega (arith, ints, e); high = omega (arith, ints, e) }

-- and congruent to the bits
pub signed_congruent : (w x : ℕ) → x < 2 ^ w → Congruent w x (signed w x)
signed_congruent w x h = elim (cases_lt (x * 2) (2 ^ w)) [ inl l ↦ low l | inr g ↦ high g ]
  where
    low : x * 2 < 2 ^ w → Congruent w x (signed w x)
    low l = subst (Congruent w x) (sym (signed_low w x l)) (ap pos (mod-eq_of_lt h))

    high : 2 ^ w ≤ x * 2 → Congruent w x (signed w x)
    high g =
        let n : ℕ = 2 ^ w - suc x in
        let l : n < 2 ^ w = omega arith in
        let e : n % 2 ^ w ≡ n = mod-eq_of_lt l in
        subst (Congruent w x) (sym (signed_negative w x h g)) (ap pos (omega (arith, e)))

-- a number in range that is congruent to the bits is what they stand for
pub signed_only : (w x : ℕ) (y : ℤ) → InRange w y → Congruent w x y → y ≡ signed w x
signed_only w x (pos n) r c =
    let l : n * 2 < 2 ^ w = omega (arith, ints, r.high) in
    let s : n < 2 ^ w = omega arith in
    let m : n % 2 ^ w ≡ n = mod-eq_of_lt s in
    let e : n ≡ x = omega (arith, ints, c, m) in
    ap pos e ∙ sym (signed_low w x (omega arith))
signed_only w x (negsuc n) r c =
    let l : suc n * 2 ≤ 2 ^ w = omega (arith, ints, r.low) in
    let s : n < 2 ^ w = omega arith in
    let m : n % 2 ^ w ≡ n = mod-eq_of_lt s in
    let e : 2 ^ w - 1 - n % 2 ^ w ≡ x = omega (arith, ints, c) in
    ap negsuc (omega (arith, m, e)) ∙ sym (signed_negative w x (omega arith) (omega arith))

-- so it is the one number in range that is congruent to the bits
pub signed_stands : (w x : ℕ) → x < 2 ^ w → StandsFor w x (signed w x)
signed_stands w x h = record { congruent = signed_congruent w x h; only = signed_only w x }

-- the bits of a number are its remainder
pub unsigned_congruent : (w : ℕ) (z : ℤ) → Congruent w (unsigned w z) z
unsigned_congruent w (pos n) = refl
unsigned_congruent w (negsuc n) = refl

-- the bits of a number are below the power of their width
pub unsigned_lt : (w : ℕ) (z : ℤ) → unsigned w z < 2 ^ w
unsigned_lt w (pos n) = mod_below n (2 ^ w) (pow_pos w)
unsigned_lt w (negsuc n) = omega (arith, pow_pos w)

-- what the bits of a number in range stand for is that number
pub signed_unsigned : (w : ℕ) (z : ℤ) → InRange w z → signed w (unsigned w z) ≡ z
signed_unsigned w z r = sym (signed_only w (unsigned w z) z r (unsigned_congruent w z))

-- and the bits of what bits stand for are those bits
pub unsigned_signed : (w x : ℕ) → x < 2 ^ w → unsigned w (signed w x) ≡ x
unsigned_signed w x h =
    let e : pos (unsigned w (signed w x)) ≡ pos x = sym (unsigned_congruent w (signed w x)) ∙ signed_congruent w x h in
    cc

-- the power of a width is at most that of the widest signed field
pub pow_signed : (w : ℕ) → w ≤ most_signed_bits → 2 ^ w ≤ 2 ^ most_signed_bits
pow_signed w l = pow_mono l

-- so is what a field stands for
pub field_stands : (xs : List ℕ) (s w : ℕ) (z : ℤ) → z ≡ signed w (field xs s w) → StandsFor w (field xs s w) z
field_stands xs s w z e = subst (StandsFor w (field xs s w)) (sym e) (signed_stands w (field xs s w) (field_lt xs s w))

-- the lower half as the code tells it apart
pub ruleset lower_half = (ints, one_shl, pow_signed, signed_low)
