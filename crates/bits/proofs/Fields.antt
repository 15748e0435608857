-- Bits and fields: how small they are, and how fields are made of bits and of fields.
use Rattle.std.proofs.Common.{◌≡◌, ℕ, zero, suc, ◌+◌, ◌-◌, ◌*◌, ◌/◌, ◌%◌, ◌^◌, ◌<◌, ◌≤◌, List, length, get_or, sym, refl, ap, ◌∙◌, mul_assoc, pow-suc, add-one, arith}
use native.Mathlib.Nat.{zero-div}
use lib.Bits.{bit_and}
use Rattle.std.proofs.lemmas.Nat.{and_mask, mod_below}
use Rattle.std.proofs.lemmas.List.{get_or_past}
use Rattle.std.proofs.Math.Pow.{pow_mono}
use Rattle.bits.specs.Field.{bit_of, bit, field}
use Rattle.bits.specs.Limits.{most_bits}

-- a bit is 0 or 1
pub bit_lt : (xs : List ℕ) (i : ℕ) → bit xs i < 2
unfolding bit bit_of
bit_lt xs i = mod_below (get_or xs (i / 8) 0 / 2 ^ (7 - i % 8)) 2 (omega arith)

-- a bit as code reads it
pub bit_read : (xs : List ℕ) (i : ℕ) → bit_and (get_or xs (i / 8) 0 / 2 ^ (7 - i % 8)) 1 ≡ bit xs i
unfolding bit bit_of
bit_read xs i = and_mask (get_or xs (i / 8) 0 / 2 ^ (7 - i % 8)) 1

-- a bit past the end
pub bit_past : (xs : List ℕ) (i : ℕ) → length xs ≤ i / 8 → 0 ≡ bit xs i
unfolding bit bit_of
bit_past xs i h = sym (ap (λ b. b / 2 ^ (7 - i % 8) % 2) (get_or_past xs (i / 8) 0 h) ∙ ap (λ n. n % 2) (zero-div (2 ^ (7 - i % 8))))

-- a field of no bits
pub field_none : (xs : List ℕ) (s : ℕ) → field xs s 0 ≡ 0
unfolding field
field_none xs s = refl

-- one bit more
pub field_more : (xs : List ℕ) (s w : ℕ) → field xs s (w + 1) ≡ field xs s w * 2 + bit xs (s + w)
unfolding field
field_more xs s w = ap (field xs s) (add-one w)

-- a field is below the power of its width
pub field_lt : (xs : List ℕ) (s w : ℕ) → field xs s w < 2 ^ w
unfolding field
field_lt xs s zero = omega arith
field_lt xs s (suc w) = omega (arith, field_lt xs s w, bit_lt xs (s + w), pow-suc 2 w)

-- a field in two
pub field_split : (xs : List ℕ) (s a b : ℕ) → field xs s (a + b) ≡ field xs s a * 2 ^ b + field xs (s + a) b
unfolding field
field_split xs s a zero = ap (field xs s) none ∙ one
  where
    none : a + 0 ≡ a
    none = omega arith

    one : field xs s a ≡ field xs s a * 1 + 0
    one = omega arith
field_split xs s a (suc b) =
    let e : a + suc b ≡ suc (a + b) = omega arith in
    let f : bit xs (s + (a + b)) ≡ bit xs (s + a + b) = ap (bit xs) (omega arith) in
    let g : field xs s a * 2 ^ b * 2 ≡ field xs s a * 2 ^ suc b = mul_assoc (field xs s a) (2 ^ b) 2 ∙ ap (λ n. field xs s a * n) (sym (pow-suc 2 b)) in
    let h = field_split xs s a b in
    ap (field xs s) e ∙ omega (arith, f, g, h)

-- one bit more than w bits fits the widest field
pub field_fits : (xs : List ℕ) (s w : ℕ) → w < most_bits → field xs s w * 2 + 1 < 2 ^ most_bits
field_fits xs s w l = let top : 2 ^ suc w ≤ 2 ^ most_bits = pow_mono {i = suc w} {j = most_bits} (omega arith) in omega (arith, field_lt xs s w, pow-suc 2 w)

-- one bit more, by its place
pub field_next : (xs : List ℕ) (s i : ℕ) → s ≤ i → field xs s (i + 1 - s) ≡ field xs s (i - s) * 2 + bit xs i
field_next xs s i l = ap (field xs s) (omega arith) ∙ field_more xs s (i - s) ∙ ap (λ n. field xs s (i - s) * 2 + bit xs n) (omega arith)

-- what the reading of bits and fields comes to
pub ruleset reads = (bit_lt, bit_read, bit_past, field_none, field_next, field_lt, field_fits)
