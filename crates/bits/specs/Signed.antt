-- Two's complement of any width.
use Rattle.std.specs.Prelude.{◌≡◌, ℕ, ◌-◌, ◌*◌, ◌%◌, ◌^◌, cond, ℤ, pos, negsuc, ◌+ℤ◌, ◌-ℤ◌, neg_ℤ, ◌≤ℤ◌, ◌<ℤ◌, nat_lt}
use Rattle.std.specs.Int.{int_rem_euclid}

-- what w bits with the value x stand for: x in the lower half of the values, x - 2 ^ w in the upper
abbrev pub signed : ℕ → ℕ → ℤ
signed w x = cond (nat_lt (x * 2) (2 ^ w)) (pos x) (pos x -ℤ pos (2 ^ w))

-- the w bits of a number: its remainder modulo 2 ^ w, where negsuc n is -(n + 1)
abbrev pub unsigned : ℕ → ℤ → ℕ
unsigned w (pos n) = n % 2 ^ w
unsigned w (negsuc n) = 2 ^ w - 1 - n % 2 ^ w

-- the numbers that w bits stand for, from -2 ^ (w - 1) to below 2 ^ (w - 1); doubled, so that width 0 is no exception
pub record InRange (w : ℕ) (z : ℤ) : Type 0 where
  pub low : neg_ℤ (pos (2 ^ w)) ≤ℤ (z +ℤ z)
  pub high : (z +ℤ z) <ℤ pos (2 ^ w)

-- z is congruent to x modulo 2 ^ w, for an x below 2 ^ w
abbrev pub Congruent : ℕ → ℕ → ℤ → Type 0
Congruent w x z = int_rem_euclid z (pos (2 ^ w)) ≡ pos x

-- z is congruent to x, and the one number in range that is
pub record StandsFor (w x : ℕ) (z : ℤ) : Type 0 where
  pub congruent : Congruent w x z
  pub only : (y : ℤ) → InRange w y → Congruent w x y → y ≡ z
