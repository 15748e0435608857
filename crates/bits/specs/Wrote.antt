-- What a write into bits leaves: what it puts there, and what it keeps.
use Rattle.std.specs.Prelude.{◌≡◌, ℕ, ◌+◌, ◌-◌, ◌*◌, ◌/◌, ◌%◌, ◌^◌, ◌<◌, ◌≤◌, ◌⊎◌, List, length, slice_index}
use Rattle.bits.specs.Field.{bit, field}

-- ys is xs but for the bits from s on, below e: as long, with the same other bits, and the same bytes where none of these bits lies
pub record KeptOutside (xs ys : List ℕ) (s e : ℕ) : Type 0 where
  pub long : length ys ≡ length xs
  pub bits : (i : ℕ) → (i < s) ⊎ (e ≤ i) → bit ys i ≡ bit xs i
  pub bytes : (k : ℕ) → (8 * k + 8 ≤ s) ⊎ (e ≤ 8 * k) → slice_index ys k ≡ slice_index xs k

-- the w bits from s on, as far as there are bytes, are the low w bits of v, and nothing else is changed
pub record Wrote (xs ys : List ℕ) (s w v : ℕ) : Type 0 where
  pub kept : KeptOutside xs ys s (s + w)
  pub each : (i : ℕ) → i < w → s + i < 8 * length xs → bit ys (s + i) ≡ v / 2 ^ (w - 1 - i) % 2
  pub whole : s + w ≤ 8 * length xs → field ys s w ≡ v % 2 ^ w
