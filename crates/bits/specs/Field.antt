-- The bits of bytes, the most significant first, and fields of them.
use Rattle.std.specs.Prelude.{ℕ, zero, suc, ◌+◌, ◌-◌, ◌*◌, ◌/◌, ◌%◌, ◌^◌, List, slice_index}

-- bit j of a byte, from the most significant
unfoldable pub bit_of : ℕ → ℕ → ℕ
bit_of b j = b / 2 ^ (7 - j) % 2

-- bit i of bytes; 0 past the end
unfoldable pub bit : List ℕ → ℕ → ℕ
bit xs i = bit_of (slice_index xs (i / 8)) (i % 8)

-- the w bits from s on, as a number
unfoldable pub field : List ℕ → ℕ → ℕ → ℕ
field xs s zero = 0
field xs s (suc w) = field xs s w * 2 + bit xs (s + w)
