-- A part of the one big-endian number that bytes are.
use Rattle.std.specs.Prelude.{ℕ, ◌-◌, ◌*◌, ◌/◌, ◌%◌, ◌^◌, List, length}
use Rattle.std.specs.Int.Digits.{number_from_digits}

-- the number without the bits behind s + w, and of that the low w bits
abbrev pub part : List ℕ → ℕ → ℕ → ℕ
part xs s w = number_from_digits 256 xs / 2 ^ (8 * length xs - s - w) % 2 ^ w
