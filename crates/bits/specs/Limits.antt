-- The widths at which a field is cut. src/lib.rt has the same: they are written out here too, so that a constant that is changed there is refused.
use Rattle.std.specs.Prelude.{ℕ}

-- the most bits that one field has
abbrev pub most_bits : ℕ
most_bits = 64

-- the most bits that one signed field has
abbrev pub most_signed_bits : ℕ
most_signed_bits = 32
