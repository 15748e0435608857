-- What a margin of m seconds makes of one item.
use Rattle.std.specs.Prelude.{ℕ, ℤ, pos, ◌+ℤ◌, ◌-ℤ◌, Ok, Err, Option, Result}
use Rattle.std.specs.Option.{option_map}
use Rattle.bounds.specs.declared.bound.Bound.{Bound}
use Rattle.bounds.specs.declared.fault.Fault.{Fault}
use Rattle.bounds.specs.Items.{Item}
use Rattle.bounds.specs.Made.{bound_with}

-- an end that is present, and m seconds more
abbrev pub raised : ℕ → Option ℤ → Option ℤ
raised m end = option_map (λ z. z +ℤ pos m) end

-- an end that is present, and m seconds less
abbrev pub lowered : ℕ → Option ℤ → Option ℤ
lowered m end = option_map (λ z. z -ℤ pos m) end

-- the bound with m added to its lower end and taken from its upper end: refused where an end is then out of reach
abbrev pub bound_drawn_in : ℕ → Bound → Result Bound Fault
bound_drawn_in m b = bound_with b.from b.to (raised m b.lower) (lowered m b.upper)

-- a bound is drawn in, or spoiled by that; a spoiled item stays as it is
abbrev pub drawn_in : ℕ → Item → Item
drawn_in m (Ok b) = bound_drawn_in m b
drawn_in m (Err f) = Err f
