-- What one loose end says.
use Rattle.std.specs.Prelude.{zero, suc, Bool, true, false, ℤ, pos, negsuc, Some, None, Option}
use Rattle.bounds.specs.declared.row.LooseEnd.{LooseEnd}
use Rattle.bounds.specs.declared.row.LooseEnd.TheVariants.{Present, Absent}

abbrev pub is_zero : ℤ → Bool
is_zero (pos zero) = true
is_zero (pos (suc n)) = false
is_zero (negsuc n) = false

-- an absent end has the value 0
abbrev pub tidy : LooseEnd → Bool
tidy (Present z) = true
tidy (Absent z) = is_zero z

-- the end, if it is present
abbrev pub end_given : LooseEnd → Option ℤ
end_given (Present z) = Some z
end_given (Absent z) = None
