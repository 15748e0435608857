-- The numbers of the refusals that a source knows.
use Rattle.std.specs.Prelude.{ℕ}
use Rattle.bounds.specs.declared.fault.Fault.{Fault}
use Rattle.bounds.specs.declared.fault.Fault.TheVariants.{NoSuchStep, OutOfReach, NoEnd}

abbrev pub fault_number : Fault → ℕ
fault_number NoSuchStep = 3
fault_number OutOfReach = 4
fault_number NoEnd = 5

-- no item stands at that place
abbrev pub no_such_place : ℕ
no_such_place = 6
