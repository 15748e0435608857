-- What stands at a place of a source.
use Rattle.std.specs.Prelude.{Result}
use Rattle.bounds.specs.declared.bound.Bound.{Bound}
use Rattle.bounds.specs.declared.fault.Fault.{Fault}

-- a bound, or the reason why the item is spoiled
abbrev pub Item : Type 0
Item = Result Bound Fault
