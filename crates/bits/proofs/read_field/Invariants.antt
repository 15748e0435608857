-- What the loop of `read_field` keeps: the value is the field of the bits read so far.
use Rattle.std.proofs.Common.{◌≡◌, ◌-◌}
use Rattle.bits.specs.Field.{field}
use Rattle.bits.proofs.read_field.Given as goal

abbrev pub invariant-loop-at : goal.invariant-loop-at
invariant-loop-at l = l.value ≡ field l.bytes l.start (l.at - l.start)
