-- What the loop of `write_field` keeps: the first bits are written.
use Rattle.bits.proofs.Writes.{Writing}
use Rattle.bits.proofs.writing.write_field.Given as goal

abbrev pub invariant-loop-i : goal.invariant-loop-i
invariant-loop-i l = Writing l.initial.bytes l.bytes l.start l.width l.value l.i
