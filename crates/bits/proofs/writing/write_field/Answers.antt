-- What is left to show of `write_field`: one bit more is written.
use Rattle.std.proofs.Common.{refl}
use Rattle.bits.proofs.Writes.{writing_more}
use Rattle.bits.proofs.writing.write_field.Goals as goal

pub loop-i-preserved : goal.loop-i-preserved
loop-i-preserved c = writing_more _ _ _ _ _ _ _ _ c.loop-i.invariant refl c.write_bit.ensures
