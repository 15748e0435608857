-- What is left to show of `write_bit`: where it turns a bit over.
use Rattle.std.proofs.Common.{◌∙◌}
use Rattle.bits.proofs.Writes.{wrote_flip}
use Rattle.bits.proofs.writing.write_bit.Goals as goal

pub returns-then-read_bit-value : goal.returns-then-read_bit-value
returns-then-read_bit-value c = wrote_flip _ _ _ c.if-index-bytes.true c.requires (λ e. c.if-read_bit-value.true (c.read_bit.ensures ∙ e))
