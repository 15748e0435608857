-- What is left to show of `write_signed`.
use Rattle.std.proofs.Common.{rules}
use Rattle.bits.proofs.Writes.{signed_written}
use Rattle.bits.proofs.writing.write_signed.Goals as goal

pub returns-clause-again : goal.returns-clause-again
returns-clause-again c = signed_written c.args.bytes.now _ _ _ _ (search rules)
