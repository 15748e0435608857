-- What is left to show of `read_signed`.
use Rattle.std.proofs.Common.{arith}
use Rattle.std.proofs.lemmas.Grind.{common_steps}
use Rattle.bits.proofs.Signs.{field_stands}
use Rattle.bits.proofs.read_signed.Goals as goal

pub returns-clause-stands : goal.returns-clause-stands
returns-clause-stands c = field_stands _ _ _ _ (grind (arith, common_steps))
