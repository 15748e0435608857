use Rattle.std.proofs.Common.{arith, rules}
use Rattle.jobtext.proofs.Digits.{digits_past}
use Rattle.jobtext.proofs.number.decimal.Goals as goal

pub returns-then-value-from-clause-value : goal.returns-then-value-from-clause-value
returns-then-value-from-clause-value c = digits_past c.args.most c.args.word.now c.loop-digit.digit-index c.loop-digit.value c.loop-digit.invariant.1 c.loop-digit-test.true (search rules) (omega arith)
