use Rattle.std.proofs.Common.{◌≡◌, ◌≤◌, drop}
use Rattle.jobtext.specs.Numbers.{digits_after, up_to}
use Rattle.jobtext.proofs.number.decimal.Given as goal

abbrev pub invariant-loop-digit : goal.invariant-loop-digit
invariant-loop-digit l = (l.value ≤ l.most) × (up_to l.most (digits_after l.value (drop l.digit-index l.word)) ≡ up_to l.most (digits_after 0 l.word))
