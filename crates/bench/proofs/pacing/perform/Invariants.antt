use Rattle.std.proofs.Common.{◌≤◌}
use Rattle.bench.proofs.pacing.perform.Given as goal

abbrev pub invariant-loop-cue : goal.invariant-loop-cue
invariant-loop-cue l = l.taken ≤ l.cue-index
