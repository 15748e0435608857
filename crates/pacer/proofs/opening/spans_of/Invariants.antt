use Rattle.pacer.specs.Index.{SpansSoFar}
use Rattle.pacer.proofs.opening.spans_of.Given as goal

abbrev pub invariant-loop-place : goal.invariant-loop-place
invariant-loop-place l = SpansSoFar l.links l.spans l.place
