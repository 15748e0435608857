use Rattle.pacer.specs.Index.{WaitsSoFar}
use Rattle.pacer.proofs.opening.waits_of.Given as goal

abbrev pub invariant-loop-link : goal.invariant-loop-link
invariant-loop-link l = WaitsSoFar l.links l.waits l.link-index
