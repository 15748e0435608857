use Rattle.std.proofs.Common.{◌≡◌, take}
use Rattle.pacer.specs.Fixing.{applied}
use Rattle.pacer.proofs.state.State.fix.Given as goal

-- what the links so far give
abbrev pub invariant-loop-link : goal.invariant-loop-link
invariant-loop-link l = l.self ≡ applied l.leader l.time (take l.link-index l.links) l.initial.self
