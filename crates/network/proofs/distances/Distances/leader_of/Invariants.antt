use Rattle.network.specs.Distances.{distance}
use Rattle.network.proofs.Grouping.{LeaderSoFar}
use Rattle.network.proofs.distances.Distances.leader_of.Given as goal

abbrev pub invariant-loop-member : goal.invariant-loop-member
invariant-loop-member l = LeaderSoFar l.self.n (distance l.self) l.step l.leader l.member
