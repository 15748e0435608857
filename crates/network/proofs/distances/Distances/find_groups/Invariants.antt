use Rattle.std.proofs.Common.{◌≤◌}
use Rattle.network.specs.Distances.{distance}
use Rattle.network.proofs.Grouping.{GroupsSoFar}
use Rattle.network.proofs.distances.Distances.find_groups.Given as goal

abbrev pub invariant-loop-step : goal.invariant-loop-step
invariant-loop-step l = record { few : l.count ≤ l.step; groups : GroupsSoFar l.self.n (distance l.self) l.front l.count l.step }
