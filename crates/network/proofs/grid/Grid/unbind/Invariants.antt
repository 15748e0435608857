use Rattle.network.proofs.Starting.{Begun}
use Rattle.network.proofs.grid.Grid.unbind.Given as goal

abbrev pub invariant-loop-p : goal.invariant-loop-p
invariant-loop-p l = Begun l.n l.front l.p
