use Rattle.network.specs.Filled.{Refilled, entries, entries_after}
use Rattle.network.proofs.Narrowing.{ClosesSoFar}
use Rattle.network.proofs.grid.Grid.close.Given as goal

abbrev pub invariant-loop-k : goal.invariant-loop-k
invariant-loop-k l = record {
  closes : ClosesSoFar l.initial.self.n (entries l.initial.self) (entries_after l.initial.self l.self) l.k;
  rest : Refilled l.initial.self l.self;
}
