use Rattle.network.specs.Filled.{Refilled, entries, entries_after}
use Rattle.network.proofs.Lowering.{StageSoFar}
use Rattle.network.proofs.grid.Grid.relax.Given as goal

abbrev pub invariant-loop-i : goal.invariant-loop-i
invariant-loop-i l = record {
  stage : StageSoFar l.initial.self.n (entries l.initial.self) (entries_after l.initial.self l.self) l.k l.i;
  rest : Refilled l.initial.self l.self;
}
