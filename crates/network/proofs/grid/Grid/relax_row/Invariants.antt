use Rattle.network.proofs.Lowering.{RowSoFar}
use Rattle.network.proofs.grid.Grid.relax_row.Given as goal

abbrev pub invariant-loop-j : goal.invariant-loop-j
invariant-loop-j l = RowSoFar l.initial.row l.row l.through l.via l.j
