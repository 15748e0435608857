use Rattle.std.proofs.Common.{refl, arith}
use Rattle.std.proofs.lemmas.Int.{ints, clamps}
use Rattle.network.proofs.Places.{lowered_set, behind_set}
use Rattle.network.proofs.grid.Grid.lower.Goals as goal

pub returns : goal.returns
returns c = record {
  lowered = lowered_set _ _ _ _ _ _ c.requires.row c.requires.column c.args.self.now.room (omega (arith, ints, clamps, c.min.ensures.value, c.at-old.ensures));
  rest = record { rows = refl; same = refl; behind = behind_set _ _ _ _ _ c.requires.row c.requires.column };
}
