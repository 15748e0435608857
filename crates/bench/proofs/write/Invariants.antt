use Rattle.std.proofs.Common.{◌≡◌, ◌++◌, map, take, drop}
use Rattle.bench.proofs.write.Given as goal

abbrev pub invariant-loop-place : goal.invariant-loop-place
invariant-loop-place g l = (made : _ → _) → ((x : _) (y : _) → g.U.From.from_gives x y → y ≡ made x) → l.out ≡ map made (take l.place l.entries) ++ drop l.place l.initial.out
