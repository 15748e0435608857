use Rattle.std.proofs.Common.{◌≡◌, ◌*◌, drop}
use Rattle.bench.proofs.nalthwig_compile.Given as goal

abbrev pub invariant-loop : goal.invariant-loop
invariant-loop l = drop (l.steps * l.steps) l.distances ≡ drop (l.steps * l.steps) l.initial.distances
