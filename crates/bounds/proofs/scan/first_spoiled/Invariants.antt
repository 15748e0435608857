use Rattle.std.proofs.Common.{◌≡◌}
use Rattle.bounds.proofs.Scanning.{Scanned}
use Rattle.bounds.proofs.scan.first_spoiled.Given as goal

abbrev pub invariant-loop-place : goal.invariant-loop-place
invariant-loop-place g l =
    (goal.iterator-loop-place g).can_next l.place-iterator
    × (goal.iterator-loop-place g).is_finite l.place-iterator
    × (l.place-iterator.source.now ≡ l.source)
    × Scanned (g.S.Source.meaning l.source).items l.place-iterator.place
