-- What the loop of `put_records` keeps: the records so far are written.
use Rattle.std.proofs.Common.{◌≡◌, ◌≤◌, length}
use Rattle.card.proofs.Filling.{Filling}
use Rattle.card.proofs.writing.put_records.Given as goal

abbrev pub invariant-loop-place : goal.invariant-loop-place
invariant-loop-place g l = record {
  can_next : (goal.iterator-loop-place g).can_next l.place-iterator;
  is_finite : (goal.iterator-loop-place g).is_finite l.place-iterator;
  source : l.place-iterator.source.now ≡ l.source;
  inside : l.place-iterator.place ≤ length (g.S.Source.meaning l.source).items;
  filling : Filling (g.S.Source.meaning l.source).items l.initial.out l.out l.place-iterator.place;
}
