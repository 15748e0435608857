use Rattle.std.proofs.Common.{◌≡◌}
use Rattle.bounds.specs.Spoiled.{readable}
use Rattle.bounds.specs.Unread.{unread}
use Rattle.network.specs.Filled.{Refilled, entries_after}
use Rattle.network.specs.Grid.{Rough, unbounded}
use Rattle.network.proofs.Narrowing.{Left}
use Rattle.network.proofs.grid.Grid.gather.Given as goal

abbrev pub invariant-loop-item : goal.invariant-loop-item
invariant-loop-item g l = record {
  can_next : (goal.iterator-loop-item g).can_next l.item-iterator;
  is_finite : (goal.iterator-loop-item g).is_finite l.item-iterator;
  source : l.item-iterator.source.now ≡ l.source;
  rough : Rough l.fn.self.n (entries_after l.fn.self l.self);
  left : Left l.fn.self.n unbounded (readable (g.S.Source.meaning l.source).items) (entries_after l.fn.self l.self) (unread (g.S.Source.meaning l.source).items l.item-iterator.place);
  rest : Refilled l.fn.self l.self;
}
