-- The entry goes behind the last one that it does not come before.
use Rattle.std.proofs.Common.{◌≤◌, ◌∙◌, arith}
use Rattle.std.proofs.lemmas.List.{length-take-le}
use Rattle.queue.specs.Order.{Total}
use Rattle.queue.proofs.Placing.{inserted, none_moves, placed_rest, placed_ascends, placed_strictly, placed_holds}
use Rattle.queue.proofs.insertion.place.Goals as goal
use Rattle.queue.proofs.insertion.place.Goals.{then-at-len, else-at-len}

pub returns : goal.returns
returns g c =
    let lt = g.T.Ordered.precedes in
    let x = c.args.added in
    let old = c.args.slots.now in
    let laws : Total lt = record { one = g.met.T.Ordered.one; onward = g.met.T.Ordered.onward } in
    let at : c.place_among-at.result ≤ c.args.len = omega (arith, c.place_among-at.ensures.within, length-take-le c.args.len old (omega arith)) in
    let is = inserted lt x old _ c.args.len c.place_among-at.result c.requires at (elim c.if-at-len.branch [ then-at-len w ↦ w.slots-is ∙ w.copy_within.ensures.after | else-at-len w ↦ w.slots-is ∙ none_moves old _ _ w.if-at-len.false ]) c.place_among-at.ensures.place in
    record {
      slots = is;
      rest = placed_rest lt x old _ c.args.len c.requires is;
      holds = placed_holds lt x old _ c.args.len c.requires is;
      ascends = placed_ascends lt x old _ c.args.len c.requires is laws;
      strictly = placed_strictly lt x old _ c.args.len c.requires is laws;
    }
