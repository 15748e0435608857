use Rattle.std.proofs.Common.{sym}
use Rattle.bounds.proofs.Making.{made_in_reach, made_out_of_reach}
use Rattle.bounds.proofs.bound.Bound.new.Goals as goal

pub returns-then-not-in_reach : goal.returns-then-not-in_reach
returns-then-not-in_reach c =
    made_out_of_reach c.args.row.now _ _ c.end-lower.ensures c.end-upper.ensures
    (sym c.if-not-is_tidy.ensures) (sym c.if-not-is_tidy-2.ensures)
    (sym c.if-not-has_end.ensures) (sym c.if-not-in_reach.ensures)

pub returns : goal.returns
returns c =
    made_in_reach c.args.row.now _ _ c.end-lower.ensures c.end-upper.ensures
    (sym c.if-not-is_tidy.ensures) (sym c.if-not-is_tidy-2.ensures) _ _
