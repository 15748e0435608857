-- What is left to show of `rewrite`.
use Rattle.card.proofs.Unique.{rewritten}
use Rattle.card.proofs.rewriting.rewrite.Goals as goal

pub returns : goal.returns
returns c =
    let o = c.in_ok-card.ensures in
    let w = c.in_ok-write_card.ensures in
    rewritten c.args.bytes.now c.in_ok-card.card.bytes.now c.args.out.now c.write_card.new.out c.in_ok-write_card.field-0 o.0 o.1 w.0 w.1 (λ i. (c.type_inv.bytes i).fits) (λ i. (c.type_inv.out i).fits)
