-- What is left to show of `write_card`: what is written is the card of the source.
use Rattle.std.proofs.Common.{◌≡◌, ◌∙◌, false, sym, arith}
use Rattle.bounds.specs.Told.{beyond_limits}
use Rattle.bounds.proofs.Within.{within}
use Rattle.card.proofs.Rounds.{wrote_card}
use Rattle.card.proofs.writing.write_card.Goals as goal

pub returns : goal.returns
returns g c =
    let m = g.S.Source.meaning c.args.source.now in
    let limits : beyond_limits m ≡ false = sym c.beyond_limits.ensures ∙ c.if-beyond_limits.false in
    let few = (within m limits).few in
    wrote_card m _ c.args.out.now c.put_header.new.out c.put_records.new.out (omega arith) limits (omega arith) (sym c.in_default.is ∙ c.first_spoiled.ensures)
    c.put_header.ensures.kept (grind arith) (grind arith) c.put_records.ensures.records
