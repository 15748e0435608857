use Rattle.std.proofs.Common.{◌-◌, ap, ◌∙◌, arith}
use Rattle.bounds.specs.Meaning.{read_at}
use Rattle.bounds.proofs.Combining.{read_append_left, read_append_right}
use Rattle.bounds.proofs.joined.JoinedSource.item.Goals as goal

pub returns-then-place-first : goal.returns-then-place-first
returns-then-place-first g c =
    let s = c.args.self.now in
    let xs = (g.A.Source.meaning s.first).items in
    let ys = (g.B.Source.meaning s.second).items in
    c.item.ensures ∙ read_append_left xs ys c.args.place (omega arith) (omega arith)

pub returns-else-place-first : goal.returns-else-place-first
returns-else-place-first g c =
    let s = c.args.self.now in
    let xs = (g.A.Source.meaning s.first).items in
    let ys = (g.B.Source.meaning s.second).items in
    c.item-else-place-first.ensures
    ∙ ap (λ n. read_at ys (c.args.place - n)) c.count-first.ensures
    ∙ read_append_right xs ys c.args.place (omega arith) (omega arith)
