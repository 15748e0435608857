use Rattle.std.proofs.Common.{pos, get_or, ap, ◌∙◌, length, arith}
use Rattle.std.proofs.lemmas.List.{get_or_append_left}
use Rattle.network.proofs.Places.{row_length, row_read}
use Rattle.network.proofs.grid.Grid.row.Goals as goal

pub returns : goal.returns
returns c = λ b q.
    let n = c.args.self.now.n in
    let xs = c.args.self.now.cells.now in
    let long = row_length n c.args.k c.requires xs c.args.self.now.room in
    get_or_append_left c.copy_from_slice.new.self _ (pos 0) b (omega (arith, long, ap length c.copy_from_slice.ensures.after))
    ∙ ap (λ line. get_or line b (pos 0)) c.copy_from_slice.ensures.after
    ∙ row_read n c.args.k b xs q
