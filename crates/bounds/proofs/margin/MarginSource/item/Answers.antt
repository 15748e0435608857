use Rattle.std.proofs.Common.{◌∙◌}
use Rattle.std.proofs.lemmas.Result.{err_from_is_err_and}
use Rattle.bounds.specs.DrawnIn.{drawn_in}
use Rattle.bounds.proofs.Combining.{read_map_ok, read_map_err}
use Rattle.bounds.proofs.margin.MarginSource.item.Goals as goal

pub returns-in_err-item : goal.returns-in_err-item
returns-in_err-item g c =
    let s = c.args.self.now in
    let e = err_from_is_err_and c.from_residual.result c.from_residual.ensures.1 in
    e.1 ∙ read_map_err (drawn_in s.seconds) (g.S.Source.meaning s.inner).items c.args.place _ c.in_err-item.ensures

pub returns : goal.returns
returns g c =
    let s = c.args.self.now in
    read_map_ok (drawn_in s.seconds) (g.S.Source.meaning s.inner).items c.args.place _ _ c.in_ok-item.ensures c.drawn_in.ensures
