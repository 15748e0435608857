use Rattle.std.proofs.Common.{arith}
use Rattle.bounds.specs.DrawnIn.{drawn_in}
use Rattle.bounds.proofs.Combining.{counted_map}
use Rattle.bounds.proofs.margin.MarginSource.count.Goals as goal

pub returns : goal.returns
returns g c =
    let s = c.args.self.now in
    omega (arith, counted_map (drawn_in s.seconds) (g.S.Source.meaning s.inner).items)
