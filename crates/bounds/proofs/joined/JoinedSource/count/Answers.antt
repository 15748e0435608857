use Rattle.std.proofs.Common.{arith}
use Rattle.bounds.proofs.Combining.{counted_append}
use Rattle.bounds.proofs.joined.JoinedSource.count.Goals as goal

pub returns : goal.returns
returns g c =
    let s = c.args.self.now in
    let e = counted_append (g.A.Source.meaning s.first).items (g.B.Source.meaning s.second).items in
    omega (arith, e)
