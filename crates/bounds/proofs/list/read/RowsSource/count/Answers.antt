use Rattle.std.proofs.Common.{arith}
use Rattle.bounds.specs.Rows.{row_item}
use Rattle.bounds.proofs.Combining.{counted_map}
use Rattle.bounds.proofs.list.read.RowsSource.count.Goals as goal

pub returns : goal.returns
returns c =
    let s = c.args.self.now in
    omega (arith, counted_map (row_item s.steps) s.rows.now)
