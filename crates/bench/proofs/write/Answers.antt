use Rattle.std.proofs.Common.{arith}
use Rattle.bench.proofs.Copying.{copied_all, copied_more}
use Rattle.bench.proofs.write.Goals as goal

pub loop-place-preserved : goal.loop-place-preserved
loop-place-preserved g c made is =
    copied_more made c.loop-place.place c.args.entries.now c.args.out.now (c.loop-place.invariant made is) c.index-entries-place.is (is _ _ c.from.ensures) (omega arith) (omega arith)

pub returns : goal.returns
returns g c made is = copied_all made c.loop-place.place c.args.entries.now c.args.out.now (c.loop-place.invariant made is) (omega arith)
