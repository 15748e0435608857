use borrow.Rule.Slice.PartMut.{put_mid}
use Rattle.std.proofs.Common.{◌≡◌, ◌+◌, ◌-◌, ◌*◌, ℤ, length, refl, subst, arith, rules, w32, SFits}
use Rattle.std.proofs.lemmas.Int.{ints, clamps, to_z-of_z}
use Rattle.network.specs.Grid.{RowLowered, entry_at}
use Rattle.network.specs.Lines.{number_at}
use Rattle.network.proofs.Places.{row_length, behind_written}
use Rattle.network.proofs.Lowering.{row_more, row_all}
use Rattle.network.proofs.grid.Grid.relax_row.Goals as goal

pub loop-j-preserved : goal.loop-j-preserved
loop-j-preserved c =
    let long = row_length c.args.self.now.n c.args.i c.requires.inside c.args.self.now.cells.now c.args.self.now.room in
    let near = c.requires.near c.loop-j.j (omega (arith, long)) in
    row_more _ _ _ _ _ c.loop-j.invariant _ (omega arith) (omega (arith, ints, clamps, c.min.ensures.value))

pub returns : goal.returns
returns c =
    let n = c.args.self.now.n in
    let xs = c.args.self.now.cells.now in
    let long = row_length n c.args.i c.requires.inside xs c.args.self.now.room in
    let zs = put_mid (c.args.i * n) (c.args.i * n + n - c.args.i * n) xs c.loop-j.row in
    let fits : SFits w32 c.args.through = search rules in
    let same : length c.loop-j.row ≡ n = omega (arith, long) in
    record {
      lowered = subst (λ (t : ℤ). RowLowered n (entry_at n xs) (entry_at n zs) c.args.i t (number_at c.args.via.now)) (to_z-of_z _ _ fits)
          (row_all n c.args.i xs c.loop-j.row _ c.args.via.now _ c.requires.inside c.args.self.now.room same (omega (arith, long)) c.loop-j.invariant);
      rest = record { rows = refl; same = refl; behind = behind_written n c.args.i c.requires.inside xs c.args.self.now.room c.loop-j.row same };
    }
