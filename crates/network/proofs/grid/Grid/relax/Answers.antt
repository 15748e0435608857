use Rattle.std.proofs.Common.{◌≡◌, ℕ, pos, neg_ℤ, ◌≤ℤ◌, subst, sym, arith, w32, to_z, of_z}
use Rattle.std.proofs.lemmas.Int.{ints}
use Rattle.bounds.specs.Limits.{horizon}
use Rattle.network.specs.Filled.{entries}
use Rattle.network.specs.Grid.{RowLowered, entry_at}
use Rattle.network.specs.Lines.{number_at, Near}
use Rattle.network.proofs.Lowering.{stage_more, near_line}
use Rattle.network.proofs.Refilling.{refilled_onward}
use Rattle.network.proofs.grid.Grid.relax.Goals as goal
use Rattle.network.proofs.grid.Grid.relax.Goals.{After-row-via}

near : (c : After-row-via) → Near c.args.self.now.n (number_at c.row-via.result)
near c =
    near_line c.args.self.now.n (number_at c.row-via.result) (entries c.args.self.now c.args.k) c.args.k c.row-via.ensures (λ b q. c.requires.rough.high _ b c.requires.via q) c.if-not-is_possible.ensures

pub relax_row-requires-clause-near : goal.relax_row-requires-clause-near
relax_row-requires-clause-near c =
    subst (λ (n : ℕ). Near n (number_at c.row-via.result)) (sym c.loop-i.invariant.rest.rows) (near (goal.at.relax_row-requires-clause-near c).After-row-via)

pub loop-i-preserved : goal.loop-i-preserved
loop-i-preserved c =
    let n = c.args.self.now.n in
    let i = c.loop-i.i in
    let k = c.args.k in
    let xs = c.loop-i.self.cells.now in
    let ys = c.relax_row.new.self.cells.now in
    let far = c.loop-i.invariant in
    let t = to_z w32 (of_z w32 c.at-through.result) in
    let low : neg_ℤ (pos horizon) ≤ℤ t = omega (arith, ints, c.if-through.false) in
    let read : c.at-through.result ≡ entry_at n xs i k = subst (λ (m : ℕ). c.at-through.result ≡ entry_at m xs i k) far.rest.rows c.at-through.ensures in
    let is : t ≡ entry_at n xs i k = omega (arith, ints, read) in
    let row : RowLowered n (entry_at n xs) (entry_at n ys) i t (number_at c.row-via.result) =
    subst (λ (m : ℕ). RowLowered m (entry_at m xs) (entry_at m ys) i t (number_at c.row-via.result)) far.rest.rows c.relax_row.ensures.lowered in
    record {
      stage = stage_more _ _ _ _ _ t _ c.requires.via c.loop-i-test.true far.stage low (near (goal.at.loop-i-preserved c).After-row-via) is c.row-via.ensures _ row;
      rest = refilled_onward _ _ _ far.rest c.relax_row.ensures.rest;
    }
