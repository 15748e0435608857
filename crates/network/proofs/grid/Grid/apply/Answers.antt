use Rattle.std.proofs.Common.{ℕ, neg_ℤ, subst}
use Rattle.std.specs.Option.{option_map}
use Rattle.network.specs.Filled.{entries}
use Rattle.network.specs.Gaps.{Capped, Narrowed}
use Rattle.network.specs.Grid.{Rough, entry_at}
use Rattle.network.proofs.Narrowing.{bound_narrows}
use Rattle.network.proofs.Refilling.{refilled_onward}
use Rattle.network.proofs.grid.Grid.apply.Goals as goal

pub returns : goal.returns
returns c =
    let n = c.args.self.now.n in
    let b = c.args.bound.now in
    let xs = c.cap.new.self.cells.now in
    let ys = c.cap-2.new.self.cells.now in
    let rows = c.cap.ensures.rest.rows in
    let upper : Narrowed n (entries c.args.self.now) (entry_at n xs) (Capped b.upper b.from b.to) =
    simp (c.upper_end.ensures, c.from_step-from.ensures, c.to_step-to.ensures) at c.cap.ensures.narrowed in
    let below = subst (λ (m : ℕ). Narrowed m (entry_at m xs) (entry_at m ys) (Capped c.negated.result c.to_step-to.result c.from_step-from.result)) rows c.cap-2.ensures.narrowed in
    let lower : Narrowed n (entry_at n xs) (entry_at n ys) (Capped (option_map neg_ℤ b.lower) b.to b.from) =
    simp (c.negated.ensures.value, c.lower_end.ensures, c.from_step-from.ensures, c.to_step-to.ensures) at below in
    record {
      rough = subst (λ (m : ℕ). Rough m (entry_at m ys)) rows c.cap-2.ensures.rough;
      narrowed = bound_narrows n _ _ _ b upper lower;
      rest = refilled_onward _ _ _ c.cap.ensures.rest c.cap-2.ensures.rest;
    }
