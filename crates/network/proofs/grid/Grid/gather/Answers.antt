use Rattle.std.proofs.Common.{ℕ, ◌∷◌, Ok, sym, ap, ◌∙◌, subst, arith}
use Rattle.bounds.specs.Meaning.{Below}
use Rattle.bounds.specs.Timetables.{Keeps, KeepsBound}
use Rattle.bounds.specs.Unread.{unread}
use Rattle.bounds.proofs.Scanning.{taken_below, taken_same}
use Rattle.network.specs.Gaps.{Narrowed}
use Rattle.network.specs.Grid.{Rough, entry_at, unbounded}
use Rattle.network.proofs.Narrowing.{left_more, left_none}
use Rattle.network.proofs.Refilling.{refilled_onward}
use Rattle.network.proofs.grid.Grid.gather.Goals as goal

pub apply-requires : goal.apply-requires
apply-requires g c =
    let far = c.loop-item.invariant in
    let m = g.S.Source.meaning c.args.source.now in
    let i = c.loop-item.item-iterator.place in
    let j = c.next.new.self.place in
    let taken = taken_same (λ s. (g.S.Source.meaning s).items) _ _ i j c.in-Some.item far.source c.in-Some.ensures.steps.1.1 in
    let below : Below m.steps (Ok c.in-Ok.bound) = subst (Below m.steps) c.in-Ok.is (taken_below m.steps m.items i _ _ m.law taken) in
    record {
      from = omega (arith, below.0, c.requires, far.rest.rows);
      to = omega (arith, below.1, c.requires, far.rest.rows);
      rough = subst (λ (n : ℕ). Rough n (entry_at n c.loop-item.self.cells.now)) (sym far.rest.rows) far.rough;
    }

pub loop-item-preserved-in-Ok : goal.loop-item-preserved-in-Ok
loop-item-preserved-in-Ok g c =
    let far = c.loop-item.invariant in
    let n = c.args.self.now.n in
    let m = g.S.Source.meaning c.args.source.now in
    let i = c.loop-item.item-iterator.place in
    let j = c.next.new.self.place in
    let taken = taken_same (λ s. (g.S.Source.meaning s).items) _ _ i j c.in-Some.item far.source c.in-Some.ensures.steps.1.1 in
    let xs = c.loop-item.self.cells.now in
    let ys = c.apply.new.self.cells.now in
    let narrows : Narrowed n (entry_at n xs) (entry_at n ys) (λ t. KeepsBound t c.in-Ok.bound) = subst (λ (m : ℕ). Narrowed m (entry_at m xs) (entry_at m ys) (λ t. KeepsBound t c.in-Ok.bound)) far.rest.rows c.apply.ensures.narrowed in
    record {
      can_next = tt;
      is_finite = tt;
      source = c.in-Some.ensures.steps.0 ∙ far.source;
      rough = subst (λ (m : ℕ). Rough m (entry_at m ys)) far.rest.rows c.apply.ensures.rough;
      left = left_more n unbounded _ _ _ _ _ (Ok c.in-Ok.bound) (taken ∙ ap (λ x. x ∷ unread m.items j) c.in-Ok.is) narrows far.left;
      rest = refilled_onward _ _ _ far.rest c.apply.ensures.rest;
    }

pub loop-item-preserved : goal.loop-item-preserved
loop-item-preserved g c =
    let far = c.loop-item.invariant in
    let n = c.args.self.now.n in
    let m = g.S.Source.meaning c.args.source.now in
    let i = c.loop-item.item-iterator.place in
    let j = c.next.new.self.place in
    let taken = taken_same (λ s. (g.S.Source.meaning s).items) _ _ i j c.in-Some.item far.source c.in-Some.ensures.steps.1.1 in
    let xs = c.loop-item.self.cells.now in
    let none : Narrowed n (entry_at n xs) (entry_at n xs) (λ t. Keeps t c.in-Some.item) = simp c.in_default.is (λ t. (λ fits. (fits, tt), λ both. both.0)) in
    record {
      can_next = tt;
      is_finite = tt;
      source = c.in-Some.ensures.steps.0 ∙ far.source;
      rough = far.rough;
      left = left_more n unbounded _ _ _ _ _ _ taken none far.left;
      rest = far.rest;
    }

pub returns-clause-narrowed : goal.returns-clause-narrowed
returns-clause-narrowed g c =
    let far = c.loop-item.invariant in
    let i = c.loop-item.item-iterator.place in
    left_none _ _ _ _ _ (ap (λ s. unread (g.S.Source.meaning s).items i) (sym far.source) ∙ c.in-None.ensures.steps.1.0) far.left
