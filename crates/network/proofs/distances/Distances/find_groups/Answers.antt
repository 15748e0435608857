use Rattle.std.proofs.Common.{◌≡◌, ℕ, ◌+◌, length, take, drop, cond, eqb, refl, subst, arith}
use Rattle.std.proofs.lemmas.List.{length-take-le}
use Rattle.std.proofs.lemmas.Slice.{drop-append-drop}
use Rattle.std.proofs.lemmas.Int.{ints}
use Rattle.std.proofs.lemmas.Bool.{eq-eqb, ne_eqb, cond-true, cond-false}
use Rattle.network.specs.Distances.{distance}
use Rattle.network.proofs.Grouping.{GroupsSoFar, groups_more, groups_front, groups_all, offset_above}
use Rattle.network.proofs.distances.Distances.find_groups.Goals as goal
use Rattle.network.proofs.distances.Distances.find_groups.Goals.{Start, then-leader-step, else-leader-step}

-- as many entries are filled as there are steps
long : (c : Start) → length (take c.args.self.now.n c.args.groups.now) ≡ c.args.self.now.n
long c = length-take-le c.args.self.now.n c.args.groups.now c.requires

pub loop-step-preserved : goal.loop-step-preserved
loop-step-preserved c =
    let size = long (goal.at.loop-step-preserved c).Start in
    let leader = c.leader_of-leader.result in
    let step = c.loop-step.step in
    let leads = c.leader_of-leader.ensures in
    let before = offset_above _ _ step leader c.args.self.now.closed (omega (arith, size)) leads in
    let count : c.if-leader-step.count ≡ c.loop-step.count + cond (eqb leader step) 1 0 =
    elim c.if-leader-step.branch [
      | then-leader-step w ↦ omega (arith, w.count-is, cond-true {A = ℕ} (eqb leader step) 1 0 (eq-eqb leader step w.if-leader-step.true))
      | else-leader-step w ↦ omega (arith, w.count-is, cond-false {A = ℕ} (eqb leader step) 1 0 (ne_eqb leader step w.if-leader-step.false))
    ] in
    record {
      few = elim c.if-leader-step.branch [ then-leader-step w ↦ omega (arith, w.count-is) | else-leader-step w ↦ omega (arith, w.count-is) ];
      groups = groups_more _ _ _ _ _ (omega arith) _ _ c.loop-step.invariant.groups leads (omega (arith, ints, before, c.at.ensures)) count;
    }

pub returns : goal.returns
returns c =
    let n = c.args.self.now.n in
    let size = long (goal.at.returns c).Start in
    let front = c.loop-step.front in
    let filled : length front ≡ n = omega (arith, size) in
    let last : c.loop-step.step ≡ n = omega (arith, size) in
    let all = subst (λ (k : ℕ). GroupsSoFar n (distance c.args.self.now) front c.loop-step.count k) last c.loop-step.invariant.groups in
    record {
      table = groups_all _ _ _ _ n c.args.self.now.closed refl (groups_front _ _ front (drop n c.args.groups.now) _ n (omega (arith, filled)) all);
      count = omega (arith, size);
      behind = drop-append-drop n c.args.groups.now front n (omega arith) filled;
    }
