use Rattle.std.proofs.Common.{◌≡◌, ℕ, ◌+◌, ◌-◌, sym, subst, arith}
use Rattle.std.proofs.lemmas.Int.{ints}
use Rattle.network.specs.Distances.{distance}
use Rattle.network.proofs.Grouping.{LeaderSoFar, leader_new, leader_kept, leader_found}
use Rattle.network.proofs.distances.Distances.leader_of.Goals as goal
use Rattle.network.proofs.distances.Distances.leader_of.Goals.{After-rigid}

-- what is known as a turn begins, with the member that it looks at
far : (c : After-rigid) → LeaderSoFar c.args.self.now.n (distance c.args.self.now) c.args.step c.loop-member.leader (c.loop-member.member - 1 + 1)
far c =
    let P : ℕ → Type 0 = LeaderSoFar c.args.self.now.n (distance c.args.self.now) c.args.step c.loop-member.leader in
    let e : c.loop-member.member - 1 + 1 ≡ c.loop-member.member = omega arith in
    subst P (sym e) c.loop-member.invariant

pub loop-member-preserved : goal.loop-member-preserved
loop-member-preserved c =
    leader_kept _ _ c.args.self.now.closed _ c.requires _ _ (far (goal.at.loop-member-preserved c).After-rigid) (λ rigid. absurd (c.if-rigid.ensures rigid))

pub loop-member-preserved-then-gap-at : goal.loop-member-preserved-then-gap-at
loop-member-preserved-then-gap-at c =
    leader_new _ _ c.args.self.now.closed _ c.requires _ _ (omega arith) (far (goal.at.loop-member-preserved-then-gap-at c).After-rigid) c.if-rigid.ensures
    (omega (arith, ints, c.if-gap-at.true, c.at-gap.ensures, c.at.ensures))

pub loop-member-preserved-else-gap-at : goal.loop-member-preserved-else-gap-at
loop-member-preserved-else-gap-at c =
    leader_kept _ _ c.args.self.now.closed _ c.requires _ _ (far (goal.at.loop-member-preserved-else-gap-at c).After-rigid)
    (λ _. omega (arith, ints, c.if-gap-at.false, c.at-gap.ensures, c.at.ensures))

pub returns : goal.returns
returns c = leader_found _ _ c.args.self.now.closed _ c.requires _ _ (omega arith) c.loop-member.invariant
