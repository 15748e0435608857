use Rattle.std.proofs.Common.{◌≡◌, ◌+◌, false, ◌⊎◌, sym, inl, inr, arith}
use Rattle.network.specs.Counting.{links_between}
use Rattle.network.specs.Distances.{gaps, steps}
use Rattle.network.specs.Groups.{is_leader}
use Rattle.network.proofs.Counting.{sum_front, sum_more}
use Rattle.network.specs.Order.{link_before}
use Rattle.queue.proofs.Growing.{gained_none, gained_more, gained_same}
use Rattle.network.proofs.Keeping.{from_more, from_apart, from_skipped}
use Rattle.network.proofs.leaders.Leaders.push_from.Goals as goal
use Rattle.network.proofs.leaders.Leaders.push_from.Goals.{then-target-trigger+then-leads+in_ok-push_between, else-target-trigger, else-target-trigger-via-then-target-trigger+else-leads, else-target-trigger-via-else-target-trigger}

pub push_between-requires-clause-slots : goal.push_between-requires-clause-slots
push_between-requires-clause-slots c =
    let f = links_between (gaps c.args.self.now) c.args.trigger in
    omega (arith, c.loop-target.invariant.most, c.loop-target.invariant.size, c.requires.slots, sum_more f c.loop-target.target, sum_front f (c.loop-target.target + 1) (steps c.args.self.now) (omega arith))

pub loop-target-preserved : goal.loop-target-preserved
loop-target-preserved c =
    let n = steps c.args.self.now in
    let d = gaps c.args.self.now in
    let gs = c.args.self.now.groups.now in
    let p = c.args.trigger in
    let k = c.loop-target.target in
    let more = sum_more (links_between d p) k in
    elim c.if-target-trigger.branch [
      | then-target-trigger+then-leads+in_ok-push_between w ↦
          gained_same link_before _ _ _ _ _ w.queue-is
          (gained_more link_before _ _ _ _ _ _ _ _ _ (omega (arith, more)) (from_more n d gs p k) (from_apart n d gs p k) c.loop-target.invariant w.in_ok-push_between.ensures)
      | else-target-trigger w ↦ (
          let skipped : (k ≡ p) ⊎ (is_leader gs k ≡ false) = elim w.else-target-trigger.branch [
            | else-target-trigger-via-then-target-trigger+else-leads v ↦ inr (sym v.if-leads.ensures)
            | else-target-trigger-via-else-target-trigger v ↦ inl v.if-target-trigger.false
          ] in
          gained_same link_before _ _ _ _ _ w.queue-is
          (gained_more link_before _ 0 _ _ _ _ _ _ _ (omega (arith, more)) (from_more n d gs p k) (from_apart n d gs p k) c.loop-target.invariant (gained_none link_before 0 _ _ (from_skipped n d gs p k skipped))))
    ]
