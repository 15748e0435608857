use Rattle.std.proofs.Common.{◌≡◌, ℕ, ◌+◌, length, take, drop, sym, ap, ◌∙◌, subst, arith, rules}
use Rattle.network.specs.Counting.{links_from}
use Rattle.network.specs.Distances.{gaps, steps}
use Rattle.network.specs.Links.{LinkTable}
use Rattle.network.proofs.Counting.{links_all, sum_front, sum_more}
use Rattle.network.specs.Order.{link_before}
use Rattle.queue.proofs.Growing.{gained_none, gained_more, gained_same}
use Rattle.network.proofs.Keeping.{before_more, before_apart, before_skipped, table_held}
use Rattle.network.proofs.leaders.Leaders.find_links.Goals as goal
use Rattle.network.proofs.leaders.Leaders.find_links.Goals.{then-leads+in_ok-push_from, else-leads}

pub push_from-requires-clause-slots : goal.push_from-requires-clause-slots
push_from-requires-clause-slots c =
    let d = gaps c.args.self.now in
    let f = links_from (steps c.args.self.now) d in
    omega (
      arith,
      c.loop-trigger.invariant.most,
      c.loop-trigger.invariant.size,
      c.new-queue.ensures.empty,
      ap length c.new-queue.ensures.kept,
      c.requires,
      links_all d (steps c.args.self.now),
      sum_more f c.loop-trigger.trigger,
      sum_front f (c.loop-trigger.trigger + 1) (steps c.args.self.now) (omega arith),
    )

pub loop-trigger-preserved : goal.loop-trigger-preserved
loop-trigger-preserved c =
    let n = steps c.args.self.now in
    let d = gaps c.args.self.now in
    let gs = c.args.self.now.groups.now in
    let k = c.loop-trigger.trigger in
    let more = sum_more (links_from n d) k in
    elim c.if-leads.branch [
      | then-leads+in_ok-push_from w ↦
          gained_same link_before _ _ _ _ _ w.queue-is (gained_more link_before _ _ _ _ _ _ _ _ _ (omega (arith, more)) (before_more n d gs k) (before_apart n d gs k) c.loop-trigger.invariant w.in_ok-push_from.ensures)
      | else-leads w ↦
          gained_same link_before _ _ _ _ _ w.queue-is
          (gained_more link_before _ 0 _ _ _ _ _ _ _ (omega (arith, more)) (before_more n d gs k) (before_apart n d gs k) c.loop-trigger.invariant (gained_none link_before 0 _ _ (before_skipped n d gs k (sym w.if-leads.ensures))))
    ]

pub returns : goal.returns
returns c =
    let n = steps c.args.self.now in
    let d = gaps c.args.self.now in
    let gs = c.args.self.now.groups.now in
    let f = links_from n d in
    let queue = c.loop-trigger.queue in
    let held_links : LinkTable n d gs (take c.len.result queue.slots.now) =
    subst (λ (k : ℕ). LinkTable n d gs (take k queue.slots.now)) (sym c.len.ensures)
    (table_held n d gs _ _ _ queue (omega arith) c.new-queue.ensures.empty c.loop-trigger.invariant) in
    let behind : drop c.len.result queue.slots.now ≡ drop c.len.result c.args.links.now =
    ap (λ k. drop k queue.slots.now) c.len.ensures
    ∙ c.loop-trigger.invariant.rest
    ∙ ap (drop queue.len) c.new-queue.ensures.kept
    ∙ ap (λ k. drop k c.args.links.now) (sym c.len.ensures) in
    record {
      links = search rules;
      count = omega (arith, c.loop-trigger.invariant.most, c.new-queue.ensures.empty, c.len.ensures, links_all d n, sum_front f c.loop-trigger.trigger n (omega arith));
      behind = search rules;
    }
