use Rattle.std.proofs.Common.{◌≡◌, ℕ, ◌+◌, length, take, drop, is_some, Option, sym, ap, ◌∙◌, subst, arith, rules}
use Rattle.network.specs.Order.{due_before}
use Rattle.queue.specs.Growing.{Gained}
use Rattle.queue.proofs.Growing.{gained_more, gained_same, gained_as}
use Rattle.pacer.specs.Due.{Due, DueTable, uncued_count}
use Rattle.pacer.proofs.Listing.{count_uncued, count_cued, count_front, due_more, due_apart, due_skipped, table_held}
use Rattle.pacer.specs.States.{cue_at}
use Rattle.pacer.specs.declared.state.State.{State}
use Rattle.pacer.proofs.run.Run.list.Goals as goal
use Rattle.pacer.proofs.run.Run.list.Goals.{then-is_none+in_ok-push_due, else-is_none}

-- whether the step of this turn is cued
cued_at : (s : State) (k j : ℕ) {o : Option ℕ} → j ≡ k → o ≡ cue_at s j → is_some (cue_at s k) ≡ is_some o
cued_at s k j e at = ap (λ i. is_some (cue_at s i)) (sym e) ∙ ap is_some (sym at)

pub push_due-requires : goal.push_due-requires
push_due-requires c =
    let more = count_uncued c.args.self.now.state c.loop-step.step (cued_at c.args.self.now.state c.loop-step.step _ (omega arith) c.cue.ensures ∙ c.if-is_none.ensures) in
    let front = count_front c.args.self.now.state (c.loop-step.step + 1) c.args.self.now.tables.steps (omega arith) in
    omega (arith, more, front, c.loop-step.invariant.1, c.loop-step.invariant.0.size, ap length c.new-queue.ensures.kept, c.if-buffer-uncued_count.false, c.uncued_count.ensures)

pub loop-step-preserved : goal.loop-step-preserved
loop-step-preserved c =
    let s = c.args.self.now.state in
    let t = c.args.self.now.tables in
    let k = c.loop-step.step in
    elim c.if-is_none.branch [
      | then-is_none+in_ok-push_due w ↦ (
          let test = cued_at s k _ (omega arith) c.cue.ensures ∙ w.if-is_none.ensures in
          let more = count_uncued s k test in
          let pushed = w.in_ok-push_due.ensures in (
            gained_same due_before _ _ _ _ _ w.queue-is (gained_more due_before _ _ _ _ _ _ _ _ _ (omega (arith, more)) (due_more t s k test) (due_apart t s k) c.loop-step.invariant.0 pushed.gained),
            omega (arith, ap (λ q. q.len) w.queue-is, pushed.count, c.loop-step.invariant.1, more),
          ))
      | else-is_none w ↦ (
          let test = cued_at s k _ (omega arith) c.cue.ensures ∙ w.if-is_none.ensures in
          let less = count_cued s k test in (
            gained_same due_before _ _ _ _ _ w.queue-is (subst (λ (j : ℕ). Gained due_before j (Due (k + 1) t s) c.new-queue.result c.loop-step.queue) (sym less) (gained_as due_before _ _ _ _ _ (due_skipped t s k test) c.loop-step.invariant.0)),
            omega (arith, ap (λ q. q.len) w.queue-is, c.loop-step.invariant.1, less),
          ))
    ]

pub returns : goal.returns
returns c =
    let s = c.args.self.now.state in
    let t = c.args.self.now.tables in
    let queue = c.loop-step.queue in
    let all : c.loop-step.step ≡ c.args.self.now.tables.steps = omega arith in
    let number : c.len.result ≡ uncued_count s c.args.self.now.tables.steps = c.len.ensures ∙ c.loop-step.invariant.1 ∙ ap (uncued_count s) all in
    let listed : DueTable t s (take c.len.result queue.slots.now) =
    subst (λ (k : ℕ). DueTable t s (take k queue.slots.now)) (sym c.len.ensures)
    (table_held t s _ _ c.new-queue.result queue all c.new-queue.ensures.empty c.loop-step.invariant.0) in
    let behind : drop c.len.result queue.slots.now ≡ drop c.len.result c.args.buffer.now =
    ap (λ k. drop k queue.slots.now) c.len.ensures
    ∙ c.loop-step.invariant.0.rest
    ∙ ap (drop queue.len) c.new-queue.ensures.kept
    ∙ ap (λ k. drop k c.args.buffer.now) (sym c.len.ensures) in
    record {
      number = number;
      room = omega (arith, number, c.if-buffer-uncued_count.false, c.uncued_count.ensures);
      entries = search rules;
      behind = search rules;
    }
