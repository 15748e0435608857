use Rattle.std.proofs.Common.{ℕ, ◌+◌, List, get_or, ◌≡◌, sym, ◌∙◌, subst, arith, rules}
use Rattle.pacer.specs.Index.{WaitsSoFar}
use Rattle.pacer.proofs.Beginning.{waits_first, waits_few, waits_most, waits_least}
use Rattle.pacer.proofs.opening.waits_of.Goals as goal
use Rattle.pacer.proofs.opening.waits_of.Goals.{in-Most, in-Least}

pub loop-link-init : goal.loop-link-init
loop-link-init c = waits_first c.args.links.now

pub loop-link-preserved : goal.loop-link-preserved
loop-link-preserved c =
    let links = c.args.links.now in
    let place = c.loop-link.link-index in
    let P : List ℕ → Type 0 = λ waits. WaitsSoFar links waits (place + 1) in
    elim c.match-link.branch [
      | in-Most w ↦ subst P (sym w.waits-is) (waits_most links _ place c.loop-link-test.true c.loop-link.invariant w.in-Most.is)
      | in-Least w ↦ (
          let few = waits_few links c.loop-link.waits place c.loop-link-test.true c.loop-link.invariant in
          subst P (sym (w.waits-is ∙ w.put.ensures))
          (waits_least links _ place c.loop-link-test.true c.loop-link.invariant w.from-target.result w.saturating_add-more.result w.in-Least.is (search rules)
          (λ l. (let read : w.unwrap_or.result ≡ get_or c.loop-link.waits w.from-target.result 0 = search rules in omega (arith, few _ l)))))
    ]
