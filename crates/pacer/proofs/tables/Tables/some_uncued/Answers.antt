use Rattle.std.proofs.Common.{◌≡◌, None, arith, rules, tests}
use Rattle.std.proofs.lemmas.Iterator.{cases_from_any, YieldsList-from_range}
use Rattle.pacer.specs.Rules.{SomeUncued}
use Rattle.pacer.specs.States.{cue_at}
use Rattle.pacer.proofs.Chains.{any_below}
use Rattle.pacer.proofs.tables.Tables.some_uncued.Goals as goal

pub returns : goal.returns
returns c =
    let n = c.args.self.now.steps in
    let s = c.args.state.now in
    any_below (λ step. cue_at s step ≡ None) (SomeUncued n s) n _ (λ step l e. (step, record { inside = l; waiting = e })) (λ some. (some.0, some.1.inside, some.1.waiting))
    (cases_from_any _ _ _ (λ step. cue_at s step ≡ None) (λ step. cue_at s step ≡ None → ⊥) c.any.ensures.ran (YieldsList-from_range 0 n n (search rules) (omega arith)) (λ x q k. search (rules, tests)) (λ x q k. search (rules, tests)))
