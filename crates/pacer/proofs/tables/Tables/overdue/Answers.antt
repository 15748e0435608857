use Rattle.std.proofs.Common.{◌≡◌, ℕ, ◌<◌, None, arith, rules, tests}
use Rattle.std.proofs.lemmas.Iterator.{cases_from_any, YieldsList-from_range}
use Rattle.pacer.specs.Rules.{Overdue, upper_end}
use Rattle.pacer.specs.States.{cue_at}
use Rattle.pacer.proofs.Chains.{any_below}
use Rattle.pacer.proofs.tables.Tables.overdue.Goals as goal

pub returns : goal.returns
returns c =
    let t = c.args.self.now in
    let s = c.args.state.now in
    let Late : ℕ → Type 0 = λ step. (cue_at s step ≡ None) × (upper_end t s step < c.args.time) in
    any_below Late (Overdue t s c.args.time) t.steps _ (λ step l late. (step, record { inside = l; waiting = late.0 }, late.1)) (λ some. (some.0, some.1.inside, (some.1.waiting, some.2)))
    (cases_from_any _ _ _ Late (λ step. Late step → ⊥) c.any.ensures.ran (YieldsList-from_range 0 t.steps t.steps (search rules) (omega arith)) (λ x q k. search (rules, tests)) (λ x q k. search (rules, tests)))
