use Rattle.std.proofs.Common.{◌≡◌, ◌≢◌, ℕ, ◌<◌, true, refl, arith, rules}
use borrow.Author.Tests.{tests}
use Rattle.std.proofs.lemmas.Iterator.{cases_from_any, YieldsList-from_range}
use Rattle.network.specs.Distances.{gaps, steps}
use Rattle.network.specs.Groups.{is_leader}
use Rattle.network.specs.Links.{Dominates, Dominated}
use Rattle.network.proofs.Testing.{any_below, when_map}
use Rattle.network.proofs.leaders.Leaders.dominated.Goals as goal

pub returns : goal.returns
returns c =
    let n = steps c.args.self.now in
    let d = gaps c.args.self.now in
    let gs = c.args.self.now.groups.now in
    let Yes : ℕ → Type 0 = λ b. (b ≢ c.args.a) × (b ≢ c.args.c) × (is_leader gs b ≡ true) × Dominates d c.args.a b c.args.c in
    let cases = cases_from_any _ _ _ Yes (λ b. Yes b → ⊥) c.any.ensures.ran (YieldsList-from_range 0 n n refl (omega arith)) (λ x q k. search (rules, tests)) (λ x q k. search (rules, tests)) in
    let some : ((b : ℕ) × (b < n) × Yes b) → Dominated n d gs c.args.a c.args.c = λ (b, l, t). (b, l, t.0, t.1, t.2, t.3) in
    let none : ((b : ℕ) → b < n → Yes b → ⊥) → Dominated n d gs c.args.a c.args.c → ⊥ = λ all (b, l, na, nc, lead, dom). all b l (na, nc, lead, dom) in
    when_map c.any.result some none (any_below n _ Yes (λ b. Yes b → ⊥) cases)
