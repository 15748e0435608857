use Rattle.std.proofs.Common.{ℕ, ◌<◌, refl, arith, rules}
use Rattle.std.proofs.lemmas.Int.{ints}
use borrow.Author.Tests.{tests}
use Rattle.std.proofs.lemmas.Iterator.{cases_from_all, YieldsList-from_range}
use Rattle.network.specs.Filled.{entries}
use Rattle.network.specs.Grid.{Settled}
use Rattle.network.specs.Lines.{Possible, Impossible, Refuted}
use Rattle.network.proofs.Testing.{all_below, when_map}
use Rattle.network.proofs.grid.Grid.is_settled.Goals as goal

pub returns : goal.returns
returns c =
    let n = c.args.self.now.n in
    let d = entries c.args.self.now in
    let Yes : ℕ → Type 0 = λ k. Possible n (d k) k in
    let No : ℕ → Type 0 = λ k. Impossible n (d k) k in
    let cases = cases_from_all _ _ _ Yes No c.all.ensures.ran (YieldsList-from_range 0 n n refl (omega arith)) (λ x q k. search (rules, tests)) (λ x q k. search (rules, tests)) in
    let settled : ((k : ℕ) → k < n → Yes k) → Settled n d = λ all. record {
      low = λ i j p q. (all i p).low j q;
      high = c.requires.high;
      diagonal = λ i p. omega (arith, ints, (all i p).diagonal, c.requires.diagonal i p);
    } in
    let refuted : ((k : ℕ) × (k < n) × No k) → Refuted n d = λ one. one in
    when_map c.all.result settled refuted (all_below n _ Yes No cases)
