use Rattle.std.proofs.Common.{◌≡◌, ◌+ℤ◌, arith}
use Rattle.std.proofs.lemmas.Int.{ints}
use Rattle.network.specs.Distances.{distance}
use Rattle.network.specs.Links.{Dominates}
use Rattle.network.proofs.Testing.{when_by}
use Rattle.network.proofs.distances.Distances.dominates.Goals as goal
use Rattle.network.proofs.distances.Distances.dominates.Goals.{Else-first-second}

-- past the first test the gaps add up
sum : (c : Else-first-second) → let d = distance c.args.self.now in (d c.args.a c.args.b +ℤ d c.args.b c.args.c) ≡ d c.args.a c.args.c
sum c =
    let near = c.args.self.now.closed.settled in
    omega (
      arith,
      ints,
      c.at-whole.ensures,
      c.at-first.ensures,
      c.at-second.ensures,
      c.if-first-second.false,
      near.low _ _ c.requires.from c.requires.via,
      near.high _ _ c.requires.from c.requires.via,
      near.low _ _ c.requires.via c.requires.to,
      near.high _ _ c.requires.via c.requires.to,
    )

pub returns-then-whole-ge0 : goal.returns-then-whole-ge0
returns-then-whole-ge0 c =
    let D = Dominates (distance c.args.self.now) c.args.a c.args.b c.args.c in
    when_by _ D (D → ⊥)
    (λ t. record {
      sum = sum (goal.at.returns-then-whole-ge0 c).Else-first-second;
      far = λ _. grind (arith, ints, t, c.at-second.ensures);
      near = λ l. absurd (omega (arith, ints, l, c.if-whole-ge0.true, c.at-whole.ensures));
    })
    (λ f dom. let k = dom.far (omega (arith, ints, c.if-whole-ge0.true, c.at-whole.ensures)) in grind (arith, ints, f, k, c.at-second.ensures))

pub returns-else-whole-ge0 : goal.returns-else-whole-ge0
returns-else-whole-ge0 c =
    let D = Dominates (distance c.args.self.now) c.args.a c.args.b c.args.c in
    when_by _ D (D → ⊥)
    (λ t. record {
      sum = sum (goal.at.returns-else-whole-ge0 c).Else-first-second;
      far = λ l. absurd (omega (arith, ints, l, c.if-whole-ge0.false, c.at-whole.ensures));
      near = λ _. grind (arith, ints, t, c.at-first.ensures);
    })
    (λ f dom. let k = dom.near (omega (arith, ints, c.if-whole-ge0.false, c.at-whole.ensures)) in grind (arith, ints, f, k, c.at-first.ensures))
