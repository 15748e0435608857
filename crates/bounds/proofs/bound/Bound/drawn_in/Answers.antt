use Rattle.std.proofs.Common.{rules, pos, ◌+ℤ◌, ◌-ℤ◌, sym}
use Rattle.std.proofs.lemmas.Bool.{and_parts}
use Rattle.bounds.specs.Reach.{end_in_reach}
use Rattle.bounds.proofs.Making.{map_gives, end_near, drawn_in_reach, drawn_out_of_reach}
use Rattle.bounds.proofs.bound.Bound.drawn_in.Goals as goal

pub returns-then-not-in_reach : goal.returns-then-not-in_reach
returns-then-not-in_reach c =
    let b = c.args.self.now in
    let m = c.args.seconds in
    let near = and_parts (end_in_reach b.lower) (end_in_reach b.upper) b.near in
    drawn_out_of_reach m b _ _
    (map_gives (λ z. z +ℤ pos m) _ b.lower _ (λ x y e p. let n = end_near b.lower x e near.0 in search rules) c.map-lower.ensures.cases)
    (map_gives (λ z. z -ℤ pos m) _ b.upper _ (λ x y e p. let n = end_near b.upper x e near.1 in search rules) c.map-upper.ensures.cases)
    (sym c.if-not-in_reach.ensures)

pub returns : goal.returns
returns c = drawn_in_reach c.args.seconds c.args.self.now _ _ (search rules) (search rules) _ _
