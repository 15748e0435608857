use Rattle.std.proofs.Common.{ℕ, ℤ, pos, neg_ℤ, ◌<◌, ◌≤ℤ◌, ◌<ℤ◌, Bool, MatchBool, length, refl, sym, subst, inl, inr, arith, rules}
use Rattle.std.specs.List.{HoldsAt, AllWithin}
use Rattle.std.proofs.lemmas.Bool.{MatchBool-at_true, MatchBool-at_false}
use Rattle.std.proofs.lemmas.Iterator.{cases_from_all, YieldsList-from_slice}
use Rattle.std.proofs.lemmas.Int.{ints}
use borrow.Author.Tests.{tests}
use Rattle.bounds.specs.Limits.{horizon}
use Rattle.network.specs.Filled.{entries}
use Rattle.network.specs.Lines.{Possible, Impossible}
use Rattle.network.proofs.Testing.{when_by}
use Rattle.network.proofs.Places.{row_of, row_length, row_read}
use Rattle.network.proofs.grid.Grid.is_possible.Goals as goal
use Rattle.network.proofs.grid.Grid.is_possible.Goals.{After-all}

-- in reach, and out of it
abbrev Far : ℤ → Type 0
Far z = z <ℤ neg_ℤ (pos horizon)

abbrev InReach : ℤ → Type 0
InReach z = neg_ℤ (pos horizon) ≤ℤ z

-- what the test of every number says
all_in : (c : After-all) → let row = row_of c.args.self.now.n c.args.k c.args.self.now.cells.now in MatchBool c.all.result (AllWithin InReach row 0 (length row)) ((b : ℕ) × (b < length row) × HoldsAt Far row b)
all_in c =
    cases_from_all _ _ _ InReach Far c.all.ensures.ran (YieldsList-from_slice (row_of c.args.self.now.n c.args.k c.args.self.now.cells.now) cc) (λ x q k. search (rules, tests)) (λ x q k. search (rules, tests))

pub returns-then-all : goal.returns-then-all
returns-then-all c =
    let n = c.args.self.now.n in
    let k = c.args.k in
    let xs = c.args.self.now.cells.now in
    let long = row_length n k c.requires xs c.args.self.now.room in
    let all = MatchBool-at_true _ _ c.if-all.true (all_in (goal.at.returns-then-all c).After-all) in
    let low : (b : ℕ) → b < n → InReach (entries c.args.self.now k b) = λ b q. subst InReach (row_read n k b xs q) (all b (pos 0) (omega arith) (omega (arith, long))) in
    when_by _ (Possible n (entries c.args.self.now k) k) (Impossible n (entries c.args.self.now k) k)
    (λ t. record { low = low; diagonal = grind (arith, ints, t, c.at.ensures) })
    (λ f. (k, c.requires, inr (refl, grind (arith, ints, f, c.at.ensures))))

pub returns-else-all : goal.returns-else-all
returns-else-all c =
    let n = c.args.self.now.n in
    let k = c.args.k in
    let xs = c.args.self.now.cells.now in
    let long = row_length n k c.requires xs c.args.self.now.room in
    let one = MatchBool-at_false _ _ c.if-all.false (all_in (goal.at.returns-else-all c).After-all) in
    let b_in : one.0 < n = omega (arith, one.1, long) in
    let far : Impossible n (entries c.args.self.now k) k = (one.0, b_in, inl (subst Far (row_read n k one.0 xs b_in) (one.2 (pos 0)))) in
    subst (λ (r : Bool). MatchBool r (Possible n (entries c.args.self.now k) k) (Impossible n (entries c.args.self.now k) k)) (sym c.if-all.false) far
