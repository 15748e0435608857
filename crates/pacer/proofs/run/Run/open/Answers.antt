use Rattle.std.proofs.Common.{◌≡◌, ℕ, List, take, refl, arith, slice_range}
use Rattle.std.proofs.lemmas.Grind.{common_steps}
use Rattle.pacer.proofs.Beginning.{begins_indexed}
use Rattle.pacer.proofs.run.Run.open.Goals as goal

-- the front of a list
front : {X : Type 0} (xs part : List X) (n : ℕ) → part ≡ slice_range xs 0 n → part ≡ take n xs
front xs part n e = grind (arith, common_steps)

pub invariant_of-result : goal.invariant_of-result
invariant_of-result c = record { ready = begins_indexed _ _ (omega (arith, c.if-steps-gt-MOST_STEPS.false)) (c.if-not-fit.ensures.0 refl).entries (c.if-not-fit.ensures.0 refl).links c.spans_of-tables.ensures c.first_state-state.ensures }
