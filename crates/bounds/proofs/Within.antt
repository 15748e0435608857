-- What a source within the limits has.
use Rattle.std.proofs.Common.{◌≡◌, ℕ, zero, suc, ◌<◌, ◌≤◌, false, eqb, ltb, length, arith}
use Rattle.std.proofs.lemmas.Bool.{or_parts, ltb-false}
use Rattle.bounds.specs.Limits.{most_steps, most_items}
use Rattle.bounds.specs.Meaning.{Meaning}
use Rattle.bounds.specs.Told.{beyond_limits}

-- a step, and no more steps or items than the limits allow
pub record Within (m : Meaning) : Type 0 where
  pub some : 0 < m.steps
  pub most : m.steps ≤ most_steps
  pub few : length m.items ≤ most_items

pub within : (m : Meaning) → beyond_limits m ≡ false → Within m
within m h =
    let steps = or_parts (eqb m.steps 0) _ h in
    let items = or_parts (ltb most_steps m.steps) _ steps.1 in
    record {
      some = positive m.steps steps.0;
      most = ltb-false most_steps m.steps items.0;
      few = ltb-false most_items (length m.items) items.1;
    }
  where
    positive : (n : ℕ) → eqb n 0 ≡ false → 0 < n
    positive zero e = let z : ◌≡◌ {A = ℕ} 0 1 = cc in absurd (omega arith)
    positive (suc n) e = omega arith
