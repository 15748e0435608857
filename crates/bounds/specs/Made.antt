-- The bound that loose values make, or why they make none.
use Rattle.std.specs.Prelude.{◌≡◌, ℕ, Bool, true, false, cond, ◌&&◌, ℤ, Ok, Err, Option, Result, refl}
use Rattle.bounds.specs.declared.bound.Bound.{Bound}
use Rattle.bounds.specs.declared.fault.Fault.{Fault}
use Rattle.bounds.specs.declared.fault.Fault.TheVariants.{OutOfReach, NoEnd}
use Rattle.bounds.specs.declared.row.Row.{Row}
use Rattle.bounds.specs.Loose.{tidy, end_given}
use Rattle.bounds.specs.Reach.{has_end, ends_in_reach}

-- f of the proof where the test holds, x where it does not
abbrev pub where_true : {X : Type 0} (b : Bool) → (b ≡ true → X) → X → X
where_true true f x = f refl
where_true false f x = x

-- the bound with these ends: refused without an end, then with an end out of reach
abbrev pub bound_with : ℕ → ℕ → Option ℤ → Option ℤ → Result Bound Fault
bound_with from to lower upper =
    where_true (has_end lower upper)
    (λ p. where_true (ends_in_reach lower upper) (λ q. Ok (record { from = from; to = to; lower = lower; upper = upper; ended = p; near = q })) (Err OutOfReach))
    (Err NoEnd)

-- the bound of a row: an absent end with a value counts as no end
abbrev pub made_bound : Row → Result Bound Fault
made_bound row = cond (tidy row.lower && tidy row.upper) (bound_with row.from row.to (end_given row.lower) (end_given row.upper)) (Err NoEnd)
