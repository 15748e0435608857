-- The timetables of a source, and the distance from one step to another.
use Rattle.std.specs.Prelude.{◌≡◌, ℕ, ◌<◌, ℤ, pos, ◌-ℤ◌, ◌≤ℤ◌, Ok, Err, IfSome}
use Rattle.std.specs.List.{AllByRecursion}
use Rattle.bounds.specs.declared.bound.Bound.{Bound}
use Rattle.bounds.specs.Items.{Item}
use Rattle.bounds.specs.Limits.{horizon}
use Rattle.bounds.specs.Meaning.{Meaning}

-- the times t keep a bound: the gap between its steps is not below the lower end and not above the upper end, where each is present
pub record KeepsBound (t : ℕ → ℤ) (b : Bound) : Type 0 where
  pub lower : IfSome b.lower (λ l. l ≤ℤ (t b.to -ℤ t b.from))
  pub upper : IfSome b.upper (λ u. (t b.to -ℤ t b.from) ≤ℤ u)

-- a spoiled item is no bound
abbrev pub Keeps : (ℕ → ℤ) → Item → Type 0
Keeps t (Ok b) = KeepsBound t b
Keeps t (Err f) = Unit {0}

-- the first n times lie from 0 to 1,000,000
abbrev pub InTime : ℕ → (ℕ → ℤ) → Type 0
InTime n t = (i : ℕ) → i < n → (pos 0 ≤ℤ t i) × (t i ≤ℤ pos horizon)

-- a time for every step, 0 for step 0, such that every bound is kept
pub record Timetable (m : Meaning) (t : ℕ → ℤ) : Type 0 where
  pub starts : t 0 ≡ pos 0
  pub in_time : InTime m.steps t
  pub keeps : AllByRecursion (Keeps t) m.items

-- a timetable exists
abbrev pub Feasible : Meaning → Type 0
Feasible m = (t : ℕ → ℤ) × Timetable m t

-- v is the distance from step i to step j: the greatest value of j's time less i's over all timetables
pub record Distance (m : Meaning) (i j : ℕ) (v : ℤ) : Type 0 where
  pub reached : (t : ℕ → ℤ) × Timetable m t × ((t j -ℤ t i) ≡ v)
  pub greatest : (t : ℕ → ℤ) → Timetable m t → (t j -ℤ t i) ≤ℤ v

-- d has the distance from each step to each
abbrev pub Distances : Meaning → (ℕ → ℕ → ℤ) → Type 0
Distances m d = (i j : ℕ) → i < m.steps → j < m.steps → Distance m i j (d i j)

-- there is no second distance from one step to another
abbrev pub OneDistance : Meaning → Type 0
OneDistance m = (i j : ℕ) (v w : ℤ) → Distance m i j v → Distance m i j w → v ≡ w
