-- Which times fit a table: what the first table, a bound, a stage of the closure and a closed table say of them.
use Rattle.std.proofs.Common.{◌≡◌, ℕ, ◌+◌, ◌<◌, ◌≤◌, ◌⊎◌, ◌↔◌, List, [], ◌∷◌, ℤ, pos, ◌+ℤ◌, ◌-ℤ◌, neg_ℤ, ◌≤ℤ◌, IfSome, Some, None, Option, ap, inl, inr, arith}
use Rattle.std.specs.Int.{int_min}
use Rattle.std.specs.Option.{option_map}
use Rattle.std.specs.List.{AllByRecursion}
use Rattle.std.proofs.lemmas.Int.{ints, clamps}
use Rattle.std.proofs.lemmas.Bool.{cases_eq, cases_lt}
use Rattle.bounds.specs.declared.bound.Bound.{Bound as BoundT}
use Rattle.bounds.specs.Items.{Item}
use Rattle.bounds.specs.Meaning.{Meaning}
use Rattle.bounds.specs.Timetables.{Keeps, KeepsBound, InTime, Timetable, Feasible, Distances, OneDistance}
use Rattle.network.specs.Gaps.{Fits, Capped, Narrowed, ClosedBelow, Closes, Hopeless}
use Rattle.network.specs.Grid.{Lowered, Relaxed, Rough, Settled, unbounded}
use Rattle.network.specs.Lines.{Refuted}
use Rattle.network.proofs.Starting.{unbounded_cases, unbounded_start, unbounded_range}

-- one entry lowered

pub lowered_either : (n : ℕ) (d e : ℕ → ℕ → ℤ) (i j : ℕ) (v : ℤ) → Lowered n d e i j v → (a b : ℕ) → a < n → b < n → (e a b ≡ d a b) ⊎ ((a ≡ i) × (b ≡ j) × (e a b ≡ int_min (d a b) v))
lowered_either n d e i j v low a b p q = elim (cases_eq a i) [
  | inl h ↦ elim (cases_eq b j) [ inl k ↦ inr (h, k, rw (h, k) low.here) | inr k ↦ inl (low.rest a b p q (λ z. k z.1)) ]
  | inr h ↦ inl (low.rest a b p q (λ z. h z.0))
]

pub lowered_narrows : (n : ℕ) (d e : ℕ → ℕ → ℤ) (i j : ℕ) (v : ℤ) → i < n → j < n → Lowered n d e i j v → Narrowed n d e (Capped (Some v) i j)
lowered_narrows n d e i j v i-in j-in low t = (
  λ fits. (
    λ a b p q. elim (lowered_either n d e i j v low a b p q) [
      | inl h ↦ omega (arith, ints, h, fits a b p q)
      | inr h ↦ omega (arith, ints, clamps, h.2, fits a b p q)
    ],
    omega (arith, ints, clamps, low.here, fits i j i-in j-in),
  ),
  λ both a b p q. elim (lowered_either n d e i j v low a b p q) [
    | inl h ↦ omega (arith, ints, h, both.0 a b p q)
    | inr h ↦ omega (arith, ints, clamps, h.2, both.0 a b p q, both.1, ap t h.0, ap t h.1)
  ],
)

-- an absent end lowers nothing
pub none_narrows : (n : ℕ) (d : ℕ → ℕ → ℤ) (i j : ℕ) → Narrowed n d d (Capped None i j)
none_narrows n d i j t = (λ fits. (fits, tt), λ both. both.0)

-- the two ends of a bound

back_to_lower : (t : ℕ → ℤ) (o : Option ℤ) (a b : ℕ) → Capped (option_map neg_ℤ o) b a t ↔ IfSome o (λ l. l ≤ℤ (t b -ℤ t a))
back_to_lower t None a b = (λ h. tt, λ h. tt)
back_to_lower t (Some x) a b = (λ h. omega (arith, ints, h), λ h. omega (arith, ints, h))

pub bound_narrows : (n : ℕ) (c d e : ℕ → ℕ → ℤ) (b : BoundT) → Narrowed n c d (Capped b.upper b.from b.to) → Narrowed n d e (Capped (option_map neg_ℤ b.lower) b.to b.from) → Narrowed n c e (λ t. KeepsBound t b)
bound_narrows n c d e b upper lower t = (
  λ fits. let l = (lower t).0 fits in let u = (upper t).0 l.0 in (u.0, record { lower = (back_to_lower t b.lower b.from b.to).0 l.1; upper = u.1 }),
  λ both. (lower t).1 ((upper t).1 (both.0, both.1.upper), (back_to_lower t b.lower b.from b.to).1 both.1.lower),
)

-- one item after another: what is left to read of a list, with the table so far, demands what the whole list demands

abbrev pub Left : ℕ → (ℕ → ℕ → ℤ) → List Item → (ℕ → ℕ → ℤ) → List Item → Type 0
Left n start all d rest = (t : ℕ → ℤ) → (Fits n d t × AllByRecursion (Keeps t) rest) ↔ (Fits n start t × AllByRecursion (Keeps t) all)

pub left_more : (n : ℕ) (start d e : ℕ → ℕ → ℤ) (all rest more : List Item) (x : Item) → rest ≡ x ∷ more → Narrowed n d e (λ t. Keeps t x) → Left n start all d rest → Left n start all e more
left_more n start d e all rest more x is narrows left t =
    let whole : AllByRecursion (Keeps t) rest ↔ (Keeps t x × AllByRecursion (Keeps t) more) = rw is (λ h. h, λ h. h) in (
      λ both. let old = (narrows t).0 both.0 in (left t).0 (old.0, whole.1 (old.1, both.1)),
      λ both. let old = (left t).1 both in let parts = whole.0 old.1 in ((narrows t).1 (old.0, parts.0), parts.1),
    )

pub left_none : (n : ℕ) (start d : ℕ → ℕ → ℤ) (all rest : List Item) → rest ≡ [] → Left n start all d rest → Narrowed n start d (λ t. AllByRecursion (Keeps t) all)
left_none n start d all rest is left t = (λ fits. (left t).0 (fits, rw is tt), λ both. ((left t).1 both).0)

-- the closure

-- the first k stages are done
pub record ClosesSoFar (n : ℕ) (d e : ℕ → ℕ → ℤ) (k : ℕ) : Type 0 where
  pub rough : Rough n e
  pub closed : ClosedBelow n e k
  pub same : (t : ℕ → ℤ) → Fits n e t ↔ Fits n d t

module _ (n k : ℕ) (d e : ℕ → ℕ → ℤ) (k_in : k < n) (zero : d k k ≡ pos 0) (stage : Relaxed n d e k) where
  old : ClosedBelow n d k → (m i j : ℕ) → m < k → i < n → j < n → e i j ≤ℤ (e i m +ℤ e m j)
  old closed m i j l p q =
      let r : m < n = omega arith in
      omega (
        arith,
        ints,
        clamps,
        stage i j p q,
        stage i m p r,
        stage m j r q,
        closed m i j l p q,
        closed m i k l p k_in,
        closed m k j l k_in q,
        closed m k k l k_in k_in,
        zero,
      )

  new : (i j : ℕ) → i < n → j < n → e i j ≤ℤ (e i k +ℤ e k j)
  new i j p q = omega (arith, ints, clamps, stage i j p q, stage i k p k_in, stage k j k_in q, zero)

  stage_closed : ClosedBelow n d k → ClosedBelow n e (k + 1)
  stage_closed closed m i j l p q = elim (cases_lt m k) [
    | inl h ↦ old closed m i j h p q
    | inr h ↦ (let z : m ≡ k = omega arith in rw z (new i j p q))
  ]

  stage_same : (t : ℕ → ℤ) → Fits n e t ↔ Fits n d t
  stage_same t = (
    λ fits i j p q. omega (arith, ints, clamps, stage i j p q, fits i j p q),
    λ fits i j p q. omega (arith, ints, clamps, stage i j p q, fits i j p q, fits i k p k_in, fits k j k_in q),
  )

pub closes_more : (n k : ℕ) (d e e' : ℕ → ℕ → ℤ) → k < n → ClosesSoFar n d e k → Rough n e' → Relaxed n e e' k → e k k ≡ pos 0 → ClosesSoFar n d e' (k + 1)
closes_more n k d e e' k_in far rough stage zero = record {
  rough = rough;
  closed = stage_closed n k e e' k_in zero stage far.closed;
  same = λ t. (λ fits. (far.same t).0 ((stage_same n k e e' k_in zero stage t).0 fits), λ fits. (stage_same n k e e' k_in zero stage t).1 ((far.same t).1 fits));
}

pub closes_all : (n k : ℕ) (d e : ℕ → ℕ → ℤ) → n ≤ k → ClosesSoFar n d e k → Settled n e → Closes n d e
closes_all n k d e l far settled = record { closed = record { settled = settled; triangle = λ m i j r p q. far.closed m i j (omega arith) p q }; same = far.same }

-- an entry that no distance can be leaves no times
pub refuted_hopeless : (n k : ℕ) (d e : ℕ → ℕ → ℤ) → ClosesSoFar n d e k → Refuted n e → Hopeless n d
refuted_hopeless n k d e far (a, p, (b, q, inl low)) t in_time fits =
    omega (arith, ints, low, (far.same t).1 fits a b p q, (in_time a p).1, (in_time b q).0)
refuted_hopeless n k d e far (a, p, (b, q, inr bad)) t in_time fits =
    omega (arith, ints, bad.1, (far.same t).1 fits a b p q, ap t bad.0)

-- timetables

-- times that start at 0 fit the first table exactly when they lie from 0 to 1,000,000
unbounded_in_time : (n : ℕ) → 0 < n → (t : ℕ → ℤ) → t 0 ≡ pos 0 → Fits n unbounded t ↔ InTime n t
unbounded_in_time n some t starts = (
  λ fits i p. (omega (arith, ints, fits i 0 p some, unbounded_start i, starts), omega (arith, ints, fits 0 i some p, (unbounded_range 0 i).1, starts)),
  λ in_time i j p q. elim (unbounded_cases i j) [
    | inl h ↦ omega (arith, ints, h.1, ap t h.0)
    | inr h ↦ elim h [
      | inl z ↦ omega (arith, ints, z.1, ap t z.0, starts, (in_time i p).0)
      | inr z ↦ omega (arith, ints, z, (in_time i p).0, (in_time j q).1)
    ]
  ],
)

-- the times of row i of a table, counted from its step 0
from_row : (ℕ → ℕ → ℤ) → ℕ → ℕ → ℤ
from_row d i x = d i x -ℤ d i 0

module _ (m : Meaning) (some : 0 < m.steps) (d : ℕ → ℕ → ℤ) (says : Narrowed m.steps unbounded d (λ t. AllByRecursion (Keeps t) m.items)) where
  -- the table says what the bounds say
  timetable_fits : (t : ℕ → ℤ) → Timetable m t → Fits m.steps d t
  timetable_fits t table = (says t).1 ((unbounded_in_time m.steps some t table.starts).1 table.in_time, table.keeps)

  fits_timetable : (t : ℕ → ℤ) → t 0 ≡ pos 0 → Fits m.steps d t → Timetable m t
  fits_timetable t starts fits =
      let both = (says t).0 fits in
      record { starts = starts; in_time = (unbounded_in_time m.steps some t starts).0 both.0; keeps = both.1 }

  pub hopeless_infeasible : Hopeless m.steps d → Feasible m → ⊥
  hopeless_infeasible none (t, table) = none t table.in_time (timetable_fits t table)

  module _ (e : ℕ → ℕ → ℤ) (closes : Closes m.steps d e) where
    -- a row of a closed table is a timetable
    row_timetable : (i : ℕ) → i < m.steps → Timetable m (from_row e i)
    unfolding from_row
    row_timetable i p =
        fits_timetable (from_row e i) (omega (arith, ints))
        ((closes.same (from_row e i)).0 (λ x y q r. omega (arith, ints, closes.closed.triangle x i y q p r)))

    -- so that its entries are the distances
    pub closed_distances : Distances m e
    unfolding from_row
    closed_distances i j p q = record {
      reached = (from_row e i, row_timetable i p, omega (arith, ints, closes.closed.settled.diagonal i p));
      greatest = λ t table. (closes.same t).1 (timetable_fits t table) i j p q;
    }

    pub closed_feasible : Feasible m
    closed_feasible = (from_row e 0, row_timetable 0 some)

-- a distance is reached, and no other is above it
pub one_distance : (m : Meaning) → OneDistance m
one_distance m i j v w one two =
    let (s, sets, is-v) = one.reached in
    let (t, table, is-w) = two.reached in
    omega (arith, ints, is-v, is-w, two.greatest s sets, one.greatest t table)
