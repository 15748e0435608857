-- Times that fit a table of greatest gaps, and tables with the same times.
use Rattle.std.specs.Prelude.{ℕ, ◌<◌, ◌↔◌, ℤ, ◌+ℤ◌, ◌-ℤ◌, ◌≤ℤ◌, IfSome, Option}
use Rattle.bounds.specs.Timetables.{InTime}
use Rattle.network.specs.Grid.{Settled}

-- no gap between two of the first n times is above its entry
abbrev pub Fits : ℕ → (ℕ → ℕ → ℤ) → (ℕ → ℤ) → Type 0
Fits n d t = (i j : ℕ) → i < n → j < n → (t j -ℤ t i) ≤ℤ d i j

-- the gap from i to j is not above an end, if there is one
abbrev pub Capped : Option ℤ → ℕ → ℕ → (ℕ → ℤ) → Type 0
Capped most i j t = IfSome most (λ u. (t j -ℤ t i) ≤ℤ u)

-- times fit e exactly when they fit d and meet a demand
abbrev pub Narrowed : ℕ → (ℕ → ℕ → ℤ) → (ℕ → ℕ → ℤ) → ((ℕ → ℤ) → Type 0) → Type 0
Narrowed n d e Demand = (t : ℕ → ℤ) → Fits n e t ↔ (Fits n d t × Demand t)

-- no entry is above the sum through one of the first k steps
abbrev pub ClosedBelow : ℕ → (ℕ → ℕ → ℤ) → ℕ → Type 0
ClosedBelow n d k = (m i j : ℕ) → m < k → i < n → j < n → d i j ≤ℤ (d i m +ℤ d m j)

-- the entries can be distances, and obey the triangle inequality
pub record Closed (n : ℕ) (d : ℕ → ℕ → ℤ) : Type 0 where
  pub settled : Settled n d
  pub triangle : ClosedBelow n d n

-- e is closed, and the same times fit it as d
pub record Closes (n : ℕ) (d e : ℕ → ℕ → ℤ) : Type 0 where
  pub closed : Closed n e
  pub same : (t : ℕ → ℤ) → Fits n e t ↔ Fits n d t

-- no times from 0 to 1,000,000 fit the table
abbrev pub Hopeless : ℕ → (ℕ → ℕ → ℤ) → Type 0
Hopeless n d = (t : ℕ → ℤ) → InTime n t → Fits n d t → ⊥
