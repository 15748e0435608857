-- A square table of whole numbers, row by row in a list.
use Rattle.std.specs.Prelude.{◌≡◌, ℕ, ◌+◌, ◌*◌, ◌<◌, cond, ◌||◌, List, ◌++◌, drop, replicate, ℤ, pos, ◌+ℤ◌, neg_ℤ, ◌≤ℤ◌, ◌==◌, ◌≢◌, slice_index_or}
use Rattle.std.specs.Int.{int_min}
use Rattle.bounds.specs.Limits.{horizon}

-- the entry of row i and column j
unfoldable pub entry_at : ℕ → List ℤ → ℕ → ℕ → ℤ
entry_at n xs i j = slice_index_or xs (i * n + j) (pos 0)

-- the table with its n × n entries zero, and what stands behind them
abbrev pub zeroed : ℕ → List ℤ → List ℤ
zeroed n xs = replicate (n * n) (pos 0) ++ drop (n * n) xs

-- before any bound: a step is no time after itself, step 0 is the earliest, and no gap passes the horizon
abbrev pub unbounded : ℕ → ℕ → ℤ
unbounded i j = cond (i == j || j == 0) (pos 0) (pos horizon)

-- e is d with its entry at (i, j) lowered to v
pub record Lowered (n : ℕ) (d e : ℕ → ℕ → ℤ) (i j : ℕ) (v : ℤ) : Type 0 where
  pub here : e i j ≡ int_min (d i j) v
  pub rest : (a b : ℕ) → a < n → b < n → ((a ≡ i) × (b ≡ j) → ⊥) → e a b ≡ d a b

-- e is d with row i lowered to t more than v
pub record RowLowered (n : ℕ) (d e : ℕ → ℕ → ℤ) (i : ℕ) (t : ℤ) (v : ℕ → ℤ) : Type 0 where
  pub here : (b : ℕ) → b < n → e i b ≡ int_min (d i b) (t +ℤ v b)
  pub rest : (a b : ℕ) → a < n → b < n → (a ≢ i) → e a b ≡ d a b

-- e is d with every entry lowered by the way through k
abbrev pub Relaxed : ℕ → (ℕ → ℕ → ℤ) → (ℕ → ℕ → ℤ) → ℕ → Type 0
Relaxed n d e k = (a b : ℕ) → a < n → b < n → e a b ≡ int_min (d a b) (d a k +ℤ d k b)

-- while a table is closed: each entry from −2,000,000 to 1,000,000, none above 0 on the diagonal
pub record Rough (n : ℕ) (d : ℕ → ℕ → ℤ) : Type 0 where
  pub low : (i j : ℕ) → i < n → j < n → neg_ℤ (pos (2 * horizon)) ≤ℤ d i j
  pub high : (i j : ℕ) → i < n → j < n → d i j ≤ℤ pos horizon
  pub diagonal : (i : ℕ) → i < n → d i i ≤ℤ pos 0

-- once it is closed: each entry from −1,000,000 to 1,000,000, and 0 on the diagonal
pub record Settled (n : ℕ) (d : ℕ → ℕ → ℤ) : Type 0 where
  pub low : (i j : ℕ) → i < n → j < n → neg_ℤ (pos horizon) ≤ℤ d i j
  pub high : (i j : ℕ) → i < n → j < n → d i j ≤ℤ pos horizon
  pub diagonal : (i : ℕ) → i < n → d i i ≡ pos 0
