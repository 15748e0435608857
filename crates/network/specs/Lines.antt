-- One row of a table, read out of it.
use Rattle.std.specs.Prelude.{◌≡◌, ℕ, ◌<◌, ◌⊎◌, List, ℤ, pos, neg_ℤ, ◌≤ℤ◌, ◌<ℤ◌, slice_index_or}
use Rattle.bounds.specs.Limits.{horizon}

-- number b of a row
abbrev pub number_at : List ℤ → ℕ → ℤ
number_at xs b = slice_index_or xs b (pos 0)

-- the numbers can be row k of the distances: none below −1,000,000, and the diagonal's not below 0
pub record Possible (n : ℕ) (v : ℕ → ℤ) (k : ℕ) : Type 0 where
  pub low : (b : ℕ) → b < n → neg_ℤ (pos horizon) ≤ℤ v b
  pub diagonal : pos 0 ≤ℤ v k

-- or one of them shows that they cannot
abbrev pub Impossible : ℕ → (ℕ → ℤ) → ℕ → Type 0
Impossible n v k = (b : ℕ) × (b < n) × ((v b <ℤ neg_ℤ (pos horizon)) ⊎ ((k ≡ b) × (v b <ℤ pos 0)))

-- each of the first n numbers is from −1,000,000 to 1,000,000
abbrev pub Near : ℕ → (ℕ → ℤ) → Type 0
Near n v = (b : ℕ) → b < n → (neg_ℤ (pos horizon) ≤ℤ v b) × (v b ≤ℤ pos horizon)

-- some row of the table shows that no timetable exists
abbrev pub Refuted : ℕ → (ℕ → ℕ → ℤ) → Type 0
Refuted n d = (a : ℕ) × (a < n) × Impossible n (d a) a
