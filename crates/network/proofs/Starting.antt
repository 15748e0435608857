-- The table that every compilation begins with.
use Rattle.std.proofs.Common.{◌≡◌, ℕ, ◌+◌, ◌*◌, ◌/◌, ◌%◌, ◌<◌, eqb, ◌⊎◌, List, ◌++◌, length, get_or, ℤ, pos, ◌≤ℤ◌, refl, ◌∙◌, inl, inr, arith}
use Rattle.std.proofs.lemmas.Nat.{mul-add-lt, div-mul-add, mod-mul-add}
use Rattle.std.proofs.lemmas.List.{get_or_append_left}
use Rattle.std.proofs.lemmas.Int.{ints}
use Rattle.std.proofs.lemmas.Bool.{cases_eq, eq-eqb, ne_eqb, or_left, or_right, or_from, cond-true, cond-false}
use Rattle.bounds.specs.Limits.{horizon}
use Rattle.network.specs.Grid.{entry_at, unbounded, Rough}

unbounded_far : (i j : ℕ) → (i ≡ j → ⊥) → (j ≡ 0 → ⊥) → unbounded i j ≡ pos horizon
unbounded_far i j p q = cond-false _ _ _ (or_from (eqb i j) (eqb j 0) (ne_eqb i j p) (ne_eqb j 0 q))

-- no time from a step to itself, none back to step 0, and the horizon elsewhere
pub unbounded_cases : (i j : ℕ) → ((i ≡ j) × (unbounded i j ≡ pos 0)) ⊎ (((j ≡ 0) × (unbounded i j ≡ pos 0)) ⊎ (unbounded i j ≡ pos horizon))
unbounded_cases i j = elim (cases_eq i j) [
  | inl h ↦ inl (h, cond-true _ _ _ (or_left (eqb i j) (eqb j 0) (eq-eqb i j h)))
  | inr h ↦ elim (cases_eq j 0) [
    | inl z ↦ inr (inl (z, cond-true _ _ _ (or_right (eqb i j) (eqb j 0) (eq-eqb j 0 z))))
    | inr z ↦ inr (inr (unbounded_far i j h z))
  ]
]

pub unbounded_same : (i : ℕ) → unbounded i i ≡ pos 0
unbounded_same i = cond-true _ _ _ (or_left (eqb i i) (eqb i 0) (eq-eqb i i refl))

pub unbounded_start : (i : ℕ) → unbounded i 0 ≡ pos 0
unbounded_start i = cond-true _ _ _ (or_right (eqb i 0) (eqb 0 0) refl)

pub unbounded_range : (i j : ℕ) → (pos 0 ≤ℤ unbounded i j) × (unbounded i j ≤ℤ pos horizon)
unbounded_range i j = elim (unbounded_cases i j) [
  | inl h ↦ (omega (arith, ints, h.1), omega (arith, ints, h.1))
  | inr (inl h) ↦ (omega (arith, ints, h.1), omega (arith, ints, h.1))
  | inr (inr h) ↦ (omega (arith, ints, h), omega (arith, ints, h))
]

-- every place below p has its first number
abbrev pub Begun : ℕ → List ℤ → ℕ → Type 0
Begun n xs p = (q : ℕ) → q < p → get_or xs q (pos 0) ≡ unbounded (q / n) (q % n)

-- a list that begins with such a front
pub begun_front : (n : ℕ) (xs ys : List ℤ) → length xs ≡ n * n → Begun n xs (n * n) → Begun n (xs ++ ys) (n * n)
begun_front n xs ys long begun q l = get_or_append_left xs ys (pos 0) q (omega (arith, long)) ∙ begun q l

module _ (n : ℕ) (xs : List ℤ) (begun : Begun n xs (n * n)) where
  pub entry_unbounded : (i j : ℕ) → i < n → j < n → entry_at n xs i j ≡ unbounded i j
  unfolding entry_at
  entry_unbounded i j p q = begun (i * n + j) (mul-add-lt i n j n p q) ∙ (rw (div-mul-add i n j q, mod-mul-add i n j q))

  pub begun_rough : Rough n (entry_at n xs)
  begun_rough = record {
    low = λ i j p q. omega (arith, ints, entry_unbounded i j p q, (unbounded_range i j).0);
    high = λ i j p q. omega (arith, ints, entry_unbounded i j p q, (unbounded_range i j).1);
    diagonal = λ i p. omega (arith, ints, entry_unbounded i i p p, unbounded_same i);
  }
