-- There are at most n × (n − 1) links: one for each ordered pair of steps.
use Rattle.std.proofs.Common.{◌≡◌, ℕ, zero, suc, ◌+◌, ◌-◌, ◌*◌, ◌<◌, ◌≤◌, Bool, true, false, cond, eqb, ℤ, pos, sym, refl, ap, ◌∙◌, inl, inr, add-mul, add-one, arith}
use lib.Signed.{le_z}
use Rattle.std.proofs.lemmas.Bool.{cases_eq, cases_lt, eq-eqb, ne_eqb, cond-true, cond-false}
use Rattle.network.specs.Counting.{sum_below, most_count, least_count, links_from}

pub sum_more : (f : ℕ → ℕ) (k : ℕ) → sum_below f (k + 1) ≡ sum_below f k + f k
sum_more f k = ap (sum_below f) (add-one k)

-- a sum of fewer is no larger
pub sum_front : (f : ℕ → ℕ) (k n : ℕ) → k ≤ n → sum_below f k ≤ sum_below f n
sum_front f k zero l = let z : k ≡ 0 = omega arith in omega (arith, ap (sum_below f) z)
sum_front f k (suc n) l = elim (cases_lt n k) [
  | inl h ↦ (let z : k ≡ suc n = omega arith in omega (arith, ap (sum_below f) z))
  | inr h ↦ omega (arith, sum_front f k n h)
]

pub sum_same : (f g : ℕ → ℕ) (n : ℕ) → ((k : ℕ) → k < n → f k ≡ g k) → sum_below f n ≡ sum_below g n
sum_same f g zero h = refl
sum_same f g (suc n) h = omega (arith, sum_same f g n (λ k l. h k (omega arith)), h n (omega arith))

-- a count of tests is at most their number
pub sum_tests : (f : ℕ → Bool) (n : ℕ) → sum_below (λ k. cond (f k) 1 0) n ≤ n
sum_tests f zero = omega arith
sum_tests f (suc n) = omega (arith, sum_tests f n, one (f n))
  where
    one : (b : Bool) → cond b 1 0 ≤ 1
    one true = omega arith
    one false = omega arith

sum_plus : (f g : ℕ → ℕ) (n : ℕ) → sum_below (λ k. f k + g k) n ≡ sum_below f n + sum_below g n
sum_plus f g zero = refl
sum_plus f g (suc n) = omega (arith, sum_plus f g n)

sum_zero : (n : ℕ) → sum_below (λ _. 0) n ≡ 0
sum_zero zero = refl
sum_zero (suc n) = omega (arith, sum_zero n)

sum_constant : (c n : ℕ) → sum_below (λ _. c) n ≡ n * c
sum_constant c zero = omega arith
sum_constant c (suc n) = omega (arith, sum_constant c n, add-mul n 1 c)

-- rows first or columns first
sum_swap : (h : ℕ → ℕ → ℕ) (n m : ℕ) → sum_below (λ p. sum_below (h p) m) n ≡ sum_below (λ q. sum_below (λ p. h p q) n) m
sum_swap h zero m = sym (sum_zero m)
sum_swap h (suc n) m = ap (λ x. x + sum_below (h n) m) (sum_swap h n m) ∙ sym (sum_plus (λ q. sum_below (λ p. h p q) n) (h n) m)

eqb_swap : (a b : ℕ) → eqb a b ≡ eqb b a
eqb_swap a b = elim (cases_eq a b) [
  | inl h ↦ eq-eqb a b h ∙ sym (eq-eqb b a (sym h))
  | inr h ↦ ne_eqb a b h ∙ sym (ne_eqb b a (λ e. h (sym e)))
]

-- one for each step but p
abbrev others : ℕ → ℕ → ℕ
others p q = cond (eqb p q) 0 1

others_before : (p n : ℕ) → n ≤ p → sum_below (others p) n ≡ n
others_before p zero l = refl
others_before p (suc n) l = omega (arith, others_before p n (omega arith), cond-false {A = ℕ} (eqb p n) 0 1 (ne_eqb p n (λ e. omega arith)))

others_all : (p n : ℕ) → p < n → sum_below (others p) n + 1 ≡ n
others_all p zero l = absurd (omega arith)
others_all p (suc n) l = elim (cases_eq p n) [
  | inl h ↦ omega (arith, others_before p n (omega arith), cond-true {A = ℕ} (eqb p n) 0 1 (eq-eqb p n h))
  | inr h ↦ omega (arith, others_all p n (omega arith), cond-false {A = ℕ} (eqb p n) 0 1 (ne_eqb p n h))
]

module _ (d : ℕ → ℕ → ℤ) where
  -- the pair p, q gives its link as a most link from p, or as a least link from q
  backward : ℕ → ℕ → ℕ
  backward p q = least_count d q p

  one_each : (p q : ℕ) → most_count d p q + backward p q ≡ others p q
  unfolding backward
  one_each p q = ap (λ b. most_count d p q + cond b 0 (cond (le_z (pos 0) (d p q)) 0 1)) (eqb_swap q p) ∙ by_tests (eqb p q) (le_z (pos 0) (d p q))
    where
      by_tests : (same far : Bool) → cond same 0 (cond far 1 0) + cond same 0 (cond far 0 1) ≡ cond same 0 1
      by_tests true far = refl
      by_tests false true = refl
      by_tests false false = refl

  pub links_all : (n : ℕ) → sum_below (links_from n d) n ≡ n * (n - 1)
  unfolding backward
  links_all n =
      let all : sum_below (λ p. sum_below (others p) n) n ≡ n * (n - 1) =
      sum_same (λ p. sum_below (others p) n) (λ _. n - 1) n (λ p h. omega (arith, others_all p n h)) ∙ sum_constant (n - 1) n in
      sum_same (links_from n d) (λ p. sum_below (most_count d p) n + sum_below (least_count d p) n) n (λ p _. sum_plus (most_count d p) (least_count d p) n)
      ∙ sum_plus (λ p. sum_below (most_count d p) n) (λ p. sum_below (least_count d p) n) n
      ∙ ap (λ x. sum_below (λ p. sum_below (most_count d p) n) n + x) (sum_swap (least_count d) n n)
      ∙ sym (sum_plus (λ p. sum_below (most_count d p) n) (λ p. sum_below (backward p) n) n)
      ∙ sum_same (λ p. sum_below (most_count d p) n + sum_below (backward p) n) (λ p. sum_below (others p) n) n
      (λ p _. sym (sum_plus (most_count d p) (backward p) n) ∙ sum_same (λ q. most_count d p q + backward p q) (others p) n (λ q _. one_each p q))
      ∙ all
