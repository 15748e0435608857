-- Entries that are ordered by a row of keys are in a total order.
use Rattle.std.proofs.Common.{◌≡◌, ℕ, true, List, [], ◌∷◌, refl, ap, inl, inr, arith}
use Rattle.std.proofs.lemmas.Bool.{cases_order}
use Rattle.std.proofs.lemmas.Bool.Decides.{nat_tests}
use Rattle.queue.specs.Order.{OneOf, first, second, same, Total}
use Rattle.queue.specs.Keys.{earlier}

-- of two rows exactly one comes first, or they are equal
pub one_earlier : (ms ns : List ℕ) → OneOf earlier ms ns
one_earlier [] [] = same refl refl refl
one_earlier [] (n ∷ ns) = first refl refl (λ e. cc)
one_earlier (m ∷ ms) [] = second refl refl (λ e. cc)
one_earlier (m ∷ ms) (n ∷ ns) =
    elim (cases_order m n) [
      | inl e ↦ elim (one_earlier ms ns) [
        | first p q r ↦ first (grind (arith, nat_tests)) (grind (arith, nat_tests)) (λ d. r (cc))
        | second p q r ↦ second (grind (arith, nat_tests)) (grind (arith, nat_tests)) (λ d. r (cc))
        | same p q r ↦ same (grind (arith, nat_tests)) (grind (arith, nat_tests)) (cc)
      ]
      | inr (inl l) ↦ first (grind (arith, nat_tests)) (grind (arith, nat_tests)) (λ d. let z : m ≡ n = cc in omega arith)
      | inr (inr l) ↦ second (grind (arith, nat_tests)) (grind (arith, nat_tests)) (λ d. let z : m ≡ n = cc in omega arith)
    ]

-- the order of rows is transitive
pub onward_earlier : (ls ms ns : List ℕ) → earlier ls ms ≡ true → earlier ms ns ≡ true → earlier ls ns ≡ true
onward_earlier [] [] ns p q = q
onward_earlier [] (m ∷ ms) [] p q = q
onward_earlier [] (m ∷ ms) (n ∷ ns) p q = refl
onward_earlier (l ∷ ls) [] ns p q = absurd (cc)
onward_earlier (l ∷ ls) (m ∷ ms) [] p q = q
onward_earlier (l ∷ ls) (m ∷ ms) (n ∷ ns) p q = let rest = onward_earlier ls ms ns in grind (arith, nat_tests)

-- where entries with equal keys are equal, the order by the keys is total
pub total_by_keys : {X : Type 0} (keys : X → List ℕ) → ((x y : X) → keys x ≡ keys y → x ≡ y) → Total (λ x y. earlier (keys x) (keys y))
total_by_keys keys apart = record {
  one = λ x y. elim (one_earlier (keys x) (keys y)) [
    | first p q r ↦ first p q (λ e. r (ap keys e))
    | second p q r ↦ second p q (λ e. r (ap keys e))
    | same p q r ↦ same p q (apart x y r)
  ];
  onward = λ x y z. onward_earlier (keys x) (keys y) (keys z);
}
