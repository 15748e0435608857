-- The links of a span.
use Rattle.std.proofs.Common.{◌≡◌, ℕ, ◌+◌, ◌-◌, min, List, length, take, drop, sym, ap, ◌∙◌, inl, inr, arith, length-take}
use Rattle.std.proofs.lemmas.List.{drop-take, drop_all, take_all}
use Rattle.std.proofs.lemmas.Bool.{cases_lt}

-- a part that is cut to the length of the list
pub spanned_part : {X : Type 0} (a b e s : ℕ) (xs : List X) → e ≡ min b (length xs) → s ≡ min a e → take (e - s) (drop s xs) ≡ drop a (take b xs)
spanned_part a b e s xs end start = elim (cases_lt e a) [
  | inl past ↦ (let none : e - s ≡ 0 = omega arith in ap (λ k. take k (drop s xs)) none ∙ sym (drop_all a (take b xs) (omega (arith, length-take b xs))))
  | inr in-part ↦ (
      let same : s ≡ a = omega arith in
      let whole : a + (e - a) ≡ e = omega arith in
      ap (λ k. take (e - k) (drop k xs)) same ∙ sym (drop-take a (e - a) xs) ∙ ap (λ k. drop a (take k xs)) whole ∙ ap (drop a) cut)
]
  where
    cut : take e xs ≡ take b xs
    cut = elim (cases_lt (length xs) b) [
      | inl long ↦ take_all e xs (omega arith) ∙ sym (take_all b xs (omega arith))
      | inr short ↦ ap (λ k. take k xs) (omega arith)
    ]
