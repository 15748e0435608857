-- What `any` answers over the numbers below another one.
use Rattle.std.proofs.Common.{◌≡◌, ℕ, ◌<◌, Bool, true, false, length, ◌↔◌, MatchBool, refl, sym, ◌∙◌, subst, zero-add, arith}
use Rattle.std.proofs.lemmas.Bool.{false≢true}
use Rattle.std.specs.List.{AllWithin, HoldsAt, range_with_len}
use Rattle.std.proofs.lemmas.List.FromFn.{length-range_with_len, get_or-range_with_len}

-- some number below n passes, or none does
pub any_below : (P : ℕ → Type 0) (Some : Type 0) (n : ℕ) (r : Bool) → ((k : ℕ) → k < n → P k → Some) → (Some → (k : ℕ) × (k < n) × P k)
    → MatchBool r ((k : ℕ) × (k < length (range_with_len 0 n)) × HoldsAt P (range_with_len 0 n) k) (AllWithin (λ x. P x → ⊥) (range_with_len 0 n) 0 (length (range_with_len 0 n)))
    → (r ≡ true) ↔ Some
any_below P Some n true make find (k, l, at) =
    let small : k < n = omega (arith, length-range_with_len 0 n) in
    (λ _. make k small (subst P (get_or-range_with_len 0 n k 0 small ∙ zero-add k) (at 0)), λ _. refl)
any_below P Some n false make find none = (
  λ e. absurd (false≢true e),
  λ some. (let (k, l, p) = find some in absurd (none k 0 (omega arith) (omega (arith, length-range_with_len 0 n, l)) (subst P (sym (get_or-range_with_len 0 n k 0 l ∙ zero-add k)) p))),
)
