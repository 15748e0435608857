-- What a test says, and what it says of every number below n.
use Rattle.std.proofs.Common.{◌≡◌, ℕ, ◌<◌, Bool, true, false, length, get_or, MatchBool, refl, subst, ◌∙◌, zero-add, arith}
use Rattle.std.specs.List.{HoldsAt, AllWithin, range_with_len}
use Rattle.std.proofs.lemmas.List.FromFn.{length-range_with_len, get_or-range_with_len}

-- what a test says, from what another says
pub when_map : (b : Bool) {P Q P' Q' : Type 0} → (P → P') → (Q → Q') → MatchBool b P Q → MatchBool b P' Q'
when_map true f g h = f h
when_map false f g h = g h

-- what a test says, from its two cases
pub when_by : (b : Bool) (P Q : Type 0) → (b ≡ true → P) → (b ≡ false → Q) → MatchBool b P Q
when_by true P Q p q = p refl
when_by false P Q p q = q refl

module _ (n : ℕ) where
  -- the number at place k of those below n is k
  numbered : (k : ℕ) → k < n → get_or (range_with_len 0 n) k 0 ≡ k
  numbered k l = get_or-range_with_len 0 n k 0 l ∙ zero-add k

  placed : (k : ℕ) → k < length (range_with_len 0 n) → k < n
  placed k l = rw (← length-range_with_len 0 n) l

  -- whether some number below n passes
  pub any_below : (r : Bool) (Yes No : ℕ → Type 0)
      → MatchBool r ((k : ℕ) × (k < length (range_with_len 0 n)) × HoldsAt Yes (range_with_len 0 n) k) (AllWithin No (range_with_len 0 n) 0 (length (range_with_len 0 n)))
      → MatchBool r ((k : ℕ) × (k < n) × Yes k) ((k : ℕ) → k < n → No k)
  any_below true Yes No (k, l, holds) = (k, placed k l, subst Yes (numbered k (placed k l)) (holds 0))
  any_below false Yes No none = λ k l. subst No (numbered k l) (none k 0 (omega arith) (rw length-range_with_len l))

  -- whether each of them does
  pub all_below : (r : Bool) (Yes No : ℕ → Type 0)
      → MatchBool r (AllWithin Yes (range_with_len 0 n) 0 (length (range_with_len 0 n))) ((k : ℕ) × (k < length (range_with_len 0 n)) × HoldsAt No (range_with_len 0 n) k)
      → MatchBool r ((k : ℕ) → k < n → Yes k) ((k : ℕ) × (k < n) × No k)
  all_below true Yes No all = λ k l. subst Yes (numbered k l) (all k 0 (omega arith) (rw length-range_with_len l))
  all_below false Yes No (k, l, fails) = (k, placed k l, subst No (numbered k (placed k l)) (fails 0))
