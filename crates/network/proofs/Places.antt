-- The place of row i and column j in a square table, and a write there.
use Rattle.std.proofs.Common.{◌≡◌, ℕ, ◌+◌, ◌-◌, ◌*◌, ◌/◌, ◌%◌, ◌<◌, ◌≤◌, ◌≢◌, List, length, get_or, take, drop, set, ℤ, pos, sym, ap, ◌∙◌, inl, inr, length-drop, arith}
use Rattle.std.specs.Int.{int_min}
use Rattle.std.proofs.lemmas.Bool.{cases_lt}
use Rattle.std.proofs.lemmas.List.{get_or-set_same, get_or-set_other, drop-set-lt, get_or-take, get_or-drop, length-take-le}
use Rattle.std.proofs.lemmas.Slice.{between-put_mid, take-put_mid_below, drop-put_mid}
use borrow.Rule.Slice.PartMut.{put_mid}
use Rattle.std.proofs.lemmas.Nat.{mul-add-lt, div-mul-add, mod-mul-add}
use Rattle.network.specs.Grid.{entry_at, Lowered}

pub place_in : (n i j : ℕ) (xs : List ℤ) → i < n → j < n → n * n ≤ length xs → i * n + j < length xs
place_in n i j xs p q room = omega (arith, mul-add-lt i n j n p q)

place_apart : (n i j a b : ℕ) → j < n → b < n → ((a ≡ i) × (b ≡ j) → ⊥) → (a * n + b) ≢ (i * n + j)
place_apart n i j a b q s ne e =
    ne (
      sym (div-mul-add a n b s) ∙ ap (λ x. x / n) e ∙ div-mul-add i n j q,
      sym (mod-mul-add a n b s) ∙ ap (λ x. x % n) e ∙ mod-mul-add i n j q,
    )

pub entry_set_same : (n i j : ℕ) (xs : List ℤ) (v : ℤ) → i < n → j < n → n * n ≤ length xs → entry_at n (set xs (i * n + j) v) i j ≡ v
unfolding entry_at
entry_set_same n i j xs v p q room = get_or-set_same xs (i * n + j) v (pos 0) (place_in n i j xs p q room)

pub entry_set_other : (n i j a b : ℕ) (xs : List ℤ) (v : ℤ) → j < n → b < n → ((a ≡ i) × (b ≡ j) → ⊥) → entry_at n (set xs (i * n + j) v) a b ≡ entry_at n xs a b
unfolding entry_at
entry_set_other n i j a b xs v q s ne = get_or-set_other xs (i * n + j) (a * n + b) v (pos 0) (place_apart n i j a b q s ne)

pub behind_set : (n i j : ℕ) (xs : List ℤ) (v : ℤ) → i < n → j < n → drop (n * n) (set xs (i * n + j) v) ≡ drop (n * n) xs
behind_set n i j xs v p q = drop-set-lt (n * n) xs (i * n + j) v (mul-add-lt i n j n p q)

pub lowered_set : (n i j : ℕ) (xs : List ℤ) (v m : ℤ) → i < n → j < n → n * n ≤ length xs → m ≡ int_min (entry_at n xs i j) v
    → Lowered n (entry_at n xs) (entry_at n (set xs (i * n + j) m)) i j v
lowered_set n i j xs v m p q room is = record {
  here = entry_set_same n i j xs m p q room ∙ is;
  rest = λ a b r s ne. entry_set_other n i j a b xs m q s ne;
}

-- row k, as a part of the list
abbrev pub row_of : ℕ → ℕ → List ℤ → List ℤ
row_of n k xs = take (k * n + n - k * n) (drop (k * n) xs)

pub row_read : (n k b : ℕ) (xs : List ℤ) → b < n → get_or (row_of n k xs) b (pos 0) ≡ entry_at n xs k b
unfolding entry_at
row_read n k b xs q = get_or-take (k * n + n - k * n) (drop (k * n) xs) b (pos 0) (omega arith) ∙ get_or-drop (k * n) xs b (pos 0)

module _ (n k : ℕ) (k_in : k < n) (xs : List ℤ) where
  row_end : k * n + n ≤ n * n
  row_end = omega (arith, mul-add-lt k n (n - 1) n k_in (omega arith))

  module _ (room : n * n ≤ length xs) where
    pub row_length : length (row_of n k xs) ≡ n
    row_length = length-take-le (k * n + n - k * n) (drop (k * n) xs) (omega (arith, row_end, length-drop (k * n) xs)) ∙ (omega arith)

    -- row k is written anew
    module _ (ys : List ℤ) (long : length ys ≡ n) where
      abbrev written : List ℤ
      written = put_mid (k * n) (k * n + n - k * n) xs ys

      start_in : k * n ≤ length xs
      start_in = omega (arith, row_end)

      pub entry_written : (b : ℕ) → b < n → entry_at n written k b ≡ get_or ys b (pos 0)
      entry_written b q = sym (row_read n k b written q) ∙ ap (λ r. get_or r b (pos 0)) (between-put_mid (k * n) (k * n + n - k * n) xs ys (k * n + n) start_in (omega (arith, long)))

      pub entry_unwritten : (a b : ℕ) → a < n → b < n → (a ≡ k → ⊥) → entry_at n written a b ≡ entry_at n xs a b
      unfolding entry_at
      entry_unwritten a b p q ne = elim (cases_lt a k) [
        | inl l ↦ (
            let before : a * n + b < k * n = omega (arith, mul-add-lt a n b k l q) in
            sym (get_or-take (k * n) written (a * n + b) (pos 0) before)
            ∙ ap (λ zs. get_or zs (a * n + b) (pos 0)) (take-put_mid_below (k * n) (k * n + n - k * n) xs ys (k * n) (omega arith) start_in)
            ∙ get_or-take (k * n) xs (a * n + b) (pos 0) before)
        | inr l ↦ (
            let above : k < a = omega (arith, ne) in
            let after : k * n + n ≤ a * n + b = omega (arith, mul-add-lt k n (n - 1) a above (omega arith)) in
            let is : k * n + n + (a * n + b - (k * n + n)) ≡ a * n + b = omega arith in
            let at : (zs : List ℤ) → get_or (drop (k * n + n) zs) (a * n + b - (k * n + n)) (pos 0) ≡ get_or zs (a * n + b) (pos 0) = λ zs. get_or-drop (k * n + n) zs (a * n + b - (k * n + n)) (pos 0) ∙ ap (λ p. get_or zs p (pos 0)) is in
            sym (at written)
            ∙ ap (λ zs. get_or zs (a * n + b - (k * n + n)) (pos 0)) (drop-put_mid (k * n) (k * n + n - k * n) xs ys (k * n + n) (omega arith) start_in (omega (arith, long)))
            ∙ at xs)
      ]

      pub behind_written : drop (n * n) written ≡ drop (n * n) xs
      behind_written = drop-put_mid (k * n) (k * n + n - k * n) xs ys (n * n) (omega (arith, row_end)) start_in (omega (arith, long))
