-- A row that is lowered column by column, and what a stage of the closure keeps.
use Rattle.std.proofs.Common.{◌≡◌, ℕ, ◌+◌, ◌-◌, ◌*◌, ◌<◌, ◌≤◌, List, length, set, ℤ, pos, ◌+ℤ◌, neg_ℤ, ◌≤ℤ◌, ap, ◌∙◌, inl, inr, arith}
use Rattle.std.specs.Int.{int_min}
use Rattle.std.proofs.lemmas.Int.{ints, clamps}
use Rattle.std.proofs.lemmas.Bool.{cases_eq}
use Rattle.bounds.specs.Limits.{horizon}
use Rattle.std.proofs.lemmas.List.{get_or-set_same, get_or-set_other}
use Rattle.network.proofs.Places.{row_of, row_read, entry_written, entry_unwritten}
use borrow.Rule.Slice.PartMut.{put_mid}
use Rattle.network.specs.Grid.{entry_at, RowLowered, Rough}
use Rattle.network.specs.Lines.{Near, Possible, number_at}

-- the numbers of a row below j are lowered
pub record RowSoFar (xs ys : List ℤ) (t : ℤ) (vs : List ℤ) (j : ℕ) : Type 0 where
  pub done : (b : ℕ) → b < j → number_at ys b ≡ int_min (number_at xs b) (t +ℤ number_at vs b)
  pub todo : (b : ℕ) → j ≤ b → number_at ys b ≡ number_at xs b

-- the rows before i are relaxed
pub record StageSoFar (n : ℕ) (d e : ℕ → ℕ → ℤ) (k i : ℕ) : Type 0 where
  pub rough : Rough n e
  pub done : (a b : ℕ) → a < i → b < n → e a b ≡ int_min (d a b) (d a k +ℤ d k b)
  pub todo : (a b : ℕ) → i ≤ a → a < n → b < n → e a b ≡ d a b

pub row_more : (xs ys : List ℤ) (t : ℤ) (vs : List ℤ) (j : ℕ) → RowSoFar xs ys t vs j → (m : ℤ) → j < length ys → m ≡ int_min (number_at ys j) (t +ℤ number_at vs j) → RowSoFar xs (set ys j m) t vs (j + 1)
row_more xs ys t vs j far m j-in is = record {
  done = λ b l. elim (cases_eq b j) [
    | inl h ↦ rw h (get_or-set_same ys j m (pos 0) j-in ∙ is ∙ (rw (far.todo j (omega arith))))
    | inr h ↦ get_or-set_other ys j b m (pos 0) h ∙ far.done b (omega arith)
  ];
  todo = λ b l. get_or-set_other ys j b m (pos 0) (λ z. omega (arith, z)) ∙ far.todo b (omega arith);
}

-- once every number of row k is lowered, the table has it so
pub row_all : (n k : ℕ) (xs ys : List ℤ) (t : ℤ) (vs : List ℤ) (j : ℕ) → k < n → n * n ≤ length xs → length ys ≡ n → n ≤ j → RowSoFar (row_of n k xs) ys t vs j
    → RowLowered n (entry_at n xs) (entry_at n (put_mid (k * n) (k * n + n - k * n) xs ys)) k t (number_at vs)
row_all n k xs ys t vs j k_in room long all far = record {
  here = λ b q. entry_written n k k_in xs room ys long b q ∙ far.done b (omega arith) ∙ ap (λ z. int_min z (t +ℤ number_at vs b)) (row_read n k b xs q);
  rest = entry_unwritten n k k_in xs room ys long;
}

-- a table stays rough as a row is lowered
rough_row : (n : ℕ) (d e : ℕ → ℕ → ℤ) (i : ℕ) (t : ℤ) (v : ℕ → ℤ) → i < n → neg_ℤ (pos horizon) ≤ℤ t → Near n v → RowLowered n d e i t v → Rough n d → Rough n e
rough_row n d e i t v i-in low near row rough = record {
  low = λ a b p q. elim (cases_eq a i) [
    | inl h ↦ rw h (omega (arith, ints, clamps, row.here b q, rough.low i b i-in q, (near b q).0))
    | inr h ↦ omega (arith, ints, row.rest a b p q h, rough.low a b p q)
  ];
  high = λ a b p q. elim (cases_eq a i) [
    | inl h ↦ rw h (omega (arith, ints, clamps, row.here b q, rough.high i b i-in q))
    | inr h ↦ omega (arith, ints, row.rest a b p q h, rough.high a b p q)
  ];
  diagonal = λ a p. elim (cases_eq a i) [
    | inl h ↦ rw h (omega (arith, ints, clamps, row.here i i-in, rough.diagonal i i-in))
    | inr h ↦ omega (arith, ints, row.rest a a p p h, rough.diagonal a p)
  ];
}

-- the loop over the rows of a stage
pub stage_more : (n : ℕ) (d e : ℕ → ℕ → ℤ) (k i : ℕ) (t : ℤ) (v : ℕ → ℤ) → k < n → i < n → StageSoFar n d e k i → neg_ℤ (pos horizon) ≤ℤ t → Near n v
    → t ≡ e i k → ((b : ℕ) → b < n → v b ≡ d k b) → (e' : ℕ → ℕ → ℤ) → RowLowered n e e' i t v → StageSoFar n d e' k (i + 1)
stage_more n d e k i t v k_in i-in far low near is line e' row = record {
  rough = rough_row n e e' i t v i-in low near row far.rough;
  done = λ a b l q. elim (cases_eq a i) [
    | inl h ↦ rw h (row.here b q ∙ rw (is, far.todo i k (omega arith) i-in k_in, far.todo i b (omega arith) i-in q, line b q))
    | inr h ↦ row.rest a b (omega arith) q h ∙ far.done a b (omega arith) q
  ];
  todo = λ a b l p q. row.rest a b p q (λ z. omega (arith, z)) ∙ far.todo a b (omega arith) p q;
}

-- a possible row that is rough is near
pub near_line : (n : ℕ) (v w : ℕ → ℤ) (k : ℕ) → ((b : ℕ) → b < n → v b ≡ w b) → ((b : ℕ) → b < n → w b ≤ℤ pos horizon) → Possible n w k → Near n v
near_line n v w k same high fine b q = (omega (arith, ints, same b q, fine.low b q), omega (arith, ints, same b q, high b q))
