-- The list of what is due, step by step.
use Rattle.std.proofs.Common.{◌≡◌, ℕ, zero, suc, ◌+◌, ◌-◌, ◌≤◌, true, false, cond, not, ◌⊎◌, ◌↔◌, is_some, is_none, Some, None, Option, refl, add-zero, zero-add, sym, ap, ◌∙◌, subst, inl, inr, arith}
use mathlib.Core.List.{Memᴰ}
use Rattle.std.proofs.lemmas.Bool.{cases_eq}
use Rattle.std.proofs.lemmas.List.{map-id}
use Rattle.std.proofs.lemmas.List.FromFn.{sum_by-map-range_with_len_more}
use Rattle.network.specs.Order.{due_before}
use Rattle.network.specs.declared.due.DueEntry.{DueEntry}
use Rattle.queue.specs.Growing.{Gained}
use Rattle.queue.specs.Held.{held}
use Rattle.queue.specs.declared.lent.Queue.{Queue}
use Rattle.queue.proofs.Growing.{gained_from_none}
use Rattle.pacer.specs.declared.state.State.{State}
use Rattle.pacer.specs.declared.tables.Tables.{Tables}
use Rattle.pacer.specs.Due.{Due, DueTable, due_of, uncued_count}
use Rattle.pacer.specs.Rules.{upper_end}
use Rattle.pacer.specs.States.{cue_at}

-- what a test of an option says
none_from_test : {X : Type 0} (o : Option X) → is_some o ≡ false → o ≡ None
none_from_test None e = refl
none_from_test (Some x) e = cc

some_from_test : {X : Type 0} (o : Option X) → is_some o ≡ true → o ≡ None → ⊥
some_from_test None e n = cc
some_from_test (Some x) e n = cc

-- one step more, which is counted or not
count_more : (s : State) (k : ℕ) → uncued_count s (k + 1) ≡ uncued_count s k + cond (is_none (cue_at s k)) 1 0
count_more s k = simp map-id at (sum_by-map-range_with_len_more (λ step. cond (is_none (cue_at s step)) 1 0) (λ step. step) 0 k k (zero-add k))

pub count_uncued : (s : State) (k : ℕ) → is_some (cue_at s k) ≡ false → uncued_count s (k + 1) ≡ uncued_count s k + 1
count_uncued s k e = count_more s k ∙ ap (λ b. uncued_count s k + cond (not b) 1 0) e

pub count_cued : (s : State) (k : ℕ) → is_some (cue_at s k) ≡ true → uncued_count s (k + 1) ≡ uncued_count s k
count_cued s k e = count_more s k ∙ ap (λ b. uncued_count s k + cond (not b) 1 0) e ∙ omega arith

pub count_front : (s : State) (k n : ℕ) → k ≤ n → uncued_count s k ≤ uncued_count s n
count_front s k n l = let whole : k + (n - k) ≡ n = omega arith in subst (λ (m : ℕ). uncued_count s k ≤ uncued_count s m) whole (go (n - k))
  where
    go : (d : ℕ) → uncued_count s k ≤ uncued_count s (k + d)
    go zero = omega (arith, ap (uncued_count s) (add-zero k))
    go (suc d) = let next : k + suc d ≡ k + d + 1 = omega arith in omega (arith, go d, count_more s (k + d), ap (uncued_count s) next)

module _ (t : Tables) (s : State) where
  -- a step that is not cued is due
  pub due_more : (k : ℕ) → is_some (cue_at s k) ≡ false → (x : DueEntry) → Due (k + 1) t s x ↔ (Due k t s x ⊎ (x ≡ due_of t s k))
  due_more k e x = (
    λ due. elim (cases_eq x.step k) [
      | inl is ↦ inr (let upper : x.upper ≡ upper_end t s k = due.1 ∙ ap (upper_end t s) is in λ i. record { step = is i; upper = upper i })
      | inr ne ↦ inl (record { inside = omega (arith, due.0.inside); waiting = due.0.waiting }, due.1)
    ],
    λ either. elim either [
      | inl due ↦ (record { inside = omega (arith, due.0.inside); waiting = due.0.waiting }, due.1)
      | inr is ↦ (
          let step : x.step ≡ k = ap (λ y. y.step) is in
          (record { inside = omega (arith, step); waiting = ap (cue_at s) step ∙ none_from_test (cue_at s k) e }, ap (λ y. y.upper) is ∙ ap (upper_end t s) (sym step)))
    ],
  )

  pub due_apart : (k : ℕ) (x : DueEntry) → Due k t s x → x ≡ due_of t s k → ⊥
  due_apart k x due is = omega (arith, due.0.inside, ap (λ y. y.step) is)

  -- a step that is cued is not
  pub due_skipped : (k : ℕ) → is_some (cue_at s k) ≡ true → (x : DueEntry) → Due (k + 1) t s x ↔ Due k t s x
  due_skipped k e x = (
    λ due. elim (cases_eq x.step k) [
      | inl is ↦ absurd (some_from_test (cue_at s k) e (ap (cue_at s) (sym is) ∙ due.0.waiting))
      | inr ne ↦ (record { inside = omega (arith, due.0.inside); waiting = due.0.waiting }, due.1)
    ],
    λ due. (record { inside = omega (arith, due.0.inside); waiting = due.0.waiting }, due.1),
  )

  -- a queue that was empty, and has the entry of every due step, holds the table
  pub table_held : (j k : ℕ) (p q : Queue DueEntry) → k ≡ t.steps → p.len ≡ 0 → Gained due_before j (Due k t s) p q → DueTable t s (held q)
  table_held j k p q all empty gained =
      let (ascending, holds) = gained_from_none due_before j (Due k t s) p q empty gained in
      record { ascending = ascending; exact = subst (λ (i : ℕ). (x : DueEntry) → Memᴰ x (held q) ↔ Due i t s x) all holds }
