-- How a queue grows, step by step.
use Rattle.std.proofs.Common.{◌≡◌, ℕ, ◌+◌, ◌<◌, ◌≤◌, Bool, ◌⊎◌, ◌↔◌, [], length, take, drop, Ok, Err, Result, sym, refl, ap, ◌∙◌, subst, inl, inr, arith, MatchResult}
use mathlib.Core.List.Memᴰ
use mathlib.Core.List.{Memᴰ}
use Rattle.queue.specs.declared.lent.Queue.{Queue}
use Rattle.queue.specs.Growing.{Gained}
use Rattle.queue.specs.Held.{held}
use Rattle.queue.specs.Order.{Strictly}
use Rattle.queue.proofs.Placing.{rest_onward}

module _ {X : Type 0} (lt : X → X → Bool) where
  -- nothing is added
  pub gained_none : (k : ℕ) (Added : X → Type 0) (p : Queue X) → ((x : X) → Added x → ⊥) → Gained lt k Added p p
  gained_none k Added p none = record {
    most = omega arith;
    least = omega arith;
    rest = refl;
    size = refl;
    same = refl;
    holds = λ x. (λ m. inr m, λ s. let out = none x in grind arith);
    strictly = λ up _. up;
  }

  -- what is added in two steps, where no entry is added twice
  pub gained_more : (j k m : ℕ) (P Q R : X → Type 0) (p q r : Queue X) → j + k ≤ m → ((x : X) → R x ↔ (P x ⊎ Q x)) → ((x : X) → P x → Q x → ⊥)
      → Gained lt j P p q → Gained lt k Q q r → Gained lt m R p r
  gained_more j k m P Q R p q r l parts once g h = record {
    most = omega (arith, g.most, h.most);
    least = omega (arith, g.least, h.least);
    rest = h.rest ∙ rest_onward q.len r.len q.slots.now p.slots.now h.least g.rest;
    size = h.size ∙ g.size;
    same = h.same ∙ g.same;
    holds = λ x. let a = h.holds x in let b = g.holds x in let c = parts x in (λ in_r. grind arith, λ s. grind arith);
    strictly = λ up new.
        h.strictly (g.strictly up (λ x first. new x ((parts x).1 (inl first))))
        (λ x second in_q. elim ((g.holds x).0 in_q) [ inl first ↦ once x first second | inr in_p ↦ new x ((parts x).1 (inr second)) in_p ]);
  }

  -- the same entries, otherwise described, or a queue that is the same
  pub gained_as : (k : ℕ) (P Q : X → Type 0) (p q : Queue X) → ((x : X) → Q x ↔ P x) → Gained lt k P p q → Gained lt k Q p q
  gained_as k P Q p q same g = record {
    most = g.most;
    least = g.least;
    rest = g.rest;
    size = g.size;
    same = g.same;
    holds = λ x. let a = g.holds x in let b = same x in (λ m. grind arith, λ s. grind arith);
    strictly = λ up new. g.strictly up (λ x a. new x ((same x).1 a));
  }

  pub gained_same : (k : ℕ) (P : X → Type 0) (p q r : Queue X) → r ≡ q → Gained lt k P p q → Gained lt k P p r
  gained_same k P p q r e g = let Q : Queue X → Type 0 = Gained lt k P p in subst Q (sym e) g

  -- a queue that was empty holds exactly what was added, in strict order
  pub gained_from_none : (k : ℕ) (P : X → Type 0) (p q : Queue X) → p.len ≡ 0 → Gained lt k P p q → Strictly lt (held q) × ((x : X) → Memᴰ x (held q) ↔ P x)
  gained_from_none k P p q empty g =
      let none : held p ≡ [] = ap (λ m. take m p.slots.now) empty in
      let outside : (x : X) → Memᴰ x (held p) → ⊥ = λ x m. Memᴰ.not-nil (subst (Memᴰ x) none m) in (
        g.strictly (subst (Strictly lt) (sym none) tt) (λ x _. outside x),
        λ x. let a = g.holds x in let b = outside x in (λ m. grind arith, λ added. grind arith),
      )

  -- what a push ensures, where there is room
  pub gained_by_push : {A B : Type 0} (p q : Queue X) (x : X) (r : Result A B) → p.len < length p.slots.now
      → MatchResult r (λ _. (p.len < length p.slots.now) × (q.len ≡ p.len + 1)) (λ _. (length p.slots.now ≤ p.len) × (q.len ≡ p.len))
      → drop q.len q.slots.now ≡ drop q.len p.slots.now
      → length q.slots.now ≡ length p.slots.now
      → q.slots.ghost_name ≡ p.slots.ghost_name
      → MatchResult r (λ _. (y : X) → Memᴰ y (held q) ↔ ((y ≡ x) ⊎ Memᴰ y (held p))) (λ _. held q ≡ held p)
      → (Strictly lt (held p) → (Memᴰ x (held p) → ⊥) → Strictly lt (held q))
      → MatchResult r (λ _. Gained lt 1 (λ y. y ≡ x) p q) (λ _. ⊥)
  gained_by_push p q x (Ok u) room count rest size same holds strictly = record {
    most = omega (arith, count.1);
    least = omega (arith, count.1);
    rest = rest;
    size = size;
    same = same;
    holds = holds;
    strictly = λ up new. strictly up (new x refl);
  }
  gained_by_push p q x (Err e) room count rest size same holds strictly = omega (arith, count.0, room)
