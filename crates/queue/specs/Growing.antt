-- A queue that grows over its lent slots.
use Rattle.std.specs.Prelude.{◌≡◌, ℕ, ◌+◌, ◌≤◌, Bool, ◌⊎◌, ◌↔◌, length, drop}
use mathlib.Core.List.{Memᴰ}
use Rattle.queue.specs.declared.lent.Queue.{Queue}
use Rattle.queue.specs.Held.{held}
use Rattle.queue.specs.Order.{Strictly}

-- q holds the entries of p and those that are Added, at most k more, over the same slots; the slots behind them are as they were
pub record Gained {X : Type 0} (lt : X → X → Bool) (k : ℕ) (Added : X → Type 0) (p q : Queue X) : Type 0 where
  pub most : q.len ≤ p.len + k
  pub least : p.len ≤ q.len
  pub rest : drop q.len q.slots.now ≡ drop q.len p.slots.now
  pub size : length q.slots.now ≡ length p.slots.now
  pub same : q.slots.ghost_name ≡ p.slots.ghost_name
  pub holds : (x : X) → Memᴰ x (held q) ↔ (Added x ⊎ Memᴰ x (held p))
  pub strictly : Strictly lt (held p) → ((x : X) → Added x → Memᴰ x (held p) → ⊥) → Strictly lt (held q)
