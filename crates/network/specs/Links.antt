-- The links between leaders, which of them are kept, and the table of the kept ones.
use Rattle.std.specs.Prelude.{◌≡◌, ℕ, ◌<◌, true, cond, ◌↔◌, List, ℤ, pos, ◌+ℤ◌, ◌≤ℤ◌, ◌<ℤ◌, is_some, Option, ◌≢◌, unsigned_abs}
use mathlib.Core.List.{Memᴰ}
use Rattle.queue.specs.Order.{Strictly}
use Rattle.network.specs.declared.tables.GroupEntry.{GroupEntry}
use Rattle.network.specs.declared.tables.Kind.{Kind}
use Rattle.network.specs.declared.tables.Kind.TheVariants.{Most, Least}
use Rattle.network.specs.declared.tables.Link.{Link}
use Rattle.network.specs.Groups.{is_leader}
use Rattle.network.specs.Order.{link_before}

-- b lies on a longest way from a to c, on the far side of a gap that is not below 0, on the near side of one that is
pub record Dominates (d : ℕ → ℕ → ℤ) (a b c : ℕ) : Type 0 where
  pub sum : (d a b +ℤ d b c) ≡ d a c
  pub far : pos 0 ≤ℤ d a c → pos 0 ≤ℤ d b c
  pub near : d a c <ℤ pos 0 → d a b <ℤ pos 0

-- a third leader dominates the gap from a to c
abbrev pub Dominated : ℕ → (ℕ → ℕ → ℤ) → List GroupEntry → ℕ → ℕ → Type 0
Dominated n d gs a c = (b : ℕ) × (b < n) × (b ≢ a) × (b ≢ c) × (is_leader gs b ≡ true) × Dominates d a b c

-- the target is at most d(p, q) seconds after the trigger
abbrev pub most_link : (ℕ → ℕ → ℤ) → ℕ → ℕ → Link
most_link d p q = record { trigger = p; target = q; kind = Most; seconds = unsigned_abs (d p q) }

-- the target is at least −d(q, p) seconds after the trigger
abbrev pub least_link : (ℕ → ℕ → ℤ) → ℕ → ℕ → Link
least_link d p q = record { trigger = p; target = q; kind = Least; seconds = unsigned_abs (d q p) }

-- the link of a kind from p to q
abbrev pub link_of : Kind → (ℕ → ℕ → ℤ) → ℕ → ℕ → Link
link_of Most d p q = most_link d p q
link_of Least d p q = least_link d p q

-- the most link from leader p to leader q is kept
pub record MostKept (n : ℕ) (d : ℕ → ℕ → ℤ) (gs : List GroupEntry) (p q : ℕ) : Type 0 where
  pub onward : q ≡ 0 → ⊥
  pub forth : pos 0 ≤ℤ d p q
  pub needed : Dominated n d gs p q → ⊥

-- the least link from leader p to leader q is kept
pub record LeastKept (n : ℕ) (d : ℕ → ℕ → ℤ) (gs : List GroupEntry) (p q : ℕ) : Type 0 where
  pub back : d q p <ℤ pos 0
  pub needed : Dominated n d gs q p → ⊥

-- a link of a kind from leader p to leader q is kept, and has the seconds of its gap, without the sign
abbrev pub KeptAs : ℕ → (ℕ → ℕ → ℤ) → List GroupEntry → Kind → ℕ → ℕ → ℕ → Type 0
KeptAs n d gs Most p q seconds = MostKept n d gs p q × (seconds ≡ unsigned_abs (d p q))
KeptAs n d gs Least p q seconds = LeastKept n d gs p q × (seconds ≡ unsigned_abs (d q p))

-- no link of a kind from leader p to leader q is kept
abbrev pub NotKept : ℕ → (ℕ → ℕ → ℤ) → List GroupEntry → Kind → ℕ → ℕ → Type 0
NotKept n d gs kind p q = (seconds : ℕ) → KeptAs n d gs kind p q seconds → ⊥

-- the link joins two different leaders, and is kept
pub record Kept (n : ℕ) (d : ℕ → ℕ → ℤ) (gs : List GroupEntry) (x : Link) : Type 0 where
  pub from_step : x.trigger < n
  pub to_step : x.target < n
  pub from_leader : is_leader gs x.trigger ≡ true
  pub to_leader : is_leader gs x.target ≡ true
  pub apart : x.target ≡ x.trigger → ⊥
  pub kept : KeptAs n d gs x.kind x.trigger x.target x.seconds

-- the kept links from p to q
abbrev pub KeptBetween : ℕ → (ℕ → ℕ → ℤ) → List GroupEntry → ℕ → ℕ → Link → Type 0
KeptBetween n d gs p q x = Kept n d gs x × (x.trigger ≡ p) × (x.target ≡ q)

-- the kept links from p to one of the first k steps
abbrev pub KeptFrom : ℕ → (ℕ → ℕ → ℤ) → List GroupEntry → ℕ → ℕ → Link → Type 0
KeptFrom n d gs p k x = Kept n d gs x × (x.trigger ≡ p) × (x.target < k)

-- the links are exactly the kept ones, each once, in their order
pub record LinkTable (n : ℕ) (d : ℕ → ℕ → ℤ) (gs : List GroupEntry) (links : List Link) : Type 0 where
  pub ascending : Strictly link_before links
  pub exact : (x : Link) → Memᴰ x links ↔ Kept n d gs x

-- one link, or none
abbrev pub held : Option Link → ℕ
held o = cond (is_some o) 1 0
