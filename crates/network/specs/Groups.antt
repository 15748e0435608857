-- The rigid groups, and the table that names the group of each step.
use Rattle.std.specs.Prelude.{◌≡◌, ℕ, ◌<◌, ◌≤◌, Bool, cond, ◌↔◌, List, ℤ, pos, ◌+ℤ◌, ◌≤ℤ◌, ◌==◌, slice_index_or}
use Rattle.network.specs.declared.tables.GroupEntry.{GroupEntry}
use Rattle.network.specs.Counting.{sum_below}

-- two steps are in one group: neither can move against the other
abbrev pub Rigid : (ℕ → ℕ → ℤ) → ℕ → ℕ → Type 0
Rigid d i j = (d i j +ℤ d j i) ≡ pos 0

-- no member of the group of i comes before x
abbrev pub Earliest : ℕ → (ℕ → ℕ → ℤ) → ℕ → ℕ → Type 0
Earliest n d i x = (y : ℕ) → y < n → Rigid d i y → pos 0 ≤ℤ d x y

-- x leads the group of i: of its members that no member comes before, the one with the lowest number
pub record Leads (n : ℕ) (d : ℕ → ℕ → ℤ) (i x : ℕ) : Type 0 where
  pub step : x < n
  pub member : Rigid d i x
  pub earliest : Earliest n d i x
  pub lowest : (y : ℕ) → y < n → Rigid d i y → Earliest n d i y → x ≤ y

-- the entry of a step
abbrev pub group_at : List GroupEntry → ℕ → GroupEntry
group_at gs i = slice_index_or gs i (record { leader = 0; offset = 0 })

-- a step is the leader of its own group
abbrev pub is_leader : List GroupEntry → ℕ → Bool
is_leader gs i = (slice_index_or gs i (record { leader = 0; offset = 0 })).leader == i

-- the entry of step i has the leader of its group, and the seconds from the leader to the step
pub record Grouped (n : ℕ) (d : ℕ → ℕ → ℤ) (gs : List GroupEntry) (i : ℕ) : Type 0 where
  pub leads : Leads n d i (group_at gs i).leader
  pub offset : pos (group_at gs i).offset ≡ d (group_at gs i).leader i

-- how many of the first n steps lead a group
abbrev pub leaders : List GroupEntry → ℕ → ℕ
leaders gs n = sum_below (λ i. cond (is_leader gs i) 1 0) n

-- the table has the group of each of the n steps, two steps have one leader exactly when they are in one group, and there are k groups
pub record GroupTable (n : ℕ) (d : ℕ → ℕ → ℤ) (gs : List GroupEntry) (k : ℕ) : Type 0 where
  pub each : (i : ℕ) → i < n → Grouped n d gs i
  pub one_leader : (i j : ℕ) → i < n → j < n → ((group_at gs i).leader ≡ (group_at gs j).leader) ↔ Rigid d i j
  pub count : k ≡ leaders gs n
