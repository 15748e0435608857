-- The search for the leader of a group, and the table of groups as it is filled.
use Rattle.std.proofs.Common.{◌≡◌, ℕ, ◌+◌, ◌<◌, ◌≤◌, cond, eqb, ◌↔◌, List, ◌++◌, length, set, ℤ, pos, ◌≤ℤ◌, ◌<ℤ◌, sym, ap, ◌∙◌, inl, inr, arith}
use Rattle.std.proofs.lemmas.List.{get_or-set_same, get_or-set_other, get_or_append_left}
use Rattle.std.proofs.lemmas.Int.{ints}
use Rattle.std.proofs.lemmas.Bool.{cases_eq}
use Rattle.network.specs.declared.tables.GroupEntry.{GroupEntry}
use Rattle.network.specs.Gaps.{Closed}
use Rattle.network.specs.Groups.{Rigid, Leads, group_at, is_leader, Grouped, leaders, GroupTable}
use Rattle.network.proofs.Counting.{sum_more, sum_same, sum_tests}

-- of the members from k on, the leader is the lowest-numbered of the earliest, unless none is as early as the step itself
pub record LeaderSoFar (n : ℕ) (d : ℕ → ℕ → ℤ) (step leader k : ℕ) : Type 0 where
  pub inside : leader < n
  pub member : Rigid d step leader
  pub earliest : (x : ℕ) → k ≤ x → x < n → Rigid d step x → d step leader ≤ℤ d step x
  pub lowest : (x : ℕ) → k ≤ x → x < n → Rigid d step x → d step x ≤ℤ d step leader → leader ≤ x

module _ (n : ℕ) (d : ℕ → ℕ → ℤ) (closed : Closed n d) (step : ℕ) (step_in : step < n) where
  -- the step k is as early a member: it leads
  pub leader_new : (leader k : ℕ) → k < n → LeaderSoFar n d step leader (k + 1) → Rigid d step k → d step k ≤ℤ d step leader → LeaderSoFar n d step k k
  leader_new leader k k_in far rigid early = record {
    inside = k_in;
    member = rigid;
    earliest = λ x p q r. elim (cases_eq x k) [
      | inl h ↦ omega (arith, ints, ap (d step) h)
      | inr h ↦ omega (arith, ints, early, far.earliest x (omega arith) q r)
    ];
    lowest = λ x p q r e. p;
  }

  -- the step k is no member, or comes after the leader: the leader stays
  pub leader_kept : (leader k : ℕ) → LeaderSoFar n d step leader (k + 1) → (Rigid d step k → d step leader <ℤ d step k) → LeaderSoFar n d step leader k
  leader_kept leader k far late = record {
    inside = far.inside;
    member = far.member;
    earliest = λ x p q r. elim (cases_eq x k) [
      | inl h ↦ (let l = late (rw h at r) in omega (arith, ints, l, ap (d step) h))
      | inr h ↦ far.earliest x (omega arith) q r
    ];
    lowest = λ x p q r e. elim (cases_eq x k) [
      | inl h ↦ (let l = late (rw h at r) in absurd (omega (arith, ints, l, e, ap (d step) h)))
      | inr h ↦ far.lowest x (omega arith) q r e
    ];
  }

  -- once every step has been seen, the leader leads
  pub leader_found : (leader k : ℕ) → k ≡ 0 → LeaderSoFar n d step leader k → Leads n d step leader
  leader_found leader k none far = record {
    step = far.inside;
    member = far.member;
    earliest = λ x p r. omega (arith, ints, far.earliest x (omega arith) p r, closed.triangle leader step x far.inside step_in p);
    lowest = λ x p r early.
        far.lowest x (omega arith) p r
        (omega (arith, ints, r, early leader far.inside far.member, closed.triangle step x leader step_in p far.inside));
  }

-- a group has one leader
module _ (n : ℕ) (d : ℕ → ℕ → ℤ) (closed : Closed n d) where
  rigid_onward : (i j k : ℕ) → i < n → j < n → k < n → Rigid d i j → Rigid d j k → Rigid d i k
  rigid_onward i j k p q r ij jk =
      let forth = closed.triangle j i k q p r in
      let back = closed.triangle j k i q r p in
      let round = closed.triangle k i i r p p in
      omega (arith, ints, ij, jk, forth, back, round, closed.settled.diagonal i p)

  rigid_back : (i j : ℕ) → Rigid d i j → Rigid d j i
  rigid_back i j ij = omega (arith, ints, ij)

  -- the leader of i is not above any leader of a step of its group
  leader_not_above : (i j x y : ℕ) → i < n → j < n → Rigid d i j → Leads n d i x → Leads n d j y → x ≤ y
  leader_not_above i j x y p q ij lead-i lead-j =
      lead-i.lowest y lead-j.step (rigid_onward i j y p q lead-j.step ij lead-j.member)
      (λ z r iz. lead-j.earliest z r (rigid_onward j i z q p r (rigid_back i j ij) iz))

  pub one_leader : (i j x y : ℕ) → i < n → j < n → Leads n d i x → Leads n d j y → (x ≡ y) ↔ Rigid d i j
  one_leader i j x y p q lead-i lead-j = (
    λ e. rigid_onward i x j p lead-i.step q lead-i.member (rigid_back j x (rw (← e) at lead-j.member)),
    λ ij. omega (arith, leader_not_above i j x y p q ij lead-i lead-j, leader_not_above j i y x q p (rigid_back i j ij) lead-j lead-i),
  )

-- a leader is not after the members of its group
pub offset_above : (n : ℕ) (d : ℕ → ℕ → ℤ) (step leader : ℕ) → Closed n d → step < n → Leads n d step leader → pos 0 ≤ℤ d leader step
offset_above n d step leader closed step_in leads = leads.earliest step step_in (omega (arith, ints, closed.settled.diagonal step step_in))

-- the entries below k stand in the table, and the groups among them are counted
pub record GroupsSoFar (n : ℕ) (d : ℕ → ℕ → ℤ) (gs : List GroupEntry) (count k : ℕ) : Type 0 where
  pub each : (i : ℕ) → i < k → Grouped n d gs i
  pub counted : count ≡ leaders gs k

-- there are no more groups than steps
pub groups_few : (n : ℕ) (d : ℕ → ℕ → ℤ) (gs : List GroupEntry) (count k : ℕ) → GroupsSoFar n d gs count k → count ≤ k
groups_few n d gs count k far = omega (arith, far.counted, sum_tests (is_leader gs) k)

pub groups_all : (n : ℕ) (d : ℕ → ℕ → ℤ) (gs : List GroupEntry) (count k : ℕ) → Closed n d → k ≡ n → GroupsSoFar n d gs count k → GroupTable n d gs count
groups_all n d gs count k closed all far = record {
  each = λ i l. far.each i (omega arith);
  one_leader = λ i j p q. one_leader n d closed i j _ _ p q (far.each i (omega arith)).leads (far.each j (omega arith)).leads;
  count = far.counted ∙ ap (leaders gs) all;
}

grouped_same : (n : ℕ) (d : ℕ → ℕ → ℤ) (gs hs : List GroupEntry) (i : ℕ) → group_at hs i ≡ group_at gs i → Grouped n d gs i → Grouped n d hs i
grouped_same n d gs hs i same g = record {
  leads = rw same g.leads;
  offset = rw same g.offset;
}

module _ (n : ℕ) (d : ℕ → ℕ → ℤ) (gs : List GroupEntry) (count k : ℕ) (k_in : k < length gs) (e : GroupEntry) where
  here : group_at (set gs k e) k ≡ e
  here = get_or-set_same gs k e _ k_in

  before : (i : ℕ) → i < k → group_at (set gs k e) i ≡ group_at gs i
  before i l = get_or-set_other gs k i e _ (λ z. omega (arith, z))

  pub groups_more : (count' : ℕ) → GroupsSoFar n d gs count k → Leads n d k e.leader → pos e.offset ≡ d e.leader k → count' ≡ count + cond (eqb e.leader k) 1 0 → GroupsSoFar n d (set gs k e) count' (k + 1)
  groups_more count' far leads offset is = record {
    each = λ i l. elim (cases_eq i k) [
      | inl h ↦ rw h record { leads = rw here leads; offset = rw here offset }
      | inr h ↦ grouped_same n d gs (set gs k e) i (before i (omega arith)) (far.each i (omega arith))
    ];
    counted = is
        ∙ ap (λ c. c + cond (eqb e.leader k) 1 0) (far.counted ∙ sum_same _ _ k (λ i l. ap (λ g. cond (eqb g.leader i) 1 0) (sym (before i l))))
        ∙ ap (λ g. leaders (set gs k e) k + cond (eqb g.leader k) 1 0) (sym here)
        ∙ sym (sum_more _ k);
  }

-- the entries of a list that begins with such a front
pub groups_front : (n : ℕ) (d : ℕ → ℕ → ℤ) (front rest : List GroupEntry) (count k : ℕ) → k ≤ length front → GroupsSoFar n d front count k → GroupsSoFar n d (front ++ rest) count k
groups_front n d front rest count k fits far =
    let same : (i : ℕ) → i < k → group_at (front ++ rest) i ≡ group_at front i = λ i l. get_or_append_left front rest _ i (omega arith) in
    record {
      each = λ i l. grouped_same n d front (front ++ rest) i (same i l) (far.each i l);
      counted = far.counted ∙ sum_same _ _ k (λ i l. ap (λ g. cond (eqb g.leader i) 1 0) (sym (same i l)));
    }
