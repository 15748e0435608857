-- Which links are kept between two leaders, and in which part of the table they stand.
use Rattle.std.proofs.Common.{◌≡◌, ℕ, ◌+◌, ◌<◌, ◌≤◌, true, false, ◌⊎◌, ◌↔◌, List, ℤ, Some, None, Ok, Err, Option, Result, sym, refl, ap, ◌∙◌, subst, inl, inr, arith, IsOkAnd, MatchOption, MatchResult}
use Rattle.std.proofs.lemmas.Bool.{cases_eq, both_ways}
use Rattle.network.specs.declared.tables.GroupEntry.{GroupEntry}
use Rattle.network.specs.declared.tables.Kind.{Kind}
use Rattle.network.specs.declared.tables.Kind.TheVariants.{Most, Least}
use Rattle.network.specs.declared.tables.Link.{Link}
use Rattle.queue.specs.declared.lent.Queue.{Queue}
use Rattle.queue.specs.Held.{held}
use Rattle.queue.proofs.Growing.{gained_as, gained_from_none}
use Rattle.queue.specs.Growing.{Gained}
use Rattle.network.specs.Order.{link_before}
use Rattle.network.specs.Groups.{is_leader}
use Rattle.network.specs.Links.{link_of, KeptAs, NotKept, Kept, KeptBetween, KeptFrom, LinkTable, held as links_in}

which_kind : (k : Kind) → (k ≡ Most) ⊎ (k ≡ Least)
which_kind Most = inl refl
which_kind Least = inr refl

module _ (n : ℕ) (d : ℕ → ℕ → ℤ) (gs : List GroupEntry) (p q : ℕ) where
  -- the link from p to q
  abbrev joining : Kind → ℕ → Link
  joining kind seconds = record { trigger = p; target = q; kind = kind; seconds = seconds }

  -- a kept link has the seconds of its gap
  same_seconds : (kind : Kind) (j k : ℕ) → KeptAs n d gs kind p q j → KeptAs n d gs kind p q k → j ≡ k
  same_seconds Most j k one two = one.1 ∙ sym two.1
  same_seconds Least j k one two = one.1 ∙ sym two.1

  -- the answer for one kind: the link that is kept, or that none is
  abbrev pub KeptOf : Kind → Option Link → Type 0
  KeptOf kind o = MatchOption o (NotKept n d gs kind p q) (λ x. (x ≡ link_of kind d p q) × KeptAs n d gs kind p q x.seconds)

  -- the link of a kind joins p to q
  joined : (kind : Kind) (x : Link) → x ≡ link_of kind d p q → x ≡ joining kind x.seconds
  joined Most x is = is ∙ ap (joining Most) (sym (ap (λ z. z.seconds) is))
  joined Least x is = is ∙ ap (joining Least) (sym (ap (λ z. z.seconds) is))

  -- what it says of a link
  pub record IsKept (kind : Kind) (x : Link) : Type 0 where
    pub from : x.trigger ≡ p
    pub to : x.target ≡ q
    pub as_kind : x.kind ≡ kind
    pub kept : KeptAs n d gs kind p q x.seconds

  found_kept : (kind : Kind) (o : Option Link) → KeptOf kind o → (x : Link) → o ≡ Some x → IsKept kind x
  found_kept kind None of x e = let z : ◌≡◌ {A = ℕ} 0 1 = cc in absurd (omega arith)
  found_kept kind (Some y) of x e =
      let same : y ≡ x = cc in
      let P : Link → Type 0 = λ z. (z ≡ joining kind z.seconds) × KeptAs n d gs kind p q z.seconds in
      let moved = subst P same (joined kind y of.0, of.1) in
      record { from = ap (λ z. z.trigger) moved.0; to = ap (λ z. z.target) moved.0; as_kind = ap (λ z. z.kind) moved.0; kept = moved.1 }

  kept_found : (kind : Kind) (o : Option Link) → KeptOf kind o → (x : Link) → IsKept kind x → o ≡ Some x
  kept_found kind None of x is = absurd (of x.seconds is.kept)
  kept_found kind (Some y) of x is =
      let from = is.from in
      let to = is.to in
      let as_kind = is.as_kind in
      let seconds : y.seconds ≡ x.seconds = same_seconds kind y.seconds x.seconds of.1 is.kept in
      let whole : joining kind y.seconds ≡ x = λ i. record { trigger = sym from i; target = sym to i; kind = sym as_kind i; seconds = seconds i } in
      ap Some (joined kind y of.0 ∙ whole)

  -- a kept link from p to q has one of the two kinds
  kept_as : (x : Link) → KeptBetween n d gs p q x → (kind : Kind) → x.kind ≡ kind → IsKept kind x
  kept_as x (k, from, to) kind is = record {
    from = from;
    to = to;
    as_kind = is;
    kept = (let P : Kind → ℕ → ℕ → Type 0 = λ k a b. KeptAs n d gs k a b x.seconds in
        subst (λ (b : ℕ). P kind p b) to (subst (λ (a : ℕ). P kind a x.target) from (subst (λ (j : Kind). P j x.trigger x.target) is k.kept)));
  }

  module _ (p_in : p < n) (q_in : q < n) (p_leads : is_leader gs p ≡ true) (q_leads : is_leader gs q ≡ true) (apart : q ≡ p → ⊥) where
    kept_between : (kind : Kind) (x : Link) → IsKept kind x → KeptBetween n d gs p q x
    kept_between kind x is =
        let from = is.from in
        let to = is.to in
        let as_kind = is.as_kind in (
          record {
            from_step = omega (arith, from);
            to_step = omega (arith, to);
            from_leader = ap (is_leader gs) from ∙ p_leads;
            to_leader = ap (is_leader gs) to ∙ q_leads;
            apart = λ e. apart (sym to ∙ e ∙ from);
            kept = (let P : Kind → ℕ → ℕ → Type 0 = λ k a b. KeptAs n d gs k a b x.seconds in
                subst (λ (b : ℕ). P x.kind x.trigger b) (sym to) (subst (λ (a : ℕ). P x.kind a q) (sym from) (subst (λ (j : Kind). P j p q) (sym as_kind) is.kept)));
          },
          from,
          to,
        )

    -- the kept links from p to q are the answers for the two kinds
    pub between_kinds : (most least : Option Link) → KeptOf Most most → KeptOf Least least → (x : Link) → KeptBetween n d gs p q x ↔ ((most ≡ Some x) ⊎ (least ≡ Some x))
    between_kinds most least of-most of-least x = (
      λ k. elim (which_kind x.kind) [
        | inl is ↦ inl (kept_found Most most of-most x (kept_as x k Most is))
        | inr is ↦ inr (kept_found Least least of-least x (kept_as x k Least is))
      ],
      λ s. elim s [ inl e ↦ kept_between Most x (found_kept Most most of-most x e) | inr e ↦ kept_between Least x (found_kept Least least of-least x e) ],
    )

  -- no link has both kinds
  pub kinds_apart : (most least : Option Link) → KeptOf Most most → KeptOf Least least → (x : Link) → most ≡ Some x → least ≡ Some x → ⊥
  kinds_apart most least of-most of-least x e f =
      let one = (found_kept Most most of-most x e).as_kind in
      let two = (found_kept Least least of-least x f).as_kind in
      let z : ◌≡◌ {A = ℕ} 0 1 = cc in omega arith

-- a push of the link that there is
pub gained_by_option : {A B : Type 0} (p q : Queue Link) (link : Option Link) (x : Link) (r : Result A B) → link ≡ Some x
    → MatchResult r (λ _. Gained link_before 1 (λ y. y ≡ x) p q) (λ _. ⊥) → IsOkAnd r (λ _. Gained link_before (links_in link) (λ y. link ≡ Some y) p q)
gained_by_option p q link x (Ok u) is gained =
    let P : Option Link → Type 0 = λ o. Gained link_before (links_in o) (λ y. o ≡ Some y) p q in
    subst P (sym is) (gained_as link_before 1 (λ y. y ≡ x) (λ y. Some x ≡ Some y) p q (λ y. (λ e. (let back : y ≡ x = cc in back), λ e. ap Some (sym e))) gained)
gained_by_option p q link x (Err e) is none = none

-- the links of a part of the table, step by step
module _ (n : ℕ) (d : ℕ → ℕ → ℤ) (gs : List GroupEntry) where
  -- one target more
  pub from_more : (p k : ℕ) (x : Link) → KeptFrom n d gs p (k + 1) x ↔ (KeptFrom n d gs p k x ⊎ KeptBetween n d gs p k x)
  from_more p k x = (
    λ h. elim (cases_eq x.target k) [ inl e ↦ inr (h.0, h.1, e) | inr ne ↦ inl (h.0, h.1, omega (arith, h.2)) ],
    λ s. elim s [ inl h ↦ (h.0, h.1, omega (arith, h.2)) | inr h ↦ (h.0, h.1, omega (arith, h.2)) ],
  )

  pub from_apart : (p k : ℕ) (x : Link) → KeptFrom n d gs p k x → KeptBetween n d gs p k x → ⊥
  from_apart p k x h b = omega (arith, h.2, b.2)

  -- a target that is the trigger, or leads no group, adds none
  pub from_skipped : (p k : ℕ) → (k ≡ p) ⊎ (is_leader gs k ≡ false) → (x : Link) → KeptBetween n d gs p k x → ⊥
  from_skipped p k (inl e) x b = b.0.apart (b.2 ∙ e ∙ sym b.1)
  from_skipped p k (inr e) x b = both_ways (is_leader gs k) e (sym (ap (is_leader gs) b.2) ∙ b.0.to_leader)

  -- the kept links with one of the first k triggers
  abbrev pub KeptBefore : ℕ → Link → Type 0
  KeptBefore k x = Kept n d gs x × (x.trigger < k)

  -- one trigger more
  pub before_more : (k : ℕ) (x : Link) → KeptBefore (k + 1) x ↔ (KeptBefore k x ⊎ KeptFrom n d gs k n x)
  before_more k x = (
    λ h. elim (cases_eq x.trigger k) [ inl e ↦ inr (h.0, e, h.0.to_step) | inr ne ↦ inl (h.0, omega (arith, h.1)) ],
    λ s. elim s [ inl h ↦ (h.0, omega (arith, h.1)) | inr h ↦ (h.0, omega (arith, h.1)) ],
  )

  pub before_apart : (k : ℕ) (x : Link) → KeptBefore k x → KeptFrom n d gs k n x → ⊥
  before_apart k x h f = omega (arith, h.1, f.1)

  -- a trigger that leads no group adds none
  pub before_skipped : (k : ℕ) → is_leader gs k ≡ false → (x : Link) → KeptFrom n d gs k n x → ⊥
  before_skipped k e x f = both_ways (is_leader gs k) e (sym (ap (is_leader gs) f.1) ∙ f.0.from_leader)

  -- a queue that was empty, and has the kept links of every trigger, holds the table
  pub table_held : (j k : ℕ) (p q : Queue Link) → n ≤ k → p.len ≡ 0 → Gained link_before j (KeptBefore k) p q → LinkTable n d gs (held q)
  table_held j k p q all empty gained =
      let (ascending, holds) = gained_from_none link_before j (KeptBefore k) p q empty gained in
      record {
        ascending = ascending;
        exact = λ x. (λ m. ((holds x).0 m).0, λ kept. (holds x).1 (kept, omega (arith, kept.from_step)));
      }
