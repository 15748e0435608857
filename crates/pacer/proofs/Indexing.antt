-- The index stays right, and what it is good for.
use Rattle.std.proofs.Common.{◌≡◌, ℕ, zero, suc, ◌+◌, ◌-◌, ◌<◌, ◌≤◌, Bool, true, false, cond, ◌&&◌, eqb, ◌↔◌, List, [], ◌∷◌, length, get_or, count_by, take, drop, set, sym, refl, ap, ◌∙◌, inl, inr, arith, length-set}
use Rattle.std.proofs.lemmas.List.Sums.{sum_by-cons}
use Rattle.std.proofs.lemmas.List.{get_or-set_same, get_or-set_other, set_past}
use Rattle.std.proofs.lemmas.Bool.{cases_eq, cases_lt, cases_Bool, eq-eqb, ne_eqb, eqb-true, cond-true, cond-false, cond_both}
use Rattle.bounds.specs.Limits.{most_steps}
use Rattle.network.specs.declared.tables.Kind.{Kind}
use Rattle.network.specs.declared.tables.Kind.TheVariants.{Most, Least}
use Rattle.network.specs.declared.tables.Link.{Link}
use Rattle.pacer.specs.declared.group.Group.{Group}
use Rattle.pacer.specs.declared.group.Group.TheVariants.{Open, Fixed}
use Rattle.pacer.specs.declared.state.State.{State}
use Rattle.pacer.specs.declared.tables.Tables.{Tables}
use Rattle.network.specs.Groups.{group_at as entry_of}
use Rattle.pacer.specs.Calls.{cued, settled}
use Rattle.pacer.specs.Fixing.{after_link, applied, fixed, no_link, one_wait_less, own_links, span_at}
use Rattle.pacer.specs.Groups.{is_open, narrowed, no_group}
use Rattle.pacer.specs.Index.{is_least, least_onto, holds_back, Indexed, Plain}
use Rattle.pacer.specs.States.{group_at, waits_at, with_group}

-- a link with this trigger
abbrev own : ℕ → Link → Bool
own leader k = eqb k.trigger leader

-- links outside a part do nothing where each that does something stands in the part
applied_none : (leader time : ℕ) (ks : List Link) (s : State) → ((i : ℕ) → i < length ks → own leader (get_or ks i no_link) ≡ true → ⊥) → applied leader time ks s ≡ s
applied_none leader time [] s none = refl
applied_none leader time (k ∷ ks) s none = elim (cases_Bool (own leader k)) [
  | inl e ↦ absurd (none 0 (omega arith) e)
  | inr e ↦ ap (applied leader time ks) (cond-false (own leader k) _ _ e) ∙ applied_none leader time ks s (λ i l. none (suc i) (omega arith))
]

applied_part : (leader time a b : ℕ) (ks : List Link) (s : State) → ((i : ℕ) → i < length ks → own leader (get_or ks i no_link) ≡ true → (a ≤ i) × (i < b))
    → applied leader time (drop a (take b ks)) s ≡ applied leader time ks s
applied_part leader time zero zero ks s inside = sym (applied_none leader time ks s (λ i l e. omega (arith, (inside i l e).1)))
applied_part leader time (suc a) zero ks s inside = sym (applied_none leader time ks s (λ i l e. omega (arith, (inside i l e).1)))
applied_part leader time zero (suc b) [] s inside = refl
applied_part leader time (suc a) (suc b) [] s inside = refl
applied_part leader time zero (suc b) (k ∷ ks) s inside =
    applied_part leader time zero b ks (cond (own leader k) (after_link time k s) s) (λ i l e. (omega arith, omega (arith, (inside (suc i) (omega arith) e).1)))
applied_part leader time (suc a) (suc b) (k ∷ ks) s inside =
    applied_part leader time a b ks s (λ i l e. (let h = inside (suc i) (omega arith) e in (omega (arith, h.0), omega (arith, h.1))))
    ∙ ap (applied leader time ks) (sym (cond-false (own leader k) _ _ outside))
  where
    outside : own leader k ≡ false
    outside = elim (cases_Bool (own leader k)) [ inl e ↦ absurd (omega (arith, (inside 0 (omega arith) e).0)) | inr e ↦ e ]

-- whether a group is open does not depend on its window
open_narrowed : (kind : Kind) (bound : ℕ) (g : Group) → is_open (narrowed kind bound g) ≡ is_open g
open_narrowed Most bound (Open lower upper) = refl
open_narrowed Least bound (Open lower upper) = refl
open_narrowed Most bound (Fixed time) = refl
open_narrowed Least bound (Fixed time) = refl

-- one group altered
module _ (s : State) (leader : ℕ) (g : Group) where
  group_other : (x : ℕ) → (x ≡ leader → ⊥) → group_at (with_group s leader g) x ≡ group_at s x
  group_other x ne = get_or-set_other s.groups leader x g no_group ne

  group_same : leader < length s.groups → group_at (with_group s leader g) leader ≡ g
  group_same l = get_or-set_same s.groups leader g no_group l

  group_past : length s.groups ≤ leader → group_at (with_group s leader g) leader ≡ group_at s leader
  group_past l = ap (λ gs. get_or gs leader no_group) (set_past s.groups leader g l)

-- one wait less, for a least link
group_one_less : (kind : Kind) (target : ℕ) (s : State) (x : ℕ) → group_at (one_wait_less kind target s) x ≡ group_at s x
group_one_less Most target s x = refl
group_one_less Least target s x = refl

waits_one_less : (kind : Kind) (target : ℕ) (s : State) (g : ℕ) → g < length s.waits → waits_at (one_wait_less kind target s) g ≡ waits_at s g - cond (is_least kind && eqb target g) 1 0
waits_one_less Most target s g l = omega arith
waits_one_less Least target s g l = elim (cases_eq g target) [
  | inl e ↦ omega (
    arith,
    ap (λ x. get_or (set s.waits target (waits_at s target - 1)) x 0) e,
    get_or-set_same s.waits target (waits_at s target - 1) 0 (omega arith),
    ap (waits_at s) e,
    cond-true {A = ℕ} (eqb target g) 1 0 (eq-eqb target g (sym e)),
  )
  | inr ne ↦ omega (arith, get_or-set_other s.waits target g (waits_at s target - 1) 0 ne, cond-false {A = ℕ} (eqb target g) 1 0 (ne_eqb target g (λ e. ne (sym e))))
]

sizes_one_less : (kind : Kind) (target : ℕ) (s : State) → (length (one_wait_less kind target s).groups ≡ length s.groups) × (length (one_wait_less kind target s).waits ≡ length s.waits)
sizes_one_less Most target s = (refl, refl)
sizes_one_less Least target s = (refl, length-set s.waits target (waits_at s target - 1))

-- what one link does
module _ (time : ℕ) (k : Link) (s : State) where
  abbrev there : State
  there = with_group s k.target (narrowed k.kind (time + k.seconds) (group_at s k.target))

  open_after_link : (x : ℕ) → is_open (group_at (after_link time k s) x) ≡ is_open (group_at s x)
  open_after_link x = ap is_open (group_one_less k.kind k.target there x) ∙ elim (cases_eq x k.target) [
    | inl e ↦ ap (λ y. is_open (group_at there y)) e ∙ target_open ∙ ap (λ y. is_open (group_at s y)) (sym e)
    | inr ne ↦ ap is_open (group_other s k.target _ x ne)
  ]
    where
      target_open : is_open (group_at there k.target) ≡ is_open (group_at s k.target)
      target_open = elim (cases_lt k.target (length s.groups)) [
        | inl l ↦ ap is_open (group_same s k.target _ l) ∙ open_narrowed k.kind (time + k.seconds) (group_at s k.target)
        | inr past ↦ ap is_open (group_past s k.target _ past)
      ]

  waits_after_link : (g : ℕ) → g < length s.waits → waits_at (after_link time k s) g ≡ waits_at s g - cond (least_onto g k) 1 0
  waits_after_link g l = waits_one_less k.kind k.target there g l

  sizes_after_link : (length (after_link time k s).groups ≡ length s.groups) × (length (after_link time k s).waits ≡ length s.waits)
  sizes_after_link = (
    (sizes_one_less k.kind k.target there).0 ∙ length-set s.groups k.target (narrowed k.kind (time + k.seconds) (group_at s k.target)),
    (sizes_one_less k.kind k.target there).1,
  )

-- one link more is counted, or not
pub count-cons : (test : Link → Bool) (k : Link) (ks : List Link) → count_by test (k ∷ ks) ≡ cond (test k) 1 0 + count_by test ks
count-cons test k ks = sum_by-cons (λ k. cond (test k) 1 0) k ks

-- the least links onto a group that a leader triggers
abbrev own_onto : ℕ → ℕ → Link → Bool
own_onto leader g k = own leader k && least_onto g k

-- what all links of a trigger do
open_applied : (leader time : ℕ) (ks : List Link) (s : State) (x : ℕ) → is_open (group_at (applied leader time ks s) x) ≡ is_open (group_at s x)
open_applied leader time [] s x = refl
open_applied leader time (k ∷ ks) s x =
    open_applied leader time ks (cond (own leader k) (after_link time k s) s) x
    ∙ cond_both (own leader k) (after_link time k s) s (λ r. is_open (group_at r x) ≡ is_open (group_at s x)) (λ _. open_after_link time k s x) (λ _. refl)

sizes_applied : (leader time : ℕ) (ks : List Link) (s : State) → (length (applied leader time ks s).groups ≡ length s.groups) × (length (applied leader time ks s).waits ≡ length s.waits)
sizes_applied leader time [] s = (refl, refl)
sizes_applied leader time (k ∷ ks) s =
    let rest = sizes_applied leader time ks (cond (own leader k) (after_link time k s) s) in
    let here = cond_both (own leader k) (after_link time k s) s (λ r. (length r.groups ≡ length s.groups) × (length r.waits ≡ length s.waits)) (λ _. sizes_after_link time k s) (λ _. (refl, refl)) in
    (rest.0 ∙ here.0, rest.1 ∙ here.1)

waits_applied : (leader time : ℕ) (ks : List Link) (s : State) (g : ℕ) → g < length s.waits → waits_at (applied leader time ks s) g ≡ waits_at s g - count_by (own_onto leader g) ks
waits_applied leader time [] s g l = omega arith
waits_applied leader time (k ∷ ks) s g l =
    let next = cond (own leader k) (after_link time k s) s in
    let size : length next.waits ≡ length s.waits = cond_both (own leader k) (after_link time k s) s (λ r. length r.waits ≡ length s.waits) (λ _. (sizes_after_link time k s).1) (λ _. refl) in
    let here : waits_at next g ≡ waits_at s g - cond (own_onto leader g k) 1 0 =
    cond_both (own leader k) (after_link time k s) s (λ r. waits_at r g ≡ waits_at s g - cond (own_onto leader g k) 1 0)
    (λ e. waits_after_link time k s g l ∙ ap (λ b. waits_at s g - cond (b && least_onto g k) 1 0) (sym e))
    (λ e. (let none : ◌≡◌ {A = ℕ} (cond {A = ℕ} (own_onto leader g k) 1 0) 0 = ap (λ b. cond {A = ℕ} (b && least_onto g k) 1 0) e in omega arith)) in
    omega (arith, waits_applied leader time ks next g (omega arith), here, count-cons (own_onto leader g) k ks)

-- a link holds a group back before its trigger's group is fixed: it still does afterwards, or it was one of that trigger's
count_fixed : (leader g : ℕ) (s after : State) (ks : List Link) → is_open (group_at s leader) ≡ true → is_open (group_at after leader) ≡ false
    → ((x : ℕ) → (x ≡ leader → ⊥) → is_open (group_at after x) ≡ is_open (group_at s x))
    → count_by (holds_back s g) ks ≡ count_by (holds_back after g) ks + count_by (own_onto leader g) ks
count_fixed leader g s after [] was is others = refl
count_fixed leader g s after (k ∷ ks) was is others =
    let rest = count_fixed leader g s after ks was is others in
    let one : cond (holds_back s g k) 1 0 ≡ cond (holds_back after g k) 1 0 + cond (own_onto leader g k) 1 0 = elim (cases_eq k.trigger leader) [
      | inl e ↦ by_tests (least_onto g k) _ _ _ (ap (λ x. is_open (group_at s x)) e ∙ was) (ap (λ x. is_open (group_at after x)) e ∙ is) (eq-eqb _ _ e)
      | inr ne ↦ by_others (least_onto g k) _ _ _ (others k.trigger ne) (ne_eqb _ _ ne)
    ] in
    omega (arith, rest, one, count-cons (holds_back s g) k ks, count-cons (holds_back after g) k ks, count-cons (own_onto leader g) k ks)
  where
    by_tests : (least now later mine : Bool) → now ≡ true → later ≡ false → mine ≡ true → cond (least && now) 1 0 ≡ cond (least && later) 1 0 + cond (mine && least) 1 0
    by_tests true now later mine a b c = rw (a, b, c)
    by_tests false now later mine a b c = rw c

    by_others : (least now later mine : Bool) → later ≡ now → mine ≡ false → cond (least && now) 1 0 ≡ cond (least && later) 1 0 + cond (mine && least) 1 0
    by_others true now later mine a b = rw (a, b) (omega arith)
    by_others false now later mine a b = rw b

-- some link passes exactly when the count is not 0
count_some : (test : Link → Bool) (ks : List Link) → (0 < count_by test ks) ↔ ((i : ℕ) × (i < length ks) × (test (get_or ks i no_link) ≡ true))
count_some test [] = (λ l. absurd (omega arith), λ h. absurd (omega (arith, h.1)))
count_some test (k ∷ ks) = (forth (count_some test ks).0, back (count_some test ks).1)
  where
    forth : (0 < count_by test ks → (i : ℕ) × (i < length ks) × (test (get_or ks i no_link) ≡ true)) → 0 < count_by test (k ∷ ks) → (i : ℕ) × (i < length (k ∷ ks)) × (test (get_or (k ∷ ks) i no_link) ≡ true)
    forth rest l = elim (cases_Bool (test k)) [
      | inl e ↦ (0, omega arith, e)
      | inr e ↦ (let (i, q, at) = rest (omega (arith, l, count-cons test k ks, cond-false {A = ℕ} (test k) 1 0 e)) in (suc i, omega arith, at))
    ]

    back : ((i : ℕ) × (i < length ks) × (test (get_or ks i no_link) ≡ true) → 0 < count_by test ks) → (i : ℕ) × (i < length (k ∷ ks)) × (test (get_or (k ∷ ks) i no_link) ≡ true) → 0 < count_by test (k ∷ ks)
    back rest (zero, q, at) = omega (arith, count-cons test k ks, cond-true {A = ℕ} (test k) 1 0 at)
    back rest (suc i, q, at) = omega (arith, count-cons test k ks, rest (i, omega arith, at))

module _ (t : Tables) (s : State) (indexed : Indexed t s) where
  own_part : (leader time : ℕ) (before : State) → fixed leader time (own_links t leader) before ≡ fixed leader time t.links.now before
  own_part leader time before =
      applied_part leader time (span_at t.spans leader).start (span_at t.spans leader).end t.links.now (with_group before leader (Fixed time))
      (λ i l e. (
      let is : (get_or t.links.now i no_link).trigger ≡ leader = eqb-true _ _ e in
      let at = indexed.covers i l in
      (omega (arith, at.from, ap (λ x. (span_at t.spans x).start) is), omega (arith, at.to, ap (λ x. (span_at t.spans x).end) is))))

  pub indexed_plain : Plain t s
  indexed_plain = record {
    own = own_part;
    waits = λ leader l. (
        let is = indexed.counts leader l in
        let some = count_some (holds_back s leader) t.links.now in
        (λ h. some.0 (omega (arith, is)), λ h. omega (arith, is, some.1 h)));
  }

  -- an open group is fixed
  pub indexed_fixed : (leader time : ℕ) → leader < most_steps → is_open (group_at s leader) ≡ true → Indexed t (fixed leader time (own_links t leader) s)
  indexed_fixed leader time l was = rw (own_part leader time s) record {
    leaders = indexed.leaders;
    sized = record {
      groups = (sizes_applied leader time t.links.now there).0 ∙ length-set s.groups leader (Fixed time) ∙ indexed.sized.groups;
      waits = (sizes_applied leader time t.links.now there).1 ∙ indexed.sized.waits;
    };
    covers = indexed.covers;
    counts = λ g q. (
        let left = waits_applied leader time t.links.now there g (omega (arith, indexed.sized.waits)) in
        let split = count_fixed leader g s (fixed leader time t.links.now s) t.links.now was closed others in
        omega (arith, left, split, indexed.counts g q));
  }
    where
      there : State
      there = with_group s leader (Fixed time)

      closed : is_open (group_at (fixed leader time t.links.now s) leader) ≡ false
      closed = open_applied leader time t.links.now there leader ∙ ap is_open (group_same s leader (Fixed time) (omega (arith, indexed.sized.groups)))

      others : (x : ℕ) → (x ≡ leader → ⊥) → is_open (group_at (fixed leader time t.links.now s) x) ≡ is_open (group_at s x)
      others x ne = open_applied leader time t.links.now there x ∙ ap is_open (group_other s leader (Fixed time) x ne)

-- what else a call alters leaves the index right
pub indexed_same : (t : Tables) (s after : State) → after.groups ≡ s.groups → after.waits ≡ s.waits → Indexed t s → Indexed t after
indexed_same t s after groups waits indexed = record {
  leaders = indexed.leaders;
  sized = record { groups = ap length groups ∙ indexed.sized.groups; waits = ap length waits ∙ indexed.sized.waits };
  covers = indexed.covers;
  counts = λ g l. ap (λ ws. get_or ws g 0) waits ∙ indexed.counts g l ∙ ap (λ gs. count_by (λ k. least_onto g k && is_open (get_or gs k.trigger no_group)) t.links.now) (sym groups);
}

-- a cue that is taken
pub indexed_cued : (t : Tables) (s : State) (step time : ℕ) → Indexed t s → Indexed t (cued t s step time)
indexed_cued t s step time indexed =
    let leader = (entry_of t.entries.now step).leader in
    let moved : Indexed t (settled t s step time) =
    cond_both (is_open (group_at s leader)) (fixed leader time (own_links t leader) s) s (Indexed t) (λ was. indexed_fixed t s indexed leader time (indexed.leaders step) was) (λ _. indexed) in
    indexed_same t (settled t s step time) (cued t s step time) refl refl moved
