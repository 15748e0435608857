-- The index and the first state of a run.
use Rattle.std.proofs.Common.{◌≡◌, ℕ, zero, suc, ◌+◌, ◌<◌, ◌≤◌, Bool, true, false, cond, ◌&&◌, eqb, List, [], ◌∷◌, length, get_or, count_by, take, set, replicate, sym, refl, ap, ◌∙◌, inl, inr, arith, length-set, length-take}
use lib.ListN.{length-replicate}
use Rattle.std.proofs.lemmas.List.Sums.{count_by-le-length, sum_by_more}
use Rattle.std.proofs.lemmas.List.{get_or-set_same, get_or-set_other, get_or_past}
use Rattle.std.proofs.lemmas.Bool.{cases_eq, cases_lt, eq-eqb, ne_eqb, cond-true, cond-false}
use Rattle.bounds.specs.Limits.{horizon, most_steps}
use Rattle.network.specs.declared.tables.GroupEntry.{GroupEntry}
use Rattle.network.specs.declared.tables.Kind.TheVariants.{Most, Least}
use Rattle.network.specs.declared.tables.Link.{Link}
use Rattle.pacer.specs.declared.group.Group.TheVariants.{Open}
use Rattle.pacer.specs.declared.index.Span.{Span}
use Rattle.pacer.specs.declared.state.State.{State}
use Rattle.pacer.specs.declared.tables.Tables.{Tables}
use Rattle.pacer.specs.Fixing.{no_link}
use Rattle.pacer.specs.Groups.{is_open, no_group}
use Rattle.pacer.specs.Index.{is_least, least_onto, holds_back, Indexed, SpansSoFar, WaitsSoFar}
use Rattle.pacer.specs.Opening.{Begins, EntriesFit, LinksFit, fresh}
use Rattle.pacer.specs.States.{group_at}
use Rattle.pacer.proofs.Indexing.{count-cons, indexed_fixed, indexed_same}

-- the default stands everywhere
replicate_read : {X : Type 0} (n : ℕ) (x : X) (i : ℕ) → get_or (replicate n x) i x ≡ x
replicate_read zero x i = refl
replicate_read (suc n) x zero = refl
replicate_read (suc n) x (suc i) = replicate_read n x i

abbrev no_span : Span
no_span = record { start = 0; end = 0 }

pub spans_first : (links : List Link) → SpansSoFar links (replicate most_steps no_span) 0
spans_first links = record {
  sized = length-replicate most_steps no_span;
  ends = λ leader. omega (arith, ap (λ (s : Span). s.end) (replicate_read most_steps no_span leader));
  covers = λ before l. absurd (omega arith);
}

-- one link more is counted, or not
count_more : (test : Link → Bool) (ks : List Link) (i : ℕ) → i < length ks → count_by test (take (i + 1) ks) ≡ count_by test (take i ks) + cond (test (get_or ks i no_link)) 1 0
count_more test ks i l = sum_by_more (λ k. cond (test k) 1 0) ks i no_link l

-- no more are counted than there are
count_few : (test : Link → Bool) (ks : List Link) (i : ℕ) → count_by test (take i ks) ≤ i
count_few test ks i = omega (arith, count_by-le-length test (take i ks), length-take i ks)

pub waits_first : (links : List Link) → WaitsSoFar links (replicate most_steps 0) 0
waits_first links = record { sized = length-replicate {A = ℕ} most_steps 0; counts = λ leader l. replicate_read most_steps 0 leader }

module _ (links : List Link) (waits : List ℕ) (place : ℕ) (l : place < length links) (far : WaitsSoFar links waits place) where
  pub waits_few : (leader : ℕ) → leader < most_steps → get_or waits leader 0 ≤ place
  waits_few leader small = omega (arith, far.counts leader small, count_few (least_onto leader) links place)

  pub waits_most : (get_or links place no_link).kind ≡ Most → WaitsSoFar links waits (place + 1)
  waits_most is = record {
    sized = far.sized;
    counts = λ leader small.
        far.counts leader small
        ∙ (omega (arith, count_more (least_onto leader) links place l, ap (λ k. cond {A = ℕ} (is_least k && eqb (get_or links place no_link).target leader) 1 0) is));
  }

  pub waits_least : (target more : ℕ) → (get_or links place no_link).kind ≡ Least → (get_or links place no_link).target ≡ target → (target < most_steps → more ≡ get_or waits target 0 + 1) → WaitsSoFar links (set waits target more) (place + 1)
  waits_least target more is at sum = record {
    sized = length-set waits target more ∙ far.sized;
    counts = λ leader small.
        (let counted = count_more (least_onto leader) links place l in
        let least : ◌≡◌ {A = ℕ} (cond {A = ℕ} (least_onto leader (get_or links place no_link)) 1 0) (cond {A = ℕ} (eqb target leader) 1 0) =
        ap (λ k. cond {A = ℕ} (is_least k && eqb (get_or links place no_link).target leader) 1 0) is ∙ ap (λ t. cond {A = ℕ} (eqb t leader) 1 0) at in
        elim (cases_eq leader target) [
          | inl e ↦ omega (
            arith,
            ap (λ x. get_or (set waits target more) x 0) e,
            get_or-set_same waits target more 0 (omega (arith, far.sized)),
            sum (omega arith),
            ap (λ x. get_or waits x 0) e,
            far.counts leader small,
            counted,
            least,
            cond-true {A = ℕ} (eqb target leader) 1 0 (eq-eqb target leader (sym e)),
          )
          | inr ne ↦ omega (arith, get_or-set_other waits target leader more 0 ne, far.counts leader small, counted, least, cond-false {A = ℕ} (eqb target leader) 1 0 (ne_eqb target leader (λ e. ne (sym e))))
        ]);
  }

-- in the beginning every group is open
fresh_open : (waits : List ℕ) (leader : ℕ) → is_open (group_at (fresh waits) leader) ≡ true
fresh_open waits leader = go most_steps leader
  where
    go : (n i : ℕ) → is_open (get_or (replicate n (Open 0 horizon)) i no_group) ≡ true
    go zero i = refl
    go (suc n) zero = refl
    go (suc n) (suc i) = go n i

count_same : (p q : Link → Bool) → ((k : Link) → p k ≡ q k) → (ks : List Link) → count_by p ks ≡ count_by q ks
count_same p q same [] = refl
count_same p q same (k ∷ ks) = omega (arith, count-cons p k ks, count-cons q k ks, ap (λ b. cond {A = ℕ} b 1 0) (same k), count_same p q same ks)

and_true : (b c : Bool) → c ≡ true → b ≡ (b && c)
and_true true c e = sym e
and_true false c e = refl

-- what stands for an entry past the end of the table
abbrev no_entry : GroupEntry
no_entry = record { leader = 0; offset = 0 }

-- a run that begins over tables that fit has its index right
pub begins_indexed : (t : Tables) (s : State) → t.steps ≤ most_steps → EntriesFit t.steps t.entries.now → LinksFit t.steps t.entries.now t.links.now
    → SpansSoFar t.links.now t.spans (length t.links.now) → Begins t s → Indexed t s
begins_indexed t s small entries fits index begins =
    let w = begins.waits in
    let first : Indexed t (fresh w) = record {
      leaders = λ step. elim (cases_lt step t.steps) [
        | inl l ↦ omega (arith, (entries step l).leads.inside)
        | inr past ↦ omega (arith, ap (λ e. e.leader) (get_or_past t.entries.now step no_entry (omega (arith, t.each))))
      ];
      sized = record { groups = length-replicate most_steps (Open 0 horizon); waits = begins.sized };
      covers = λ place l. index.covers place l (omega (arith, (fits place l).trigger.inside));
      counts = λ leader l. begins.counted leader l ∙ count_same (least_onto leader) (holds_back (fresh w) leader) (λ k. and_true (least_onto leader k) _ (fresh_open w k.trigger)) t.links.now;
    } in
    let open_start : is_open (group_at (fresh w) 0) ≡ true = fresh_open w 0 in
    let fixed_first = indexed_fixed t (fresh w) first 0 0 (omega arith) open_start in
    indexed_same t _ s (ap (λ s. s.groups) begins.begun) (ap (λ s. s.waits) begins.begun) fixed_first
