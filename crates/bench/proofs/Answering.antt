-- From what a compilation answers to what is answered for it.
use Rattle.std.proofs.Common.{◌≡◌, ℕ, zero, suc, ◌-◌, ◌*◌, ◌^◌, ◌<◌, ◌≤◌, Bool, true, false, cond, ◌||◌, eqb, ltb, ◌⊎◌, List, ◌++◌, map, length, take, drop, replicate, ℤ, pos, Some, None, Ok, Err, Option, Result, sym, refl, ap, ◌∙◌, subst, inl, inr, arith}
use native.Mathlib.Bridge.{le_prop}
use lib.ListN.{length-map}
use Rattle.std.specs.Option.{option_map}
use Rattle.std.proofs.lemmas.List.{length-take-le}
use Rattle.std.proofs.lemmas.Bool.{cond-true, cond-false, lt-ltb, le-ltb, eq-eqb, ne_eqb, or_from, or_left, or_right}
use Rattle.bounds.specs.Limits.{most_items, most_steps}
use Rattle.bounds.specs.Meaning.{Meaning}
use Rattle.bounds.specs.RowList.{rows_meaning}
use Rattle.bounds.specs.Rows.{row_item}
use Rattle.bounds.specs.Spoiled.{first_spoiled}
use Rattle.bounds.specs.declared.told.Told.{Told}
use Rattle.bounds.specs.Told.{told_spoiled, beyond_limits}
use Rattle.bounds.specs.declared.row.Row.{Row}
use Rattle.bounds.specs.declared.scan.SpoiledItem.{SpoiledItem}
use Rattle.network.specs.Compiled as network
use Rattle.network.specs.Grid.{zeroed}
use Rattle.network.specs.Refusals.{early_refusal, told, too_short}
use Rattle.network.specs.declared.compiler.Compiled.{Compiled}
use Rattle.network.specs.declared.refusal.Refusal.{Refusal}
use Rattle.network.specs.declared.refusal.Refusal.TheVariants.{Limits, Tables}
use Rattle.network.specs.declared.tables.GroupEntry.{GroupEntry}
use Rattle.network.specs.declared.tables.Link.{Link}
use Rattle.network.proofs.Compiling.{zeroed_same, spoiled_clears}
use Rattle.bench.specs.Outcomes.{Answered, Handed, Refused, job, refusal_outcome}
use Rattle.bench.specs.Plain.{plain_group, plain_link, plain_row}
use Rattle.bench.specs.declared.Outcome.{Outcome}
use Rattle.bench.specs.declared.PlainBound.{PlainBound}
use Rattle.bench.specs.declared.PlainGroup.{PlainGroup}
use Rattle.bench.specs.declared.PlainLink.{PlainLink}

-- what a compilation leaves behind the first n × n distances
pub behind : (n m : ℕ) (r : Result Compiled Refusal) (before after : List ℤ) → m ≡ n → network.DistancesAfter m r before after → drop (n * n) after ≡ drop (n * n) before
behind n m r before after e h = subst (λ k. drop (k * k) after ≡ drop (k * k) before) e (go r h)
  where
    drop_replicated : (k : ℕ) (x : ℤ) (ys : List ℤ) → drop k (replicate k x ++ ys) ≡ ys
    drop_replicated zero x ys = refl
    drop_replicated (suc k) x ys = drop_replicated k x ys

    by : (b : Bool) → drop (m * m) (cond b before (zeroed m before)) ≡ drop (m * m) before
    by true = refl
    by false = drop_replicated (m * m) (pos 0) (drop (m * m) before)

    go : (r : Result Compiled Refusal) → network.DistancesAfter m r before after → drop (m * m) after ≡ drop (m * m) before
    go (Ok c) h = h
    go (Err e) h = ap (drop (m * m)) h ∙ by (network.leaves_distances (told e))

-- rows made of the handed bounds mean the job
pub means_job : (n m : ℕ) (few : n < 2 ^ 16) (low : m < 2 ^ 16) (bounds : List PlainBound) (rows : List Row) → m ≡ n → rows ≡ map plain_row bounds → rows_meaning m low rows ≡ job n few bounds
means_job n m few low bounds rows e s =
    let P : ℕ → Type 0 = λ k. (few : k < 2 ^ 16) → rows_meaning m low rows ≡ rows_meaning k few rows in
    subst P e (λ few. ap (λ f. rows_meaning m f rows) (le_prop low few)) few ∙ ap (rows_meaning n few) s

module _ (n : ℕ) (few : n < 2 ^ 16) (bounds : List PlainBound) where
  -- the limits, told of the handed bounds
  beyond : beyond_limits (job n few bounds) ≡ (eqb n 0 || (ltb most_steps n || ltb most_items (length bounds)))
  beyond = ap (λ k. eqb n 0 || (ltb most_steps n || ltb most_items k)) (length-map (map plain_row bounds) (row_item n) ∙ length-map bounds plain_row)

  pub early_limits : (d g l : ℕ) → (n ≡ 0) ⊎ (((n ≡ 0 → ⊥) × (most_steps < n)) ⊎ ((n ≡ 0 → ⊥) × (n ≤ most_steps) × (most_items < length bounds))) → early_refusal (job n few bounds) d g l ≡ Some (told Limits)
  early_limits d g l h = cond-true (beyond_limits (job n few bounds)) _ _ (beyond ∙ by h)
    where
      by : (n ≡ 0) ⊎ (((n ≡ 0 → ⊥) × (most_steps < n)) ⊎ ((n ≡ 0 → ⊥) × (n ≤ most_steps) × (most_items < length bounds))) → (eqb n 0 || (ltb most_steps n || ltb most_items (length bounds))) ≡ true
      by (inl e) = or_left (eqb n 0) _ (eq-eqb n 0 e)
      by (inr (inl h)) = or_right (eqb n 0) _ (or_left (ltb most_steps n) _ (lt-ltb most_steps n h.1))
      by (inr (inr h)) = or_right (eqb n 0) _ (or_right (ltb most_steps n) _ (lt-ltb most_items (length bounds) h.2))

  -- within the limits the tables decide, and then the first spoiled item
  module _ (some : n ≡ 0 → ⊥) (most : n ≤ most_steps) (items : length bounds ≤ most_items) (d g l : ℕ) where
    within : early_refusal (job n few bounds) d g l ≡ cond (too_short n d g l) (Some (told Tables)) (option_map told_spoiled (first_spoiled 0 (job n few bounds).items))
    within = cond-false (beyond_limits (job n few bounds)) _ _ (beyond ∙ or_from (eqb n 0) _ (ne_eqb n 0 some) (or_from (ltb most_steps n) _ (le-ltb most_steps n most) (le-ltb most_items (length bounds) items)))

    pub early_tables : (d < n * n) ⊎ (((n * n ≤ d) × (g < n)) ⊎ ((n * n ≤ d) × (n ≤ g) × (l < n * (n - 1)))) → early_refusal (job n few bounds) d g l ≡ Some (told Tables)
    early_tables h = within ∙ cond-true (too_short n d g l) _ _ (by h)
      where
        by : (d < n * n) ⊎ (((n * n ≤ d) × (g < n)) ⊎ ((n * n ≤ d) × (n ≤ g) × (l < n * (n - 1)))) → too_short n d g l ≡ true
        by (inl h) = or_left (ltb d (n * n)) _ (lt-ltb d (n * n) h)
        by (inr (inl h)) = or_right (ltb d (n * n)) _ (or_left (ltb g n) _ (lt-ltb g n h.1))
        by (inr (inr h)) = or_right (ltb d (n * n)) _ (or_right (ltb g n) _ (lt-ltb l (n * (n - 1)) h.2))

    pub early_items : n * n ≤ d → n ≤ g → n * (n - 1) ≤ l → early_refusal (job n few bounds) d g l ≡ option_map told_spoiled (first_spoiled 0 (job n few bounds).items)
    early_items ld lg ll = within ∙ cond-false (too_short n d g l) _ _ (or_from (ltb d (n * n)) _ (le-ltb d (n * n) ld) (or_from (ltb g n) _ (le-ltb g n lg) (le-ltb l (n * (n - 1)) ll)))

-- distances that were filled with zeros
cleared : (n : ℕ) (e : Refusal) (t : Told) (distances before after : List ℤ) → told e ≡ t → network.leaves_distances t ≡ false → network.DistancesAfter n (Err e) before after → drop (n * n) before ≡ drop (n * n) distances
    → after ≡ cond (network.leaves_distances t) distances (zeroed n distances)
cleared n e t distances before after is clears h same =
    h ∙ cond-false (network.leaves_distances (told e)) _ _ (ap network.leaves_distances is ∙ clears) ∙ zeroed_same n n before distances refl same ∙ sym (cond-false (network.leaves_distances t) _ _ clears)

-- tables that were written out
pub handed : (r : Outcome) (distances : List ℤ) (groups groups' : List PlainGroup) (links links' : List PlainLink) (m : Meaning) (c : Compiled) (gs : List GroupEntry) (ls : List Link) → network.TablesOf m c distances gs ls → length gs ≡ m.steps → r ≡ record { refusal = 0; groups = c.groups; links = c.links }
    → groups' ≡ map plain_group gs ++ drop (length gs) groups → links' ≡ map plain_link (take (c.links - 0) ls) ++ drop (length (take (c.links - 0) ls)) links
    → Handed m r distances groups groups' links links'
handed r distances groups groups' links links' m c gs ls tables each is groups_out links_out = record {
  compiled = c;
  group_table = gs;
  link_table = ls;
  tables = tables;
  each_step = each;
  outcome = is;
  groups_out = groups_out ∙ ap (λ k. map plain_group gs ++ drop k groups) each;
  links_out = links_out ∙ ap (λ k. map plain_link (take k ls) ++ drop (length (take k ls)) links) (omega arith) ∙ ap (λ k. map plain_link (take c.links ls) ++ drop k links) (length-take-le c.links ls tables.links_in_table);
}

module _ (r : Outcome) (distances distances' : List ℤ) (groups groups' : List PlainGroup) (links links' : List PlainLink) where
  -- an early refusal
  pub answered_early : (m : Meaning) (early : Option Told) (t : Told) → early ≡ Some t → Refused m.steps t r distances distances' groups groups' links links' → Answered m early r distances distances' groups groups' links links'
  answered_early m early t is h = let P : Option Told → Type 0 = λ o. Answered m o r distances distances' groups groups' links links' in subst P (sym is) h

  -- what is handed out of the tables of a compilation
  abbrev Hands : Meaning → List ℤ → Result Compiled Refusal → Type 0
  Hands m before (Ok c) = Handed m r distances' groups groups' links links'
  Hands m before (Err e) = (r ≡ refusal_outcome (told e)) × network.DistancesAfter m.steps (Err e) before distances' × (groups' ≡ groups) × (links' ≡ links)

  -- the answer of a compilation at which only an item can be refused early
  pub answered : (m : Meaning) (early early' : Option Told) (first : Option SpoiledItem) → early ≡ option_map told_spoiled first → early' ≡ option_map told_spoiled first → (before : List ℤ) → drop (m.steps * m.steps) before ≡ drop (m.steps * m.steps) distances
      → (a : Result Compiled Refusal) → network.Decided m early a → Hands m before a → Answered m early' r distances distances' groups groups' links links'
  answered m early early' first is is' before same a h hands =
      let P : Option Told → Type 0 = λ o. network.Decided m o a in
      let Q : Option Told → Type 0 = λ o. Answered m o r distances distances' groups groups' links links' in
      subst Q (sym is') (go first a (subst P is h) hands)
    where
      go : (o : Option SpoiledItem) (a : Result Compiled Refusal) → network.Decided m (option_map told_spoiled o) a → Hands m before a → Answered m (option_map told_spoiled o) r distances distances' groups groups' links links'
      go (Some item) (Ok c) h hands = absurd (let z : ◌≡◌ {A = ℕ} 0 1 = cc in omega arith)
      go None (Ok c) h hands = inl (h.1, hands)
      go (Some item) (Err e) h hands = record {
        outcome = hands.0 ∙ ap refusal_outcome h;
        distances_left = cleared m.steps e _ distances before distances' h (spoiled_clears item.fault item.place) hands.1 same;
        groups_left = hands.2;
        links_left = hands.3;
      }
      go None (Err e) h hands = inr (
        h.1,
        record {
          outcome = hands.0 ∙ ap refusal_outcome h.0;
          distances_left = cleared m.steps e _ distances before distances' h.0 refl hands.1 same;
          groups_left = hands.2;
          links_left = hands.3;
        },
      )
