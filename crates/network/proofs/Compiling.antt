-- What the tests of `compile` decide.
use Rattle.std.proofs.Common.{◌≡◌, ℕ, ◌-◌, ◌*◌, ◌≤◌, false, ltb, List, ◌++◌, drop, replicate, ℤ, pos, Some, None, Err, Option, sym, refl, ap, ◌∙◌, subst}
use Rattle.std.specs.Option.{option_map}
use Rattle.std.specs.List.{AllByRecursion}
use Rattle.std.proofs.lemmas.Bool.{or_from, le-ltb, cond-false}
use Rattle.bounds.specs.declared.fault.Fault.{Fault}
use Rattle.bounds.specs.declared.fault.Fault.TheVariants.{NoSuchStep, OutOfReach, NoEnd}
use Rattle.bounds.specs.Items.{Item}
use Rattle.bounds.specs.declared.scan.SpoiledItem.{SpoiledItem}
use Rattle.bounds.specs.Meaning.{Meaning}
use Rattle.bounds.specs.Spoiled.{first_spoiled, readable}
use Rattle.bounds.specs.Timetables.{Feasible, Keeps}
use Rattle.bounds.specs.declared.told.Told.{Told}
use Rattle.bounds.specs.Told.{told_spoiled, beyond_limits}
use Rattle.bounds.proofs.Reading.{readable_all}
use Rattle.bounds.proofs.Within.{within}
use Rattle.network.specs.declared.refusal.Refusal.{Refusal}
use Rattle.network.specs.declared.refusal.Refusal.TheVariants.{NoTimetable}
use Rattle.network.specs.Compiled.{Decided, leaves_distances}
use Rattle.network.specs.Gaps.{Narrowed}
use Rattle.network.specs.Grid.{unbounded, zeroed}
use Rattle.network.specs.Refusals.{told, too_short, early_refusal}

-- within the limits and with long tables, the first spoiled item alone decides
pub early_by_items : (m : Meaning) (n distances groups links : ℕ) → beyond_limits m ≡ false → n ≡ m.steps
    → n * n ≤ distances → n ≤ groups → n * (n - 1) ≤ links → (first : Option SpoiledItem) → first ≡ first_spoiled 0 (readable m.items)
    → early_refusal m distances groups links ≡ option_map told_spoiled first
early_by_items m n distances groups links limits e long-distances long-groups long-links first is =
    let long : too_short m.steps distances groups links ≡ false =
    ap (λ k. too_short k distances groups links) (sym e)
    ∙ or_from (ltb distances (n * n)) _ (le-ltb distances (n * n) long-distances) (or_from (ltb groups n) _ (le-ltb groups n long-groups) (le-ltb links (n * (n - 1)) long-links)) in
    cond-false (beyond_limits m) _ _ limits ∙ cond-false (too_short m.steps distances groups links) _ _ long
    ∙ ap (λ xs. option_map told_spoiled (first_spoiled 0 xs)) (sym (readable_all m.items (within m limits).few)) ∙ ap (option_map told_spoiled) (sym is)

pub spoiled_clears : (f : Fault) (place : ℕ) → leaves_distances (told_spoiled (record { place = place; fault = f })) ≡ false
spoiled_clears NoSuchStep place = refl
spoiled_clears OutOfReach place = refl
spoiled_clears NoEnd place = refl

-- tables that are the same behind their entries are the same once these are zero
pub zeroed_same : (n m : ℕ) (xs ys : List ℤ) → n ≡ m → drop (n * n) xs ≡ drop (n * n) ys → zeroed n xs ≡ zeroed m ys
zeroed_same n m xs ys e h = ap (λ zs. replicate (n * n) (pos 0) ++ zs) h ∙ ap (λ k. zeroed k ys) e

-- an early refusal is the one given
pub decided_early : (m : Meaning) (early : Option Told) (e : Refusal) → early ≡ Some (told e) → Decided m early (Err e)
decided_early m early e is = let P : Option Told → Type 0 = λ o. Decided m o (Err e) in subst P (sym is) refl

-- without one there is no timetable
pub decided_none : (m : Meaning) (early : Option Told) → early ≡ None → (Feasible m → ⊥) → Decided m early (Err NoTimetable)
decided_none m early is none = let P : Option Told → Type 0 = λ o. Decided m o (Err NoTimetable) in subst P (sym is) (refl, none)

-- a list within the limits is read whole
pub says_all : (m : Meaning) → beyond_limits m ≡ false → (d : ℕ → ℕ → ℤ) → Narrowed m.steps unbounded d (λ t. AllByRecursion (Keeps t) (readable m.items))
    → Narrowed m.steps unbounded d (λ t. AllByRecursion (Keeps t) m.items)
says_all m limits d says = let P : List Item → Type 0 = λ xs. Narrowed m.steps unbounded d (λ t. AllByRecursion (Keeps t) xs) in subst P (readable_all m.items (within m limits).few) says
