-- An item that is taken from a source's list, and a scan for the first spoiled one.
use Rattle.std.proofs.Common.{◌≡◌, ℕ, zero, suc, ◌+◌, ◌<◌, ◌≤◌, List, [], ◌∷◌, length, take, drop, Some, None, Ok, Err, Result, sym, refl, ap, ◌∙◌, subst, arith, length-take}
use Rattle.std.specs.Result.{result_ok}
use Rattle.bounds.specs.declared.item.NoSuchPlace.{NoSuchPlace}
use Rattle.bounds.specs.Items.{Item}
use Rattle.std.specs.List.{AllByRecursion, slice_get}
use Rattle.std.proofs.lemmas.List.{take_all}
use Rattle.bounds.specs.Limits.{most_items}
use Rattle.bounds.specs.Meaning.{read_at, refused, Lawful, Below}
use Rattle.bounds.specs.Spoiled.{readable, first_spoiled}
use Rattle.bounds.specs.Unread.{unread}
use Rattle.bounds.proofs.Reading.{read_found, read_end, nth_take}

-- what an answer of `item` is, by whether there is an item
item_given : (r : Result Item NoSuchPlace) (x : Item) → Some x ≡ result_ok r → Ok x ≡ r
item_given (Ok y) x h = let e : x ≡ y = cc in ap Ok e
item_given (Err e) x h = let z : ◌≡◌ {A = ℕ} 0 1 = cc in absurd (omega arith)

none_given : (r : Result Item NoSuchPlace) → None ≡ result_ok r → Err refused ≡ r
none_given (Ok y) h = let z : ◌≡◌ {A = ℕ} 0 1 = cc in absurd (omega arith)
none_given (Err e) h = refl

pub taken_some : (xs : List Item) (i : ℕ) (x : Item) → Some x ≡ result_ok (read_at xs i) → unread xs i ≡ x ∷ unread xs (i + 1)
taken_some xs i x h = read_found xs i x (item_given (read_at xs i) x h)

pub taken_none : (xs : List Item) (i : ℕ) → None ≡ result_ok (read_at xs i) → unread xs i ≡ []
taken_none xs i h = read_end xs i refused (none_given (read_at xs i) h)

-- what is left from i on gives the answer
abbrev pub Scanned : List Item → ℕ → Type 0
Scanned xs i = first_spoiled i (unread xs i) ≡ first_spoiled 0 (readable xs)

-- what is taken of a source is taken of an equal one
pub taken_same : {S : Type 0} (items : S → List Item) (s t : S) (i j : ℕ) (x : Item) → s ≡ t → unread (items s) i ≡ x ∷ unread (items s) j → unread (items t) i ≡ x ∷ unread (items t) j
taken_same items s t i j x e h = subst (λ u. unread (items u) i ≡ x ∷ unread (items u) j) e h

-- what is taken is lawful

all_take : {X : Type 0} (P : X → Type 0) (n : ℕ) (xs : List X) → AllByRecursion P xs → AllByRecursion P (take n xs)
all_take P zero xs a = tt
all_take P (suc n) [] a = tt
all_take P (suc n) (x ∷ xs) a = (a.0, all_take P n xs a.1)

all_drop : {X : Type 0} (P : X → Type 0) (i : ℕ) (xs : List X) → AllByRecursion P xs → AllByRecursion P (drop i xs)
all_drop P zero xs a = a
all_drop P (suc i) [] a = tt
all_drop P (suc i) (x ∷ xs) a = all_drop P i xs a.1

pub taken_below : (n : ℕ) (xs : List Item) (i : ℕ) (x : Item) (more : List Item) → Lawful n xs → unread xs i ≡ x ∷ more → Below n x
unfolding readable
taken_below n xs i x more w e = (subst (AllByRecursion (Below n)) e (all_drop (Below n) i (take most_items xs) (all_take (Below n) most_items xs w.each))).0

-- where it stood

at_drop : {X : Type 0} (i : ℕ) (xs : List X) (x : X) (more : List X) → drop i xs ≡ x ∷ more → (i < length xs) × (slice_get xs i ≡ Some x)
at_drop zero [] x more e = let z : ◌≡◌ {A = ℕ} 0 1 = cc in absurd (omega arith)
at_drop zero (y ∷ ys) x more e = let f : y ≡ x = cc in (omega arith, ap Some f)
at_drop (suc i) [] x more e = let z : ◌≡◌ {A = ℕ} 0 1 = cc in absurd (omega arith)
at_drop (suc i) (y ∷ ys) x more e = let h = at_drop i ys x more e in (omega (arith, h.0), h.1)

-- an item that is taken stands at its place, which is one that can be read
pub record Stands (xs : List Item) (i : ℕ) (x : Item) : Type 0 where
  pub readable : i < most_items
  pub inside : i < length xs
  pub item : slice_get xs i ≡ Some x

pub taken_stands : (xs : List Item) (i : ℕ) (x : Item) (more : List Item) → unread xs i ≡ x ∷ more → Stands xs i x
unfolding readable
taken_stands xs i x more e =
    let h = at_drop i (take most_items xs) x more e in
    let l = length-take most_items xs in
    record { readable = omega (arith, h.0, l); inside = omega (arith, h.0, l); item = sym (nth_take most_items xs i (omega (arith, h.0, l))) ∙ h.1 }

-- nothing is left past the last item that can be read
pub left_none : (xs : List Item) (i : ℕ) → length xs ≤ most_items → unread xs i ≡ [] → length xs ≤ i
unfolding readable
left_none xs i few e = none i xs (ap (drop i) (sym (take_all most_items xs few)) ∙ e)
  where
    none : {X : Type 0} (i : ℕ) (ys : List X) → drop i ys ≡ [] → length ys ≤ i
    none i [] e = omega arith
    none zero (y ∷ ys) e = let z : ◌≡◌ {A = ℕ} 0 1 = cc in absurd (omega arith)
    none (suc i) (y ∷ ys) e = omega (arith, none i ys e)
