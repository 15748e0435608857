-- What an answer of `item` says of the list.
use Rattle.std.proofs.Common.{◌≡◌, ℕ, zero, suc, ◌+◌, ◌<◌, ◌≤◌, Bool, true, false, cond, ltb, List, [], ◌∷◌, length, take, drop, Some, None, Ok, Err, Option, sym, refl, ap, ◌∙◌, subst, inl, inr, add-one, arith, length-take}
use Rattle.std.specs.Option.{ok_or}
use Rattle.std.specs.List.{AllByRecursion, slice_get}
use Rattle.std.proofs.lemmas.List.{drop_all, take_all}
use Rattle.std.proofs.lemmas.Option.{slice_get_past}
use Rattle.std.proofs.lemmas.Bool.{cond-false, le-ltb, lt-ltb, cases_lt}
use Rattle.bounds.specs.Items.{Item}
use Rattle.bounds.specs.declared.item.NoSuchPlace.{NoSuchPlace}
use Rattle.bounds.specs.Limits.{most_items}
use Rattle.bounds.specs.Meaning.{read_at, counted, refused, Lawful, Below}
use Rattle.bounds.specs.Spoiled.{readable}

-- lists in general

drop_at_some : {X : Type 0} (xs : List X) (i : ℕ) (x : X) → Some x ≡ slice_get xs i → drop i xs ≡ x ∷ drop (i + 1) xs
drop_at_some {X = X} xs i x h = simp add-one (go xs i h)
  where
    go : (ys : List X) (k : ℕ) → Some x ≡ slice_get ys k → drop k ys ≡ x ∷ drop (suc k) ys
    go [] k e = let z : ◌≡◌ {A = ℕ} 0 1 = cc in absurd (omega arith)
    go (y ∷ ys) zero e = let f : x ≡ y = cc in ap (λ w. w ∷ ys) (sym f)
    go (y ∷ ys) (suc k) e = go ys k e

drop_at_none : {X : Type 0} (xs : List X) (i : ℕ) → None ≡ slice_get xs i → drop i xs ≡ []
drop_at_none [] zero e = refl
drop_at_none [] (suc i) e = refl
drop_at_none (x ∷ xs) zero e = let z : ◌≡◌ {A = ℕ} 0 1 = cc in absurd (omega arith)
drop_at_none (x ∷ xs) (suc i) e = drop_at_none xs i e

pub nth_take : {X : Type 0} (n : ℕ) (xs : List X) (i : ℕ) → i < n → slice_get (take n xs) i ≡ slice_get xs i
nth_take zero xs i h = absurd (omega arith)
nth_take (suc n) [] i h = refl
nth_take (suc n) (x ∷ xs) zero h = refl
nth_take (suc n) (x ∷ xs) (suc i) h = nth_take n xs i (omega arith)

all_nth : {X : Type 0} (P : X → Type 0) (xs : List X) (i : ℕ) (x : X) → AllByRecursion P xs → Some x ≡ slice_get xs i → P x
all_nth P [] i x a h = let z : ◌≡◌ {A = ℕ} 0 1 = cc in absurd (omega arith)
all_nth P (y ∷ ys) zero x a h = let e : y ≡ x = cc in subst P e a.0
all_nth P (y ∷ ys) (suc i) x a h = all_nth P ys i x a.1 h

-- what an answer says

some_from_ok : {X E : Type 0} (o : Option X) (e : E) (x : X) → Ok x ≡ ok_or o e → Some x ≡ o
some_from_ok None e x h = let z : ◌≡◌ {A = ℕ} 0 1 = cc in absurd (omega arith)
some_from_ok (Some y) e x h = cc

none_from_err : {X E : Type 0} (o : Option X) (e f : E) → Err f ≡ ok_or o e → None ≡ o
none_from_err None e f h = refl
none_from_err (Some y) e f h = let z : ◌≡◌ {A = ℕ} 0 1 = cc in absurd (omega arith)

some_from_cond : {X E : Type 0} (b : Bool) (o : Option X) (e f : E) (x : X) → Ok x ≡ cond b (ok_or o e) (Err f) → Some x ≡ o
some_from_cond true o e f x h = some_from_ok o e x h
some_from_cond false o e f x h = let z : ◌≡◌ {A = ℕ} 0 1 = cc in absurd (omega arith)

pub read_below : (xs : List Item) (i : ℕ) → i < most_items → read_at xs i ≡ ok_or (slice_get xs i) refused
read_below xs i h = ap (λ b. cond b (ok_or (slice_get xs i) refused) (Err refused)) (lt-ltb i most_items h)

-- what stands at a place that can be read is the item there, and what is left begins with it
pub read_ok : (xs : List Item) (i : ℕ) (x : Item) → i < most_items → Ok x ≡ read_at xs i → drop i (readable xs) ≡ x ∷ drop (i + 1) (readable xs)
unfolding readable
read_ok xs i x l h = drop_at_some (take most_items xs) i x (some_from_ok (slice_get xs i) refused x (h ∙ read_below xs i l) ∙ sym (nth_take most_items xs i l))

pub read_err : (xs : List Item) (i : ℕ) (e : NoSuchPlace) → i < most_items → Err e ≡ read_at xs i → drop i (readable xs) ≡ []
unfolding readable
read_err xs i e l h = drop_at_none (take most_items xs) i (none_from_err (slice_get xs i) refused e (h ∙ read_below xs i l) ∙ sym (nth_take most_items xs i l))

pub read_past : (xs : List Item) (i : ℕ) → most_items ≤ i → drop i (readable xs) ≡ []
unfolding readable
read_past xs i l = drop_all i (take most_items xs) (omega (arith, length-take most_items xs))

-- what is read at any place: an item with which the rest begins, or no rest
pub read_found : (xs : List Item) (i : ℕ) (x : Item) → Ok x ≡ read_at xs i → drop i (readable xs) ≡ x ∷ drop (i + 1) (readable xs)
read_found xs i x h = elim (cases_lt i most_items) [
  | inl l ↦ read_ok xs i x l h
  | inr k ↦ (let z : Ok x ≡ Err refused = h ∙ cond-false (ltb i most_items) (ok_or (slice_get xs i) refused) (Err refused) (le-ltb i most_items k) in let w : ◌≡◌ {A = ℕ} 0 1 = cc in absurd (omega arith))
]

pub read_end : (xs : List Item) (i : ℕ) (e : NoSuchPlace) → Err e ≡ read_at xs i → drop i (readable xs) ≡ []
read_end xs i e h = elim (cases_lt i most_items) [ inl l ↦ read_err xs i e l h | inr k ↦ read_past xs i k ]

-- nothing is left to read past the count
pub read_counted : (xs : List Item) (i : ℕ) → counted xs ≤ i → drop i (readable xs) ≡ []
unfolding readable
read_counted xs i l = drop_all i (take most_items xs) (omega (arith, length-take most_items xs))

-- a list that is not too long can be read whole
pub readable_all : (xs : List Item) → length xs ≤ most_items → readable xs ≡ xs
unfolding readable
readable_all xs l = take_all most_items xs l

-- a refusal is right where the place is past the list or past the most that are read
pub read_none : (xs : List Item) (i : ℕ) → (i < most_items → length xs ≤ i) → Err refused ≡ read_at xs i
read_none xs i h = elim (cases_lt i most_items) [ inl l ↦ none l | inr k ↦ past k ]
  where
    none : i < most_items → Err refused ≡ read_at xs i
    none l = sym (read_below xs i l ∙ ap (λ o. ok_or o refused) (slice_get_past xs i (h l)))

    past : most_items ≤ i → Err refused ≡ read_at xs i
    past k = sym (cond-false (ltb i most_items) (ok_or (slice_get xs i) refused) (Err refused) (le-ltb i most_items k))

-- what can be read is lawful
pub read_lawful : (n : ℕ) (xs : List Item) (i : ℕ) (x : Item) → Lawful n xs → Ok x ≡ read_at xs i → Below n x
read_lawful n xs i x w h = all_nth (Below n) xs i x w.each (some_from_cond (ltb i most_items) (slice_get xs i) refused refused x h)
