-- What is counted and read of a list that is made of others.
use Rattle.std.proofs.Common.{◌≡◌, ℕ, zero, suc, ◌+◌, ◌-◌, ◌<◌, ◌≤◌, min, Bool, true, false, cond, ltb, List, [], ◌∷◌, ◌++◌, map, length, get_or, Ok, Err, Result, sym, refl, ap, ◌∙◌, arith, length-append}
use lib.ListN.{length-map}
use Rattle.std.specs.Option.{ok_or}
use Rattle.std.specs.List.{slice_get}
use Rattle.std.proofs.lemmas.Option.{slice_get-get_or}
use Rattle.bounds.specs.Items.{Item}
use Rattle.bounds.specs.declared.item.NoSuchPlace.{NoSuchPlace}
use Rattle.bounds.specs.Limits.{most_items}
use Rattle.bounds.specs.Meaning.{read_at, refused, counted}
use Rattle.bounds.proofs.Reading.{read_below}

-- one list after another

nth_append_left : {X : Type 0} (xs ys : List X) (i : ℕ) → i < length xs → slice_get (xs ++ ys) i ≡ slice_get xs i
nth_append_left [] ys i h = absurd (omega arith)
nth_append_left (x ∷ xs) ys zero h = refl
nth_append_left (x ∷ xs) ys (suc i) h = nth_append_left xs ys i (omega arith)

nth_append_right : {X : Type 0} (xs ys : List X) (i k : ℕ) → i ≡ length xs + k → slice_get (xs ++ ys) i ≡ slice_get ys k
nth_append_right [] ys i k h = ap (slice_get ys) (omega arith)
nth_append_right (x ∷ xs) ys zero k h = absurd (omega arith)
nth_append_right (x ∷ xs) ys (suc i) k h = nth_append_right xs ys i k (omega arith)

pub counted_append : (xs ys : List Item) → min (counted xs + counted ys) (most_items + 1) ≡ counted (xs ++ ys)
counted_append xs ys = omega (arith, length-append xs ys)

pub read_append_left : (xs ys : List Item) (i : ℕ) → i < most_items → i < counted xs → read_at xs i ≡ read_at (xs ++ ys) i
read_append_left xs ys i l h =
    read_below xs i l ∙ ap (λ o. ok_or o refused) (sym (nth_append_left xs ys i (omega arith))) ∙ sym (read_below (xs ++ ys) i l)

pub read_append_right : (xs ys : List Item) (i : ℕ) → i < most_items → counted xs ≤ i → read_at ys (i - counted xs) ≡ read_at (xs ++ ys) i
read_append_right xs ys i l h =
    read_below ys (i - counted xs) (omega arith)
    ∙ ap (λ o. ok_or o refused) (sym (nth_append_right xs ys i (i - counted xs) (omega arith)))
    ∙ sym (read_below (xs ++ ys) i l)

-- a function over each of a list

-- f of the value, where there is one
abbrev ok_mapped : {X Y E : Type 0} → (X → Y) → Result X E → Result Y E
ok_mapped f (Ok x) = Ok (f x)
ok_mapped f (Err e) = Err e

nth_map : {X Y E : Type 0} (f : X → Y) (e : E) (xs : List X) (i : ℕ) → ok_mapped f (ok_or (slice_get xs i) e) ≡ ok_or (slice_get (map f xs) i) e
nth_map f e [] i = refl
nth_map f e (x ∷ xs) zero = refl
nth_map f e (x ∷ xs) (suc i) = nth_map f e xs i

pub counted_map : {R : Type 0} (f : R → Item) (rows : List R) → min (length rows) (most_items + 1) ≡ counted (map f rows)
counted_map f rows = ap (λ n. min n (most_items + 1)) (sym (length-map rows f))

module _ (f : Item → Item) (xs : List Item) (i : ℕ) where
  read_map : ok_mapped f (read_at xs i) ≡ read_at (map f xs) i
  read_map = by_test (ltb i most_items)
    where
      by_test : (b : Bool) → ok_mapped f (cond b (ok_or (slice_get xs i) refused) (Err refused)) ≡ cond b (ok_or (slice_get (map f xs) i) refused) (Err refused)
      by_test true = nth_map f refused xs i
      by_test false = refl

  pub read_map_ok : (x y : Item) → Ok x ≡ read_at xs i → y ≡ f x → Ok y ≡ read_at (map f xs) i
  read_map_ok x y h e = ap Ok e ∙ ap (ok_mapped f) h ∙ read_map

  pub read_map_err : (e : NoSuchPlace) → Err e ≡ read_at xs i → Err e ≡ read_at (map f xs) i
  read_map_err e h = ap (ok_mapped f) h ∙ read_map

-- the item of the row at a place
pub read_row : {R : Type 0} (f : R → Item) (rows : List R) (i : ℕ) (d : R) → i < most_items → i < length rows → Ok (f (get_or rows i d)) ≡ read_at (map f rows) i
read_row f rows i d l h =
    sym (read_below (map f rows) i l ∙ sym (nth_map f refused rows i) ∙ ap (λ o. ok_mapped f (ok_or o refused)) (slice_get-get_or rows i d h))
