-- A list that is written over the front of another, entry by entry.
use Rattle.std.proofs.Common.{◌≡◌, ℕ, zero, suc, ◌+◌, ◌-◌, ◌<◌, ◌≤◌, List, [], ◌∷◌, ◌++◌, map, length, get_or, take, drop, set, refl, ap, ◌∙◌, add-one, arith}
use Rattle.std.proofs.lemmas.List.{length-take-le, take_all}

-- read back from the front
pub front_map : {X Y : Type 0} (f : X → Y) (xs : List X) (ys : List Y) {zs : List Y} → zs ≡ map f xs ++ ys → take (length xs - 0) zs ≡ map f xs
front_map {X} f xs ys {zs} e = ap (λ k. take k zs) (omega arith) ∙ ap (take (length xs)) e ∙ go xs
  where
    go : (xs : List X) → take (length xs) (map f xs ++ ys) ≡ map f xs
    go [] = refl
    go (x ∷ xs) = ap (λ ws. f x ∷ ws) (go xs)

module _ {X Y : Type 0} (f : X → Y) (k : ℕ) (xs : List X) (ys : List Y) where
  -- one entry more
  pub copied_more : {zs : List Y} → zs ≡ map f (take k xs) ++ drop k ys → {x : X} → x ≡ get_or xs k x → {y : Y} → y ≡ f x → k < length xs → k < length ys → set zs k y ≡ map f (take (k + 1) xs) ++ drop (k + 1) ys
  copied_more {zs} inv {x} is {y} made l m = ap (λ z. set zs k z) (made ∙ ap f is) ∙ ap (λ ws. set ws k (f (get_or xs k x))) inv ∙ simp add-one (go k xs ys l m)
    where
      go : (k : ℕ) (xs : List X) (ys : List Y) → k < length xs → k < length ys → set (map f (take k xs) ++ drop k ys) k (f (get_or xs k x)) ≡ map f (take (suc k) xs) ++ drop (suc k) ys
      go zero [] ys l m = absurd (omega arith)
      go zero (x ∷ xs) [] l m = absurd (omega arith)
      go zero (x ∷ xs) (y ∷ ys) l m = refl
      go (suc k) [] ys l m = absurd (omega arith)
      go (suc k) (x ∷ xs) [] l m = absurd (omega arith)
      go (suc k) (x ∷ xs) (y ∷ ys) l m = ap (λ zs. f x ∷ zs) (go k xs ys (omega arith) (omega arith))

  -- all of them
  pub copied_all : {zs : List Y} → zs ≡ map f (take k xs) ++ drop k ys → k ≡ length xs → zs ≡ map f xs ++ drop (length xs) ys
  copied_all inv e = inv ∙ ap (λ ws. map f ws ++ drop k ys) (take_all k xs (omega arith)) ∙ ap (λ n. map f xs ++ drop n ys) e

-- the part of a list up to n
pub front_length : {X : Type 0} (n : ℕ) (xs : List X) → n ≤ length xs → length (take (n - 0) xs) ≡ n
front_length n xs l = ap (λ k. length (take k xs)) (omega arith) ∙ length-take-le n xs l
