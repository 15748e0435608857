-- What the placing of an entry keeps, and what the slots are once it is placed.
use Rattle.std.proofs.Common.{◌≡◌, ℕ, zero, suc, ◌+◌, ◌-◌, ◌<◌, ◌≤◌, Bool, true, false, not, ◌⊎◌, ◌↔◌, List, [], ◌∷◌, ◌++◌, length, get_or, take, drop, set, sym, refl, ap, ◌∙◌, subst, inl, inr, append_assoc, arith}
use mathlib.Core.List.Memᴰ
use mathlib.Core.List.{Memᴰ}
use Rattle.std.proofs.lemmas.List.{append-nil, take-append-drop, set_split, take-take, length-take-le, take_at, drop_at, drop-drop, drop-take, take-append-le, length-append}
use Rattle.std.proofs.lemmas.Bool.{both_ways, and_from, and_parts, cond-true, cond-false, cond_both, cases_Bool}
use Rattle.std.proofs.lemmas.List.Folds.{list_all_at}
use Rattle.std.specs.List.{AllWithin, IsAfterLastMatch, copy_within, list_all}
use Rattle.queue.specs.Order.{first, second, same, Total, NoneBefore, Ascending, Strictly, placed}

-- what is the same from m on is the same from n on
pub rest_onward : {X : Type 0} (m n : ℕ) (xs ys : List X) → m ≤ n → drop m xs ≡ drop m ys → drop n xs ≡ drop n ys
rest_onward m n xs ys le h =
    let up : m + (n - m) ≡ n = omega arith in
    ap (λ k. drop k xs) (sym up) ∙ sym (drop-drop (n - m) m xs) ∙ ap (drop (n - m)) h ∙ drop-drop (n - m) m ys ∙ ap (λ k. drop k ys) up

module _ {X : Type 0} (lt : X → X → Bool) where
  -- one entry more
  pub length_placed : (x : X) (ys : List X) → length (placed lt x ys) ≡ length ys + 1
  length_placed x [] = refl
  length_placed x (y ∷ ys) = let rest = length_placed x ys in grind arith

  -- the entries are x and those of the list
  pub mem_placed : (x : X) (ys : List X) (z : X) → Memᴰ z (placed lt x ys) ↔ ((z ≡ x) ⊎ Memᴰ z ys)
  mem_placed x [] z = (λ m. inl (Memᴰ.eq_of_singleton m), λ o. elim o [ inl e ↦ Memᴰ.head e | inr m ↦ absurd (Memᴰ.not-nil m) ])
  mem_placed x (y ∷ ys) z =
      let rest = mem_placed x ys z in
      cond_both (list_all (lt x) (y ∷ ys)) (x ∷ (y ∷ ys)) (y ∷ placed lt x ys) (λ zs. Memᴰ z zs ↔ ((z ≡ x) ⊎ Memᴰ z (y ∷ ys)))
      (λ _. (λ m. Memᴰ.cases_cons m, λ o. elim o [ inl e ↦ Memᴰ.head e | inr m ↦ Memᴰ.tail m ]))
      (λ _. (
        λ m. elim (Memᴰ.cases_cons m) [ inl e ↦ inr (Memᴰ.head e) | inr n ↦ elim (rest.0 n) [ inl e ↦ inl e | inr k ↦ inr (Memᴰ.tail k) ] ],
        λ o. elim o [ inl e ↦ Memᴰ.tail (rest.1 (inl e)) | inr m ↦ elim (Memᴰ.cases_cons m) [ inl e ↦ Memᴰ.head e | inr n ↦ Memᴰ.tail (rest.1 (inr n)) ] ],
      ))

  -- y comes before all with x placed, where it comes before x and all of the list
  after_all_placed : (y x : X) (ys : List X) → lt y x ≡ true → list_all (lt y) ys ≡ true → list_all (lt y) (placed lt x ys) ≡ true
  after_all_placed y x [] e h = grind arith
  after_all_placed y x (z ∷ zs) e h = let rest = after_all_placed y x zs e in grind arith

  -- x comes before all entries, said place by place
  before_all : (x : X) (ys : List X) → AllWithin (λ y. not (lt x y) ≡ false) ys 0 (length ys) → list_all (lt x) ys ≡ true
  before_all x [] h = refl
  before_all x (y ∷ ys) h =
      let first = h 0 y (omega arith) (omega arith) in
      let rest = before_all x ys (λ k d low high. h (suc k) d (omega arith) (omega arith)) in
      grind arith

  -- x goes to the front of the entries that it comes before
  pub placed_front : (x : X) (vs : List X) → list_all (lt x) vs ≡ true → placed lt x vs ≡ x ∷ vs
  placed_front x [] _ = refl
  placed_front x (v ∷ vs) h = cond-true (list_all (lt x) (v ∷ vs)) (x ∷ (v ∷ vs)) (v ∷ placed lt x vs) h

  -- the place behind the last entry that x does not come before
  pub placed_at : (x : X) (ys : List X) (at : ℕ) → at ≤ length ys → IsAfterLastMatch (λ y. not (lt x y)) ys at → placed lt x ys ≡ take at ys ++ (x ∷ drop at ys)
  placed_at x [] zero le h = refl
  placed_at x [] (suc m) le h = absurd (omega arith)
  placed_at x (y ∷ ys) zero le h = placed_front x (y ∷ ys) (before_all x (y ∷ ys) h.0)
  placed_at x (y ∷ ys) (suc m) le h =
      let lower : suc m - 1 ≡ m = omega arith in
      let last : (d : X) → not (lt x (get_or (y ∷ ys) m d)) ≡ true = λ d. subst (λ (n : ℕ). not (lt x (get_or (y ∷ ys) n d)) ≡ true) lower (h.1 (omega arith) d) in
      let stop : list_all (lt x) (y ∷ ys) ≡ false = list_all_at (lt x) (y ∷ ys) m y (omega arith) (let e = last y in grind arith) in
      cond-false (list_all (lt x) (y ∷ ys)) (x ∷ (y ∷ ys)) (y ∷ placed lt x ys) stop
      ∙ ap (λ zs. y ∷ zs) (placed_at x ys m (omega arith) (
        λ k d low high. h.0 (suc k) d (omega arith) (omega arith),
        λ pos d. let e : m ≡ suc (m - 1) = omega arith in subst (λ (n : ℕ). not (lt x (get_or (y ∷ ys) n d)) ≡ true) e (last d),
      ))

module _ {X : Type 0} {lt : X → X → Bool} (laws : Total lt) where
  -- of two entries at most one comes before the other
  pub not_both : (x y : X) → lt x y ≡ true → lt y x ≡ false
  not_both x y e = elim (laws.one x y) [ first _ p _ ↦ p | second p _ _ ↦ absurd (both_ways (lt x y) p e) | same _ p _ ↦ p ]

  -- none of the entries that x comes before comes before x
  none_before_all : (x : X) (ys : List X) → list_all (lt x) ys ≡ true → NoneBefore lt x ys
  none_before_all x [] h = tt
  none_before_all x (y ∷ ys) h = let (e, rest) = and_parts (lt x y) (list_all (lt x) ys) h in (not_both x y e, none_before_all x ys rest)

  -- what does not come before z, where z does not come before y, does not come before y
  pub stays_behind : (x y z : X) → lt z y ≡ false → lt x z ≡ false → lt x y ≡ false
  stays_behind x y z zy xz =
      elim (cases_Bool (lt x y)) [
        | inl e ↦ elim (laws.one z y) [
          | first p _ _ ↦ absurd (both_ways (lt z y) zy p)
          | second _ p _ ↦ absurd (both_ways (lt x z) xz (laws.onward x y z e p))
          | same _ _ p ↦ subst (λ (w : X). lt x w ≡ false) p xz
        ]
        | inr e ↦ e
      ]

  -- x does not come before y, the first of an ascending list, where it does not come before all of the list
  not_before_first : (x y : X) (ys : List X) → NoneBefore lt y ys → list_all (lt x) (y ∷ ys) ≡ false → lt x y ≡ false
  not_before_first x y [] h e = grind arith
  not_before_first x y (z ∷ zs) h e =
      let behind = stays_behind x y z h.0 in
      let rest = not_before_first x y zs h.1 in
      grind arith

  -- where neither x nor an entry of the list comes before y, none does with x placed
  none_before_placed : (y x : X) (ys : List X) → lt x y ≡ false → NoneBefore lt y ys → NoneBefore lt y (placed lt x ys)
  none_before_placed y x [] e h = (e, tt)
  none_before_placed y x (z ∷ zs) e h =
      cond_both (list_all (lt x) (z ∷ zs)) (x ∷ (z ∷ zs)) (z ∷ placed lt x zs) (NoneBefore lt y) (λ _. (e, h)) (λ _. (h.0, none_before_placed y x zs e h.1))

  -- a list that ascends does so with x placed
  pub ascending_placed : (x : X) (ys : List X) → Ascending lt ys → Ascending lt (placed lt x ys)
  ascending_placed x [] up = (tt, tt)
  ascending_placed x (y ∷ ys) up =
      cond_both (list_all (lt x) (y ∷ ys)) (x ∷ (y ∷ ys)) (y ∷ placed lt x ys) (Ascending lt)
      (λ e. (none_before_all x (y ∷ ys) e, up))
      (λ e. (none_before_placed y x ys (not_before_first x y ys up.0 e) up.0, ascending_placed x ys up.1))

  -- x comes before all that y comes before, where it comes before y
  pub after_all_onward : (x y : X) (ys : List X) → lt x y ≡ true → list_all (lt y) ys ≡ true → list_all (lt x) ys ≡ true
  after_all_onward x y [] e h = refl
  after_all_onward x y (z ∷ zs) e h =
      let next = laws.onward x y z e in
      let rest = after_all_onward x y zs e in
      grind arith

  -- a list in which each entry comes before every later one stays so with x placed, where x is not among it
  pub strictly_placed : (x : X) (ys : List X) → Strictly lt ys → (Memᴰ x ys → ⊥) → Strictly lt (placed lt x ys)
  strictly_placed x [] up new = (refl, tt)
  strictly_placed x (y ∷ ys) up new =
      cond_both (list_all (lt x) (y ∷ ys)) (x ∷ (y ∷ ys)) (y ∷ placed lt x ys) (Strictly lt)
      (λ e. (e, up))
      (λ e. (
        after_all_placed lt y x ys (elim (laws.one x y) [
          | first p _ _ ↦ absurd (both_ways (list_all (lt x) (y ∷ ys)) e (and_from (lt x y) (list_all (lt x) ys) p (after_all_onward x y ys p up.0)))
          | second _ p _ ↦ p
          | same _ _ p ↦ absurd (new (Memᴰ.head p))
        ]) up.0,
        strictly_placed x ys up.1 (λ m. new (Memᴰ.tail m)),
      ))

  -- a list in which each entry comes before every later one ascends
  pub strictly_ascends : (ys : List X) → Strictly lt ys → Ascending lt ys
  strictly_ascends [] up = tt
  strictly_ascends (y ∷ ys) up = (none_before_all y ys up.0, strictly_ascends ys up.1)

-- the slots after one more entry among the first `len` of the old ones
module _ {X : Type 0} (lt : X → X → Bool) (x : X) (old slots : List X) (len : ℕ) (room : len < length old) (is : slots ≡ placed lt x (take len old) ++ drop (len + 1) old) where
  long : length (placed lt x (take len old)) ≡ len + 1
  long = omega (arith, length_placed lt x (take len old), length-take-le len old (omega arith))

  pub placed_used : take (len + 1) slots ≡ placed lt x (take len old)
  placed_used = ap (take (len + 1)) is ∙ take_at (placed lt x (take len old)) (drop (len + 1) old) (len + 1) long

  pub placed_rest : drop (len + 1) slots ≡ drop (len + 1) old
  placed_rest = ap (drop (len + 1)) is ∙ drop_at (placed lt x (take len old)) (drop (len + 1) old) (len + 1) long

  pub placed_ascends : Total lt → Ascending lt (take len old) → Ascending lt (take (len + 1) slots)
  placed_ascends laws up = subst (Ascending lt) (sym placed_used) (ascending_placed laws x (take len old) up)

  pub placed_strictly : Total lt → Strictly lt (take len old) → (Memᴰ x (take len old) → ⊥) → Strictly lt (take (len + 1) slots)
  placed_strictly laws up new = subst (Strictly lt) (sym placed_used) (strictly_placed laws x (take len old) up new)

  pub placed_holds : (z : X) → Memᴰ z (take (len + 1) slots) ↔ ((z ≡ x) ⊎ Memᴰ z (take len old))
  placed_holds z = subst (λ (zs : List X). Memᴰ z zs ↔ ((z ≡ x) ⊎ Memᴰ z (take len old))) (sym placed_used) (mem_placed lt x (take len old) z)

-- where the used entries end at the place `at`, none moves up
pub none_moves : {X : Type 0} (old : List X) (len at : ℕ) → len ≤ at → old ≡ copy_within old at len (at + 1)
none_moves old len at le =
    let none : len - at ≡ 0 = omega arith in
    let whole : old ≡ take (at + 1) old ++ [] ++ drop (at + 1 + 0) old =
    sym (take-append-drop (at + 1) old) ∙ ap (λ zs. zs ++ drop (at + 1) old) (sym (append-nil (take (at + 1) old))) ∙ ap (λ n. take (at + 1) old ++ [] ++ drop n old) (omega arith) in
    whole ∙ ap (λ n. take (at + 1) old ++ take n (drop at old) ++ drop (at + 1 + n) old) (sym none)

module _ {X : Type 0} (lt : X → X → Bool) (x : X) (old moved : List X) (len at : ℕ) (room : len < length old) (le : at ≤ len) where
  -- the entries from the place `at` on have moved up, and x stands there
  pub inserted : moved ≡ copy_within old at len (at + 1) → IsAfterLastMatch (λ y. not (lt x y)) (take len old) at → set moved at x ≡ placed lt x (take len old) ++ drop (len + 1) old
  inserted is last =
      let low = take (at + 1) old in
      let high = take (len - at) (drop at old) in
      let rest = drop (at + 1 + (len - at)) old in
      let long = length-take-le (at + 1) old (omega arith) in
      let used = length-take-le len old (omega arith) in
      let up : at + (len - at) ≡ len = omega arith in
      let end : at + 1 + (len - at) ≡ len + 1 = omega arith in
      let moved : high ≡ drop at (take len old) = sym (drop-take at (len - at) old) ∙ ap (λ n. drop at (take n old)) up in
      let front : take at (low ++ high ++ rest) ≡ take at (take len old) =
      ap (take at) (append_assoc low high rest) ∙ take-append-le at low (high ++ rest) (omega arith) ∙ take-take at (at + 1) old (omega arith) ∙ sym (take-take at len old le) in
      let back : drop (suc at) (low ++ high ++ rest) ≡ drop at (take len old) ++ drop (len + 1) old =
      ap (drop (suc at)) (append_assoc low high rest) ∙ drop_at low (high ++ rest) (suc at) (omega arith) ∙ ap (λ zs. zs ++ rest) moved ∙ ap (λ n. drop at (take len old) ++ drop n old) end in
      ap (λ zs. set zs at x) is
      ∙ set_split (low ++ high ++ rest) at x (omega (arith, length-append (low ++ high) rest, length-append low high))
      ∙ ap (λ zs. zs ++ x ∷ drop (suc at) (low ++ high ++ rest)) front
      ∙ ap (λ zs. take at (take len old) ++ x ∷ zs) back
      ∙ sym (append_assoc (take at (take len old)) (x ∷ drop at (take len old)) (drop (len + 1) old))
      ∙ ap (λ zs. zs ++ drop (len + 1) old) (sym (placed_at lt x (take len old) at (omega arith) last))
