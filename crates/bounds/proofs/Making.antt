-- What is made from the proofs of tests does not depend on which proofs they are.
use Rattle.std.proofs.Common.{◌≡◌, ℕ, Bool, true, false, ◌&&◌, ℤ, pos, neg_ℤ, ◌+ℤ◌, ◌-ℤ◌, ◌≤ℤ◌, int_le, Some, None, Ok, Err, Option, sym, refl, ap, ◌∙◌, rules}
use mathlib.Core.Bool.{Bool-set}
use Rattle.std.specs.Option.{option_map, MatchOption, IsSomeAnd}
use Rattle.std.proofs.lemmas.Bool.{both_ways, and_from, and_parts, cond-true}
use Rattle.bounds.specs.declared.bound.Bound.{Bound}
use Rattle.bounds.specs.declared.fault.Fault.TheVariants.{OutOfReach, NoEnd}
use Rattle.bounds.specs.declared.row.Row.{Row}
use Rattle.bounds.specs.DrawnIn.{raised, lowered, bound_drawn_in}
use Rattle.bounds.specs.Loose.{tidy, end_given}
use Rattle.bounds.specs.Limits.{horizon}
use Rattle.bounds.specs.Reach.{has_end, end_in_reach, ends_in_reach}
use Rattle.bounds.specs.Made.{where_true, bound_with, made_bound}

-- what `map` answers, where each call answers what f does
pub map_gives : {X Y : Type 0} (f : X → Y) (Post : X → Y → Type 0) (o : Option X) (r : Option Y)
    → ((x : X) (y : Y) → o ≡ Some x → Post x y → y ≡ f x) → MatchOption o (r ≡ None) (λ x. IsSomeAnd r (Post x)) → r ≡ option_map f o
map_gives f Post None r h m = m
map_gives f Post (Some x) (Some y) h m = ap Some (h x y refl m)
map_gives f Post (Some x) None h m = absurd m

-- both parts of a test of an end that is present
pub end_near : (end : Option ℤ) (x : ℤ) → end ≡ Some x → end_in_reach end ≡ true → (neg_ℤ (pos horizon) ≤ℤ x) × (x ≤ℤ pos horizon)
end_near end x e h =
    let both = and_parts (int_le (neg_ℤ (pos horizon)) x) (int_le x (pos horizon)) (ap end_in_reach (sym e) ∙ h) in
    (search rules, search rules)

where_true_is : {X : Type 0} (b : Bool) (f : b ≡ true → X) (x : X) (p : b ≡ true) → f p ≡ where_true b f x
where_true_is true f x p = ap f (Bool-set true true p refl)
where_true_is false f x p = absurd (both_ways false refl p)

where_false_is : {X : Type 0} (b : Bool) (f : b ≡ true → X) (x : X) → b ≡ false → x ≡ where_true b f x
where_false_is true f x p = absurd (both_ways true p refl)
where_false_is false f x p = refl

module _ (from to : ℕ) (lower upper : Option ℤ) (p : has_end lower upper ≡ true) where
  with_in_reach : (q : ends_in_reach lower upper ≡ true) → Ok (record { from = from; to = to; lower = lower; upper = upper; ended = p; near = q }) ≡ bound_with from to lower upper
  with_in_reach q = where_true_is (ends_in_reach lower upper) _ (Err OutOfReach) q ∙ where_true_is (has_end lower upper) _ (Err NoEnd) p

  with_out_of_reach : ends_in_reach lower upper ≡ false → Err OutOfReach ≡ bound_with from to lower upper
  with_out_of_reach q = where_false_is (ends_in_reach lower upper) _ (Err OutOfReach) q ∙ where_true_is (has_end lower upper) _ (Err NoEnd) p

module _ (row : Row) (lower upper : Option ℤ) (l : lower ≡ end_given row.lower) (u : upper ≡ end_given row.upper) (tl : tidy row.lower ≡ true) (tu : tidy row.upper ≡ true) where
  -- a row of tidy ends makes the bound with these ends
  made_with : bound_with row.from row.to lower upper ≡ made_bound row
  made_with =
      ap (λ x. bound_with row.from row.to x upper) l
      ∙ ap (bound_with row.from row.to (end_given row.lower)) u
      ∙ sym (cond-true (tidy row.lower && tidy row.upper) _ _ (and_from _ _ tl tu))

  pub made_in_reach : (p : has_end lower upper ≡ true) (q : ends_in_reach lower upper ≡ true)
      → Ok (record { from = row.from; to = row.to; lower = lower; upper = upper; ended = p; near = q }) ≡ made_bound row
  made_in_reach p q = with_in_reach row.from row.to lower upper p q ∙ made_with

  pub made_out_of_reach : has_end lower upper ≡ true → ends_in_reach lower upper ≡ false → Err OutOfReach ≡ made_bound row
  made_out_of_reach p q = with_out_of_reach row.from row.to lower upper p q ∙ made_with

has_end_moved : (f g : ℤ → ℤ) (lower upper : Option ℤ) → has_end (option_map f lower) (option_map g upper) ≡ has_end lower upper
has_end_moved f g (Some x) upper = refl
has_end_moved f g None (Some y) = refl
has_end_moved f g None None = refl

module _ (m : ℕ) (b : Bound) (lower upper : Option ℤ) (l : lower ≡ raised m b.lower) (u : upper ≡ lowered m b.upper) where
  drawn_with : bound_with b.from b.to lower upper ≡ bound_drawn_in m b
  drawn_with = ap (λ x. bound_with b.from b.to x upper) l ∙ ap (bound_with b.from b.to (raised m b.lower)) u

  drawn_ended : has_end lower upper ≡ true
  drawn_ended = ap (λ x. has_end x upper) l ∙ ap (has_end (raised m b.lower)) u ∙ has_end_moved (λ z. z +ℤ pos m) (λ z. z -ℤ pos m) b.lower b.upper ∙ b.ended

  pub drawn_in_reach : (p : has_end lower upper ≡ true) (q : ends_in_reach lower upper ≡ true)
      → Ok (record { from = b.from; to = b.to; lower = lower; upper = upper; ended = p; near = q }) ≡ bound_drawn_in m b
  drawn_in_reach p q = with_in_reach b.from b.to lower upper p q ∙ drawn_with

  pub drawn_out_of_reach : ends_in_reach lower upper ≡ false → Err OutOfReach ≡ bound_drawn_in m b
  drawn_out_of_reach q = with_out_of_reach b.from b.to lower upper drawn_ended q ∙ drawn_with
