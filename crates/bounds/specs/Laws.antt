-- That what rows make, and what is made of other sources, keeps the law of a source: each bound names two steps below n.
use Rattle.std.specs.Prelude.{◌≡◌, ℕ, ◌^◌, ◌<◌, ◌≤◌, max, Bool, true, false, ◌&&◌, List, [], ◌∷◌, ◌++◌, map, ℤ, Ok, Err, Option, Result, nat_lt, refl}
use Rattle.std.proofs.Common.{arith}
use Rattle.std.specs.List.{AllByRecursion}
use Rattle.std.proofs.ByRecursion.{All-append, All-map, All-weaker}
use Rattle.std.proofs.lemmas.Bool.{cond_both, and_parts, ltb-true}
use Rattle.bounds.specs.declared.bound.Bound.{Bound}
use Rattle.bounds.specs.declared.fault.Fault.{Fault}
use Rattle.bounds.specs.Items.{Item}
use Rattle.bounds.specs.declared.row.Row.{Row}
use Rattle.bounds.specs.DrawnIn.{drawn_in, raised, lowered}
use Rattle.bounds.specs.Loose.{tidy, end_given}
use Rattle.bounds.specs.Made.{where_true, bound_with}
use Rattle.bounds.specs.Meaning.{Below, Lawful}
use Rattle.bounds.specs.Reach.{has_end, ends_in_reach}
use Rattle.bounds.specs.Rows.{row_item}

-- what holds of both outcomes holds of what a test gives
where_true_both : {X : Type 0} (b : Bool) (f : b ≡ true → X) (x : X) (P : X → Type 0) → ((e : b ≡ true) → P (f e)) → P x → P (where_true b f x)
where_true_both true f x P p q = p refl
where_true_both false f x P p q = q

-- a bound that is made with any ends names the steps that were given
bound_with_below : (n from to : ℕ) (lower upper : Option ℤ) → from < n → to < n → Below n (bound_with from to lower upper)
bound_with_below n from to lower upper f t =
    let Made : Result Bound Fault → Type 0 = Below n in
    where_true_both (has_end lower upper) _ _ Made (λ p. where_true_both (ends_in_reach lower upper) _ _ Made (λ q. (f, t)) tt) tt

-- the item of a row
pub row_below : (n : ℕ) (row : Row) → Below n (row_item n row)
row_below n row =
    let Made : Result Bound Fault → Type 0 = Below n in
    cond_both (nat_lt row.from n && nat_lt row.to n) _ _ (Below n)
    (λ e. let steps = and_parts (nat_lt row.from n) (nat_lt row.to n) e in
    cond_both (tidy row.lower && tidy row.upper) _ _ Made
    (λ _. bound_with_below n row.from row.to (end_given row.lower) (end_given row.upper) (ltb-true row.from n steps.0) (ltb-true row.to n steps.1))
    (λ _. tt))
    (λ _. tt)

-- what holds of everything holds of each of a list
all_of : {X : Type 0} (P : X → Type 0) → ((x : X) → P x) → (xs : List X) → AllByRecursion P xs
all_of P h [] = tt
all_of P h (x ∷ xs) = (h x, all_of P h xs)

-- the items of rows
pub rows_lawful : (n : ℕ) → n < 2 ^ 16 → (rows : List Row) → Lawful n (map (row_item n) rows)
rows_lawful n few rows = record {
  few = few;
  each = All-map (Below n) (row_item n) rows (all_of (λ row. Below n (row_item n row)) (row_below n) rows);
}

-- a bound among fewer steps is one among more
pub below_more : (m n : ℕ) → m ≤ n → (x : Item) → Below m x → Below n x
below_more m n h (Ok b) k = (omega (arith, k.0), omega (arith, k.1))
below_more m n h (Err f) k = tt

-- one list after another, among the larger number of steps
pub joined_lawful : (m n : ℕ) (xs ys : List Item) → Lawful m xs → Lawful n ys → Lawful (max m n) (xs ++ ys)
joined_lawful m n xs ys p q = record {
  few = omega (arith, p.few, q.few);
  each = All-append (Below (max m n)) xs ys
      (All-weaker (Below m) (Below (max m n)) (below_more m (max m n) (omega arith)) xs p.each)
      (All-weaker (Below n) (Below (max m n)) (below_more n (max m n) (omega arith)) ys q.each);
}

-- a margin leaves the steps of an item as they are
drawn_below : (n m : ℕ) (x : Item) → Below n x → Below n (drawn_in m x)
drawn_below n m (Ok b) h = bound_with_below n b.from b.to (raised m b.lower) (lowered m b.upper) h.0 h.1
drawn_below n m (Err f) h = tt

-- the items of a source, each drawn in by m
pub margin_lawful : (m n : ℕ) (xs : List Item) → Lawful n xs → Lawful n (map (drawn_in m) xs)
margin_lawful m n xs p = record {
  few = p.few;
  each = All-map (Below n) (drawn_in m) xs (All-weaker (Below n) (λ x. Below n (drawn_in m x)) (drawn_below n m) xs p.each);
}
