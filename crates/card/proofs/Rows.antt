-- A bound and the row that its record has, there and back.
use Rattle.std.proofs.Common.{◌≡◌, ℕ, zero, suc, ◌<◌, Bool, true, false, cond, ◌&&◌, ltb, ℤ, pos, negsuc, Some, None, Ok, Err, Option, Result, sym, refl, ap, ◌∙◌}
use Rattle.std.proofs.lemmas.Bool.{and_parts, and_from, lt-ltb, cond-true}
use Rattle.bounds.specs.declared.bound.Bound.{Bound}
use Rattle.bounds.specs.declared.fault.Fault.{Fault}
use Rattle.bounds.specs.declared.row.LooseEnd.{LooseEnd}
use Rattle.bounds.specs.declared.row.LooseEnd.TheVariants.{Present, Absent}
use Rattle.bounds.specs.declared.row.Row.{Row}
use Rattle.bounds.specs.Loose.{tidy, end_given}
use Rattle.bounds.specs.Made.{where_true, bound_with}
use Rattle.bounds.specs.Reach.{has_end, ends_in_reach}
use Rattle.bounds.specs.Rows.{row_item}
use Rattle.bounds.proofs.Making.{made_in_reach}
use Rattle.card.specs.Records.{loose_end, bound_row}

-- there

end_back : (end : Option ℤ) → end ≡ end_given (loose_end end)
end_back None = refl
end_back (Some z) = refl

end_tidy : (end : Option ℤ) → tidy (loose_end end) ≡ true
end_tidy None = refl
end_tidy (Some z) = refl

-- the row of a bound is that bound
pub bound_row_item : (n : ℕ) (b : Bound) → b.from < n → b.to < n → row_item n (bound_row b) ≡ Ok b
bound_row_item n b h k =
    cond-true (ltb b.from n && ltb b.to n) _ _ (and_from (ltb b.from n) (ltb b.to n) (lt-ltb b.from n h) (lt-ltb b.to n k))
    ∙ sym (made_in_reach (bound_row b) b.lower b.upper (end_back b.lower) (end_back b.upper) (end_tidy b.lower) (end_tidy b.upper) b.ended b.near)

-- and back

where_true_back : {X : Type 0} (b : Bool) (f : b ≡ true → X) (x y : X) → where_true b f x ≡ y → (x ≡ y → ⊥) → (p : b ≡ true) × (f p ≡ y)
where_true_back true f x y e ne = (refl, e)
where_true_back false f x y e ne = absurd (ne e)

cond_back : {X : Type 0} (b : Bool) (x y z : X) → cond b x y ≡ z → (y ≡ z → ⊥) → (b ≡ true) × (x ≡ z)
cond_back true x y z e ne = (refl, e)
cond_back false x y z e ne = absurd (ne e)

err_not_ok : (f : Fault) (b : Bound) → ◌≡◌ {A = Result Bound Fault} (Err f) (Ok b) → ⊥
err_not_ok f b e = cc

-- a loose end that is tidy is that of the end that it gives
tidy_back : (x : LooseEnd) → tidy x ≡ true → x ≡ loose_end (end_given x)
tidy_back (Present z) e = refl
tidy_back (Absent (pos zero)) e = refl
tidy_back (Absent (pos (suc n))) e = absurd (cc)
tidy_back (Absent (negsuc n)) e = absurd (cc)

ends_back : (from to : ℕ) (lower upper : Option ℤ) (b : Bound) → bound_with from to lower upper ≡ Ok b → (from ≡ b.from) × (to ≡ b.to) × (lower ≡ b.lower) × (upper ≡ b.upper)
ends_back from to lower upper b e =
    let c = where_true_back (has_end lower upper) _ _ (Ok b) e (err_not_ok _ b) in
    let d = where_true_back (ends_in_reach lower upper) _ _ (Ok b) c.1 (err_not_ok _ b) in
    let f = ok_same _ b d.1 in
    (ap (λ x. x.from) f, ap (λ x. x.to) f, ap (λ x. x.lower) f, ap (λ x. x.upper) f)
  where
    ok_same : (x y : Bound) → ◌≡◌ {A = Result Bound Fault} (Ok x) (Ok y) → x ≡ y
    ok_same x y h = cc

-- a row that makes a bound is the row of that bound
pub row_item_back : (n : ℕ) (row : Row) (b : Bound) → row_item n row ≡ Ok b → row ≡ bound_row b
row_item_back n row b e =
    let c = cond_back (ltb row.from n && ltb row.to n) _ _ (Ok b) e (err_not_ok _ b) in
    let t = cond_back (tidy row.lower && tidy row.upper) _ _ (Ok b) c.1 (err_not_ok _ b) in
    let p = and_parts (tidy row.lower) (tidy row.upper) t.0 in
    let w = ends_back row.from row.to (end_given row.lower) (end_given row.upper) b t.1 in
    let l : row.lower ≡ loose_end b.lower = tidy_back row.lower p.0 ∙ ap loose_end w.2 in
    let u : row.upper ≡ loose_end b.upper = tidy_back row.upper p.1 ∙ ap loose_end w.3 in
    same row.from row.to row.lower row.upper w.0 w.1 l u
  where
    same : (f t : ℕ) (x y : LooseEnd) → f ≡ b.from → t ≡ b.to → x ≡ loose_end b.lower → y ≡ loose_end b.upper → ◌≡◌ {A = Row} (record { from = f; to = t; lower = x; upper = y }) (bound_row b)
    same f t x y e0 e1 e2 e3 = rw (e0, e1, e2, e3)
