use Rattle.std.proofs.Common.{◌≡◌, ℕ, ℤ, List, ◌-◌, ◌*◌, length, cond, take, drop, unwrap_or, sym, ap, ◌∙◌, subst, arith, rules}
use Rattle.std.specs.Option.{option_map}
use Rattle.std.specs.List.{AllByRecursion}
use Rattle.std.proofs.lemmas.Bool.{cond-false}
use Rattle.bounds.specs.Spoiled.{readable}
use Rattle.bounds.specs.Timetables.{Distances, Keeps}
use Rattle.bounds.specs.Told.{told_spoiled}
use Rattle.bounds.proofs.Within.{within}
use Rattle.network.specs.Compiled.{leaves_distances}
use Rattle.network.specs.Gaps.{Narrowed, Closes, Hopeless}
use Rattle.network.specs.Grid.{entry_at, unbounded, zeroed}
use Rattle.network.specs.Groups.{GroupTable}
use Rattle.network.specs.Links.{LinkTable}
use Rattle.network.specs.Refusals.{told, early_refusal}
use Rattle.network.specs.declared.refusal.Refusal.TheVariants.{NoTimetable}
use Rattle.network.proofs.Compiling.{early_by_items, spoiled_clears, zeroed_same, decided_early, decided_none, says_all}
use Rattle.network.proofs.Narrowing.{hopeless_infeasible, closed_distances, closed_feasible, one_distance}
use Rattle.network.proofs.Refilling.{refilled_onward}
use Rattle.network.proofs.compiler.compile.Given as given
use Rattle.network.proofs.compiler.compile.Goals as goal
use Rattle.network.proofs.compiler.compile.Goals.{After-first_spoiled, After-gather}

-- past the tests for limits and tables
early : (g : given.Over) (c : After-first_spoiled g)
    → early_refusal (g.S.Source.meaning c.args.source.now) (length c.args.distances.now) (length c.args.groups.now) (length c.args.links.now) ≡ option_map told_spoiled c.first_spoiled.result
early g c =
    early_by_items (g.S.Source.meaning c.args.source.now) c.steps-n.result _ _ _
    (sym c.if-beyond_limits.ensures) c.steps-n.ensures c.if-distances-n.false c.if-groups-n.false c.if-links-n.false
    c.first_spoiled.result c.first_spoiled.ensures

-- what is said of a list is said of one that is the same
moved : (P : List ℤ → Type 0) (ys zs : List ℤ) → zs ≡ ys → P ys → P zs
moved P ys zs same h = subst P (sym same) h

-- the gathered table says what the bounds say
says : (g : given.Over) (c : After-gather g) → let m = g.S.Source.meaning c.args.source.now in Narrowed m.steps unbounded (entry_at m.steps c.gather.new.self.cells.now) (λ t. AllByRecursion (Keeps t) m.items)
says g c =
    let m = g.S.Source.meaning c.args.source.now in
    let P : ℕ → Type 0 = λ n. Narrowed n unbounded (entry_at n c.gather.new.self.cells.now) (λ t. AllByRecursion (Keeps t) (readable m.items)) in
    says_all m (sym c.if-beyond_limits.ensures) (entry_at m.steps c.gather.new.self.cells.now) (subst P (c.new-grid.ensures.rows ∙ c.steps-n.ensures) c.gather.ensures.narrowed)

pub returns-in-Some : goal.returns-in-Some
returns-in-Some g c =
    let m = g.S.Source.meaning c.args.source.now in
    let before = c.args.distances.now in
    let cleared : c.clear.new.self.cells.now ≡ cond (leaves_distances (told_spoiled c.in-Some.item)) before (zeroed m.steps before) =
    c.clear.ensures.cleared ∙ zeroed_same _ _ _ _ (c.new-grid.ensures.rows ∙ c.steps-n.ensures) (ap (drop (c.new-grid.result.n * c.new-grid.result.n)) c.new-grid.ensures.kept)
    ∙ sym (cond-false (leaves_distances (told_spoiled c.in-Some.item)) _ _ (spoiled_clears c.in-Some.item.fault c.in-Some.item.place)) in
    record {
      answer = sym (ap (λ o. unwrap_or o (told NoTimetable)) (early g (goal.at.returns-in-Some g c).After-first_spoiled ∙ ap (option_map told_spoiled) c.in-Some.is));
      decided = decided_early _ _ _ (early g (goal.at.returns-in-Some g c).After-first_spoiled ∙ ap (option_map told_spoiled) c.in-Some.is);
      tables = tt;
      unique = one_distance _;
      distances = search rules;
      groups = search rules;
      links = search rules;
    }

pub returns-then-not-close : goal.returns-then-not-close
returns-then-not-close g c =
    let m = g.S.Source.meaning c.args.source.now in
    let P : ℕ → Type 0 = λ n. Hopeless n (entry_at n c.gather.new.self.cells.now) in
    let some = (within m (sym c.if-beyond_limits.ensures)).some in
    let first : c.new-grid.result.n ≡ m.steps = c.new-grid.ensures.rows ∙ c.steps-n.ensures in
    let rest = refilled_onward _ _ _ c.gather.ensures.rest c.close.ensures.rest in
    let cleared : c.clear-then-not-close.new.self.cells.now ≡ zeroed m.steps c.args.distances.now =
    c.clear-then-not-close.ensures.cleared
    ∙ ap (λ k. zeroed k c.close.new.self.cells.now) rest.rows
    ∙ zeroed_same _ _ _ _ first (rest.behind ∙ ap (drop (c.new-grid.result.n * c.new-grid.result.n)) c.new-grid.ensures.kept) in
    record {
      answer = sym (ap (λ o. unwrap_or o (told NoTimetable)) (early g (goal.at.returns-then-not-close g c).After-first_spoiled ∙ ap (option_map told_spoiled) c.in_default.is));
      decided = decided_none _ _ (early g (goal.at.returns-then-not-close g c).After-first_spoiled ∙ ap (option_map told_spoiled) c.in_default.is)
          (hopeless_infeasible m some _ (says g (goal.at.returns-then-not-close g c).After-gather) (subst P (c.gather.ensures.rest.rows ∙ first) c.if-not-close.ensures.closed));
      tables = tt;
      unique = one_distance _;
      distances = search rules;
      groups = search rules;
      links = search rules;
    }

pub returns : goal.returns
returns g c =
    let m = g.S.Source.meaning c.args.source.now in
    let some = (within m (sym c.if-beyond_limits.ensures)).some in
    let xs = c.gather.new.self.cells.now in
    let ys = c.close.new.self.cells.now in
    let gs = c.find_groups-group_count.new.groups in
    let found = c.in_ok-link_count.ensures in
    let rest = refilled_onward _ _ _ c.gather.ensures.rest c.close.ensures.rest in
    let first : c.new-grid.result.n ≡ m.steps = c.new-grid.ensures.rows ∙ c.steps-n.ensures in
    let last : c.close.new.self.n ≡ m.steps = rest.rows ∙ first in
    let closes : Closes m.steps (entry_at m.steps xs) (entry_at m.steps ys) =
    subst (λ (n : ℕ). Closes n (entry_at n xs) (entry_at n ys)) (c.gather.ensures.rest.rows ∙ first) c.if-not-close.ensures.closed in
    let gathered = says g (goal.at.returns g c).After-gather in
    let unrefused = early g (goal.at.returns g c).After-first_spoiled ∙ ap (option_map told_spoiled) c.in_default.is in
    let distances_of : Distances m (entry_at m.steps ys) = closed_distances m some _ gathered _ closes in
    let groups_of : GroupTable m.steps (entry_at m.steps ys) gs c.find_groups-group_count.result =
    subst (λ (n : ℕ). GroupTable n (entry_at n ys) gs c.find_groups-group_count.result) last c.find_groups-group_count.ensures.table in
    let links_of : LinkTable m.steps (entry_at m.steps ys) gs (take c.in_ok-link_count.link_count c.find_links.new.links) =
    subst (λ (n : ℕ). LinkTable n (entry_at n ys) gs (take c.in_ok-link_count.link_count c.find_links.new.links)) last found.links in
    let behind : drop (m.steps * m.steps) ys ≡ drop (m.steps * m.steps) c.args.distances.now =
    ap (λ k. drop (k * k) ys) (sym first) ∙ rest.behind ∙ ap (drop (c.new-grid.result.n * c.new-grid.result.n)) c.new-grid.ensures.kept ∙ ap (λ k. drop (k * k) c.args.distances.now) first in
    record {
      answer = (unrefused, omega (arith, c.find_groups-group_count.ensures.count, last), omega (arith, found.count, ap (λ k. k * (k - 1)) last));
      decided = (unrefused, closed_feasible m some _ gathered _ closes);
      tables = record {
        distances_of = moved (λ zs. Distances m (entry_at m.steps zs)) ys _ (search rules) distances_of;
        groups_of = moved (λ zs. GroupTable m.steps (entry_at m.steps zs) gs c.find_groups-group_count.result) ys _ (search rules) groups_of;
        links_of = moved (λ zs. LinkTable m.steps (entry_at m.steps zs) gs (take c.in_ok-link_count.link_count c.find_links.new.links)) ys _ (search rules) links_of;
        links_in_table = omega (arith, found.count, c.if-links-n.false, c.find_links.auto.links, ap (λ k. k * (k - 1)) last, ap (λ k. k * (k - 1)) c.steps-n.ensures);
      };
      unique = one_distance _;
      distances = search rules;
      groups = ap (λ k. drop k c.find_groups-group_count.new.groups) (sym last) ∙ c.find_groups-group_count.ensures.behind ∙ ap (λ k. drop k c.args.groups.now) last;
      links = found.behind;
    }
