use Rattle.std.proofs.Common.{◌≡◌, ℕ, ◌-◌, ◌*◌, ◌^◌, ◌<◌, ◌≤◌, length, drop, Ok, Err, refl, ◌∙◌, subst, mul-le-mul, arith, rules}
use Rattle.std.specs.Option.{option_map}
use Rattle.bounds.specs.Meaning.{Meaning}
use Rattle.bounds.specs.RowList.{rows_meaning}
use Rattle.bounds.specs.Spoiled.{first_spoiled}
use Rattle.bounds.specs.Told.{told_spoiled}
use Rattle.network.specs.Compiled as network
use Rattle.network.specs.Refusals.{early_refusal}
use Rattle.bench.specs.Outcomes.{job}
use Rattle.bench.specs.Plain.{plain_row, plain_group, plain_link}
use Rattle.bench.proofs.Answering.{answered, answered_early, behind, early_items, early_limits, early_tables, handed, means_job}
use Rattle.bench.proofs.Copying.{front_length, front_map}
use Rattle.bench.proofs.nalthwig_compile.Goals as goal
use Rattle.bench.proofs.nalthwig_compile.Goals.{After-compile-2}

pub returns-then-n-eq0 : goal.returns-then-n-eq0
returns-then-n-eq0 c = record {
  answer = λ few. answered_early _ _ _ _ _ _ _ _ _ _ (early_limits _ few _ _ _ _ c.then-n-eq0.either) (record { outcome = c.refused.ensures; distances_left = refl; groups_left = refl; links_left = refl });
  distances = refl;
}

pub returns-then-distances-pairs : goal.returns-then-distances-pairs
returns-then-distances-pairs c = record {
  answer = λ few.
      answered_early _ _ _ _ _ _ _ _ _ _ (early_tables _ few _ c.if-n-eq0.false c.if-n-gt-MOST_GROUPS.false c.if-bounds-gt-MOST_ROWS.false _ _ _ c.then-distances-pairs.either)
      (record { outcome = c.refused-then-distances-pairs.ensures; distances_left = refl; groups_left = refl; links_left = refl });
  distances = refl;
}

most : (n : ℕ) → n ≤ 64 → n * (n - 1) ≤ 64 * 63
most n l = mul-le-mul {n₁ = n} {m₁ = n - 1} {n₂ = 64} {m₂ = 63} l (omega arith)

pub slice_bounds-link_slots-end : goal.slice_bounds-link_slots-end
slice_bounds-link_slots-end c = let fit = most c.args.steps c.if-n-gt-MOST_GROUPS.false in search rules

pub loop-preserved : goal.loop-preserved
loop-preserved c = behind _ _ c.compile.result _ _ c.new-source.ensures.0 c.compile.ensures.distances ∙ c.loop.invariant

each : (c : After-compile-2) → length c.loop.group_table ≡ c.args.steps
each c = c.loop.auto.group_table ∙ front_length c.args.steps _ (search rules)

left : (c : After-compile-2) → drop (c.args.steps * c.args.steps) c.compile-2.new.distances ≡ drop (c.args.steps * c.args.steps) c.args.distances.now
left c = behind _ _ c.compile-2.result _ _ c.new-source.ensures.0 c.compile-2.ensures.distances ∙ c.loop.invariant

module _ (c : After-compile-2) (few : c.args.steps < 2 ^ 16) where
  abbrev the_job : Meaning
  the_job = job c.args.steps few c.args.bounds.now

  -- what holds of the compiled rows holds of the job
  of_job : (P : Meaning → Type 0) → P (rows_meaning c.new-source.result.steps c.new-source.result.few c.new-source.result.rows.now) → P the_job
  of_job P = subst P (means_job c.args.steps _ few c.new-source.result.few c.args.bounds.now _ c.new-source.ensures.0 (c.new-source.ensures.1 ∙ front_map plain_row c.args.bounds.now _ (c.write.ensures plain_row (λ x y e. e))))

  -- only an item can be refused early, at the tables of the compilation as at the handed ones
  by_items : (d g l : ℕ) → c.args.steps * c.args.steps ≤ d → c.args.steps ≤ g → c.args.steps * (c.args.steps - 1) ≤ l → early_refusal the_job d g l ≡ option_map told_spoiled (first_spoiled 0 the_job.items)
  by_items = early_items c.args.steps few c.args.bounds.now c.if-n-eq0.false c.if-n-gt-MOST_GROUPS.false c.if-bounds-gt-MOST_ROWS.false

  compiled_early : early_refusal the_job (length c.loop.distances) (length c.loop.group_table) (length c.loop.link_table) ≡ option_map told_spoiled (first_spoiled 0 the_job.items)
  compiled_early =
      let fit = most c.args.steps c.if-n-gt-MOST_GROUPS.false in
      let room : length c.loop.link_table ≡ c.args.steps * (c.args.steps - 1) = c.loop.auto.link_table ∙ front_length (c.args.steps * (c.args.steps - 1)) _ (search rules) in
      by_items _ _ _ (omega (arith, c.loop.auto.distances)) (omega (arith, each c)) (omega arith)

  handed_early : early_refusal the_job (length c.args.distances.now) (length c.args.groups.now) (length c.args.links.now) ≡ option_map told_spoiled (first_spoiled 0 the_job.items)
  handed_early = by_items _ _ _ c.if-distances-pairs.false c.if-groups-n.false c.if-links-most_links.false

pub returns-in-Ok : goal.returns-in-Ok
returns-in-Ok c =
    let at = (goal.at.returns-in-Ok c).After-compile-2 in
    record {
      answer = λ few.
          answered _ _ _ _ _ _ _ (the_job at few) _ _ _ (compiled_early at few) (handed_early at few) c.loop.distances c.loop.invariant (Ok c.in-Ok.compiled)
          (of_job at few (λ m. network.Decided m (early_refusal m (length c.loop.distances) (length c.loop.group_table) (length c.loop.link_table)) (Ok c.in-Ok.compiled)) c.in-Ok.ensures.decided)
          (handed _ _ _ _ _ _ (the_job at few) c.in-Ok.compiled _ _ (of_job at few (λ m. network.TablesOf m c.in-Ok.compiled c.compile-2.new.distances c.compile-2.new.groups c.compile-2.new.links) c.in-Ok.ensures.tables)
          (c.compile-2.auto.groups ∙ each at) refl (c.write-in-Ok.ensures plain_group (λ x y e. e)) (c.write-in-Ok-2.ensures plain_link (λ x y e. e)));
      distances = left at;
    }

pub returns-in-Err : goal.returns-in-Err
returns-in-Err c =
    let at = (goal.at.returns-in-Err c).After-compile-2 in
    record {
      answer = λ few.
          answered _ _ _ _ _ _ _ (the_job at few) _ _ _ (compiled_early at few) (handed_early at few) c.loop.distances c.loop.invariant (Err c.in-Err.refusal)
          (of_job at few (λ m. network.Decided m (early_refusal m (length c.loop.distances) (length c.loop.group_table) (length c.loop.link_table)) (Err c.in-Err.refusal)) c.in-Err.ensures.decided)
          (c.refused-in-Err.ensures, of_job at few (λ m. network.DistancesAfter m.steps (Err c.in-Err.refusal) c.loop.distances c.compile-2.new.distances) c.in-Err.ensures.distances, refl, refl);
      distances = left at;
    }
