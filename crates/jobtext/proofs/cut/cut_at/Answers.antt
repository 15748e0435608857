use Rattle.std.proofs.Common.{◌≡◌, ◌+◌, ◌≤◌, length, take, drop, sym, ap, ◌∙◌, arith, rules}
use Rattle.std.proofs.lemmas.Iterator.{YieldsList-from_slice}
use Rattle.std.proofs.lemmas.Iterator.Search.{position_from_yields_List}
use Rattle.std.proofs.lemmas.List.{take_all, drop_all, take_rest}
use Rattle.jobtext.specs.Cut.{stop_place}
use Rattle.jobtext.proofs.Cutting.{found, missed}
use Rattle.jobtext.proofs.cut.cut_at.Goals as goal

pub returns-in-Some : goal.returns-in-Some
returns-in-Some g c = λ test answers.
    let xs = c.args.text.now in
    let place : c.in-Some.place ≡ stop_place test xs = found test xs _ (sym c.in-Some.is ∙ position_from_yields_List test _ _ _ c.position.ensures.ran (YieldsList-from_slice xs (cc)) (λ x b q k. search (rules, answers))) in
    (ap (λ n. take n xs) place, take_rest xs _ ∙ ap (λ n. drop (n + 1) xs) place)

pub returns : goal.returns
returns g c = λ test answers.
    let xs = c.args.text.now in
    let place : length xs ≤ stop_place test xs = missed test xs (sym c.in-None.is ∙ position_from_yields_List test _ _ _ c.position.ensures.ran (YieldsList-from_slice xs (cc)) (λ x b q k. search (rules, answers))) in
    (sym (take_all _ xs place), sym (drop_all (stop_place test xs + 1) xs (omega arith)))
