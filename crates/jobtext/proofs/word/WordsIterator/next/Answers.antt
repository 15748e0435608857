use Rattle.std.proofs.Common.{◌≡◌, suc, [], length, drop, Some, None, sym, ap, ◌∙◌, arith, rules, tests}
use Rattle.std.specs.List.{position}
use Rattle.std.proofs.lemmas.Iterator.{YieldsList-from_slice}
use Rattle.std.proofs.lemmas.Iterator.Search.{position_from_yields_List}
use Rattle.std.proofs.lemmas.List.{take_rest}
use Rattle.std.proofs.lemmas.List.Quantifiers.{position-Some}
use Rattle.jobtext.specs.Cut.{is_blank, stop_place}
use Rattle.jobtext.specs.Words.{words}
use Rattle.jobtext.proofs.Cutting.{is_solid, by_first, found, missed, words_some, words_none}
use Rattle.jobtext.proofs.word.WordsIterator.next.Goals as goal

pub returns-in_err-start-clause-steps : goal.returns-in_err-start-clause-steps
returns-in_err-start-clause-steps c =
    let xs = c.args.self.now.0.now in
    let e : None ≡ position is_solid xs = sym c.in_err-start.was ∙ position_from_yields_List is_solid _ _ _ c.position.ensures.ran (YieldsList-from_slice xs (cc)) (λ x b q k. search (rules, tests)) in
    let none : words xs ≡ [] = words_none xs (missed is_solid xs e) in
    rw c.from_residual.ensures (none, none)

pub returns-clause-steps : goal.returns-clause-steps
returns-clause-steps c =
    let xs = c.args.self.now.0.now in
    let start = c.in_ok-start.start in
    let e : Some start ≡ position is_solid xs = sym c.in_ok-start.was ∙ position_from_yields_List is_solid _ _ _ c.position.ensures.ran (YieldsList-from_slice xs (cc)) (λ x b q k. search (rules, tests)) in
    let cut = c.cut_at-word.ensures is_blank (λ b r k. search (rules, tests)) in
    let here : start ≡ stop_place is_solid xs = found is_solid xs start e in
    let s = position-Some is_solid xs start 0 (sym e) in
    words_some xs (omega (arith, s.0)) ∙ ap by_first (ap (λ n. drop n xs) (sym here) ∙ sym (take_rest xs start)) ∙ sym (cc)

pub returns-clause-goes : goal.returns-clause-goes
returns-clause-goes c =
    let more : length (words c.args.self.now.0.now) ≡ suc (length (words c.cut_at-word.result.rest.now)) = ap length (returns-clause-steps c) in
    search rules
