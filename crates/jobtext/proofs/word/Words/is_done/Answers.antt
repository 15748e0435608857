use Rattle.std.proofs.Common.{◌≡◌, rules, tests}
use Rattle.std.specs.List.{position}
use Rattle.std.proofs.lemmas.Iterator.{YieldsList-from_slice}
use Rattle.std.proofs.lemmas.Iterator.Search.{position_from_yields_List}
use Rattle.jobtext.proofs.Cutting.{is_solid, words_left}
use Rattle.jobtext.proofs.word.Words.is_done.Goals as goal

pub returns : goal.returns
returns c =
    let xs = c.args.self.now.0.now in
    let e : c.position.result ≡ position is_solid xs = position_from_yields_List is_solid _ _ _ c.position.ensures.ran (YieldsList-from_slice xs (cc)) (λ x b q k. search (rules, tests)) in
    let left = words_left xs c.position.result e in
    search (rules, tests)
