use Rattle.std.proofs.Common.{◌≡◌, ℕ, List, [], sym, ap, ◌∙◌, rules, tests}
use Rattle.jobtext.specs.Cut.{is_comment, first_piece}
use Rattle.jobtext.specs.Line.{words_say, line_of}
use Rattle.jobtext.specs.Words.{words}
use Rattle.jobtext.proofs.line.read_line.Goals as goal

-- a line whose text without the comment has these words says what they say
said : (line text : List ℕ) (ws : List (List ℕ)) → text ≡ first_piece is_comment line → words text ≡ ws → words_say ws ≡ line_of line
unfolding line_of
said line text ws piece e = ap words_say (sym e ∙ ap words piece)

pub returns-in-None : goal.returns-in-None
returns-in-None c = said c.args.line.now _ [] (c.cut_at.ensures is_comment (λ b r k. search (rules, tests))).0 c.in-None.ensures.steps.0

pub returns-in-Some : goal.returns-in-Some
returns-in-Some c =
    let e = said c.args.line.now _ _ (c.cut_at.ensures is_comment (λ b r k. search (rules, tests))).0 c.in-Some.ensures.steps in
    let f = rw (← c.if-eq.ensures) at e in
    search rules

pub returns-in-Some-2 : goal.returns-in-Some-2
returns-in-Some-2 c =
    let e = said c.args.line.now _ _ (c.cut_at.ensures is_comment (λ b r k. search (rules, tests))).0 c.in-Some.ensures.steps in
    let f = rw (← c.if-eq.ensures, ← c.if-eq-2.ensures) at e in
    search rules

pub returns-in-Some-3 : goal.returns-in-Some-3
returns-in-Some-3 c =
    let e = said c.args.line.now _ _ (c.cut_at.ensures is_comment (λ b r k. search (rules, tests))).0 c.in-Some.ensures.steps in
    rw (← c.if-eq.ensures, ← c.if-eq-2.ensures) at e
