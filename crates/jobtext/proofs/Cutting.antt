-- The pieces that a text is cut into, and its words.
use Rattle.std.proofs.Common.{◌≡◌, ℕ, suc, ◌+◌, ◌<◌, ◌≤◌, Bool, true, false, cond, not, List, [], ◌∷◌, length, take, drop, Some, None, Option, is_none, nat_eq, nat_lt, sym, refl, ap, ◌∙◌, arith, length-drop}
use borrow.Author.Tests.{ltb-false}
use Rattle.std.specs.List.{onto_first, position}
use Rattle.std.proofs.lemmas.List.Quantifiers.{position-Some}
use Rattle.std.proofs.lemmas.Bool.Decides.{nat_tests}
use Rattle.jobtext.specs.Cut.{is_line_end, is_blank, stop_place, first_piece, after_piece}
use Rattle.jobtext.specs.Words.{pieces, not_empty, lines, words}

-- where the first byte that passes was looked for, and found at k or nowhere
found_by : (b : Bool) (n k : ℕ) → Some k ≡ cond b (Some n) None → k ≡ n
found_by true n k e = cc
found_by false n k e = cc

pub found : (test : ℕ → Bool) (xs : List ℕ) (k : ℕ) → Some k ≡ position test xs → k ≡ stop_place test xs
found test xs k e = found_by (nat_lt (stop_place test xs) (length xs)) (stop_place test xs) k e

missed_by : (b : Bool) (n : ℕ) → None ≡ cond b (Some n) None → b ≡ false
missed_by true n e = cc
missed_by false n e = refl

pub missed : (test : ℕ → Bool) (xs : List ℕ) → None ≡ position test xs → length xs ≤ stop_place test xs
missed test xs e = omega (arith, ltb-false _ _ (missed_by (nat_lt (stop_place test xs) (length xs)) (stop_place test xs) e))

-- a text that is not empty is its first piece, and then the pieces of the text behind it
pub pieces_cut : (test : ℕ → Bool) (xs : List ℕ) → 0 < length xs → pieces test xs ≡ first_piece test xs ∷ pieces test (after_piece test xs)
pieces_cut test [] h = absurd (omega arith)
pieces_cut test (c ∷ []) h = elim (test c) as (λ b. cond b ([] ∷ []) ((c ∷ []) ∷ []) ≡ take (cond (not b) 1 0) (c ∷ []) ∷ pieces test (drop (cond (not b) 1 0 + 1) (c ∷ []))) [ true ↦ refl | false ↦ refl ]
pieces_cut test (c ∷ d ∷ cs) h =
    let ds : List ℕ = d ∷ cs in
    let n : ℕ = stop_place test ds in
    let more : pieces test ds ≡ first_piece test ds ∷ pieces test (after_piece test ds) = pieces_cut test (d ∷ cs) (omega arith) in
    let one : suc n ≡ 1 + n = omega arith in
    let two : suc (n + 1) ≡ 1 + n + 1 = omega arith in
    elim (test c) as (λ b. cond b ([] ∷ pieces test ds) (onto_first c (pieces test ds)) ≡ take (cond (not b) (1 + n) 0) (c ∷ ds) ∷ pieces test (drop (cond (not b) (1 + n) 0 + 1) (c ∷ ds))) [ true ↦ refl | false ↦ ap (onto_first c) more ∙ ap (λ k. take k (c ∷ ds) ∷ pieces test (after_piece test ds)) one ∙ ap (λ k. take (1 + n) (c ∷ ds) ∷ pieces test (drop k (c ∷ ds))) two ]

-- a text that is not empty, cut at its first line: that line, and then the lines of what is left, which is shorter
pub line_cut : (xs line more : List ℕ) → 0 < length xs → (line ≡ first_piece is_line_end xs) × (more ≡ after_piece is_line_end xs) → (lines xs ≡ line ∷ lines more) × (length more < length xs)
line_cut xs line more some cut = (pieces_cut is_line_end xs some ∙ sym (cc), omega (arith, ap length cut.1, length-drop (stop_place is_line_end xs + 1) xs))

-- a text that begins with no blank is its first word, and then the words of the text behind it
word_cut : (c : ℕ) (cs : List ℕ) → is_blank c ≡ false → words (c ∷ cs) ≡ first_piece is_blank (c ∷ cs) ∷ words (after_piece is_blank (c ∷ cs))
word_cut c cs e =
    let n : ℕ = stop_place is_blank cs in
    let one : suc n ≡ 1 + n = omega arith in
    let ps : List (List ℕ) = pieces is_blank (after_piece is_blank (c ∷ cs)) in
    let F : ℕ → List ℕ = λ k. take k (c ∷ cs) in
    let here : 1 + n ≡ stop_place is_blank (c ∷ cs) = sym (ap (λ b. cond (not b) (1 + n) 0) e) in
    ap not_empty (pieces_cut is_blank (c ∷ cs) (omega arith)) ∙ sym (ap (λ k. not_empty (F k ∷ ps)) (one ∙ here)) ∙ ap (λ k. F k ∷ not_empty ps) (one ∙ here)

-- a byte that is no blank
abbrev pub is_solid : ℕ → Bool
is_solid c = not (is_blank c)

-- the first word of a text, and the words behind it
abbrev pub by_first : List ℕ → List (List ℕ)
by_first text = first_piece is_blank text ∷ words (after_piece is_blank text)

-- a blank is passed over, and any other byte begins the first word
some_by : (c : ℕ) (cs : List ℕ) → (stop_place is_solid cs < length cs → words cs ≡ by_first (drop (stop_place is_solid cs) cs)) → (b : Bool) → is_blank c ≡ b → stop_place is_solid (c ∷ cs) < length (c ∷ cs) → words (c ∷ cs) ≡ by_first (drop (stop_place is_solid (c ∷ cs)) (c ∷ cs))
some_by c cs more true e h =
    let n : ℕ = stop_place is_solid cs in
    let one : suc n ≡ 1 + n = omega arith in
    let there : 1 + n ≡ stop_place is_solid (c ∷ cs) = sym (ap (λ b. cond (not (not b)) (1 + n) 0) e) in
    ap (λ t. not_empty (cond t ([] ∷ pieces is_blank cs) (onto_first c (pieces is_blank cs)))) e ∙ more (omega (arith, there)) ∙ ap (λ k. by_first (drop k (c ∷ cs))) (one ∙ there)
some_by c cs more false e h =
    let there : 0 ≡ stop_place is_solid (c ∷ cs) = sym (ap (λ b. cond (not (not b)) (1 + stop_place is_solid cs) 0) e) in
    word_cut c cs e ∙ ap (λ k. by_first (drop k (c ∷ cs))) there

-- a text with another byte than blanks has a first word, which begins at the first such byte
pub words_some : (xs : List ℕ) → stop_place is_solid xs < length xs → words xs ≡ by_first (drop (stop_place is_solid xs) xs)
words_some [] h = absurd (omega arith)
words_some (c ∷ cs) h = some_by c cs (words_some cs) (is_blank c) refl h

none_by : (c : ℕ) (cs : List ℕ) → (length cs ≤ stop_place is_solid cs → words cs ≡ []) → (b : Bool) → is_blank c ≡ b → length (c ∷ cs) ≤ stop_place is_solid (c ∷ cs) → words (c ∷ cs) ≡ []
none_by c cs more true e h = ap (λ t. not_empty (cond t ([] ∷ pieces is_blank cs) (onto_first c (pieces is_blank cs)))) e ∙ more (omega (arith, ap (λ b. cond (not (not b)) (1 + stop_place is_solid cs) 0) e))
none_by c cs more false e h = absurd (omega (arith, ap (λ b. cond (not (not b)) (1 + stop_place is_solid cs) 0) e))

-- a text of blanks alone has no word
pub words_none : (xs : List ℕ) → length xs ≤ stop_place is_solid xs → words xs ≡ []
words_none [] h = refl
words_none (c ∷ cs) h = none_by c cs (words_none cs) (is_blank c) refl h

-- whether words are left, by the place of the first byte that is no blank
pub words_left : (xs : List ℕ) (o : Option ℕ) → o ≡ position is_solid xs → is_none o ≡ nat_eq (length (words xs)) 0
words_left xs None e = sym (ap (λ ws. nat_eq (length ws) 0) (words_none xs (missed is_solid xs e)))
words_left xs (Some k) e =
    let here : k ≡ stop_place is_solid xs = found is_solid xs k e in
    let inside = position-Some is_solid xs k 0 (sym e) in
    let one : length (words xs) ≡ suc (length (words (after_piece is_blank (drop (stop_place is_solid xs) xs)))) = ap length (words_some xs (omega (arith, inside.0))) in
    grind (arith, nat_tests)
