-- The lines of a text, and the words of a line.
use Rattle.std.specs.Prelude.{ℕ, Bool, cond, List, [], ◌∷◌}
use Rattle.std.specs.List.{onto_first}
use Rattle.jobtext.specs.Cut.{is_line_end, is_comment, is_blank, first_piece}

-- the pieces of a text, each of which ends before a byte that passes the test or at the end of the text
abbrev pub pieces : (ℕ → Bool) → List ℕ → List (List ℕ)
pieces test [] = []
pieces test (c ∷ cs) = cond (test c) ([] ∷ pieces test cs) (onto_first c (pieces test cs))

-- the pieces that are not empty
abbrev pub not_empty : List (List ℕ) → List (List ℕ)
not_empty [] = []
not_empty ([] ∷ ps) = not_empty ps
not_empty ((c ∷ p) ∷ ps) = (c ∷ p) ∷ not_empty ps

-- the lines of a text: each ends with a line feed, but the last need not
abbrev pub lines : List ℕ → List (List ℕ)
lines text = pieces is_line_end text

-- the words of a text: they stand between blanks
abbrev pub words : List ℕ → List (List ℕ)
words text = not_empty (pieces is_blank text)

-- the words of a line, without its comment
abbrev pub line_words : List ℕ → List (List ℕ)
line_words line = words (first_piece is_comment line)
