-- What one line of a job says.
use Rattle.std.specs.Prelude.{ℕ, cond, List, [], ◌∷◌, length, Ok, Err, None, codes, Option, Result, ◌==◌, slice_index_or}
use Rattle.std.specs.Option.{option_map, ok_or, option_zip}
use Rattle.std.specs.Str.{bytes_eq}
use Rattle.bounds.specs.declared.row.LooseEnd.{LooseEnd}
use Rattle.bounds.specs.declared.row.Row.{Row}
use Rattle.jobtext.specs.declared.line.Line.{Line}
use Rattle.jobtext.specs.declared.line.Line.TheVariants.{Blank, Steps, Bound}
use Rattle.jobtext.specs.declared.line.NotALine.{NotALine}
use Rattle.jobtext.specs.Numbers.{step_of, end_of}
use Rattle.jobtext.specs.Words.{line_words}

-- what is answered for a line of no such form
abbrev pub no_line : NotALine
no_line = record {}

-- the row of two steps and two ends
abbrev pub row_with : (ℕ × ℕ) × (LooseEnd × LooseEnd) → Row
row_with p = record { from = p.0.0; to = p.0.1; lower = p.1.0; upper = p.1.1 }

-- the row that four words write, if each of them writes its part
abbrev pub row_of : List ℕ → List ℕ → List ℕ → List ℕ → Option Row
row_of from to lower upper = option_map row_with (option_zip (option_zip (step_of from) (step_of to)) (option_zip (end_of lower) (end_of upper)))

-- the number of steps that the words behind `steps` give: there is just one
abbrev pub steps_of : List (List ℕ) → Option ℕ
steps_of ws = cond (length ws == 1) (step_of (slice_index_or ws 0 [])) None

-- the row that the words behind `bound` give: there are just four
abbrev pub bound_of : List (List ℕ) → Option Row
bound_of ws = cond (length ws == 4) (row_of (slice_index_or ws 0 []) (slice_index_or ws 1 []) (slice_index_or ws 2 []) (slice_index_or ws 3 [])) None

-- what a line says by its words behind the word `steps`
abbrev pub steps_said : List (List ℕ) → Result Line NotALine
steps_said ws = ok_or (option_map Steps (steps_of ws)) no_line

-- and behind the word `bound`
abbrev pub bound_said : List (List ℕ) → Result Line NotALine
bound_said ws = ok_or (option_map Bound (bound_of ws)) no_line

-- what the words of a line say: none of them, nothing; else by the first
abbrev pub words_say : List (List ℕ) → Result Line NotALine
words_say [] = Ok Blank
words_say (key ∷ ws) = cond (bytes_eq key (codes "steps")) (steps_said ws) (cond (bytes_eq key (codes "bound")) (bound_said ws) (Err no_line))

-- what a line says
unfoldable pub line_of : List ℕ → Result Line NotALine
line_of line = words_say (line_words line)
