-- What the text of a job says: its number of steps and its rows, or the number of its first wrong line.
use Rattle.std.specs.Prelude.{◌≡◌, ℕ, ◌+◌, cond, List, [], ◌∷◌, ◌++◌, length, codes, Ok, Err, vec_items, Result, nat_lt}
use Rattle.std.specs.Fmt.{decimal}
use Rattle.bounds.specs.declared.row.Row.{Row}
use Rattle.jobtext.specs.declared.job.Job.{Job}
use Rattle.jobtext.specs.declared.job.TextError.{TextError}
use Rattle.jobtext.specs.declared.job.TextError.TheVariants.{TooLong, Line as WrongLine, Memory}
use Rattle.jobtext.specs.declared.line.Line.{Line}
use Rattle.jobtext.specs.declared.line.Line.TheVariants.{Blank, Steps, Bound}
use Rattle.jobtext.specs.declared.line.NotALine.{NotALine}
use Rattle.jobtext.specs.Limits.{most_bytes}
use Rattle.jobtext.specs.Line.{line_of}
use Rattle.jobtext.specs.Words.{lines}

-- a job, a wrong line by its number, or too many bytes
pub data Said : Type 0 where
  job : ℕ → List Row → Said
  bad : ℕ → Said
  too_long : Said

-- a row before the others of a job
abbrev pub with_row : Row → Said → Said
with_row row (job steps rows) = job steps (row ∷ rows)
with_row row (bad k) = bad k
with_row row too_long = too_long

-- line k behind the line of the steps, where the lines below it say `next`: a row, or nothing
abbrev pub row_line : Result Line NotALine → ℕ → Said → Said
row_line (Ok Blank) k next = next
row_line (Ok (Bound row)) k next = with_row row next
row_line (Ok (Steps n)) k next = bad k
row_line (Err e) k next = bad k

-- the lines behind the line of the steps, from line k on
abbrev pub rows_from : ℕ → ℕ → List (List ℕ) → Said
rows_from steps k [] = job steps []
rows_from steps k (l ∷ ls) = row_line (line_of l) k (rows_from steps (k + 1) ls)

-- line k before the line of the steps, where the lines below it say `next`, or `rows n` once there are n steps
abbrev pub header_line : Result Line NotALine → ℕ → Said → (ℕ → Said) → Said
header_line (Ok Blank) k next rows = next
header_line (Ok (Steps n)) k next rows = rows n
header_line (Ok (Bound row)) k next rows = bad k
header_line (Err e) k next rows = bad k

-- the lines from line k on, where the line of the steps is still to come
abbrev pub header_from : ℕ → List (List ℕ) → Said
header_from k [] = bad k
header_from k (l ∷ ls) = header_line (line_of l) k (header_from (k + 1) ls) (λ n. rows_from n (k + 1) ls)

-- what a text says
abbrev pub job_said : List ℕ → Said
job_said text = cond (nat_lt most_bytes (length text)) too_long (header_from 1 (lines text))

-- the answer is what the text says, unless memory is short
abbrev pub Reports : Said → Result Job TextError → Type 0
Reports said (Ok j) = said ≡ job j.steps (vec_items j.rows)
Reports said (Err (WrongLine k)) = said ≡ bad k
Reports said (Err TooLong) = said ≡ too_long
Reports said (Err Memory) = Unit {0}

-- the number of steps was read of lines that said this, and line k and those below it are left; or their first wrong line was told
abbrev pub HeaderRead : Said → ℕ → List (List ℕ) → Result ℕ TextError → Type 0
HeaderRead said k left (Ok steps) = said ≡ rows_from steps k left
HeaderRead said k left (Err e) = (wrong : ℕ) × (e ≡ WrongLine wrong) × (said ≡ bad wrong)

-- what is told of an error
abbrev pub error_text : TextError → List ℕ
error_text TooLong = codes "error: more than " ++ decimal most_bytes ++ codes " bytes"
error_text (WrongLine k) = codes "error at line " ++ decimal k
error_text Memory = codes "error: not enough memory"
