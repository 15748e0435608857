use Rattle.std.proofs.Common.{◌≡◌, List, ◌++◌}
use Rattle.bounds.specs.declared.row.Row.{Row}
use Rattle.jobtext.specs.Job.{Said, job, bad, too_long, rows_from}
use Rattle.jobtext.specs.Words.{lines}
use Rattle.jobtext.proofs.job.read_rows.Given as goal

-- the rows so far before the others of a job
abbrev with_rows : List Row → Said → Said
with_rows rows (job steps more) = job steps (rows ++ more)
with_rows rows (bad k) = bad k
with_rows rows too_long = too_long

abbrev pub invariant-loop-number : goal.invariant-loop-number
invariant-loop-number l =
    (goal.iterator-loop-number).can_next l.number-iterator × (goal.iterator-loop-number).is_finite l.number-iterator × (with_rows l.rows.items (rows_from l.steps l.number-iterator.number (lines l.number-iterator.rest.now)) ≡ rows_from l.steps l.fn.unread.number (lines l.fn.unread.rest.now))
