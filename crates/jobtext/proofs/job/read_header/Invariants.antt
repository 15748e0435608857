use Rattle.std.proofs.Common.{◌≡◌, length}
use Rattle.jobtext.specs.Job.{header_from}
use Rattle.jobtext.specs.Words.{lines}
use Rattle.jobtext.proofs.job.read_header.Given as goal

abbrev pub invariant-loop-number : goal.invariant-loop-number
invariant-loop-number l = header_from l.unread.number (lines l.unread.rest.now) ≡ header_from l.initial.unread.number (lines l.initial.unread.rest.now)

abbrev pub decreases-loop-number : goal.decreases-loop-number
decreases-loop-number l = length l.unread.rest.now
