use Rattle.std.proofs.Common.{replicate, sym, subst, rules}
use Rattle.bounds.specs.Limits.{most_steps}
use Rattle.pacer.specs.declared.index.Span.{Span}
use Rattle.pacer.specs.Index.{SpansSoFar}
use Rattle.pacer.proofs.Beginning.{spans_first}
use Rattle.pacer.proofs.opening.spans_of.Goals as goal

pub loop-place-init : goal.loop-place-init
loop-place-init c = subst (λ (empty : Span). SpansSoFar c.args.links.now (replicate most_steps empty) 0) (sym (search rules)) (spans_first c.args.links.now)
