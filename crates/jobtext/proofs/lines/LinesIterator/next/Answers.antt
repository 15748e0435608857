use Rattle.std.proofs.Common.{arith, rules, tests, false-eqb}
use Rattle.jobtext.specs.Cut.{is_line_end}
use Rattle.jobtext.proofs.Cutting.{line_cut}
use Rattle.jobtext.proofs.lines.LinesIterator.next.Goals as goal

pub invariant_of-self : goal.invariant_of-self
invariant_of-self c =
    let cut = line_cut c.args.self.now.rest.now _ _ (omega (arith, false-eqb _ _ c.if-is_empty.ensures)) (c.cut_at-line.ensures is_line_end (λ b r k. search (rules, tests))) in
    record { few = omega (arith, cut.1) }

pub returns-clause-steps : goal.returns-clause-steps
returns-clause-steps c =
    let cut = line_cut c.args.self.now.rest.now _ _ (omega (arith, false-eqb _ _ c.if-is_empty.ensures)) (c.cut_at-line.ensures is_line_end (λ b r k. search (rules, tests))) in
    (cc, cut.0, cc)

pub returns-clause-goes : goal.returns-clause-goes
returns-clause-goes c =
    let cut = line_cut c.args.self.now.rest.now _ _ (omega (arith, false-eqb _ _ c.if-is_empty.ensures)) (c.cut_at-line.ensures is_line_end (λ b r k. search (rules, tests))) in
    search rules
