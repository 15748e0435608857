-- What is left to show of `put_bound`: the record is the row of the bound.
use Rattle.std.proofs.Common.{arith}
use Rattle.card.proofs.Puts.{bound_put}
use Rattle.card.proofs.part.Part+mut+slice+u8.put_bound.Goals as goal

pub returns-clause-row : goal.returns-clause-row
returns-clause-row c =
    let (x3, w3, w4) = c.put_end.ensures.wrote in
    let (x5, w5, w6) = c.put_end-2.ensures.wrote in
    bound_put c.args.self.now.bytes.now c.put.new.self.bytes.now c.put-2.new.self.bytes.now x3 c.put_end.new.self.bytes.now x5 c.put_end-2.new.self.bytes.now c.args.self.now.start c.args.bound.now
    c.requires.room c.requires.steps.0 c.requires.steps.1 (grind arith) (grind arith) (grind arith) (grind arith) (grind arith) (grind arith)
