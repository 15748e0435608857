-- What is left to show of `put_header`: the header is the one asked for.
use Rattle.std.proofs.Common.{arith}
use Rattle.card.specs.Records.{HasHeader}
use Rattle.card.proofs.Puts.{header_put}
use Rattle.card.proofs.writing.put_header.Goals as goal

pub returns-clause-header : goal.returns-clause-header
returns-clause-header c =
    let h : HasHeader c.put-4.new.self.bytes.now c.args.steps c.args.count =
    header_put c.args.out.now c.put.new.self.bytes.now c.put-2.new.self.bytes.now c.put-3.new.self.bytes.now c.put-4.new.self.bytes.now c.args.steps c.args.count
    c.requires.steps.0 c.requires.steps.1 c.requires.count c.requires.room (grind arith) (grind arith) (grind arith) (grind arith) in
    grind arith
