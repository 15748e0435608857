use Rattle.std.proofs.Common.{sym, subst}
use Rattle.pacer.specs.Index.{Indexed}
use Rattle.pacer.proofs.Indexing.{indexed_cued}
use Rattle.pacer.proofs.run.Run.cue.Goals as goal

pub invariant_of-self-2 : goal.invariant_of-self-2
invariant_of-self-2 c = record { ready = subst (Indexed c.args.self.now.tables) (sym c.take_cue.ensures) (indexed_cued _ _ _ _ c.args.self.now.ready) }
