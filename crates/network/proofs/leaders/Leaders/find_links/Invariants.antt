use Rattle.network.specs.Counting.{links_from, sum_below}
use Rattle.queue.specs.Growing.{Gained}
use Rattle.network.specs.Distances.{gaps, steps}
use Rattle.network.proofs.Keeping.{KeptBefore}
use Rattle.network.specs.Order.{link_before}
use Rattle.network.proofs.leaders.Leaders.find_links.Given as goal

abbrev pub invariant-loop-trigger : goal.invariant-loop-trigger
invariant-loop-trigger l =
    Gained link_before (sum_below (links_from (steps l.self) (gaps l.self)) l.trigger) (KeptBefore (steps l.self) (gaps l.self) l.self.groups.now l.trigger) l.initial.queue l.queue
