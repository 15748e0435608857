use Rattle.queue.specs.Growing.{Gained}
use Rattle.network.specs.Counting.{links_between, sum_below}
use Rattle.network.specs.Distances.{gaps, steps}
use Rattle.network.specs.Links.{KeptFrom}
use Rattle.network.specs.Order.{link_before}
use Rattle.network.proofs.leaders.Leaders.push_from.Given as goal

abbrev pub invariant-loop-target : goal.invariant-loop-target
invariant-loop-target l =
    Gained link_before (sum_below (links_between (gaps l.self) l.trigger) l.target) (KeptFrom (steps l.self) (gaps l.self) l.self.groups.now l.trigger l.target) l.initial.queue l.queue
