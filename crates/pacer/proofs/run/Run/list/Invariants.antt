use Rattle.std.proofs.Common.{◌≡◌}
use Rattle.network.specs.Order.{due_before}
use Rattle.queue.specs.Growing.{Gained}
use Rattle.pacer.specs.Due.{Due, uncued_count}
use Rattle.pacer.proofs.run.Run.list.Given as goal

abbrev pub invariant-loop-step : goal.invariant-loop-step
invariant-loop-step l =
    Gained due_before (uncued_count l.self.state l.step) (Due l.step l.self.tables l.self.state) l.initial.queue l.queue
    × (l.queue.len ≡ uncued_count l.self.state l.step)
