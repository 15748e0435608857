-- What a queue holds.
use Rattle.std.specs.Prelude.{List, take}
use Rattle.queue.specs.declared.lent.Queue.{Queue}

-- the entries that a queue holds, in their order
abbrev pub held : {X : Type 0} → Queue X → List X
held q = take q.len q.slots.now
