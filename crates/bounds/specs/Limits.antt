-- The limits of the part, each by its name; src/limits.rt has the same.
use Rattle.std.specs.Prelude.{ℕ}

-- no time is later, and no end of a bound lies further from 0
abbrev pub horizon : ℕ
horizon = 1000000

-- no more steps are compiled
abbrev pub most_steps : ℕ
most_steps = 64

-- no more items of a source are counted or read
abbrev pub most_items : ℕ
most_items = 512
