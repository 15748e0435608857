-- The distances of a closed table, and the leaders among its steps.
use Rattle.std.specs.Prelude.{ℕ, ℤ}
use Rattle.network.specs.declared.distances.Distances.{Distances}
use Rattle.network.specs.declared.leaders.Leaders.{Leaders}
use Rattle.network.specs.Grid.{entry_at}

-- the distance from one step to another
abbrev pub distance : Distances → ℕ → ℕ → ℤ
distance d = entry_at d.n d.cells.now

-- how many steps there are
abbrev pub steps : Leaders → ℕ
steps w = w.distances.n

-- the distance from one of them to another
abbrev pub gaps : Leaders → ℕ → ℕ → ℤ
gaps w = distance w.distances
