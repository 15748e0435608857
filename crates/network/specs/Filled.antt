-- A grid, and what it is once its entries are written anew.
use Rattle.std.specs.Prelude.{◌≡◌, ℕ, ◌*◌, drop, ℤ}
use Rattle.network.specs.declared.grid.Grid.{Grid}
use Rattle.network.specs.Grid.{entry_at}

-- the entries of a grid
abbrev pub entries : Grid → ℕ → ℕ → ℤ
entries g = entry_at g.n g.cells.now

-- its entries once it is h
abbrev pub entries_after : Grid → Grid → ℕ → ℕ → ℤ
entries_after g h = entry_at g.n h.cells.now

-- h is g with other entries: as many rows, over the same cells, and what stands behind the entries is as it was
pub record Refilled (g h : Grid) : Type 0 where
  pub rows : h.n ≡ g.n
  pub same : h.cells.ghost_name ≡ g.cells.ghost_name
  pub behind : drop (g.n * g.n) h.cells.now ≡ drop (g.n * g.n) g.cells.now
