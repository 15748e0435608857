-- What handed rows mean as a source.
use Rattle.std.specs.Prelude.{ℕ, ◌^◌, ◌<◌, List, map}
use Rattle.bounds.specs.declared.row.Row.{Row}
use Rattle.bounds.specs.Laws.{rows_lawful}
use Rattle.bounds.specs.Meaning.{Meaning}
use Rattle.bounds.specs.Rows.{row_item}

-- n steps, n at most 65,535, and the item of each row in order
abbrev pub rows_meaning : (n : ℕ) → n < 2 ^ 16 → List Row → Meaning
rows_meaning n few rows = record { steps = n; items = map (row_item n) rows; law = rows_lawful n few rows }
