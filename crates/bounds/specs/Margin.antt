-- What a source means under a margin.
use Rattle.std.specs.Prelude.{ℕ, map}
use Rattle.bounds.specs.DrawnIn.{drawn_in}
use Rattle.bounds.specs.Laws.{margin_lawful}
use Rattle.bounds.specs.Meaning.{Meaning}

-- the same steps, and each item drawn in by m seconds
abbrev pub margin_meaning : ℕ → Meaning → Meaning
margin_meaning m a = record { steps = a.steps; items = map (drawn_in m) a.items; law = margin_lawful m a.steps a.items a.law }
