-- What two sources mean as one.
use Rattle.std.specs.Prelude.{max, ◌++◌}
use Rattle.bounds.specs.Laws.{joined_lawful}
use Rattle.bounds.specs.Meaning.{Meaning}

-- the larger number of steps; the items of the first, then those of the second
abbrev pub joined_meaning : Meaning → Meaning → Meaning
joined_meaning a b = record {
  steps = max a.steps b.steps;
  items = a.items ++ b.items;
  law = joined_lawful a.steps b.steps a.items b.items a.law b.law;
}
