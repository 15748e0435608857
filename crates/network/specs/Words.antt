-- The words in which a table's entry is printed.
use Rattle.std.specs.Prelude.{ℕ, List, codes}
use Rattle.network.specs.declared.tables.Kind.{Kind}
use Rattle.network.specs.declared.tables.Kind.TheVariants.{Most, Least}

-- the word for the way in which a link limits its target
abbrev pub kind_word : Kind → List ℕ
kind_word Most = codes "most"
kind_word Least = codes "least"
