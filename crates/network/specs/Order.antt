-- The orders of links and of due entries.
use Rattle.std.specs.Prelude.{ℕ, Bool, List, [], ◌∷◌}
use Rattle.queue.specs.Keys.{earlier}
use Rattle.network.specs.declared.due.DueEntry.{DueEntry}
use Rattle.network.specs.declared.tables.Kind.{Kind}
use Rattle.network.specs.declared.tables.Kind.TheVariants.{Most, Least}
use Rattle.network.specs.declared.tables.Link.{Link}

abbrev pub rank : Kind → ℕ
rank Most = 0
rank Least = 1

-- by trigger, then target, most before least, then by seconds
abbrev pub link_keys : Link → List ℕ
link_keys x = x.trigger ∷ (x.target ∷ (rank x.kind ∷ (x.seconds ∷ [])))

-- the first keys that differ decide
abbrev pub link_before : Link → Link → Bool
link_before x y = earlier (link_keys x) (link_keys y)

-- by upper end, then by step
abbrev pub due_keys : DueEntry → List ℕ
due_keys x = x.upper ∷ (x.step ∷ [])

abbrev pub due_before : DueEntry → DueEntry → Bool
due_before x y = earlier (due_keys x) (due_keys y)
