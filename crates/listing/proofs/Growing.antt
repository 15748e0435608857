-- The lines of steps and of links, as lines that are made of a list.
use Rattle.std.proofs.Common.{◌≡◌, ℕ, ◌+◌, List, [], ◌∷◌, ◌++◌, refl, ap}
use Rattle.network.specs.declared.tables.GroupEntry.{GroupEntry}
use Rattle.network.specs.declared.tables.Link.{Link as LinkT}
use Rattle.listing.specs.declared.line.Line.TheVariants.{Step, Link}
use Rattle.listing.specs.Text.{step_line, step_lines, link_line, link_lines, lines_from}

pub steps_made : (i : ℕ) (gs : List GroupEntry) → lines_from (λ k g. Step k g) i gs ≡ step_lines i gs
steps_made i [] = refl
steps_made i (g ∷ gs) = ap (λ t. step_line i g ++ t) (steps_made (i + 1) gs)

pub links_made : (i : ℕ) (ls : List LinkT) → lines_from (λ k l. Link l) i ls ≡ link_lines ls
links_made i [] = refl
links_made i (l ∷ ls) = ap (λ t. link_line l ++ t) (links_made (i + 1) ls)
