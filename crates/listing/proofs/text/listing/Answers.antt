use Rattle.std.proofs.Common.{rules, ℕ, List, ◌++◌, ap, ◌∙◌}
use Rattle.listing.specs.Text.{step_lines, lines_from}
use Rattle.listing.specs.declared.line.Line.TheVariants.{Step, Link}
use Rattle.listing.proofs.Growing.{steps_made, links_made}
use Rattle.listing.proofs.text.listing.Goals as goal

pub returns : goal.returns
returns c =
    let groups = c.args.groups.now in
    let links = c.args.links.now in
    let none = c.new-text.ensures.bytes in
    let first = c.in_ok-add_all.ensures (λ k g. Step k g) (λ k g y e. search rules) in
    let second = c.in_ok-add_all-2.ensures (λ k l. Link l) (λ k l y e. search rules) in
    let steps : List ℕ = lines_from (λ k g. Step k g) 0 groups in
    let rest : List ℕ = lines_from (λ k l. Link l) 0 links in
    second ∙ ap (λ t. t ++ rest) (first ∙ ap (λ t. t ++ steps) none ∙ steps_made 0 groups) ∙ ap (λ t. step_lines 0 groups ++ t) (links_made 0 links)
