-- A grid that is written anew twice.
use Rattle.std.proofs.Common.{◌≡◌, ℕ, ◌*◌, drop, ◌∙◌, subst}
use Rattle.network.specs.declared.grid.Grid.{Grid}
use Rattle.network.specs.Filled.{Refilled}

pub refilled_onward : (f g h : Grid) → Refilled f g → Refilled g h → Refilled f h
refilled_onward f g h one two = record {
  rows = two.rows ∙ one.rows;
  same = two.same ∙ one.same;
  behind = subst (λ (n : ℕ). drop (n * n) h.cells.now ≡ drop (n * n) g.cells.now) one.rows two.behind ∙ one.behind;
}
