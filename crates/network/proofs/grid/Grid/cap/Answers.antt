use Rattle.std.proofs.Common.{ℤ, Option, sym, subst, w32, SFits, rules}
use Rattle.std.proofs.lemmas.Int.{to_z-of_z}
use Rattle.network.specs.Filled.{entries, entries_after}
use Rattle.network.specs.Gaps.{Capped, Narrowed}
use Rattle.network.specs.Grid.{Lowered}
use Rattle.network.proofs.Narrowing.{lowered_narrows}
use Rattle.network.proofs.grid.Grid.cap.Goals as goal

pub returns-in-Some : goal.returns-in-Some
returns-in-Some c =
    let n = c.args.self.now.n in
    let d = entries c.args.self.now in
    let e = entries_after c.args.self.now c.lower.new.self in
    let f : SFits w32 c.in-Some.seconds = search rules in
    let low : Lowered n d e c.args.i c.args.j c.in-Some.seconds = simp to_z-of_z at c.lower.ensures.lowered in
    let P : Option ℤ → Type 0 = λ most. Narrowed n d e (Capped most c.args.i c.args.j) in
    record {
      rough = search rules;
      narrowed = subst P (sym c.in-Some.is) (lowered_narrows n d e _ _ _ c.requires.row c.requires.column low);
      rest = c.lower.ensures.rest;
    }
