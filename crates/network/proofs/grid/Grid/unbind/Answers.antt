use Rattle.std.proofs.Common.{◌≡◌, ◌*◌, ◌++◌, length, drop, refl, arith}
use Rattle.std.proofs.lemmas.List.{length-take-le}
use Rattle.std.proofs.lemmas.Slice.{drop-append-drop}
use Rattle.network.proofs.Starting.{Begun, begun_front, begun_rough, entry_unbounded}
use Rattle.network.proofs.grid.Grid.unbind.Goals as goal

pub returns : goal.returns
returns c =
    let n = c.args.self.now.n in
    let xs = c.args.self.now.cells.now in
    let long = length-take-le (n * n) xs c.args.self.now.room in
    let same : length c.loop-p.front ≡ n * n = omega (arith, long) in
    let begun : Begun n (c.loop-p.front ++ drop (n * n) xs) (n * n) = begun_front n c.loop-p.front (drop (n * n) xs) same (λ q h. c.loop-p.invariant q (omega (arith, long))) in
    record { rough = begun_rough _ _ begun; gaps = entry_unbounded _ _ begun; rest = record { rows = refl; same = refl; behind = drop-append-drop (n * n) xs c.loop-p.front (n * n) (omega arith) same } }
