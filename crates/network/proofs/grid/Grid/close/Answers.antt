use Rattle.std.proofs.Common.{◌≡◌, ℕ, pos, MatchBool, subst, arith}
use Rattle.network.proofs.Testing.{when_map}
use Rattle.network.proofs.Narrowing.{closes_more, closes_all, refuted_hopeless}
use Rattle.network.proofs.Refilling.{refilled_onward}
use Rattle.network.specs.Grid.{Relaxed, Rough, Settled, entry_at}
use Rattle.network.specs.Lines.{Refuted}
use Rattle.network.proofs.grid.Grid.close.Goals as goal

pub returns-then-not-relax : goal.returns-then-not-relax
returns-then-not-relax c =
    let far = c.loop-k.invariant in
    record {
      closed = refuted_hopeless _ _ _ _ far.closes (subst (λ (n : ℕ). Refuted n (entry_at n c.loop-k.self.cells.now)) far.rest.rows c.if-not-relax.ensures.relaxed);
      rest = refilled_onward _ _ _ far.rest c.relax.ensures.rest;
    }

pub loop-k-preserved : goal.loop-k-preserved
loop-k-preserved c =
    let far = c.loop-k.invariant in
    let xs = c.loop-k.self.cells.now in
    let ys = c.relax.new.self.cells.now in
    let k = c.loop-k.k in
    let stage = subst (λ (n : ℕ). Rough n (entry_at n ys) × Relaxed n (entry_at n xs) (entry_at n ys) k × (entry_at n xs k k ≡ pos 0)) far.rest.rows c.if-not-relax.ensures.relaxed in
    record { closes = closes_more _ _ _ _ _ c.loop-k-test.true far.closes stage.0 stage.1 stage.2; rest = refilled_onward _ _ _ far.rest c.relax.ensures.rest }

pub returns : goal.returns
returns c =
    let far = c.loop-k.invariant in
    let xs = c.loop-k.self.cells.now in
    let settled = subst (λ (n : ℕ). MatchBool c.is_settled.result (Settled n (entry_at n xs)) (Refuted n (entry_at n xs))) far.rest.rows c.is_settled.ensures in
    record {
      closed = when_map _ (closes_all _ _ _ _ (omega arith) far.closes) (refuted_hopeless _ _ _ _ far.closes) settled;
      rest = far.rest;
    }
