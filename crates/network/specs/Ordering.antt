-- The orders of links and of due entries are total.
use Rattle.std.specs.Prelude.{◌≡◌, refl}
use Rattle.std.proofs.Common.{arith}
use Rattle.queue.specs.Order.{Total}
use Rattle.queue.proofs.Keys.{total_by_keys}
use Rattle.network.specs.declared.due.DueEntry.{DueEntry}
use Rattle.network.specs.declared.tables.Kind.{Kind}
use Rattle.network.specs.declared.tables.Kind.TheVariants.{Most, Least}
use Rattle.network.specs.declared.tables.Link.{Link}
use Rattle.network.specs.Order.{rank, link_keys, link_before, due_keys, due_before}

same_rank : (j k : Kind) → rank j ≡ rank k → j ≡ k
same_rank Most Most e = refl
same_rank Least Least e = refl
same_rank Most Least e = absurd (omega arith)
same_rank Least Most e = absurd (omega arith)

link_apart : (x y : Link) → link_keys x ≡ link_keys y → x ≡ y
link_apart x y e =
    let a : x.trigger ≡ y.trigger = cc in
    let b : x.target ≡ y.target = cc in
    let k : x.kind ≡ y.kind = same_rank x.kind y.kind (cc) in
    let s : x.seconds ≡ y.seconds = cc in
    λ i. record { trigger = a i; target = b i; kind = k i; seconds = s i }

pub link_total : Total link_before
link_total = total_by_keys link_keys link_apart

due_apart : (x y : DueEntry) → due_keys x ≡ due_keys y → x ≡ y
due_apart x y e =
    let u : x.upper ≡ y.upper = cc in
    let s : x.step ≡ y.step = cc in
    λ i. record { upper = u i; step = s i }

pub due_total : Total due_before
due_total = total_by_keys due_keys due_apart
