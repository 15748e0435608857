use Rattle.std.proofs.Common.{arith}
use Rattle.network.specs.Distances.{gaps, steps}
use Rattle.network.specs.Order.{link_before}
use Rattle.queue.proofs.Growing.{gained_more}
use Rattle.network.proofs.Keeping.{between_kinds, kinds_apart}
use Rattle.network.proofs.leaders.Leaders.push_between.Goals as goal

pub returns : goal.returns
returns c =
    let n = steps c.args.self.now in
    let d = gaps c.args.self.now in
    let gs = c.args.self.now.groups.now in
    let most = c.kept_link-most.ensures in
    let least = c.kept_link-least.ensures in
    gained_more link_before _ _ _ _ _ _ _ _ _ (omega (arith, most.count, least.count))
    (between_kinds n d gs _ _ c.requires.trigger c.requires.target c.requires.from_leader c.requires.to_leader c.requires.apart _ _ most.link least.link)
    (kinds_apart n d gs _ _ _ _ most.link least.link)
    c.in_ok-push_kept.ensures c.in_ok-push_kept-2.ensures
