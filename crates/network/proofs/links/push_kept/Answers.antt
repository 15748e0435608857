use Rattle.std.proofs.Common.{ap, arith}
use Rattle.queue.proofs.Growing.{gained_by_push}
use Rattle.network.specs.Links.{held as links_in}
use Rattle.network.specs.Order.{link_before}
use Rattle.network.proofs.Keeping.{gained_by_option}
use Rattle.network.proofs.links.push_kept.Goals as goal

pub returns-in-Some : goal.returns-in-Some
returns-in-Some c =
    let done = c.push.ensures in
    gained_by_option c.args.queue.now c.push.new.self c.args.link c.in-Some.link c.push.result c.in-Some.is
    (gained_by_push link_before c.args.queue.now c.push.new.self c.in-Some.link c.push.result (omega (arith, c.requires, ap links_in c.in-Some.is))
    done.count done.rest done.size done.same done.holds done.strictly)
