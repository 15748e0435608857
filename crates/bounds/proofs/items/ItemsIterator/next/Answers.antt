use Rattle.std.proofs.Common.{◌≡◌, ◌+◌, suc, length, rules, refl, ap}
use Rattle.bounds.specs.Unread.{unread}
use Rattle.bounds.proofs.Scanning.{taken_some, taken_none}
use Rattle.bounds.proofs.items.ItemsIterator.next.Goals as goal

pub returns-in_err-item-clause-steps : goal.returns-in_err-item-clause-steps
returns-in_err-item-clause-steps g c =
    let s = c.args.self.now in
    let none = taken_none (g.S.Source.meaning s.source.now).items s.place (search rules) in
    rw c.from_residual.ensures (refl, (none, refl))

pub returns-clause-steps : goal.returns-clause-steps
returns-clause-steps g c =
    let s = c.args.self.now in
    (refl, (refl, taken_some (g.S.Source.meaning s.source.now).items s.place c.in_ok-item.item (search rules), refl))

pub returns-clause-goes : goal.returns-clause-goes
returns-clause-goes g c =
    let s = c.args.self.now in
    let xs = (g.S.Source.meaning s.source.now).items in
    let more : length (unread xs s.place) ≡ suc (length (unread xs (s.place + 1))) = ap length (returns-clause-steps g c).1.1 in
    search rules
