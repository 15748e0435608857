-- What is left to show of `item` of a card: the item is that of its record.
use Rattle.std.proofs.Common.{◌<◌, arith}
use Rattle.card.specs.Layout.{count_of}
use Rattle.card.proofs.Listing.{read_item}
use Rattle.card.proofs.reading.CardSource.item.Goals as goal

pub returns-then-place-count : goal.returns-then-place-count
returns-then-place-count c =
    let below : c.args.place < count_of c.args.self.now.bytes.now = grind arith in
    let read = read_item c.args.self.now.bytes.now c.args.place (omega arith) below in
    grind arith
