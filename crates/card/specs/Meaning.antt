-- What a card means as a source, for any bytes.
use Rattle.std.specs.Prelude.{ℕ, List}
use Rattle.bounds.specs.Meaning.{Meaning}
use Rattle.card.specs.Layout.{steps_of, items_of}
use Rattle.card.specs.Laws.{card_lawful}

-- the steps of the header, the items of the records, and the law that they keep
abbrev pub card_meaning : List ℕ → Meaning
card_meaning xs = record { steps = steps_of xs; items = items_of xs; law = card_lawful xs }
