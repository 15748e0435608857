-- When a source is written as a card, and what is written.
use Rattle.std.specs.Prelude.{◌≡◌, ℕ, ◌+◌, ◌*◌, ◌≤◌, cond, List, length, take, drop, Some, None, Option, nat_lt}
use Rattle.std.specs.Option.{option_map}
use Rattle.bounds.specs.Meaning.{Meaning}
use Rattle.bounds.specs.Spoiled.{first_spoiled}
use Rattle.bounds.specs.declared.told.Told.{Told}
use Rattle.bounds.specs.Told.{told_spoiled, beyond_limits}
use Rattle.card.specs.declared.refusal.WriteRefusal.TheVariants.{Limits, Room}
use Rattle.card.specs.Layout.{header_bytes, record_bytes, steps_of, items_of}
use Rattle.card.specs.Opening.{open_refusal}
use Rattle.card.specs.Records.{HasHeader, HasRecords}
use Rattle.card.specs.Refusals.{told_write}

-- the bytes that the card of a source takes
abbrev pub card_size : Meaning → ℕ
card_size m = header_bytes + record_bytes * length m.items

-- what the refusal to write a source into so many bytes tells: limits, then room, then the first spoiled item; none where it is written
abbrev pub write_refusal : Meaning → ℕ → Option Told
write_refusal m room =
    cond (beyond_limits m) (Some (told_write Limits))
    (cond (nat_lt room (card_size m)) (Some (told_write Room))
    (option_map told_spoiled (first_spoiled 0 m.items)))

-- bytes are a card of the source: they open, with the same number of steps and the same list
pub record IsCardOf (m : Meaning) (xs : List ℕ) : Type 0 where
  pub opens : open_refusal xs ≡ None
  pub steps : steps_of xs ≡ m.steps
  pub items : items_of xs ≡ m.items

-- the first bytes of ys, as many as answered, are the card of the source: its header, and a record for each bound; those behind are as in xs
pub record WroteCard (m : Meaning) (answered : ℕ) (xs ys : List ℕ) : Type 0 where
  pub size : answered ≡ card_size m
  pub fits : answered ≤ length ys
  pub card : IsCardOf m (take answered ys)
  pub header : HasHeader ys m.steps (length m.items)
  pub records : HasRecords ys m.items
  pub behind : drop answered ys ≡ drop answered xs
