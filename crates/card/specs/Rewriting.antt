-- When a card is written again.
use Rattle.std.specs.Prelude.{ℕ, List, Some, None, Option}
use Rattle.bounds.specs.declared.told.Told.{Told}
use Rattle.card.specs.Meaning.{card_meaning}
use Rattle.card.specs.Opening.{open_refusal}
use Rattle.card.specs.Refusals.{told_open}
use Rattle.card.specs.Writing.{write_refusal}

-- the refusal to open, if there is one, else the other refusal
abbrev pub opened_or : Option ℕ → Option Told → Option Told
opened_or (Some number) other = Some (told_open number)
opened_or None other = other

-- what the refusal to write bytes again into so many bytes tells: first that to open them, then that to write the card that they are
abbrev pub rewrite_refusal : List ℕ → ℕ → Option Told
rewrite_refusal xs room = opened_or (open_refusal xs) (write_refusal (card_meaning xs) room)
