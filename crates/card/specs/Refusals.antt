-- The numbers of the refusals to open a card, and what the refusals to write one tell.
use Rattle.std.specs.Prelude.{ℕ}
use Rattle.bounds.specs.declared.told.Told.{Told}
use Rattle.bounds.specs.Told.{numbered, told_spoiled}
use Rattle.card.specs.declared.refusal.CardRefusal.{CardRefusal}
use Rattle.card.specs.declared.refusal.CardRefusal.TheVariants.{Length, Header}
use Rattle.card.specs.declared.refusal.RewriteRefusal.{RewriteRefusal}
use Rattle.card.specs.declared.refusal.RewriteRefusal.TheVariants.{Open, Write}
use Rattle.card.specs.declared.refusal.WriteRefusal.{WriteRefusal}
use Rattle.card.specs.declared.refusal.WriteRefusal.TheVariants.{Limits, Room, Spoiled}

-- the number of each refusal to open
abbrev pub refusal_number : CardRefusal → ℕ
refusal_number Length = 1
refusal_number Header = 2

-- a refusal to open has no place
abbrev pub told_open : ℕ → Told
told_open number = numbered number

-- the number of each refusal to write, and the place of a spoiled item
abbrev pub told_write : WriteRefusal → Told
told_write Limits = numbered 7
told_write Room = numbered 8
told_write (Spoiled item) = told_spoiled item

-- a refusal to write a card again tells what the refusal to open or to write tells
abbrev pub told_rewrite : RewriteRefusal → Told
told_rewrite (Open refusal) = told_open (refusal_number refusal)
told_rewrite (Write refusal) = told_write refusal
