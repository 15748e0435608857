-- Bytes that hold a card at their front.
use Rattle.std.specs.Prelude.{ℕ, List}
use Rattle.bounds.specs.Meaning.{Meaning}
use Rattle.card.specs.Writing.{WroteCard}

-- the card of the source was written to the front of xs, which is now ys
abbrev pub Holds : Meaning → List ℕ → List ℕ → Type 0
Holds m xs ys = (size : ℕ) × WroteCard m size xs ys
