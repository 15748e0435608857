-- Which bytes open as a card, and why others do not.
use Rattle.std.specs.Prelude.{ℕ, ◌+◌, ◌*◌, Bool, cond, not, ◌||◌, List, length, Some, None, Option, ◌==◌, nat_lt}
use Rattle.bounds.specs.Limits.{most_items}
use Rattle.card.specs.declared.refusal.CardRefusal.TheVariants.{Length, Header}
use Rattle.card.specs.Layout.{edition_field, spare_field, edition_number, header_start, header_bytes, record_bytes, bits_at, count_of}
use Rattle.card.specs.Refusals.{refusal_number}

-- the edition is another, the spare bits are not zero, or there are too many records
abbrev pub wrong_header : List ℕ → Bool
wrong_header xs = not (bits_at xs header_start edition_field == edition_number) || (not (bits_at xs header_start spare_field == 0) || nat_lt most_items (count_of xs))

-- the number of the refusal: no header, then a wrong one, then not exactly the bytes of its records; none for a card
abbrev pub open_refusal : List ℕ → Option ℕ
open_refusal xs =
    cond (nat_lt (length xs) header_bytes) (Some (refusal_number Length))
    (cond (wrong_header xs) (Some (refusal_number Header))
    (cond (length xs == header_bytes + record_bytes * count_of xs) None (Some (refusal_number Length))))
