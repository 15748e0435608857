-- Where the fields of a card stand, and what its bits say. src/layout.rt has the same places: they are written out here too, so that a constant that is changed there is refused.
use Rattle.std.specs.Prelude.{ℕ, ◌+◌, ◌*◌, ◌/◌, ◌^◌, ◌<◌, ◌≤◌, Bool, cond, List, map, ℤ, ◌==◌}
use Rattle.std.specs.List.{range_with_len}
use Rattle.bits.specs.Field.{field}
use Rattle.bits.specs.Signed.{signed}
use Rattle.bounds.specs.Items.{Item}
use Rattle.bounds.specs.declared.row.LooseEnd.{LooseEnd}
use Rattle.bounds.specs.declared.row.LooseEnd.TheVariants.{Present, Absent}
use Rattle.bounds.specs.declared.row.Row.{Row}
use Rattle.bounds.specs.Rows.{row_item}
use Rattle.card.specs.declared.layout.Field.{Field}

-- the header: the edition of the format
abbrev pub edition_field : Field
edition_field = record { start = 0; width = 4 }

-- the number of steps less one
abbrev pub steps_field : Field
steps_field = record { start = 4; width = 6 }

-- the number of records
abbrev pub count_field : Field
count_field = record { start = 10; width = 10 }

-- the spare bits, which are zero
abbrev pub spare_field : Field
spare_field = record { start = 20; width = 4 }

-- a record: the step that it counts from
abbrev pub from_field : Field
from_field = record { start = 0; width = 6 }

-- the step that it counts to
abbrev pub to_field : Field
to_field = record { start = 6; width = 6 }

-- 1 where the lower end is present
abbrev pub lower_present_field : Field
lower_present_field = record { start = 12; width = 1 }

-- 1 where the upper end is present
abbrev pub upper_present_field : Field
upper_present_field = record { start = 13; width = 1 }

-- the lower end, in two's complement
abbrev pub lower_field : Field
lower_field = record { start = 14; width = 21 }

-- the upper end, in two's complement
abbrev pub upper_field : Field
upper_field = record { start = 35; width = 21 }

-- the only edition there is
abbrev pub edition_number : ℕ
edition_number = 1

-- the first bit of the header
abbrev pub header_start : ℕ
header_start = 0

-- the bits of the header; the first record begins behind them
abbrev pub header_bits : ℕ
header_bits = 24

-- the bits of one record
abbrev pub record_bits : ℕ
record_bits = 56

-- the bytes of the header
abbrev pub header_bytes : ℕ
header_bytes = header_bits / 8

-- the bytes of one record
abbrev pub record_bytes : ℕ
record_bytes = record_bits / 8

-- a field of at most so many bits that begins below bit 2 ^ 31 of its part
abbrev pub Placed : ℕ → Field → Type 0
Placed most f = (f.start < 2 ^ 31) × (f.width ≤ most)

-- a field as a number, in the header or record that begins at bit s
abbrev pub bits_at : List ℕ → ℕ → Field → ℕ
bits_at xs s f = field xs (s + f.start) f.width

-- the same field as two's complement of its width
abbrev pub signed_at : List ℕ → ℕ → Field → ℤ
signed_at xs s f = signed f.width (bits_at xs s f)

-- whether it is 1
abbrev pub is_set_at : List ℕ → ℕ → Field → Bool
is_set_at xs s f = bits_at xs s f == 1

-- one end of the record that begins at bit s: present where its mark is 1
abbrev pub end_at : List ℕ → ℕ → Field → Field → LooseEnd
end_at xs s mark end = cond (is_set_at xs s mark) (Present (signed_at xs s end)) (Absent (signed_at xs s end))

-- the number of steps of a card
abbrev pub steps_of : List ℕ → ℕ
steps_of xs = bits_at xs header_start steps_field + 1

-- the number of its records
abbrev pub count_of : List ℕ → ℕ
count_of xs = bits_at xs header_start count_field

-- the record that begins at bit s
abbrev pub row_at : List ℕ → ℕ → Row
row_at xs s = record {
  from = bits_at xs s from_field;
  to = bits_at xs s to_field;
  lower = end_at xs s lower_present_field lower_field;
  upper = end_at xs s upper_present_field upper_field;
}

-- the item that record k is
abbrev pub item_at : List ℕ → ℕ → Item
item_at xs k = row_item (steps_of xs) (row_at xs (header_bits + record_bits * k))

-- the items of a card, one for each record
unfoldable pub items_of : List ℕ → List Item
items_of xs = map (item_at xs) (range_with_len 0 (count_of xs))
