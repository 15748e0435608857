-- The header and the records that a card has.
use Rattle.std.specs.Prelude.{◌≡◌, ℕ, ◌+◌, ◌*◌, List, ℤ, pos, Some, None, Ok, Option}
use Rattle.std.specs.List.{slice_get}
use Rattle.bounds.specs.declared.bound.Bound.{Bound}
use Rattle.bounds.specs.Items.{Item}
use Rattle.bounds.specs.declared.row.LooseEnd.{LooseEnd}
use Rattle.bounds.specs.declared.row.LooseEnd.TheVariants.{Present, Absent}
use Rattle.bounds.specs.declared.row.Row.{Row}
use Rattle.card.specs.Layout.{edition_field, spare_field, edition_number, header_start, header_bits, record_bits, bits_at, steps_of, count_of, row_at}

-- an end as it is packed: an absent one has the value 0
abbrev pub loose_end : Option ℤ → LooseEnd
loose_end (Some z) = Present z
loose_end None = Absent (pos 0)

-- a bound as its record has it
abbrev pub bound_row : Bound → Row
bound_row b = record { from = b.from; to = b.to; lower = loose_end b.lower; upper = loose_end b.upper }

-- the header for n steps and so many records
pub record HasHeader (xs : List ℕ) (n records : ℕ) : Type 0 where
  pub edition : bits_at xs header_start edition_field ≡ edition_number
  pub steps : steps_of xs ≡ n
  pub count : count_of xs ≡ records
  pub spare : bits_at xs header_start spare_field ≡ 0

-- each bound of the list stands in the record of its place
abbrev pub HasRecords : List ℕ → List Item → Type 0
HasRecords xs items = (k : ℕ) (b : Bound) → slice_get items k ≡ Some (Ok b) → row_at xs (header_bits + record_bits * k) ≡ bound_row b
