-- What the tests of opening and of writing say.
use Rattle.std.proofs.Common.{◌≡◌, ℕ, zero, suc, ◌+◌, ◌*◌, ◌≤◌, false, ltb, List, [], ◌∷◌, length, Some, None, Ok, Err, Option, sym, ap, ◌∙◌, arith}
use Rattle.std.specs.Option.{option_map}
use Rattle.std.specs.List.{slice_get}
use Rattle.std.proofs.lemmas.Bool.Decides.{nat_tests}
use Rattle.std.proofs.lemmas.Bool.{le-ltb, cond-false}
use Rattle.bounds.specs.declared.fault.Fault.{Fault}
use Rattle.bounds.specs.Items.{Item}
use Rattle.bounds.specs.declared.scan.SpoiledItem.{SpoiledItem}
use Rattle.bounds.specs.Limits.{most_items}
use Rattle.bounds.specs.Meaning.{Meaning}
use Rattle.bounds.specs.Spoiled.{first_spoiled, readable}
use Rattle.bounds.specs.Told.{told_spoiled, beyond_limits}
use Rattle.bounds.proofs.Reading.{readable_all}
use Rattle.bounds.proofs.Within.{within}
use Rattle.card.specs.declared.refusal.WriteRefusal.TheVariants.{Limits, Room}
use Rattle.card.specs.Layout.{edition_field, spare_field, edition_number, header_start, header_bytes, record_bytes, bits_at, count_of}
use Rattle.card.specs.Opening.{open_refusal}
use Rattle.card.specs.Refusals.{told_write}
use Rattle.card.specs.Writing.{card_size, write_refusal}

-- opening

-- bytes that open
pub record Opened (xs : List ℕ) : Type 0 where
  pub edition : bits_at xs header_start edition_field ≡ edition_number
  pub spare : bits_at xs header_start spare_field ≡ 0
  pub few : count_of xs ≤ most_items
  pub long : length xs ≡ header_bytes + record_bytes * count_of xs

pub opened : (xs : List ℕ) → open_refusal xs ≡ None → Opened xs
opened xs e = record { edition = grind (arith, nat_tests); spare = grind (arith, nat_tests); few = grind (arith, nat_tests); long = grind (arith, nat_tests) }

pub opens : (xs : List ℕ) → Opened xs → open_refusal xs ≡ None
opens xs o = grind (arith, nat_tests)

-- writing

-- within the limits and with the room, the first spoiled item is told, or nothing is refused
pub refused_spoiled : (m : Meaning) (room : ℕ) (o : Option SpoiledItem) → beyond_limits m ≡ false → card_size m ≤ room → o ≡ first_spoiled 0 (readable m.items) → write_refusal m room ≡ option_map told_spoiled o
refused_spoiled m room o e l f =
    cond-false (beyond_limits m) (Some (told_write Limits)) _ e
    ∙ cond-false (ltb room (card_size m)) (Some (told_write Room)) _ (le-ltb room (card_size m) l)
    ∙ sym (ap (option_map told_spoiled) (f ∙ ap (first_spoiled 0) (readable_all m.items (within m e).few)))

-- what is written has no spoiled item
pub refused_none : (m : Meaning) (room : ℕ) → write_refusal m room ≡ None → first_spoiled 0 m.items ≡ None
refused_none m room e = grind (arith, nat_tests)

-- so at no place
pub no_spoiled : (i : ℕ) (xs : List Item) → first_spoiled i xs ≡ None → (k : ℕ) (f : Fault) → slice_get xs k ≡ Some (Err f) → ⊥
no_spoiled i [] e k f h = cc
no_spoiled i (Ok b ∷ xs) e zero f h = cc
no_spoiled i (Ok b ∷ xs) e (suc k) f h = no_spoiled (i + 1) xs e k f h
no_spoiled i (Err g ∷ xs) e k f h = cc
