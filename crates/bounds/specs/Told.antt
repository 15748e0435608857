-- What a refusal tells, and the two reasons that every reader of a whole source shares.
use Rattle.std.specs.Prelude.{ℕ, Bool, ◌||◌, List, ◌++◌, length, Some, None, codes, decimal, Option, ◌==◌, nat_lt}
use Rattle.bounds.specs.declared.scan.SpoiledItem.{SpoiledItem}
use Rattle.bounds.specs.declared.told.Told.{Told}
use Rattle.bounds.specs.Faults.{fault_number}
use Rattle.bounds.specs.Limits.{most_steps, most_items}
use Rattle.bounds.specs.Meaning.{Meaning}

-- a number without a place
abbrev pub numbered : ℕ → Told
numbered n = record { number = n; place = None }

-- the words for a number, and for the place that it has, if any
abbrev pub refused_words : ℕ → Option ℕ → List ℕ
refused_words n None = codes "refused " ++ decimal n
refused_words n (Some p) = codes "refused " ++ decimal n ++ codes " at " ++ decimal p

-- what is told, as text
abbrev pub told_line : Told → List ℕ
told_line t = refused_words t.number t.place

-- a spoiled item is refused with the number of its fault, and with its place
abbrev pub told_spoiled : SpoiledItem → Told
told_spoiled item = record { number = fault_number item.fault; place = Some item.place }

-- no step, or more steps or items than are compiled or written
abbrev pub beyond_limits : Meaning → Bool
beyond_limits m = m.steps == 0 || (nat_lt most_steps m.steps || nat_lt most_items (length m.items))
