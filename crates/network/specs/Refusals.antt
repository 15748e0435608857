-- What a refusal of `compile` tells, and which refusals come before a timetable is looked for.
use Rattle.std.specs.Prelude.{ℕ, ◌-◌, ◌*◌, Bool, cond, ◌||◌, Some, Option, nat_lt}
use Rattle.std.specs.Option.{option_map}
use Rattle.bounds.specs.Meaning.{Meaning}
use Rattle.bounds.specs.Spoiled.{first_spoiled}
use Rattle.bounds.specs.declared.told.Told.{Told}
use Rattle.bounds.specs.Told.{numbered, told_spoiled, beyond_limits}
use Rattle.network.specs.declared.refusal.Refusal.{Refusal}
use Rattle.network.specs.declared.refusal.Refusal.TheVariants.{Limits, Tables, Spoiled, NoTimetable}

-- the number of each refusal, and the place of a spoiled item
abbrev pub told : Refusal → Told
told Limits = numbered 7
told Tables = numbered 8
told (Spoiled item) = told_spoiled item
told NoTimetable = numbered 9

-- fewer than n × n distances, n group entries or n × (n − 1) links
abbrev pub too_short : ℕ → ℕ → ℕ → ℕ → Bool
too_short n distances groups links = nat_lt distances (n * n) || (nat_lt groups n || nat_lt links (n * (n - 1)))

-- the refusal of a source at three table lengths before a timetable is looked for, if there is one: limits, then tables, then the first spoiled item
abbrev pub early_refusal : Meaning → ℕ → ℕ → ℕ → Option Told
early_refusal m distances groups links =
    cond (beyond_limits m) (Some (told Limits))
    (cond (too_short m.steps distances groups links) (Some (told Tables))
    (option_map told_spoiled (first_spoiled 0 m.items)))
