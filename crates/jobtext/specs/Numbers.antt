-- The numbers that words write.
use Rattle.std.specs.Prelude.{ℕ, ◌+◌, ◌-◌, ◌*◌, Bool, cond, ◌&&◌, List, [], ◌∷◌, drop, pos, neg_ℤ, Some, None, Option, ◌==◌, nat_le, slice_index}
use Rattle.std.specs.Option.{option_map}
use Rattle.bounds.specs.declared.row.LooseEnd.{LooseEnd}
use Rattle.bounds.specs.declared.row.LooseEnd.TheVariants.{Present, Absent}

-- a decimal digit
abbrev pub is_digit : ℕ → Bool
is_digit c = nat_le 48 c && nat_le c 57

-- the number that digits write behind those of n, if all are digits
abbrev pub digits_after : ℕ → List ℕ → Option ℕ
digits_after n [] = Some n
digits_after n (c ∷ cs) = cond (is_digit c) (digits_after (n * 10 + (c - 48)) cs) None

-- the number that a word writes: one decimal digit or more, and nothing else
abbrev pub number_of : List ℕ → Option ℕ
number_of [] = None
number_of (c ∷ cs) = digits_after 0 (c ∷ cs)

-- a number that is not above most
abbrev pub up_to : ℕ → Option ℕ → Option ℕ
up_to most None = None
up_to most (Some n) = cond (nat_le n most) (Some n) None

-- the number that a word writes, if it is not above most
abbrev pub number_up_to : ℕ → List ℕ → Option ℕ
number_up_to most word = up_to most (number_of word)

-- the largest number of 32 bits with a sign
abbrev pub most_above : ℕ
most_above = 2147483647

-- how far below 0 these numbers reach
abbrev pub most_below : ℕ
most_below = 2147483648

-- an end that is absent
abbrev pub absent : LooseEnd
absent = Absent (pos 0)

-- the end at a number
abbrev pub end_above : Option ℕ → Option LooseEnd
end_above o = option_map (λ n. Present (pos n)) o

-- the end at a number below 0
abbrev pub end_below : Option ℕ → Option LooseEnd
end_below o = option_map (λ n. Present (neg_ℤ (pos n))) o

-- the end that stands behind a minus sign: none is an absent one
abbrev pub behind_minus : List ℕ → Option LooseEnd
behind_minus [] = Some absent
behind_minus (c ∷ cs) = end_below (number_up_to most_below (c ∷ cs))

-- the end that a word writes: a lone minus sign, or a number, with a minus sign or without
abbrev pub end_of : List ℕ → Option LooseEnd
end_of word = cond (slice_index word 0 == 45) (behind_minus (drop 1 word)) (end_above (number_up_to most_above word))

-- the largest number of 16 bits
abbrev pub most_step : ℕ
most_step = 65535

-- the step, or the number of steps, that a word writes
abbrev pub step_of : List ℕ → Option ℕ
step_of word = number_up_to most_step word
