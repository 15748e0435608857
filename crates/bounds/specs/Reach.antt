-- Which ends a bound may have. Names no type of the crate, so that the invariant of `Bound` can cite it.
use Rattle.std.specs.Prelude.{Bool, true, ◌&&◌, ◌||◌, ℤ, pos, neg_ℤ, is_some, Some, None, Option, int_le}
use Rattle.bounds.specs.Limits.{horizon}

-- an end is present
abbrev pub has_end : Option ℤ → Option ℤ → Bool
has_end lower upper = is_some lower || is_some upper

-- an end that is present lies from −1,000,000 to 1,000,000
abbrev pub end_in_reach : Option ℤ → Bool
end_in_reach None = true
end_in_reach (Some z) = int_le (neg_ℤ (pos horizon)) z && int_le z (pos horizon)

-- both ends do
abbrev pub ends_in_reach : Option ℤ → Option ℤ → Bool
ends_in_reach lower upper = end_in_reach lower && end_in_reach upper
