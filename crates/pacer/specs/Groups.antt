-- The state of a group: its window or its time, and what a call sees of it.
use Rattle.std.specs.Prelude.{ℕ, ◌+◌, ◌-◌, ◌^◌, min, max, Bool, true, false}
use Rattle.network.specs.declared.tables.Kind.{Kind}
use Rattle.network.specs.declared.tables.Kind.TheVariants.{Most, Least}
use Rattle.pacer.specs.declared.group.Call.{Call}
use Rattle.pacer.specs.declared.group.Call.TheVariants.{Cue, Wait, Look, List}
use Rattle.pacer.specs.declared.group.Group.{Group}
use Rattle.pacer.specs.declared.group.Group.TheVariants.{Open, Fixed}
use Rattle.pacer.specs.declared.group.Window.{Window}

-- what stands for a group past the end of the array
abbrev pub no_group : Group
no_group = Open 0 0

-- a group has no time yet
abbrev pub is_open : Group → Bool
is_open (Open lower upper) = true
is_open (Fixed time) = false

-- the upper end of an open group, or the time of a fixed one
abbrev pub upper_of : Group → ℕ
upper_of (Open lower upper) = upper
upper_of (Fixed time) = time

-- the largest 64-bit number
abbrev pub most_time : ℕ
most_time = 2 ^ 64 - 1

-- the earliest second for a step at an offset: a look counts from the step's own lower end and from now, other calls from the group's
abbrev pub earliest_for : Group → Call → ℕ → ℕ → ℕ
earliest_for (Fixed time) call offset t = time + offset
earliest_for (Open lower upper) Look offset t = max (min (lower + offset) most_time) t
earliest_for (Open lower upper) Cue offset t = lower
earliest_for (Open lower upper) Wait offset t = lower
earliest_for (Open lower upper) List offset t = lower

-- its window, which ends with the step's upper end
abbrev pub window_for : Group → Call → ℕ → ℕ → Window
window_for g call offset t = record { earliest = earliest_for g call offset t; latest = upper_of g + offset }

-- a window with one end at a bound, where that is narrower
abbrev pub narrowed : Kind → ℕ → Group → Group
narrowed Most bound (Open lower upper) = Open lower (min upper bound)
narrowed Least bound (Open lower upper) = Open (max lower bound) upper
narrowed Most bound (Fixed time) = Fixed time
narrowed Least bound (Fixed time) = Fixed time
