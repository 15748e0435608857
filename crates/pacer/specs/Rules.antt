-- When a call is taken or refused, over the tables and the plain state of a run.
use Rattle.std.specs.Prelude.{◌≡◌, ℕ, ◌+◌, ◌<◌, ◌≤◌, true, ◌⊎◌, None, Option, ◌≢◌}
use Rattle.network.specs.Groups.{group_at as entry_of}
use Rattle.pacer.specs.declared.group.Call.{Call}
use Rattle.pacer.specs.declared.group.Call.TheVariants.{Cue}
use Rattle.pacer.specs.declared.group.Group.{Group}
use Rattle.pacer.specs.declared.group.Window.{Window}
use Rattle.pacer.specs.declared.state.State.{State}
use Rattle.pacer.specs.declared.tables.Tables.{Tables}
use Rattle.pacer.specs.Groups.{is_open, upper_of, earliest_for, window_for}
use Rattle.pacer.specs.Refusals.{Given, Taken}
use Rattle.pacer.specs.States.{group_at, cue_at, waits_at}

-- the group that a step belongs to, as it stands
abbrev pub group_of : Tables → State → ℕ → Group
group_of t s step = group_at s (entry_of t.entries.now step).leader

-- when a step may start, as a call sees it
abbrev pub window_of : Tables → State → ℕ → Call → Window
window_of t s step call = window_for (group_of t s step) call (entry_of t.entries.now step).offset s.now

-- the upper end of a step: its group's upper end, or fixed time, and the step's offset
abbrev pub upper_end : Tables → State → ℕ → ℕ
upper_end t s step = upper_of (group_of t s step) + (entry_of t.entries.now step).offset

-- one of the n steps that is not cued
pub record Uncued (n : ℕ) (s : State) (step : ℕ) : Type 0 where
  pub inside : step < n
  pub waiting : cue_at s step ≡ None

-- some step is not cued
abbrev pub SomeUncued : ℕ → State → Type 0
SomeUncued n s = (step : ℕ) × Uncued n s step

-- the time is after the upper end of some uncued step
abbrev pub Overdue : Tables → State → ℕ → Type 0
Overdue t s time = (step : ℕ) × Uncued t.steps s step × (upper_end t s step < time)

-- the step's group is open, and the step comes after its leader or the group waits for an open one
pub record NotYet (t : Tables) (s : State) (step : ℕ) : Type 0 where
  pub open_group : is_open (group_of t s step) ≡ true
  pub held_back : (0 < (entry_of t.entries.now step).offset) ⊎ (0 < waits_at s (entry_of t.entries.now step).leader)

-- the time is before the lower end of the step's open group, or before the step's time in a fixed one
abbrev pub TooEarly : Tables → State → ℕ → ℕ → Type 0
TooEarly t s step time = time < earliest_for (group_of t s step) Cue (entry_of t.entries.now step).offset s.now

-- what a cue of a step at a time is answered with
abbrev pub CueAnswer : Tables → State → ℕ → ℕ → Option ℕ → Type 0
CueAnswer t s step time =
    Given 10 (t.steps ≤ step)
    (Given 11 (cue_at s step ≢ None)
    (Given 12 (time < s.now)
    (Given 13 (Overdue t s time)
    (Given 14 (NotYet t s step)
    (Given 15 (TooEarly t s step time)
    Taken)))))

-- what a wait until a time is answered with
abbrev pub WaitAnswer : Tables → State → ℕ → Option ℕ → Type 0
WaitAnswer t s time =
    Given 16 (SomeUncued t.steps s → ⊥)
    (Given 12 (time < s.now)
    (Given 13 (Overdue t s time)
    Taken))
