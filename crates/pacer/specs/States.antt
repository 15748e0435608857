-- The plain state of a run: what stands where, and with one part altered.
use Rattle.std.specs.Prelude.{ℕ, ◌-◌, Some, None, Option, slice_index, slice_index_or, slice_set}
use Rattle.pacer.specs.declared.group.Group.{Group}
use Rattle.pacer.specs.declared.state.State.{State}
use Rattle.pacer.specs.Groups.{no_group}

-- the group of a leader
abbrev pub group_at : State → ℕ → Group
group_at s leader = slice_index_or s.groups leader no_group

-- when a step was cued
abbrev pub cue_at : State → ℕ → Option ℕ
cue_at s step = slice_index_or s.cues step None

-- how many open groups the group of a leader waits for
abbrev pub waits_at : State → ℕ → ℕ
waits_at s leader = slice_index s.waits leader

-- the group of a leader, altered
abbrev pub with_group : State → ℕ → Group → State
with_group s leader group = record { groups = slice_set s.groups leader group; cues = s.cues; waits = s.waits; now = s.now }

-- a step is cued at a time
abbrev pub with_cue : State → ℕ → ℕ → State
with_cue s step time = record { groups = s.groups; cues = slice_set s.cues step (Some time); waits = s.waits; now = s.now }

-- the group of a leader waits for one open group less
abbrev pub with_fewer_waits : State → ℕ → State
with_fewer_waits s leader = record { groups = s.groups; cues = s.cues; waits = slice_set s.waits leader (waits_at s leader - 1); now = s.now }

-- it is this time
abbrev pub with_now : State → ℕ → State
with_now s time = record { groups = s.groups; cues = s.cues; waits = s.waits; now = time }
