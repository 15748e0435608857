-- What a taken call leaves, and what a look answers.
use Rattle.std.specs.Prelude.{ℕ, if◌then◌else◌, Some, None, Ok, Err, Option, Result, nat_lt}
use Rattle.network.specs.Groups.{group_at as entry_of}
use Rattle.pacer.specs.declared.group.Call.TheVariants.{Look}
use Rattle.pacer.specs.declared.group.Window.{Window}
use Rattle.pacer.specs.declared.refusal.NoSuchStep.{NoSuchStep}
use Rattle.pacer.specs.declared.state.State.{State}
use Rattle.pacer.specs.declared.tables.Tables.{Tables}
use Rattle.pacer.specs.Fixing.{fixed, own_links}
use Rattle.pacer.specs.Groups.{is_open}
use Rattle.pacer.specs.Rules.{group_of, window_of}
use Rattle.pacer.specs.States.{cue_at, with_cue, with_now}

-- the group of a step once the step starts at a time: an open one is fixed, and its own links are applied
abbrev pub settled : Tables → State → ℕ → ℕ → State
settled t s step time =
    let leader = (entry_of t.entries.now step).leader in
    if is_open (group_of t s step) then fixed leader time (own_links t leader) s else s

-- the state once a cue is taken
abbrev pub cued : Tables → State → ℕ → ℕ → State
cued t s step time = with_now (with_cue (settled t s step time) step time) time

-- the state once a wait is taken
abbrev pub waited : State → ℕ → State
waited s time = with_now s time

-- a cue time twice, or a window
abbrev pub seen : Option ℕ → Window → Window
seen (Some time) window = record { earliest = time; latest = time }
seen None window = window

-- the answer to a look
abbrev pub look_answer : Tables → State → ℕ → Result Window NoSuchStep
look_answer t s step = if nat_lt step t.steps then Ok (seen (cue_at s step) (window_of t s step Look)) else Err (record {})
