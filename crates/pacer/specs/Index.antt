-- The index of a run: where the links of each trigger stand, and for how many open groups each group waits.
use Rattle.std.specs.Prelude.{◌≡◌, ℕ, ◌<◌, ◌≤◌, Bool, true, false, ◌&&◌, ◌↔◌, List, length, count_by, take, ◌==◌, slice_index, slice_index_or}
use Rattle.bounds.specs.Limits.{most_steps}
use Rattle.network.specs.Groups.{group_at as entry_of}
use Rattle.network.specs.declared.tables.Kind.{Kind}
use Rattle.network.specs.declared.tables.Kind.TheVariants.{Most, Least}
use Rattle.network.specs.declared.tables.Link.{Link}
use Rattle.pacer.specs.declared.index.Span.{Span}
use Rattle.pacer.specs.declared.state.State.{State}
use Rattle.pacer.specs.declared.tables.Tables.{Tables}
use Rattle.pacer.specs.Fixing.{fixed, no_link, own_links, span_at}
use Rattle.pacer.specs.Groups.{is_open}
use Rattle.pacer.specs.States.{group_at, waits_at}

-- a link that says at least
abbrev pub is_least : Kind → Bool
is_least Most = false
is_least Least = true

-- a least link onto the group of a leader
abbrev pub least_onto : ℕ → Link → Bool
least_onto leader k = is_least k.kind && k.target == leader

-- such a link whose trigger's group is open
abbrev pub holds_back : State → ℕ → Link → Bool
holds_back s leader k = least_onto leader k && is_open (group_at s k.trigger)

-- the link at a place stands in the span of its trigger
pub record Covered (links : List Link) (spans : List Span) (place : ℕ) : Type 0 where
  pub from : (span_at spans (slice_index_or links place no_link).trigger).start ≤ place
  pub to : place < (span_at spans (slice_index_or links place no_link).trigger).end

-- the arrays of a state have a place for each step that there can be
pub record Sized (s : State) : Type 0 where
  pub groups : length s.groups ≡ most_steps
  pub waits : length s.waits ≡ most_steps

-- the index is right: each link stands in the span of its trigger, and each group has the count of the least links onto it whose triggers' groups are open
pub record Indexed (t : Tables) (s : State) : Type 0 where
  pub leaders : (step : ℕ) → (entry_of t.entries.now step).leader < most_steps
  pub sized : Sized s
  pub covers : (place : ℕ) → place < length t.links.now → Covered t.links.now t.spans place
  pub counts : (leader : ℕ) → leader < most_steps → waits_at s leader ≡ count_by (holds_back s leader) t.links.now

-- some least link onto the group of a leader has an open trigger
abbrev pub WaitsFor : List Link → State → ℕ → Type 0
WaitsFor links s leader = (place : ℕ) × (place < length links) × (holds_back s leader (slice_index_or links place no_link) ≡ true)

-- what a right index is good for: the span of a leader stands for the whole table, and a count for the search for an open trigger
pub record Plain (t : Tables) (s : State) : Type 0 where
  pub own : (leader time : ℕ) (before : State) → fixed leader time (own_links t leader) before ≡ fixed leader time t.links.now before
  pub waits : (leader : ℕ) → leader < most_steps → (0 < waits_at s leader) ↔ WaitsFor t.links.now s leader

-- while the index is made: the links before a place stand in the spans of their triggers, which end there
pub record SpansSoFar (links : List Link) (spans : List Span) (place : ℕ) : Type 0 where
  pub sized : length spans ≡ most_steps
  pub ends : (leader : ℕ) → (span_at spans leader).end ≤ place
  pub covers : (before : ℕ) → before < place → (slice_index_or links before no_link).trigger < most_steps → Covered links spans before

-- and the least links among them are counted
pub record WaitsSoFar (links : List Link) (waits : List ℕ) (place : ℕ) : Type 0 where
  pub sized : length waits ≡ most_steps
  pub counts : (leader : ℕ) → leader < most_steps → slice_index waits leader ≡ count_by (least_onto leader) (take place links)
