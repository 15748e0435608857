-- Which tables a run is opened on, and how it begins.
use Rattle.std.specs.Prelude.{◌≡◌, ℕ, ◌<◌, ◌≤◌, ◌⊎◌, List, length, count_by, take, replicate, None, Option, slice_index, slice_index_or}
use Rattle.bounds.specs.Limits.{horizon, most_steps}
use Rattle.network.specs.Groups.{group_at as entry_of}
use Rattle.network.specs.declared.tables.GroupEntry.{GroupEntry}
use Rattle.network.specs.declared.tables.Link.{Link}
use Rattle.pacer.specs.declared.group.Group.TheVariants.{Open}
use Rattle.pacer.specs.declared.run.Run.{Run}
use Rattle.pacer.specs.declared.state.State.{State}
use Rattle.pacer.specs.declared.tables.Tables.{Tables}
use Rattle.pacer.specs.Fixing.{fixed, no_link, own_links}
use Rattle.pacer.specs.Index.{least_onto}
use Rattle.pacer.specs.Refusals.{Given, Taken}
use Rattle.pacer.specs.States.{with_cue}

-- a step leads itself, at offset 0
pub record LeadsItself (n : ℕ) (es : List GroupEntry) (step : ℕ) : Type 0 where
  pub inside : step < n
  pub leader : (entry_of es step).leader ≡ step
  pub offset : (entry_of es step).offset ≡ 0

-- the leader of a step leads itself, and the step's offset is within the horizon
pub record EntryFits (n : ℕ) (es : List GroupEntry) (step : ℕ) : Type 0 where
  pub leads : LeadsItself n es (entry_of es step).leader
  pub offset : (entry_of es step).offset ≤ horizon

-- each of the n steps fits
abbrev pub EntriesFit : ℕ → List GroupEntry → Type 0
EntriesFit n es = (step : ℕ) → step < n → EntryFits n es step

-- a link joins two leaders, and its seconds are within the horizon
pub record LinkFits (n : ℕ) (es : List GroupEntry) (k : Link) : Type 0 where
  pub trigger : LeadsItself n es k.trigger
  pub target : LeadsItself n es k.target
  pub seconds : k.seconds ≤ horizon

-- and so does each link
abbrev pub LinksFit : ℕ → List GroupEntry → List Link → Type 0
LinksFit n es ks = (place : ℕ) → place < length ks → LinkFits n es (slice_index_or ks place no_link)

-- the tables fit together, and step 0 leads itself
pub record Fit (n : ℕ) (es : List GroupEntry) (ks : List Link) : Type 0 where
  pub start : LeadsItself n es 0
  pub entries : EntriesFit n es
  pub links : LinksFit n es ks

-- every group open from 0 to 1,000,000, and no step cued
abbrev pub fresh : List ℕ → State
fresh waits = record { groups = replicate most_steps (Open 0 horizon); cues = replicate most_steps None; waits = waits; now = 0 }

-- the state that a run begins with: step 0's group is fixed at 0, its links are applied, and step 0 is cued at 0
pub record Begins (t : Tables) (s : State) : Type 0 where
  pub waits : List ℕ
  pub counted : (leader : ℕ) → leader < most_steps → slice_index waits leader ≡ count_by (least_onto leader) t.links.now
  pub sized : length waits ≡ most_steps
  pub begun : s ≡ with_cue (fixed 0 0 (own_links t 0) (fresh waits)) 0 0

-- a run over the used parts of the tables, in its first state
pub record Opened (n m : ℕ) (es : List GroupEntry) (ks : List Link) (r : Run) : Type 0 where
  pub steps : r.tables.steps ≡ n
  pub entries : r.tables.entries.now ≡ take n es
  pub links : r.tables.links.now ≡ take m ks
  pub begins : Begins r.tables r.state

-- n and m reach beyond the tables, or their parts do not fit together
abbrev pub Unfit : ℕ → ℕ → List GroupEntry → List Link → Type 0
Unfit n m es ks = (length es < n) ⊎ ((length ks < m) ⊎ (Fit n (take n es) (take m ks) → ⊥))

-- what opening n steps and m links is answered with
abbrev pub OpenAnswer : ℕ → ℕ → List GroupEntry → List Link → Option ℕ → Type 0
OpenAnswer n m es ks = Given 7 ((n ≡ 0) ⊎ (most_steps < n)) (Given 8 (Unfit n m es ks) Taken)
