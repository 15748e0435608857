-- What fixing a group does: each of its own links narrows the window of its target.
use Rattle.std.specs.Prelude.{ℕ, ◌+◌, if◌then◌else◌, List, fold, take, drop, ◌==◌, nat_lt, slice_index_or}
use Rattle.network.specs.declared.tables.Kind.{Kind}
use Rattle.network.specs.declared.tables.Kind.TheVariants.{Most, Least}
use Rattle.network.specs.declared.tables.Link.{Link}
use Rattle.pacer.specs.declared.group.Group.TheVariants.{Fixed}
use Rattle.pacer.specs.declared.index.Span.{Span}
use Rattle.pacer.specs.declared.state.State.{State}
use Rattle.pacer.specs.declared.tables.Tables.{Tables}
use Rattle.pacer.specs.Groups.{narrowed}
use Rattle.pacer.specs.States.{group_at, with_group, with_fewer_waits}

-- what stands for a link past the end of a table
abbrev pub no_link : Link
no_link = record { trigger = 0; target = 0; kind = Most; seconds = 0 }

-- once a least link is applied, its target waits for one open group less
abbrev pub one_wait_less : Kind → ℕ → State → State
one_wait_less Most target s = s
one_wait_less Least target s = with_fewer_waits s target

-- the state after one link whose trigger's group was fixed at a time
abbrev pub after_link : ℕ → Link → State → State
after_link time k s = one_wait_less k.kind k.target (with_group s k.target (narrowed k.kind (time + k.seconds) (group_at s k.target)))

-- the state after all links of a list with this trigger, from the first to the last
abbrev pub applied : ℕ → ℕ → List Link → State → State
applied leader time ks s = fold (λ s k. if k.trigger == leader then after_link time k s else s) s ks

-- the span of a leader
abbrev pub span_at : List Span → ℕ → Span
span_at spans leader = slice_index_or spans leader (record { start = 0; end = 0 })

-- where a span starts, or the place where there is nothing in it yet
abbrev pub first_of : Span → ℕ → ℕ
first_of span place = if nat_lt span.start span.end then span.start else place

-- the links of a span
abbrev pub spanned : Span → List Link → List Link
spanned span links = drop span.start (take span.end links)

-- the links of a leader's span
abbrev pub own_links : Tables → ℕ → List Link
own_links t leader = spanned (span_at t.spans leader) t.links.now

-- the state once the group of a leader is fixed at a time
abbrev pub fixed : ℕ → ℕ → List Link → State → State
fixed leader time links s = applied leader time links (with_group s leader (Fixed time))
