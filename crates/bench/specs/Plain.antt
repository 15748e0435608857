-- What crosses, beside the types of the part.
use Rattle.std.specs.Prelude.{Bool, true, false, cond}
use Rattle.bounds.specs.declared.row.LooseEnd.{LooseEnd}
use Rattle.bounds.specs.declared.row.LooseEnd.TheVariants.{Present, Absent}
use Rattle.bounds.specs.declared.row.Row.{Row}
use Rattle.network.specs.declared.tables.GroupEntry.{GroupEntry}
use Rattle.network.specs.declared.tables.Kind.{Kind}
use Rattle.network.specs.declared.tables.Kind.TheVariants.{Most, Least}
use Rattle.network.specs.declared.tables.Link.{Link}
use Rattle.bench.specs.declared.PlainEnd.{PlainEnd}
use Rattle.bench.specs.declared.PlainBound.{PlainBound}
use Rattle.bench.specs.declared.PlainGroup.{PlainGroup}
use Rattle.bench.specs.declared.PlainLink.{PlainLink}

abbrev pub loose_end : PlainEnd → LooseEnd
loose_end e = cond e.present (Present e.value) (Absent e.value)

-- the row that a bound is handed over for
abbrev pub plain_row : PlainBound → Row
plain_row b = record { from = b.from; to = b.to; lower = loose_end b.lower; upper = loose_end b.upper }

abbrev pub plain_group : GroupEntry → PlainGroup
plain_group g = record { leader = g.leader; offset = g.offset }

abbrev pub is_least : Kind → Bool
is_least Most = false
is_least Least = true

abbrev pub plain_link : Link → PlainLink
plain_link l = record { trigger = l.trigger; target = l.target; least = is_least l.kind; seconds = l.seconds }
