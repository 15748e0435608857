-- What is left to show of `put_records`: one record more.
use Rattle.std.proofs.Common.{◌≡◌, ◌+◌, ◌*◌, [], length, ◌∙◌, sym, ap, subst, arith}
use Rattle.std.specs.List.{slice_get}
use Rattle.bits.specs.Wrote.{KeptOutside}
use Rattle.card.specs.Layout.{header_bits, record_bits}
use Rattle.bounds.specs.Laws.{below_more}
use Rattle.bounds.specs.Limits.{most_steps}
use Rattle.bounds.specs.Unread.{unread}
use Rattle.bounds.proofs.Scanning.{taken_same, taken_below, taken_stands, left_none}
use Rattle.card.proofs.Filling.{Filling, filling_more, filling_all}
use Rattle.card.proofs.writing.put_records.Goals as goal

pub put_record-requires : goal.put_record-requires
put_record-requires g c =
    let far = c.loop-place.invariant in
    let m = g.S.Source.meaning c.args.source.now in
    let i = c.loop-place.place-iterator.place in
    let place = c.in-Some.ensures.steps.1.0 in
    let taken = taken_same (λ s. (g.S.Source.meaning s).items) _ _ i c.next.new.self.place c.in-Some.item far.source c.in-Some.ensures.steps.1.1 in
    let at = taken_stands m.items i c.in-Some.item _ taken in
    record {
      few = omega (arith, at.readable, place);
      steps = below_more m.steps most_steps c.requires.steps c.in-Some.item (taken_below m.steps m.items i c.in-Some.item _ m.law taken);
      room = omega (arith, at.inside, place, c.requires.room, far.filling.kept.long);
    }

pub loop-place-preserved : goal.loop-place-preserved
loop-place-preserved g c =
    let far = c.loop-place.invariant in
    let m = g.S.Source.meaning c.args.source.now in
    let i = c.loop-place.place-iterator.place in
    let taken = taken_same (λ s. (g.S.Source.meaning s).items) _ _ i c.next.new.self.place c.in-Some.item far.source c.in-Some.ensures.steps.1.1 in
    let at = taken_stands m.items i c.in-Some.item _ taken in
    let place = c.in-Some.ensures.steps.1.0 in
    let so_far = subst (Filling m.items c.args.out.now c.loop-place.out) (sym place) far.filling in
    let more = filling_more m.items _ _ _ c.in-Some.place c.in-Some.item (ap (slice_get m.items) place ∙ at.item) so_far c.put_record.ensures.kept c.put_record.ensures.holds in
    record {
      can_next = tt;
      is_finite = tt;
      source = c.in-Some.ensures.steps.0 ∙ far.source;
      inside = omega (arith, at.inside, c.in-Some.ensures.steps.1.2);
      filling = subst (Filling m.items c.args.out.now c.put_record.new.out) (omega (arith, place, c.in-Some.ensures.steps.1.2)) more;
    }

pub returns : goal.returns
returns g c =
    let far = c.loop-place.invariant in
    let m = g.S.Source.meaning c.args.source.now in
    let k = c.loop-place.place-iterator.place in
    let none : unread m.items k ≡ [] = ap (λ s. unread (g.S.Source.meaning s).items k) (sym far.source) ∙ c.in-None.ensures.steps.1.0 in
    let all : k ≡ length m.items = omega (arith, far.inside, left_none m.items k c.requires.few none) in
    record {
      kept = subst (λ n. KeptOutside c.args.out.now c.loop-place.out header_bits (header_bits + record_bits * n)) all far.filling.kept;
      records = filling_all m.items _ _ k all far.filling;
    }
