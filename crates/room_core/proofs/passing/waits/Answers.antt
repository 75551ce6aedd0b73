use Rattle.std.proofs.Common.{length, refl, sym, true≢false}
use Rattle.room_core.proofs.Indexed.{not_within, waits_all, waits_next, waits_over}
use Rattle.room_core.proofs.passing.waits.Goals as goal
use Rattle.room_core.proofs.passing.waits.Goals.{in-Some-get_index+else-waits_one, in_default-get_index}

pub loop-place-preserved : goal.loop-place-preserved
loop-place-preserved c = elim c.match-get_index.branch [
  | in-Some-get_index+else-waits_one w ↦
      waits_next c.args.number c.args.places.now c.args.subscribers.now.entries c.requires c.loop-place.from c.in-Some.place _ c.in-Some.ensures.first c.loop-place.invariant
      (sym w.in-Some-get_index.ensures.entry) w.if-waits_one.ensures
  | in_default-get_index w ↦
      waits_over c.args.number c.args.places.now c.args.subscribers.now.entries c.requires c.loop-place.from c.in-Some.place c.in-Some.ensures.first c.loop-place.invariant
      (not_within (length c.args.subscribers.now.entries) (length c.args.subscribers.now.entries) c.in-Some.place refl
      (λ lt. true≢false (sym (w.in_default-get_index.ensures.found.1 lt))))
]

pub returns : goal.returns
returns c =
    waits_all c.args.number c.args.places.now c.args.subscribers.now.entries c.requires c.loop-place.from c.in_default.ensures.first c.loop-place.invariant
