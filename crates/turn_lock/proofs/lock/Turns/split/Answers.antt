use Rattle.std.proofs.Common.{rules, sym, subst, ap, ◌∙◌}
use Rattle.turn_lock.specs.declared.view.View.{View}
use Rattle.turn_lock.specs.Views.{Sound}
use Rattle.turn_lock.proofs.Keeps.{splits}
use Rattle.turn_lock.proofs.Sounds.{sound_counting, sound_next, fits}
use Rattle.turn_lock.proofs.lock.Turns.split.Goals as goal

pub split_seat-inner-requires : goal.split_seat-inner-requires
split_seat-inner-requires g c = (search rules, search rules, splits _ _ _ _ (ap (λ k. k.number) c.seat.view_is ∙ c.requires.first) c.seat.invariant.0.0)

pub invariant_of-seat : goal.invariant_of-seat
invariant_of-seat g c = (search rules, search rules, search rules, subst (λ (v : View g.row.H-Call.Denot). Sound v) (sym (ap (λ m. m.0) c.split_seat-inner.ensures.2)) (sound_counting c.seat.inside.inner.me.0 c.seat.invariant.3))

pub invariant_of-result : goal.invariant_of-result
invariant_of-result g c = (search rules, search rules, search rules, subst (λ (v : View g.row.H-Call.Denot). Sound v) (sym (ap (λ m. m.0) c.split_seat-inner.ensures.4)) (sound_next c.seat.inside.inner.me.0 (ap (λ k. k.number) c.seat.view_is ∙ c.requires.first) c.seat.invariant.3))

pub returns-clause-fits : goal.returns-clause-fits
returns-clause-fits g c = (
  fits c.split_seat-inner.new.seat.table_id c.split_seat-inner.new.seat.me.0
      (subst (λ (v : View g.row.H-Call.Denot). Sound v) (sym (ap (λ m. m.0) c.split_seat-inner.ensures.2)) (sound_counting c.seat.inside.inner.me.0 c.seat.invariant.3)),
  fits c.split_seat-inner.result.table_id c.split_seat-inner.result.me.0
      (subst (λ (v : View g.row.H-Call.Denot). Sound v) (sym (ap (λ m. m.0) c.split_seat-inner.ensures.4)) (sound_next c.seat.inside.inner.me.0 (ap (λ k. k.number) c.seat.view_is ∙ c.requires.first) c.seat.invariant.3)),
)
