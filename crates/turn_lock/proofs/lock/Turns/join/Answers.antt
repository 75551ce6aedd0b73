use Rattle.std.proofs.Common.{rules, sym, subst, ap, ◌∙◌, ◌<◌}
use mathlib.Core.List.{List, IsPrefix}
use Rattle.turn_lock.specs.declared.history.Entry.{Entry}
use Rattle.turn_lock.specs.declared.view.View.{View}
use Rattle.turn_lock.specs.Known.{Known}
use Rattle.turn_lock.specs.Views.{Sound}
use Rattle.turn_lock.proofs.Keeps.{joins, peeks}
use Rattle.turn_lock.proofs.Sounds.{both_begin, fits}
use Rattle.turn_lock.proofs.lock.Turns.join.Goals as goal

pub join_seat-requires : goal.join_seat-requires
join_seat-requires g c = (
  search rules,
  search rules,
  search rules,
  search rules,
  joins _ _ _ _ _ _ (ap (λ k. k.number) c.into.view_is ∙ c.requires.first) c.into.invariant.0.0 c.from.invariant.0.0 (subst (λ (k : Known g.row.H-Call.Denot). 0 < k.number) (sym c.from.view_is) c.requires.other),
)

pub load-requires : goal.load-requires
load-requires g c = (search rules, search rules, peeks _ _ _ _ _ (ap (λ m. m.0.stage) c.join_seat.ensures.2 ∙ c.into.invariant.0.0))

pub returns-clause-seen : goal.returns-clause-seen
returns-clause-seen g c =
    let peeked = c.load.ensures.2 in
    let is = ap (λ m. m.0) c.join_seat.ensures.2 in
    let both = both_begin c.into.inside.inner.me.0 c.from.inside.inner.me.0 c.load.new.seat.me.0 (ap (λ m. m.0) peeked.0 ∙ is)
    (subst (λ (z : View g.row.H-Call.Denot). (h : List (Entry g.row.H-Call.Denot)) × IsPrefix z.seen h × IsPrefix z.beside h) (sym (ap (λ m. m.0) peeked.0)) peeked.2) in (
      subst (λ (k : Known g.row.H-Call.Denot). IsPrefix k.seen c.load.new.seat.me.0.seen) c.into.view_is both.0,
      subst (λ (k : Known g.row.H-Call.Denot). IsPrefix k.seen c.load.new.seat.me.0.seen) c.from.view_is both.1,
    )

pub returns-clause-fits : goal.returns-clause-fits
returns-clause-fits g c = let peeked = c.load.ensures.2 in fits c.load.new.seat.table_id c.load.new.seat.me.0 (subst (λ (v : View g.row.H-Call.Denot). Sound v) (sym (ap (λ m. m.0) peeked.0)) peeked.1)
