use Rattle.std.proofs.Common.{rules, sym, subst, ap, ◌∙◌, ◌≡◌, ℕ, ◌^◌, arith}
use Rattle.turn_lock.specs.declared.view.View.{View}
use Rattle.turn_lock.specs.History.{entry}
use Rattle.turn_lock.specs.Known.{Known, MakesTurn}
use Rattle.turn_lock.specs.Views.{Sound, known}
use Rattle.turn_lock.proofs.Sounds.{sound_finding, sound_serving, fits, turned}
use Rattle.turn_lock.proofs.lock.Turns.turn.Goals as goal

pub invariant_of-seat : goal.invariant_of-seat
invariant_of-seat g c = let is = c.in_default.ensures.none in
    (search rules, search rules, search rules, subst (λ (v : View g.row.H-Call.Denot). Sound v) (sym (ap (λ m. m.0) is.1)) (sound_finding c.seat.inside.inner.me.0 (2 ^ 63) _ (omega arith) c.seat.invariant.3))

pub invariant_of-seat-2 : goal.invariant_of-seat-2
invariant_of-seat-2 g c =
    let by : c.seat.inside.number ≡ c.wait.new.inner.me.0.number = search rules in
    (search rules, search rules, search rules, subst (λ (v : View g.row.H-Call.Denot). Sound v) (sym (ap (λ m. m.0) c.serve-place.ensures.after)) (sound_serving c.wait.new.inner.me.0 _ by c.wait.ensures.sound))

pub returns-clause-ok : goal.returns-clause-ok
returns-clause-ok g c =
    let v = c.seat.inside.inner in
    let w = c.serve-place.new.inner in
    let n = c.seat.inside.number in
    let drew = c.in-Some.ensures.some in
    let r = c.serve-place.result.1 in
    let num : n ≡ c.args.seat.now.number = c.seat.invariant.1 ∙ ap (λ k. k.number) c.seat.view_is in
    let lock = c.serve-place.ensures.same.0 ∙ (c.wait.ensures.same.0 ∙ drew.0.0) in
    let t = turned v.table_id w.table_id v.me.0 c.draw.new.inner.me.0 c.wait.new.inner.me.0 w.me.0 (entry n c.args.call.now (g.H.Held.starves r)) c.in-Some.ticket c.serve-place.result.0 (λ h. g.H.Held.gives h n c.args.call.now r c.serve-place.new.scratch)
    lock (ap (λ m. m.0) drew.1) drew.2 drew.3 c.wait.ensures.seen c.serve-place.ensures.place c.wait.ensures.has.4 (ap (λ m. m.0) c.serve-place.ensures.after) c.serve-place.ensures.gives in
    subst (λ (x : ℕ × Known g.row.H-Call.Denot). MakesTurn x.1 (known w.table_id w.me.0) (entry x.0 c.args.call.now (g.H.Held.starves r)) c.serve-place.result.0 (λ h. g.H.Held.gives h x.0 c.args.call.now r c.serve-place.new.scratch)) (λ i. (num i, c.seat.view_is i)) t

pub returns-clause-fits : goal.returns-clause-fits
returns-clause-fits g c =
    let by : c.seat.inside.number ≡ c.wait.new.inner.me.0.number = search rules in
    fits c.serve-place.new.inner.table_id c.serve-place.new.inner.me.0 (subst (λ (v : View g.row.H-Call.Denot). Sound v) (sym (ap (λ m. m.0) c.serve-place.ensures.after)) (sound_serving c.wait.new.inner.me.0 _ by c.wait.ensures.sound))

pub returns-in_default-clause-fits : goal.returns-in_default-clause-fits
returns-in_default-clause-fits g c = let is = c.in_default.ensures.none in
    fits c.draw.new.inner.table_id c.draw.new.inner.me.0 (subst (λ (v : View g.row.H-Call.Denot). Sound v) (sym (ap (λ m. m.0) is.1)) (sound_finding c.seat.inside.inner.me.0 (2 ^ 63) _ (omega arith) c.seat.invariant.3))
