use Rattle.std.proofs.Common.{◌≡◌, ◌∙◌, ◌++◌, ap, List, map}
use Rattle.std.specs.Prelude.{IsPermutation}
use Rattle.port_config.specs.declared.actors.turns.Placed.{Placed}
use Rattle.port_config.specs.actors.Places.{AtPlaces}
use Rattle.sfu_together.specs.History.{IsJournal}
use Rattle.sfu_together.proofs.Ending.{came, ended_of, journal_reported}
use Rattle.sfu_together.proofs.Seating.{all_locks, all_others, if_ok}
use Rattle.sfu_together.proofs.running.make.Goals as goal

pub gather-requires-clause-locks : goal.gather-requires-clause-locks
gather-requires-clause-locks g c =
    all_locks c.act.new.seat c.args.script.now.actors c.in_ok-dones.dones.items c.in_ok-opened.opened.0 c.in_ok-dones.ensures.done (c.in_ok-kept.ensures.lock ∙ ap (λ k. k.lock) c.in_ok-opened.ensures.opened)

pub gather-requires-clause-others : goal.gather-requires-clause-others
gather-requires-clause-others g c = all_others c.act.new.seat c.args.script.now.actors c.in_ok-dones.dones.items c.in_ok-dones.ensures.done

pub close-requires-clause-came : goal.close-requires-clause-came
close-requires-clause-came g c =
    came (ended_of c.in_ok-opened.opened.0 c.args.script.now c.in_ok-opened.opened.1 c.act.new.seat c.play.new.seat c.gather.new.seat c.act-2.new.seat c.calls.result.now c.calls-2.result.now
    c.in_ok-dones.dones.items c.in_ok-kept.kept.items c.in_ok-last.last.items c.in_ok-opened.ensures.opened c.in_ok-kept.ensures.acts c.calls.ensures c.in_ok-kept.ensures.fits c.in_ok-dones.ensures.done c.in_ok-dones.ensures.eight
    c.in_ok-dones.ensures.split c.in_ok-gather.ensures.joined c.in_ok-gather.ensures.fits c.in_ok-last.ensures.acts c.calls-2.ensures c.in_ok-last.ensures.fits c.requires)

pub returns : goal.returns
returns g c =
    let e = ended_of c.in_ok-opened.opened.0 c.args.script.now c.in_ok-opened.opened.1 c.act.new.seat c.play.new.seat c.gather.new.seat c.act-2.new.seat c.calls.result.now c.calls-2.result.now
    c.in_ok-dones.dones.items c.in_ok-kept.kept.items c.in_ok-last.last.items c.in_ok-opened.ensures.opened c.in_ok-kept.ensures.acts c.calls.ensures c.in_ok-kept.ensures.fits c.in_ok-dones.ensures.done c.in_ok-dones.ensures.eight
    c.in_ok-dones.ensures.split c.in_ok-gather.ensures.joined c.in_ok-gather.ensures.fits c.in_ok-last.ensures.acts c.calls-2.ensures c.in_ok-last.ensures.fits c.requires in
    if_ok (λ journal. (all : List Placed) → IsPermutation all c.put_all.new.list.items → AtPlaces 0 all → journal ≡ map (λ turn. turn.entry) all) (λ journal. IsJournal c.args.script.now journal) c.in_order.result
    (λ journal reported. journal_reported _ _ _ _ _ _ _ _ c.put_all.new.list.items journal e c.close.ensures.found c.close.ensures.stands.well_formed
    (c.in_ok-put_all.ensures ∙ ap (λ (l : List Placed). l ++ c.in_ok-last.last.items) c.in_ok-gather.ensures.kept) reported)
    c.in_order.ensures
