use Rattle.std.proofs.Common.{◌+◌, ap, arith, List, refl, true≢false}
use Rattle.reorder_window.specs.declared.ring.Ring.{Ring}
use Rattle.reorder_window.specs.Events.{Held}
use Rattle.reorder_window.specs.Items.{pieces}
use Rattle.reorder_window.specs.Kept.{waiting_from}
use Rattle.reorder_window.specs.Held.{held_at}
use Rattle.reorder_window.proofs.Fetching.{gap_below, got_below, gap_first, nothing_given, others_in, packet_first, some_waits}
use Rattle.reorder_window.proofs.window.fetch.Goals as goal

-- the items that wait after a packet don't depend on the packet that was exchanged
pub returns-in-Some-clause-rest : goal.returns-in-Some-clause-rest
returns-in-Some-clause-rest c =
    let old = c.args.ring.now in
    let new = c.exchange.new.self in
    rw (packet_first c.args.ring.now c.args.given.now c.args.next c.in-Some.moment c.exchange.result c.args.slot.now.value c.exchange.new.packet.value
    (omega (arith, c.if-from-next.false, c.requires.within)) c.exchange.ensures.given c.in-Some.is)
    (ap (λ (hs : List Held). pieces (c.args.given.now + 1) hs c.args.next)
    (others_in (held_at old.pool old.latest) (held_at new.pool new.latest) c.args.given.now (c.args.given.now + 1) c.args.next c.exchange.ensures.others (omega arith)))

pub returns-in-Some-clause-below : goal.returns-in-Some-clause-below
returns-in-Some-clause-below c = got_below c.args.ring.now c.exchange.new.self c.args.given.now c.requires.below c.exchange.ensures.gone c.exchange.ensures.others

pub returns-clause-below : goal.returns-clause-below
returns-clause-below c =
    gap_below c.args.ring.now c.exchange.new.self c.args.given.now c.args.next c.gap_end-end.result c.in_default.ensures.none c.requires.below c.gap_end-end.ensures

pub returns-clause-none : goal.returns-clause-none
returns-clause-none c = (
  λ e. absurd (true≢false e),
  λ e. absurd (some_waits _ _ _ (gap_first c.args.ring.now c.exchange.new.self c.args.given.now c.args.next c.gap_end-end.result c.in_default.ensures.none c.gap_end-end.ensures) e),
)

pub returns-clause-item : goal.returns-clause-item
returns-clause-item c =
    rw (gap_first c.args.ring.now c.exchange.new.self c.args.given.now c.args.next c.gap_end-end.result c.in_default.ensures.none c.gap_end-end.ensures) refl

pub returns-clause-bytes : goal.returns-clause-bytes
returns-clause-bytes c =
    rw (gap_first c.args.ring.now c.exchange.new.self c.args.given.now c.args.next c.gap_end-end.result c.in_default.ensures.none c.gap_end-end.ensures)
    (nothing_given _ c.exchange.result c.args.slot.now.value c.exchange.new.packet.value c.exchange.ensures.given c.in_default.is).1

pub returns-clause-rest : goal.returns-clause-rest
returns-clause-rest c =
    rw (gap_first c.args.ring.now c.exchange.new.self c.args.given.now c.args.next c.gap_end-end.result c.in_default.ensures.none c.gap_end-end.ensures)
    (ap (λ (r : Ring). waiting_from r c.gap_end-end.result c.args.next) c.in_default.ensures.none)
