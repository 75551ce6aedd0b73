use Rattle.std.proofs.Common.{◌≡◌, ◌<◌, ◌+◌, ◌-◌, ◌∙◌, ap, arith, drop, length, subst, sym}
use Rattle.out_ring.specs.History.{IsAfter, and_push}
use Rattle.out_ring.specs.Ring.{Pushed, Ring, pushed}
use Rattle.out_ring.specs.Slots.{AreHeld, packets_of}
use Rattle.out_ring.proofs.Histories.{push_stands}
use Rattle.out_ring.proofs.Holding.{all_slots}
use Rattle.out_ring.proofs.Queued.{few_queued}
use Rattle.out_ring.proofs.Slotted.{newest_pushed}
use Rattle.out_ring.proofs.Steps.{push_fields, ring_of}
use Rattle.out_ring.proofs.ring.OutRing.push_shared.Goals as goal

pub spent_in-self-inside-requires-clause-queued : goal.spent_in-self-inside-requires-clause-queued
spent_in-self-inside-requires-clause-queued c =
    let a = c.self.inside in
    let i = c.self.invariant in
    let full = all_slots a.slots (a.queued + a.kept) i.placed in
    let few = few_queued (packets_of a.slots) a.ssrc a.next a.queued a.kept c.args.self.now full i.queued i.kept c.self.view_is c.requires.capacity in
    omega (arith, few)

abbrev packet : goal.After-share → Pushed
packet c = record { bytes = c.args.packet; marker = c.args.marker }

full : (c : goal.After-share) → length (packets_of c.self.inside.slots) ≡ 1536
full c = all_slots c.self.inside.slots (c.self.inside.queued + c.self.inside.kept) c.self.invariant.placed

few : (c : goal.After-share) → c.self.inside.queued < 512
few c =
    let a = c.self.inside in
    let i = c.self.invariant in
    few_queued (packets_of a.slots) a.ssrc a.next a.queued a.kept c.args.self.now (full c) i.queued i.kept c.self.view_is c.requires.capacity

pub invariant_of-self : goal.invariant_of-self
invariant_of-self c =
    let a = c.self.inside in
    let i = c.self.invariant in
    let kept = i.kept in
    record {
      placed =
          subst (AreHeld c.share.new.self) (let e : a.queued + a.kept + 1 ≡ a.queued + 1 + a.kept = omega (arith) in e)
          (c.share.ensures.placed (a.queued + a.kept) (omega (arith, few c, kept)) i.placed);
      next = i.next;
      queued = omega (arith, few c);
      kept = i.kept;
      spent = c.spent_in-self-inside.ensures;
    }

pushed_now : (c : goal.After-share)
    → ring_of c.self.inside.ssrc c.self.inside.next c.self.inside.kept
    (drop (1536 - (c.self.inside.queued + 1) - c.self.inside.kept) (packets_of c.share.new.self))
    ≡ pushed c.args.packet c.args.marker c.args.self.now
pushed_now c =
    let a = c.self.inside in
    let i = c.self.invariant in
    push_fields (packets_of a.slots) (packets_of c.share.new.self) (packet c) a.ssrc a.next a.queued a.kept (full c) (few c) i.kept
    (ap (drop (1535 - (a.queued + a.kept))) c.share.ensures.packets
    ∙ newest_pushed (packets_of a.slots) (packet c) (a.queued + a.kept) (full c) (let most = i.kept in omega (arith, few c, most)))
    ∙ ap (pushed c.args.packet c.args.marker) c.self.view_is

pub returns-clause-pushed : goal.returns-clause-pushed
returns-clause-pushed c = pushed_now c

pub returns-clause-stands : goal.returns-clause-stands
returns-clause-stands c h at =
    subst (λ (r : Ring). IsAfter r (and_push h c.args.packet c.args.marker)) (sym (pushed_now c)) (push_stands c.args.self.now h c.args.packet c.args.marker at)
