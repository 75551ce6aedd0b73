use Rattle.std.proofs.Common.{◌≡◌, ◌<◌, ◌+◌, ◌-◌, ◌∙◌, ◌++◌, ◌∷◌, [], ℕ, ap, arith, drop, length, subst, sym}
use Rattle.out_ring.specs.History.{IsAfter, and_push}
use Rattle.out_ring.specs.Ring.{Pushed, Ring, pushed}
use Rattle.out_ring.specs.Slots.{AreHeld, packets_of}
use Rattle.out_ring.proofs.Histories.{push_stands}
use Rattle.out_ring.proofs.Holding.{all_slots}
use Rattle.out_ring.proofs.Queued.{few_queued}
use Rattle.out_ring.proofs.Steps.{push_fields, ring_of}
use Rattle.out_ring.proofs.ring.OutRing.push.Goals as goal

pub spent_in-self-inside-requires-clause-queued : goal.spent_in-self-inside-requires-clause-queued
spent_in-self-inside-requires-clause-queued c =
    let a = c.self.inside in
    let i = c.self.invariant in
    let full = all_slots a.slots (a.queued + a.kept) i.placed in
    let few = few_queued (packets_of a.slots) a.ssrc a.next a.queued a.kept c.args.self.now full i.queued i.kept c.self.view_is c.requires.capacity in
    omega (arith, few)

pub fill-requires-clause-held : goal.fill-requires-clause-held
fill-requires-clause-held c =
    let a = c.self.inside in
    let i = c.self.invariant in
    let full = all_slots a.slots (a.queued + a.kept) i.placed in
    let few = few_queued (packets_of a.slots) a.ssrc a.next a.queued a.kept c.args.self.now full i.queued i.kept c.self.view_is c.requires.capacity in
    let most = i.kept in
    omega (arith, few, most, c.from-held.ensures)

pub fill-requires-clause-placed : goal.fill-requires-clause-placed
fill-requires-clause-placed c = subst (AreHeld c.self.inside.slots) (sym c.from-held.ensures) c.self.invariant.placed

abbrev packet : goal.Joined-fill → Pushed
packet c = record { bytes = c.args.packet.now; marker = c.args.marker }

full : (c : goal.Joined-fill) → length (packets_of c.self.inside.slots) ≡ 1536
full c = all_slots c.self.inside.slots (c.self.inside.queued + c.self.inside.kept) c.self.invariant.placed

few : (c : goal.Joined-fill) → c.self.inside.queued < 512
few c =
    let a = c.self.inside in
    let i = c.self.invariant in
    few_queued (packets_of a.slots) a.ssrc a.next a.queued a.kept c.args.self.now (full c) i.queued i.kept c.self.view_is c.requires.capacity

pub invariant_of-self : goal.invariant_of-self
invariant_of-self c =
    let a = c.self.inside in
    let i = c.self.invariant in
    let kept = i.kept in
    record {
      placed =
          subst (AreHeld c.fill.new.self) (let e : c.from-held.result + 1 ≡ a.queued + 1 + a.kept = omega (arith, c.from-held.ensures) in e)
          (c.fill.ensures.placed);
      next = i.next;
      queued = omega (arith, few c);
      kept = i.kept;
      spent = c.spent_in-self-inside.ensures;
    }

pushed_now : (c : goal.Joined-fill)
    → ring_of c.self.inside.ssrc c.self.inside.next c.self.inside.kept
    (drop (1536 - (c.self.inside.queued + 1) - c.self.inside.kept) (packets_of c.fill.new.self))
    ≡ pushed c.args.packet.now c.args.marker c.args.self.now
pushed_now c =
    let a = c.self.inside in
    let i = c.self.invariant in
    push_fields (packets_of a.slots) (packets_of c.fill.new.self) (packet c) a.ssrc a.next a.queued a.kept (full c) (few c) i.kept
    (subst (λ (held : ℕ). drop (1535 - held) (packets_of c.fill.new.self) ≡ drop (1536 - held) (packets_of a.slots) ++ packet c ∷ []) c.from-held.ensures
    c.fill.ensures.packets)
    ∙ ap (pushed c.args.packet.now c.args.marker) c.self.view_is

pub returns-clause-pushed : goal.returns-clause-pushed
returns-clause-pushed c = pushed_now c

pub returns-clause-stands : goal.returns-clause-stands
returns-clause-stands c h at =
    subst (λ (r : Ring). IsAfter r (and_push h c.args.packet.now c.args.marker)) (sym (pushed_now c)) (push_stands c.args.self.now h c.args.packet.now c.args.marker at)
