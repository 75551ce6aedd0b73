use Rattle.std.proofs.Common.{◌∙◌, ◌∷◌, sym, ap, refl, arith, Some, None, Err}
use Rattle.std.proofs.lemmas.Bool.{eq-eqb, le-ltb}
use Rattle.reorder_window.specs.Events.{Arrives}
use Rattle.reorder_window.specs.Order.{judged_sequence}
use Rattle.reorder_window.specs.Window.{refusal as order_refusal_of}
use Rattle.sfu_base.specs.declared.call.Refusal.{Refusal}
use Rattle.rtp_packet.specs.Packet.{Packet as RtpPacket}
use Rattle.track_core.specs.Pieces.{IsTaken}
use Rattle.track_core.specs.Track.{Seen, refusal_of}
use Rattle.track_core.specs.Kept.{seen}
use Rattle.track_core.proofs.Orders.{accepted_refusal, event_stands}
use Rattle.track_core.proofs.track.Track.arrive.Goals as goal
use Rattle.track_core.proofs.track.Track.arrive.Goals.{in-Ok-arrive, in-Err-arrive}

pub invariant_of-self : goal.invariant_of-self
invariant_of-self c =
    let h = c.self.invariant.stood in
    let taken : IsTaken c.args.bytes.now = record { few = omega arith; are_bytes = λ i. omega (arith, c.type_inv.bytes i); reads = c.in-Ok.ensures.ok } in
    record {
      stood = record {
        events = Arrives c.in-Ok.packet.seq c.args.moment c.args.bytes.now ∷ h.events;
        worked = h.worked;
        stands = event_stands (seen c.self.inside) _ (Arrives c.in-Ok.packet.seq c.args.moment c.args.bytes.now) h.events h.worked h.stands
            (ap (λ (t : Seen). t.window.waiting) c.self.view_is ∙ c.requires.idle) (c.arrive.ensures.stands h.events h.stands.window) c.arrive.ensures.items c.arrive.ensures.hold taken refl refl refl;
      };
      slot = c.self.invariant.slot;
    }

pub returns-clause-refusal : goal.returns-clause-refusal
returns-clause-refusal c =
    let small = le-ltb 1500 _ c.if-bytes-gt-PACKET_BYTES.false in
    let source = eq-eqb _ _ (sym (ap (λ (p : RtpPacket). p.ssrc) c.in-Ok.ensures.parts) ∙ c.if-packet-self.false ∙ ap (λ (t : Seen). t.ssrc) c.self.view_is) in
    let same = ap (λ (p : RtpPacket). p.sequence) c.in-Ok.ensures.parts in
    elim c.match-arrive.branch [
      | in-Ok-arrive w ↦
          ap refusal_of w.result-is
          ∙ accepted_refusal c.args.self.now c.args.bytes.now c.in-Ok.packet.seq None small c.in-Ok.ensures.ok source same
          (w.in-Ok-arrive.ensures.refusal ∙ ap (λ (t : Seen). order_refusal_of (judged_sequence t.window.order c.in-Ok.packet.seq)) c.self.view_is)
      | in-Err-arrive w ↦
          ap refusal_of (w.result-is ∙ ap (λ (why : Refusal). Err why) w.refused.ensures)
          ∙ accepted_refusal c.args.self.now c.args.bytes.now c.in-Ok.packet.seq (Some w.in-Err-arrive.why) small c.in-Ok.ensures.ok source same
          (w.in-Err-arrive.ensures.refusal ∙ ap (λ (t : Seen). order_refusal_of (judged_sequence t.window.order c.in-Ok.packet.seq)) c.self.view_is)
    ]
