use Rattle.std.proofs.Common.{ℕ, Ok, sym, ap, subst, arith}
use Rattle.packet_format.specs.Packets.{packet_of}
use Rattle.rtp_packet.specs.Packet.{Packet}
use Rattle.strict_receiver.specs.States.{Expects, IsExpected, reception_for}
use Rattle.strict_receiver.proofs.Accepting.{accepted_here}
use Rattle.strict_receiver.proofs.state.State.accept.Goals as goal

pub returns-in-Ok-expect-clause-accepted : goal.returns-in-Ok-expect-clause-accepted
returns-in-Ok-expect-clause-accepted c m stands content =
    let old = c.args.self.now in
    let bytes = c.args.bytes.now in
    let ssrc = ap (λ (p : Packet). p.ssrc) c.in-Ok.ensures.parts in
    let number = ap (λ (p : Packet). p.sequence) c.in-Ok.ensures.parts in
    accepted_here old.id old c.take.new.self m bytes c.take.result c.in-Ok.ensures.ok
    (subst (λ (s : ℕ). Expects old s (Ok tt) (reception_for m s (packet_of bytes).sequence_number)) ssrc
    (subst (λ (q : ℕ). Expects old c.in-Ok.rtp.ssrc (Ok tt) (reception_for m c.in-Ok.rtp.ssrc q)) number (c.in-Ok-expect.ensures m stands)))
    (λ r e. c.take.ensures.taken bytes r (record { are_bytes = λ i. omega (arith, c.type_inv.bytes i); reads = c.in-Ok.ensures.ok; parts = c.in-Ok.ensures.parts })
    (subst (λ (s : ℕ). IsExpected old s r) (sym ssrc) e))
