use Rattle.std.proofs.Common.{◌≡◌, ◌∙◌, List, ℕ, Option, Some, ap, arith, length, slice_get, subst, sym}
use Rattle.std.specs.Option.{option_copied}
use Rattle.rtp_packet.proofs.Faultless.{header_there}
use Rattle.rtp_packet.proofs.Rewriting.{same_length}
use Rattle.out_ring.specs.declared.heads.Head.{Head}
use Rattle.out_ring.specs.Places.{SendsIt}
use Rattle.out_ring.specs.Ring.{Pushed}
use Rattle.out_ring.specs.Slots.{packets_of}
use Rattle.out_ring.proofs.Slotted.{packet_there}
use Rattle.out_ring.proofs.slots.Slots.send.Goals as goal

pub fill_out-requires-clause-there : goal.fill_out-requires-clause-there
fill_out-requires-clause-there c = (c.requires.copy (record { shared = option_copied c.get-marker.result.0; location = c.get-marker.result.1; marker = c.get-marker.result.2 }) c.get-marker.ensures).there

pub fill_out-requires-clause-reads : goal.fill_out-requires-clause-reads
fill_out-requires-clause-reads c = (c.requires.copy (record { shared = option_copied c.get-marker.result.0; location = c.get-marker.result.1; marker = c.get-marker.result.2 }) c.get-marker.ensures).reads

pub fill_out-requires-clause-fits : goal.fill_out-requires-clause-fits
fill_out-requires-clause-fits c = (c.requires.copy (record { shared = option_copied c.get-marker.result.0; location = c.get-marker.result.1; marker = c.get-marker.result.2 }) c.get-marker.ensures).fits

-- the packet at the place
here : (c : goal.After-rewrite) → slice_get (packets_of c.args.self.now) c.args.place ≡ Some (record { bytes = c.fill_out.new.out; marker = c.get-marker.result.2 })
here c =
    let a = c.args.self.now in
    let head : Head = record { shared = option_copied c.get-marker.result.0; location = c.get-marker.result.1; marker = c.get-marker.result.2 } in
    packet_there a.own.bytes.items a.heads c.args.place head c.get-marker.ensures
    ∙ ap (λ (bytes : List ℕ). Some (record { bytes = bytes; marker = head.marker })) (sym c.fill_out.ensures.bytes)

pub returns-clause-sends : goal.returns-clause-sends
returns-clause-sends c = subst (λ (o : Option Pushed). SendsIt o c.args.seq c.args.ssrc c.rewrite.new.packet) (sym (here c)) c.rewrite.ensures.bytes

-- three fields are written over, and the packet is as long as before
pub returns-clause-fits : goal.returns-clause-fits
returns-clause-fits c =
    let fits = c.fill_out.ensures.fits in
    omega (
      arith,
      ap length c.rewrite.ensures.bytes,
      same_length c.fill_out.new.out c.args.seq c.args.ssrc c.get-marker.result.2 (header_there c.fill_out.new.out c.fill_out.ensures.reads),
      fits,
    )
