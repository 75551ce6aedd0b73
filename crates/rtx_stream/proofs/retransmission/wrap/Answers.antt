use Rattle.std.proofs.Common.{◌++◌, List, ℕ, ap, ◌∙◌, append_assoc, arith}
use Rattle.byteorder.specs.Endian.{big_bytes}
use Rattle.rtp_packet.specs.Packet.{IsPacket, Packet}
use Rattle.rtp_packet.specs.Seen.{parts}
use Rattle.rtx_stream.specs.Bare.{header_bytes}
use Rattle.rtx_stream.specs.Retransmission.{IsRetransmission, retransmitted}
use Rattle.rtx_stream.proofs.Originals.{retransmission_is_packet, retransmission_says}
use Rattle.rtx_stream.proofs.retransmission.wrap.Goals as goal

formed : (c : goal.After-append-2) → IsRetransmission c.args.packet.now c.args.seq c.args.rtx.now c.append-2.new.self
formed c =
    let said : Packet = parts c.in-Ok.original in
    let is : IsPacket c.args.packet.now said = c.in-Ok.ensures.found in
    record {
      said = said;
      packet = is;
      fits = record {
        payload_type = c.requires.payload_type;
        sequence = omega arith;
        timestamp = is.fits.timestamp;
        ssrc = omega arith;
        profile = is.fits.profile;
        no_block = is.fits.no_block;
      };
      laid = c.append-2.ensures
          ∙ ap (λ (x : List ℕ). x ++ c.in-Ok.original.payload.now)
          (c.append.ensures ∙ ap (λ (x : List ℕ). x ++ c.to_be_bytes.result) (c.fill_header.ensures.header is)
          ∙ ap (λ (x : List ℕ). header_bytes is.csrc_words is.csrcs is.block_words (retransmitted c.args.seq c.args.rtx.now said) ++ x) c.to_be_bytes.ensures)
          ∙ append_assoc (header_bytes is.csrc_words is.csrcs is.block_words (retransmitted c.args.seq c.args.rtx.now said)) (big_bytes 2 said.sequence) said.payload;
    }

pub returns-clause-form : goal.returns-clause-form
returns-clause-form c = formed c

pub returns-clause-parts : goal.returns-clause-parts
returns-clause-parts c = retransmission_says c.a_packet_is_read.ensures.fields c.args.packet.now _ c.args.seq c.args.rtx.now (formed c)

pub returns-clause-reads : goal.returns-clause-reads
returns-clause-reads c =
    c.a_packet_is_read.ensures.no_fault c.append-2.new.self (retransmitted c.args.seq c.args.rtx.now (formed c).said)
    (retransmission_is_packet c.args.packet.now _ c.args.seq c.args.rtx.now (formed c))
