use Rattle.std.proofs.Common.{◌≡◌, ◌++◌, List, ℕ, ap, ◌∙◌, arith, rules}
use Rattle.byteorder.specs.Endian.{big_number}
use Rattle.byteorder.specs.Numbers.{big_from-take, big_from-lt}
use Rattle.sfu_base.specs.Bytes.{AreBytes}
use Rattle.rtp_packet.specs.Packet.{Fits, IsPacket, Packet}
use Rattle.rtp_packet.specs.Seen.{parts}
use Rattle.rtx_stream.specs.Bare.{bare_bytes, header_bytes}
use Rattle.rtx_stream.specs.Retransmission.{with_address}
use Rattle.rtx_stream.proofs.LaidOut.{payload_bytes}
use Rattle.rtx_stream.proofs.Originals.{carried, original_back, original_found}
use Rattle.rtx_stream.proofs.original.unwrap.Goals as goal

is_read : (c : goal.After-append) → IsPacket c.args.bytes.now (parts c.in_ok-carried.carried)
is_read c = search rules

are_bytes : (c : goal.After-append) → AreBytes c.in_ok-carried.carried.payload.now
are_bytes c = payload_bytes c.args.bytes.now (parts c.in_ok-carried.carried) (is_read c) (λ i. omega (arith, c.type_inv.bytes i))

number : (c : goal.After-append) → c.read_u16.result ≡ big_number 2 c.in_ok-carried.carried.payload.now
number c =
    c.read_u16.ensures ∙ ap (big_number 2) c.split_at.ensures.front ∙ big_from-take 0 2 2 c.in_ok-carried.carried.payload.now (omega arith)

fits : (c : goal.After-append) → Fits (carried c.args.ssrc c.args.payload_type (parts c.in_ok-carried.carried))
fits c = record {
  payload_type = c.requires.payload_type;
  sequence = big_from-lt 0 2 c.in_ok-carried.carried.payload.now (are_bytes c);
  timestamp = (is_read c).fits.timestamp;
  ssrc = omega arith;
  profile = (is_read c).fits.profile;
  no_block = (is_read c).fits.no_block;
}

laid : (c : goal.After-append) → c.append.new.self
    ≡ bare_bytes (is_read c).csrc_words (is_read c).csrcs (is_read c).block_words (carried c.args.ssrc c.args.payload_type (parts c.in_ok-carried.carried))
laid c =
    let is = is_read c in
    let said : Packet = parts c.in_ok-carried.carried in
    c.append.ensures
    ∙ ap (λ (x : List ℕ). x ++ c.split_at.result.1.now) (c.fill_header.ensures.header is)
    ∙ ap (λ (n : ℕ). header_bytes is.csrc_words is.csrcs is.block_words (with_address c.args.payload_type n c.args.ssrc said) ++ c.split_at.result.1.now) (number c)
    ∙ ap (λ (x : List ℕ). header_bytes is.csrc_words is.csrcs is.block_words (with_address c.args.payload_type (big_number 2 said.payload) c.args.ssrc said) ++ x) c.split_at.ensures.back

pub returns-clause-original : goal.returns-clause-original
returns-clause-original c =
    original_found c.a_packet_is_read.ensures.fields c.args.bytes.now (parts c.in_ok-carried.carried) (is_read c) c.args.ssrc c.args.payload_type
    c.append.new.self (are_bytes c) (omega arith) (fits c) (laid c)

pub returns-clause-back : goal.returns-clause-back
returns-clause-back c packet seq rtx =
    original_back c.a_packet_is_read.ensures.fields c.args.bytes.now (parts c.in_ok-carried.carried) (is_read c) c.args.ssrc c.args.payload_type
    c.append.new.self (laid c) packet seq rtx
