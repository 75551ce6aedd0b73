use Rattle.std.proofs.Common.{◌≡◌, subst, ◌∙◌, ap, List, ℕ, sym, arith, slice_index, ◌%◌}
use Rattle.rtp_packet.specs.Faults.{first_fault}
use Rattle.rtp_packet.specs.Packet.{IsPacket, second_byte}
use Rattle.rtp_packet.specs.Rewritten.{rewritten, readdressed}
use Rattle.rtp_packet.proofs.Faultless.{header_there}
use Rattle.rtp_packet.proofs.Rewriting.{overwritten, same_fault, same_parts}
use Rattle.rtp_packet.proofs.outgoing.rewrite.Goals as goal

written : (c : goal.After-overwrite-2) → c.overwrite-2.new.self ≡ rewritten c.args.seq c.args.ssrc c.args.marker c.args.packet.now
written c =
    let second = c.marked.ensures ∙ ap (λ (x : List ℕ). second_byte c.args.marker (slice_index x 1 % 128)) c.bytes.ensures.bytes in
    overwritten c.args.packet.now _ _ _ _ _ _ _ _ (header_there _ c.requires)
    c.write_u16.ensures c.write_u32.ensures second c.overwrite.ensures c.overwrite-2.ensures

pub returns-clause-bytes : goal.returns-clause-bytes
returns-clause-bytes c = written c

pub returns-clause-reads : goal.returns-clause-reads
returns-clause-reads c =
    ap first_fault (written c) ∙ same_fault c.args.packet.now c.args.seq c.args.ssrc c.args.marker (header_there _ c.requires) ∙ c.requires

pub returns-clause-parts : goal.returns-clause-parts
returns-clause-parts c p is =
    subst (λ (x : List ℕ). IsPacket x (readdressed c.args.seq c.args.ssrc c.args.marker p)) (sym (written c))
    (same_parts c.args.packet.now c.args.seq c.args.ssrc c.args.marker p (omega arith) (omega arith) is)
