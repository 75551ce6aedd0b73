use Rattle.std.proofs.Common.{◌≡◌, subst, ◌∙◌, ap, List, ℕ, sym, arith}
use Rattle.rtp_packet.specs.Faults.{first_fault}
use Rattle.rtp_packet.specs.Packet.{IsPacket}
use Rattle.rtp_packet.specs.Restamped.{restamped, at_timestamp}
use Rattle.rtp_packet.proofs.Faultless.{header_there}
use Rattle.rtp_packet.proofs.Restamping.{written_over, same_fault, same_parts}
use Rattle.rtp_packet.proofs.outgoing.restamp.Goals as goal

written : (c : goal.After-overwrite) → c.overwrite.new.self ≡ restamped c.args.timestamp c.args.packet.now
written c = written_over c.args.packet.now _ _ c.args.timestamp c.write_u32.ensures c.overwrite.ensures

pub returns-clause-bytes : goal.returns-clause-bytes
returns-clause-bytes c = written c

pub returns-clause-reads : goal.returns-clause-reads
returns-clause-reads c = ap first_fault (written c) ∙ same_fault c.args.packet.now c.args.timestamp (header_there _ c.requires) ∙ c.requires

pub returns-clause-parts : goal.returns-clause-parts
returns-clause-parts c p is =
    subst (λ (x : List ℕ). IsPacket x (at_timestamp c.args.timestamp p)) (sym (written c))
    (same_parts c.args.packet.now c.args.timestamp p (omega arith) is)
