use Rattle.std.proofs.Common.{arith}
use Rattle.rtp_packet.proofs.Answered.{found_from, none_from}
use Rattle.rtp_packet.proofs.packet.read.Goals as goal

pub returns-clause-found : goal.returns-clause-found
returns-clause-found c =
    found_from c.args.bytes.now _ (λ i. omega (arith, c.type_inv.bytes i)) c.located.ensures.parts c.located.ensures.ok

pub returns-clause-none : goal.returns-clause-none
returns-clause-none c = none_from c.args.bytes.now _ c.located.ensures.fault
