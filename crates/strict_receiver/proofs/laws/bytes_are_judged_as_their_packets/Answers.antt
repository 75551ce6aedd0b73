use Rattle.strict_receiver.proofs.Complaints.{bytes_sent, sent_judged}
use Rattle.strict_receiver.proofs.laws.bytes_are_judged_as_their_packets.Goals as goal

pub returns : goal.returns
returns c = record { sent = bytes_sent; judged = sent_judged }
