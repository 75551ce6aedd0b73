use Rattle.strict_receiver.proofs.Complaints.{complaint_stays, complaint_reported, parts_accepted}
use Rattle.strict_receiver.proofs.laws.receivers_return_their_complaint.Goals as goal

pub returns : goal.returns
returns c = record { reported = complaint_reported; stays = complaint_stays; parts = parts_accepted }
