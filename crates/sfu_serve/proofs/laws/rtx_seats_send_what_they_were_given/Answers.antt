use Rattle.std.proofs.Common.{Some}
use Rattle.sfu_serve.specs.Replies.{MayStarve}
use Rattle.sfu_serve.proofs.SentPackets.{sent_since}
use Rattle.sfu_serve.proofs.laws.rtx_seats_send_what_they_were_given.Goals as goal

pub returns : goal.returns
returns g c subscriber ssrc rtx = sent_since (Some rtx) (MayStarve g.R.Recorder.may_refuse) subscriber ssrc
