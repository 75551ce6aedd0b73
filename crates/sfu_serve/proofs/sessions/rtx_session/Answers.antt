use Rattle.std.proofs.Common.{Some}
use Rattle.sfu_serve.specs.Replies.{MayStarve}
use Rattle.sfu_serve.proofs.SentPackets.{sent_since}
use Rattle.sfu_serve.proofs.sessions.rtx_session.Goals as goal

pub returns-clause-sends : goal.returns-clause-sends
returns-clause-sends g c = sent_since (Some c.args.rtx.now) (MayStarve g.R.Recorder.may_refuse) c.args.subscriber c.args.ssrc c.args.limit _ _ _ _ _ _ _
