use Rattle.session_steps.specs.Sessions.{resent}
use Rattle.session_steps.proofs.Choosing.{resends_packet}
use Rattle.session_steps.proofs.resending.resend.Goals as goal

pub returns : goal.returns
returns c = λ next. (
  resent c.args.rtx c.args.number.now c.args.scratch.now.packet,
  resends_packet c.args.rtx c.args.number.now c.args.reply c.args.scratch.now.packet c.args.scratch.now.names next c.in-Packet.is,
  c.make_retransmission.ensures,
)
