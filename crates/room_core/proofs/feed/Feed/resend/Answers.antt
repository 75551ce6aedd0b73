use Rattle.room_core.proofs.HandingOut.{resend_follows}
use Rattle.room_core.proofs.feed.Feed.resend.Goals as goal

pub returns-clause-resends : goal.returns-clause-resends
returns-clause-resends c = resend_follows c.args.self.now c.args.seq c.resend.result c.args.out.now c.resend.new.out c.resend.ensures.resends
