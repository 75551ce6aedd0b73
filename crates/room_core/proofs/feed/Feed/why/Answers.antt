use Rattle.room_core.proofs.HandingOut.{why_follows}
use Rattle.room_core.proofs.feed.Feed.why.Goals as goal

pub returns-clause-is_cause : goal.returns-clause-is_cause
returns-clause-is_cause c = why_follows c.args.self.now c.args.number c.verdict.result c.verdict.ensures.stands
