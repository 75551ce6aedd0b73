use Rattle.room_core.proofs.Reported.{subscriber_reported}
use Rattle.room_core.proofs.content.Content.subscriber_counts.Goals as goal

pub returns-in-Some : goal.returns-in-Some
returns-in-Some c past after =
    subscriber_reported c.args.self.now c.args.subscriber c.in-Some.known.now c.deref.result.now c.counts.result past c.in-Some.ensures.value c.deref.ensures
    c.counts.ensures.counts after
