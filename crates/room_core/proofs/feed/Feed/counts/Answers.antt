use Rattle.room_core.proofs.Reported.{counts_follow}
use Rattle.room_core.proofs.feed.Feed.counts.Goals as goal

pub returns : goal.returns
returns c = record {
  counts = counts_follow c.args.self.now c.saturating_add-queued.result c.queued-waiting.result c.args.resent c.queued-waiting.ensures.queued c.saturating_add-queued.ensures;
}
