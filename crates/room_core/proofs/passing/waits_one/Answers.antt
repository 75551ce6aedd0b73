use Rattle.std.proofs.Common.{subst}
use Rattle.room_core.specs.Follows.{HasNoTarget}
use Rattle.room_core.specs.declared.feed.Feed.{Feed}
use Rattle.room_core.proofs.Waiting.{waits_by}
use Rattle.room_core.proofs.passing.waits_one.Goals as goal

pub returns-then-subscriber-number : goal.returns-then-subscriber-number
returns-then-subscriber-number c =
    waits_by c.args.number c.args.subscriber.now c.has_no_target.result c.if-subscriber-number.true
    (subst (λ (f : Feed). HasNoTarget f c.has_no_target.result) c.deref.ensures c.has_no_target.ensures.target)
