use Rattle.std.proofs.Common.{refl, subst}
use Rattle.room_core.specs.declared.feed.Feed.{Feed}
use Rattle.room_core.specs.Follows.{FollowsFrame}
use Rattle.room_core.proofs.passing.pass_frame.Goals as goal

pub returns-then-subscriber-number-clause-passed : goal.returns-then-subscriber-number-clause-passed
returns-then-subscriber-number-clause-passed c = record {
  track = refl;
  resent = refl;
  passed = λ same. subst (λ (f : Feed). FollowsFrame f c.pass_frame.new.self c.args.offer.now.frame c.args.track.now) c.deref_mut.ensures.value c.pass_frame.ensures.follows;
  other = λ none. absurd (none c.if-subscriber-number.true);
}
