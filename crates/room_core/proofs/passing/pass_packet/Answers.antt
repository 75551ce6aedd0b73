use Rattle.std.proofs.Common.{refl, subst}
use Rattle.room_core.specs.declared.feed.Feed.{Feed}
use Rattle.room_core.specs.Follows.{FollowsPacket}
use Rattle.room_core.proofs.passing.pass_packet.Goals as goal

pub returns-then-subscriber-number-clause-passed : goal.returns-then-subscriber-number-clause-passed
returns-then-subscriber-number-clause-passed c = record {
  track = refl;
  resent = refl;
  passed = λ same. subst (λ (f : Feed). FollowsPacket f c.pass_packet.new.self c.args.packet.now) c.deref_mut.ensures.value c.pass_packet.ensures.follows;
  other = λ none. absurd (none c.if-subscriber-number.true);
}
