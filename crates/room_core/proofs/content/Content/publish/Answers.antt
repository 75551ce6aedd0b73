use Rattle.std.proofs.Common.{refl, subst}
use Rattle.room_core.specs.Content.{IsNewTrack, IsTrackReady}
use Rattle.room_core.proofs.Beginnings.{publish_does, publish_is_refused}
use Rattle.room_core.proofs.content.Content.publish.Goals as goal

pub returns-in-Ok-insert-clause-does : goal.returns-in-Ok-insert-clause-does
returns-in-Ok-insert-clause-does c = λ kind ssrc hold ready.
    let new : IsNewTrack c.args.self.now c.args.track kind ssrc hold c.in-Ok.live = subst (IsTrackReady c.args.self.now c.args.track kind ssrc hold) c.in-Ok.is ready in
    publish_does c.args.self.now _ c.args.track ssrc hold kind _ c.in-Ok-insert.field-0 new.accepted new.kind_is new.pleaded_is new.begun
    c.in-Ok-insert.ensures.updates c.in-Ok-insert.ensures.old c.in-Ok-insert.ensures.len refl refl refl

pub returns-in-Err-clause-does : goal.returns-in-Err-clause-does
returns-in-Err-clause-does c = λ kind ssrc hold ready.
    publish_is_refused c.args.self.now c.args.track ssrc hold kind c.in-Err.why (subst (IsTrackReady c.args.self.now c.args.track kind ssrc hold) c.in-Err.is ready).0
