-- What remains to be done in the session of a publisher or of a subscriber.
use Rattle.std.specs.Prelude.{ℕ}
use Rattle.session_steps.specs.Publishing.{publishing, publishing_calls}
use Rattle.session_steps.specs.Sessions.{Doing}
use Rattle.session_steps.specs.Subscribing.{subscribing, subscribing_calls}
use Rattle.room_sessions.specs.declared.either.EitherSession as session
use Rattle.room_sessions.specs.declared.either.EitherSession.TheVariants.{Publisher, Subscriber}

abbrev pub either_left : session.EitherSession → ℕ → Doing
either_left (Publisher p) turns = publishing p turns
either_left (Subscriber s) turns = subscribing s turns

abbrev pub either_calls : session.EitherSession → ℕ
either_calls (Publisher p) = publishing_calls p.next
either_calls (Subscriber s) = subscribing_calls s
