-- What remains to be done in a subscriber's session.
use Rattle.std.specs.Prelude.{ℕ, suc, ◌+◌, length}
use Rattle.session_steps.specs.Deeds.{Ask}
use Rattle.session_steps.specs.declared.subscriber.Next.{Next}
use Rattle.session_steps.specs.declared.subscriber.Next.TheVariants.{Datagram, Feedback, Take}
use Rattle.session_steps.specs.declared.subscriber.SubscriberSession as session
use Rattle.session_steps.specs.Sessions.{Doing, outgoing_deed, resends, serves, takes}

-- the takes of this turn, and the turns after it
abbrev pub then_takes : session.SubscriberSession → ℕ → ℕ → Doing
then_takes s turns number = takes s.subscriber 32 (outgoing_deed s.subscriber s.ssrc s.rtx turns number)

abbrev pub subscribing_at : Next → session.SubscriberSession → ℕ → Doing
subscribing_at Datagram s turns = outgoing_deed s.subscriber s.ssrc s.rtx turns s.number
subscribing_at Feedback s turns =
    Ask s.asked (λ answer. resends s.rtx s.number answer (λ number. serves s.subscriber s.ssrc s.rtx s.feedback number (then_takes s turns)))
subscribing_at (Take behind) s turns = takes s.subscriber (suc behind) (outgoing_deed s.subscriber s.ssrc s.rtx turns s.number)

abbrev pub subscribing : session.SubscriberSession → ℕ → Doing
subscribing s turns = subscribing_at s.next s turns

abbrev pub calls_at : Next → ℕ → ℕ
calls_at Datagram items = 0
calls_at Feedback items = items + 33
calls_at (Take behind) items = behind + 1

abbrev pub subscribing_calls : session.SubscriberSession → ℕ
subscribing_calls s = calls_at s.next (length s.feedback)
