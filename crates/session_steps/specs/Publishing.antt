-- What remains to be done in a publisher's session.
use Rattle.std.specs.Prelude.{ℕ, Some}
use Rattle.sfu_base.specs.declared.call.Call.TheVariants as call
use Rattle.session_steps.specs.Deeds.{Ask}
use Rattle.session_steps.specs.declared.publisher.Next.{Next}
use Rattle.session_steps.specs.declared.publisher.Next.TheVariants.{Datagram, Packet, Tick, Missing, KeyWanted}
use Rattle.session_steps.specs.declared.publisher.PublisherSession as session
use Rattle.session_steps.specs.Sessions.{Doing, asks, nacks, pleads, publisher_deed}

-- What remains of a turn from one of its calls on, and the turns after it: from the call about a key frame, about missing packets, or from the tick.
abbrev pub from_key : session.PublisherSession → ℕ → Doing
from_key p turns =
    Ask (call.KeyWanted p.track) (λ key. pleads p.ssrc p.moment p.pleaded key (publisher_deed p.track p.ssrc turns (Some p.moment)))

abbrev pub from_missing : session.PublisherSession → ℕ → Doing
from_missing p turns = Ask (call.Missing p.track) (λ names. nacks p.ssrc names (from_key p turns))

abbrev pub from_tick : session.PublisherSession → ℕ → Doing
from_tick p turns =
    Ask p.tick (λ ticked. asks p.track p.ssrc p.moment p.asked p.pleaded (publisher_deed p.track p.ssrc turns))

abbrev pub publishing_at : Next → session.PublisherSession → ℕ → Doing
publishing_at Datagram p turns = publisher_deed p.track p.ssrc turns p.asked p.pleaded
publishing_at Packet p turns = Ask p.packet (λ answer. from_tick p turns)
publishing_at Tick p turns = from_tick p turns
publishing_at Missing p turns = from_missing p turns
publishing_at KeyWanted p turns = from_key p turns

abbrev pub publishing : session.PublisherSession → ℕ → Doing
publishing p turns = publishing_at p.next p turns

abbrev pub publishing_calls : Next → ℕ
publishing_calls Datagram = 0
publishing_calls Packet = 4
publishing_calls Tick = 3
publishing_calls Missing = 2
publishing_calls KeyWanted = 1
