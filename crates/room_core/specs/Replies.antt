-- The room's answer to a call, by the calls that it accepted before, the newest
-- first. Own rule. A refusal is the answer only if no refusal above it applies.
use Rattle.std.specs.Prelude.{ℕ, ◌==◌, ◌||◌, nat_le, not, Bool, false, if◌then◌else◌, List, Option, None, Some, is_some, Result, Ok, Err}
use Rattle.sfu_base.specs.Answer.{Answer, Done, Sent, Named, KeyIs, CauseIs, Refused}
use Rattle.sfu_base.specs.declared.call.Call.{Call}
use Rattle.sfu_base.specs.declared.call.Call.TheVariants as call
use Rattle.sfu_base.specs.declared.call.Kind.{Kind}
use Rattle.sfu_base.specs.declared.call.Kind.TheVariants.{Plain, Layered}
use Rattle.sfu_base.specs.declared.call.Refusal.{Refusal}
use Rattle.sfu_base.specs.declared.call.Refusal.TheVariants as refusal
use Rattle.track_core.specs.Track.{first_refusal}
use Rattle.reorder_window.specs.Missing.{missing_sequences}
use Rattle.dd_structure.specs.TemplateStructure.{TemplateStructure}
use Rattle.forwarding_model.specs.forwarding.Timeline.{Packet, Event}
use Rattle.sfu_base.specs.declared.frame.Verdict.{Verdict}
use Rattle.cause_book.specs.Book.{judged}
use Rattle.forwarding_model.specs.forwarding.Outgoing.{Subscriber, next_number, next_packet, oldest_number, resent}
use Rattle.packet_format.specs.Packets.{bytes_of}
use Rattle.room_core.specs.Live.{Published, Joined, highest_subscriber, highest_track, joined, kind_of, live_subscribers, live_tracks, published}
use Rattle.room_core.specs.TrackHistory.{order_at}
use Rattle.room_core.specs.Sent.{sent}
use Rattle.room_core.specs.Views.{events_for, key_wanted_on, subscriber_by, verdicts_of}

-- the answer `Done`, unless a refusal applies
abbrev pub done_or : Option Refusal → Answer
done_or None = Done
done_or (Some why) = Refused why

-- ---- publish and join

abbrev pub is_bad_id : Kind → Bool
is_bad_id Plain = false
is_bad_id (Layered id) = id == 0 || id == 15

abbrev pub publish_refusal : ℕ → ℕ → ℕ → Kind → Option Refusal
publish_refusal highest live track kind =
    if nat_le track highest then Some (refusal.NumberUsed highest)
    else if nat_le 64 live then Some (refusal.TooMany live)
    else if is_bad_id kind then Some refusal.BadExtensionId
    else None

abbrev pub join_refusal : Bool → ℕ → ℕ → ℕ → Option Refusal
join_refusal found highest live subscriber =
    if not found then Some refusal.NoTrack
    else if nat_le subscriber highest then Some (refusal.NumberUsed highest)
    else if nat_le 256 live then Some (refusal.TooMany live)
    else None

-- ---- by the live tracks and subscribers

abbrev pub of_track : Option Published → (Published → Answer) → Answer
of_track None answer = Refused refusal.NoTrack
of_track (Some p) answer = answer p

abbrev pub of_subscriber : Option Joined → (Joined → Answer) → Answer
of_subscriber None answer = Refused refusal.NoSubscriber
of_subscriber (Some j) answer = answer j

-- ---- takes, resends and causes

abbrev pub sent_or : Option Packet → Answer → Answer
sent_or None otherwise = otherwise
sent_or (Some packet) otherwise = Sent (bytes_of packet)

abbrev pub take_answer : Kind → Subscriber → List (Event TemplateStructure) → Answer
take_answer kind to events = sent_or (next_packet (sent kind) to events) (Refused refusal.Empty)

abbrev pub resend_answer : Kind → Subscriber → List (Event TemplateStructure) → ℕ → Answer
resend_answer kind to events sequence =
    sent_or (resent (sent kind) to events sequence) (Refused (refusal.NotKept (oldest_number (sent kind) to events) (next_number (sent kind) to events)))

abbrev pub cause_answer : Result Verdict Refusal → Answer
cause_answer (Ok verdict) = CauseIs verdict
cause_answer (Err why) = Refused why

abbrev pub plain_refused : Kind → Answer
plain_refused Plain = Refused refusal.Plain
plain_refused (Layered id) = Done

abbrev pub plead_answer : Option Published → Answer
plead_answer None = Refused refusal.NoTrack
plead_answer (Some p) = plain_refused p.kind

-- ---- all calls

abbrev pub answer : List Call → Call → Answer
answer past (call.Publish track kind ssrc hold) = done_or (publish_refusal (highest_track past) (live_tracks past) track kind)
answer past (call.Unpublish track) = of_track (published track past) (λ p. Done)
answer past (call.Packet track moment bytes) = of_track (published track past) (λ p. done_or (first_refusal p.ssrc (order_at track past) bytes))
answer past (call.Tick track moment) = of_track (published track past) (λ p. Done)
answer past (call.Join subscriber track ssrc first wish) =
    done_or (join_refusal (is_some (published track past)) (highest_subscriber past) (live_subscribers past) subscriber)
answer past (call.Leave subscriber) = of_subscriber (joined subscriber past) (λ j. Done)
answer past (call.Aim subscriber wish) = of_subscriber (joined subscriber past) (λ j. Done)
answer past (call.Take subscriber) =
    of_subscriber (joined subscriber past) (λ j. take_answer (kind_of j.track past) (subscriber_by j) (events_for subscriber j past))
answer past (call.Resend subscriber sequence) =
    of_subscriber (joined subscriber past) (λ j. resend_answer (kind_of j.track past) (subscriber_by j) (events_for subscriber j past) sequence)
answer past (call.Missing track) = of_track (published track past) (λ p. Named (missing_sequences (order_at track past)))
answer past (call.KeyWanted track) = of_track (published track past) (λ p. KeyIs (key_wanted_on p.kind track past))
answer past (call.Plead subscriber) = of_subscriber (joined subscriber past) (λ j. plead_answer (published j.track past))
answer past (call.Why subscriber number) = of_subscriber (joined subscriber past) (λ j. cause_answer (judged (verdicts_of subscriber j past) number))
