-- The meaning of the numbers of a `PlainReply`: a reply, or the answer to a question.
-- Own rules; `code_number` has each code, and `Code` says what its numbers mean.
use Rattle.std.specs.Prelude.{ℕ, ◌==◌, Bool, true, false, if◌then◌else◌, nat_lt, Option, Some, None, Result, Ok, Err}
use Rattle.sfu_base.specs.declared.call.Reply.{Reply}
use Rattle.sfu_base.specs.declared.call.Reply.TheVariants as reply
use Rattle.sfu_base.specs.declared.call.Refusal.{Refusal}
use Rattle.sfu_base.specs.declared.call.Refusal.TheVariants as refusal
use Rattle.sfu_base.specs.declared.call.RtpFault.{RtpFault}
use Rattle.sfu_base.specs.declared.call.RtpFault.TheVariants as fault
use Rattle.sfu_base.specs.declared.frame.Verdict.{Verdict}
use Rattle.sfu_base.specs.declared.frame.Verdict.TheVariants as verdict
use Rattle.sfu_base.specs.declared.frame.Wish.{Wish}
use Rattle.track_core.specs.declared.counts.TrackCounts.{TrackCounts}
use Rattle.room_core.specs.declared.counts.SubscriberCounts.{SubscriberCounts}
use Rattle.room_core.specs.declared.current_target.DecodeTarget.{DecodeTarget}
use Rattle.room_c.specs.declared.plain_counts.PlainSubscriberCounts.{PlainSubscriberCounts}
use Rattle.room_c.specs.declared.plain_counts.PlainTrackCounts.{PlainTrackCounts}
use Rattle.simulcast.specs.declared.fault.BundleFault.{BundleFault}
use Rattle.simulcast.specs.declared.fault.BundleFault.TheVariants as bundle
use Rattle.room_c.specs.declared.plain_reply.PlainReply.{PlainReply}
use Rattle.room_c.specs.declared.plain_target.PlainTarget.{PlainTarget}

-- an optional number
abbrev pub there : Bool → ℕ → Option ℕ
there true n = Some n
there false n = None

-- ---- replies

abbrev pub fault_in : ℕ → RtpFault
fault_in n = if n == 0 then fault.Short else if n == 1 then fault.Version else if n == 2 then fault.Csrc else if n == 3 then fault.Extension else fault.Padding

abbrev pub verdict_in : PlainReply → Verdict
verdict_in r =
    if r.code == 16 then verdict.Passed else
    if r.code == 17 then verdict.NotOfTarget (there r.has r.first) else
    if r.code == 18 then verdict.Behind r.first r.second else
    if r.code == 19 then verdict.Reference r.first else
    if r.code == 20 then verdict.Full r.first r.second else
    if r.code == 21 then verdict.Link r.first r.second else
    if r.code == 22 then verdict.Unopened r.first else
    verdict.Hole (there r.has r.second) r.first

abbrev pub refusal_in : PlainReply → Refusal
refusal_in r =
    if r.code == 32 then refusal.NoTrack else
    if r.code == 33 then refusal.NoSubscriber else
    if r.code == 34 then refusal.NumberUsed r.first else
    if r.code == 35 then refusal.TooMany r.first else
    if r.code == 36 then refusal.BadExtensionId else
    if r.code == 37 then refusal.TooBig r.first else
    if r.code == 38 then refusal.Unreadable (fault_in r.first) else
    if r.code == 39 then refusal.WrongSsrc r.first r.second else
    if r.code == 40 then refusal.Spent else
    if r.code == 41 then refusal.Late r.first else
    if r.code == 42 then refusal.Repeat else
    if r.code == 43 then refusal.Empty else
    if r.code == 44 then refusal.NotKept r.first r.second else
    if r.code == 45 then refusal.Ahead (there r.has r.first) else
    if r.code == 46 then refusal.TooOld r.first else
    if r.code == 47 then refusal.Plain else
    refusal.NoMemory

-- the plain reply doesn't contain the bytes of a packet, nor the sequence numbers
abbrev pub reply_in : PlainReply → Reply
reply_in r =
    if r.code == 0 then reply.Done else
    if r.code == 1 then reply.Packet else
    if r.code == 2 then reply.Names else
    if r.code == 3 then reply.Key r.has else
    if nat_lt r.code 32 then reply.Cause (verdict_in r) else
    reply.Refused (refusal_in r)

-- the answer of a room with bundles: the number of the bundle that forbids the call, or the room's reply
abbrev pub answer_in : PlainReply → Result Reply BundleFault
answer_in r = if r.code == 52 then Err (bundle.Bound r.first) else Ok (reply_in r)

-- ---- questions

abbrev pub layers_in : PlainTarget → Option Wish
layers_in t = if t.known then Some (record { spatial = t.spatial; temporal = t.temporal }) else None

-- the decode target, or none, or the refusal
abbrev pub target_in : PlainReply → PlainTarget → Result (Option DecodeTarget) Refusal
target_in r t =
    if r.code == 5 then Ok (if r.has then Some (record { index = t.index; layers = layers_in t }) else None)
    else Err (refusal_in r)

-- whether the wish is reached, or the refusal
abbrev pub reached_in : PlainReply → Result Bool Refusal
reached_in r = if r.code == 4 then Ok r.has else Err (refusal_in r)

-- an optional number with this code, or the refusal
abbrev pub number_in : ℕ → PlainReply → Result (Option ℕ) Refusal
number_in code r = if r.code == code then Ok (there r.has r.first) else Err (refusal_in r)

-- the moment at which a track is due for a tick
abbrev pub due_in : PlainReply → Result (Option ℕ) Refusal
due_in r = number_in 6 r

-- the number of a track's newest frame
abbrev pub newest_in : PlainReply → Result (Option ℕ) Refusal
newest_in r = number_in 7 r

-- the counts of a subscriber, and those of a track, or the refusal
abbrev pub subscriber_counts_of : PlainSubscriberCounts → SubscriberCounts
subscriber_counts_of c = record {
  passed = c.passed;
  not_of_target = c.not_of_target;
  behind = c.behind;
  reference = c.reference;
  full = c.full;
  link = c.link;
  unopened = c.unopened;
  queued = c.queued;
  taken = c.taken;
  resent = c.resent;
  left_out = c.left_out;
  waiting = c.waiting;
}

abbrev pub track_counts_of : PlainTrackCounts → TrackCounts
track_counts_of c =
    record { arrived = c.arrived; given_up = c.given_up; frames = c.frames; key_frames = c.key_frames; unframed = c.unframed }

abbrev pub subscriber_counts_in : PlainReply → PlainSubscriberCounts → Result SubscriberCounts Refusal
subscriber_counts_in r c = if r.code == 10 then Ok (subscriber_counts_of c) else Err (refusal_in r)

abbrev pub track_counts_in : PlainReply → PlainTrackCounts → Result TrackCounts Refusal
track_counts_in r c = if r.code == 10 then Ok (track_counts_of c) else Err (refusal_in r)
