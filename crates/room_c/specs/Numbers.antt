-- The numbers of a reply, or of the answer to a question. A number that a code doesn't use is 0. Own rules; `Code` says what the numbers mean.
use Rattle.std.specs.Prelude.{ℕ, ◌==◌, Bool, true, false, if◌then◌else◌, Option, Some, None, Result, Ok, Err, length, [], ◌∷◌}
use Rattle.sfu_base.specs.declared.call.Reply.{Reply}
use Rattle.sfu_base.specs.declared.call.Reply.TheVariants as reply
use Rattle.sfu_base.specs.declared.call.Refusal.{Refusal}
use Rattle.sfu_base.specs.declared.call.Refusal.TheVariants as refusal
use Rattle.sfu_base.specs.declared.call.RtpFault.{RtpFault}
use Rattle.sfu_base.specs.declared.call.RtpFault.TheVariants as fault
use Rattle.sfu_base.specs.declared.call.Scratch.{Scratch}
use Rattle.sfu_base.specs.declared.frame.Verdict.{Verdict}
use Rattle.sfu_base.specs.declared.frame.Verdict.TheVariants as verdict
use Rattle.sfu_base.specs.declared.frame.Wish.{Wish}
use Rattle.track_core.specs.declared.counts.TrackCounts.{TrackCounts}
use Rattle.room_core.specs.declared.counts.SubscriberCounts.{SubscriberCounts}
use Rattle.room_core.specs.declared.current_target.DecodeTarget.{DecodeTarget}
use Rattle.room_c.specs.declared.plain_counts.PlainSubscriberCounts.{PlainSubscriberCounts}
use Rattle.room_c.specs.declared.plain_counts.PlainTrackCounts.{PlainTrackCounts}
use Rattle.simulcast.specs.declared.fault.BundleFault.{BundleFault}
use Rattle.simulcast.specs.declared.fault.BundleFault.TheVariants as bundle
use Rattle.simulcast.specs.declared.pumped.Pumped.{Pumped}
use Rattle.room_c.specs.declared.code.Code.{Code}
use Rattle.room_c.specs.declared.code.Code.TheVariants as coded
use Rattle.room_c.specs.declared.plain_reply.PlainReply.{PlainReply}
use Rattle.room_c.specs.declared.plain_target.PlainTarget.{PlainTarget}
use Rattle.room_c.specs.Codes.{code_number}

-- the code alone
abbrev pub bare_of : Code → PlainReply
bare_of c = record { code = code_number c; has = false; first = 0; second = 0 }

-- with a flag, yes or no
abbrev pub flag_of : Code → Bool → PlainReply
flag_of c has = record { code = code_number c; has = has; first = 0; second = 0 }

-- with one number
abbrev pub one_of : Code → ℕ → PlainReply
one_of c first = record { code = code_number c; has = true; first = first; second = 0 }

-- with two numbers
abbrev pub two_of : Code → (first second : ℕ) → PlainReply
two_of c first second = record { code = code_number c; has = true; first = first; second = second }

-- with a number that may be missing
abbrev pub maybe_of : Code → Option ℕ → PlainReply
maybe_of c None = bare_of c
maybe_of c (Some first) = one_of c first

-- ---- replies

abbrev pub number_of_fault : RtpFault → ℕ
number_of_fault fault.Short = 0
number_of_fault fault.Version = 1
number_of_fault fault.Csrc = 2
number_of_fault fault.Extension = 3
number_of_fault fault.Padding = 4

-- the frame above the hole, and the frame below it, if that is near
abbrev pub hole_of : Option ℕ → ℕ → PlainReply
hole_of None above = record { code = code_number coded.Hole; has = false; first = above; second = 0 }
hole_of (Some below) above = two_of coded.Hole above below

abbrev pub plain_verdict : Verdict → PlainReply
plain_verdict verdict.Passed = bare_of coded.Passed
plain_verdict (verdict.NotOfTarget target) = maybe_of coded.NotOfTarget target
plain_verdict (verdict.Behind fdiff start) = two_of coded.Behind fdiff start
plain_verdict (verdict.Reference number) = one_of coded.Reference number
plain_verdict (verdict.Full queued needed) = two_of coded.Full queued needed
plain_verdict (verdict.Link at number) = two_of coded.Link at number
plain_verdict (verdict.Unopened since) = one_of coded.Unopened since
plain_verdict (verdict.Hole below above) = hole_of below above

abbrev pub plain_refusal : Refusal → PlainReply
plain_refusal refusal.NoTrack = bare_of coded.NoTrack
plain_refusal refusal.NoSubscriber = bare_of coded.NoSubscriber
plain_refusal (refusal.NumberUsed highest) = one_of coded.NumberUsed highest
plain_refusal (refusal.TooMany live) = one_of coded.TooMany live
plain_refusal refusal.BadExtensionId = bare_of coded.BadExtensionId
plain_refusal (refusal.TooBig len) = one_of coded.TooBig len
plain_refusal (refusal.Unreadable f) = one_of coded.Unreadable (number_of_fault f)
plain_refusal (refusal.WrongSsrc got wanted) = two_of coded.WrongSsrc got wanted
plain_refusal refusal.Spent = bare_of coded.Spent
plain_refusal (refusal.Late next) = one_of coded.Late next
plain_refusal refusal.Repeat = bare_of coded.Repeat
plain_refusal refusal.Empty = bare_of coded.Empty
plain_refusal (refusal.NotKept oldest next) = two_of coded.NotKept oldest next
plain_refusal (refusal.Ahead newest) = maybe_of coded.Ahead newest
plain_refusal (refusal.TooOld oldest) = one_of coded.TooOld oldest
plain_refusal refusal.Plain = bare_of coded.Plain
plain_refusal refusal.NoMemory = bare_of coded.NoMemory

-- The numbers of a reply, with the content of the scratch: for a packet its length, for sequence numbers their count.
unfoldable pub plain_of : Scratch → Reply → PlainReply
plain_of scratch reply.Done = bare_of coded.Done
plain_of scratch reply.Packet = one_of coded.Packet (length scratch.packet)
plain_of scratch reply.Names = one_of coded.Names (length scratch.names)
plain_of scratch (reply.Key wanted) = flag_of coded.Key wanted
plain_of scratch (reply.Cause v) = plain_verdict v
plain_of scratch (reply.Refused why) = plain_refusal why

-- ---- bundles

-- the reason why a room with bundles refused the call
abbrev pub plain_fault : BundleFault → PlainReply
plain_fault bundle.NoBundle = bare_of coded.NoBundle
plain_fault (bundle.NumberUsed highest) = one_of coded.NumberUsed highest
plain_fault (bundle.TooMany live) = one_of coded.TooMany live
plain_fault (bundle.NoLeg legs) = one_of coded.NoLeg legs
plain_fault bundle.WrongKind = bare_of coded.WrongKind
plain_fault (bundle.Bound number) = one_of coded.Bound number
plain_fault (bundle.Room why) = plain_refusal why
plain_fault bundle.NoMemory = bare_of coded.NoMemory

-- The numbers of a room's answer to a call, with the content of the scratch.
abbrev pub answer_reply : Scratch → Result Reply BundleFault → PlainReply
answer_reply scratch (Ok given) = plain_of scratch given
answer_reply scratch (Err why) = plain_fault why

-- for a new bundle, or for a choice
abbrev pub done_reply : Result (Unit {0}) BundleFault → PlainReply
done_reply (Ok _) = bare_of coded.Done
done_reply (Err why) = plain_fault why

abbrev pub pumped_reply : Result Pumped BundleFault → PlainReply
pumped_reply (Ok pumped) = two_of coded.Pumped pumped.forwarded pumped.dropped
pumped_reply (Err why) = plain_fault why

-- for a packet of this length that is drawn or redrawn
abbrev pub drawn_reply : {A : Type 0} → ℕ → Result A BundleFault → PlainReply
drawn_reply size (Ok _) = one_of coded.Packet size
drawn_reply size (Err why) = plain_fault why

-- ---- buffers

-- the number of bytes, or of sequence numbers, that were written, according to the reply
abbrev pub bytes_written : PlainReply → ℕ
bytes_written r = if r.code == 1 then r.first else 0

abbrev pub numbers_written : PlainReply → ℕ
numbers_written r = if r.code == 2 then r.first else 0

-- ---- questions

abbrev pub plain_layers : ℕ → Option Wish → PlainTarget
plain_layers index None = record { index = index; known = false; spatial = 0; temporal = 0; spare = 0 ∷ 0 ∷ 0 ∷ 0 ∷ [] }
plain_layers index (Some layers) = record { index = index; known = true; spatial = layers.spatial; temporal = layers.temporal; spare = 0 ∷ 0 ∷ 0 ∷ 0 ∷ [] }

-- a decode target as numbers
abbrev pub plain_target : DecodeTarget → PlainTarget
plain_target target = plain_layers target.index target.layers

unfoldable pub target_reply : Result (Option DecodeTarget) Refusal → PlainReply
target_reply (Ok None) = flag_of coded.Target false
target_reply (Ok (Some target)) = flag_of coded.Target true
target_reply (Err why) = plain_refusal why

-- a target is written if there is one; otherwise `out` is unchanged
unfoldable pub target_written : Result (Option DecodeTarget) Refusal → PlainTarget → PlainTarget
target_written (Ok None) out = out
target_written (Ok (Some target)) out = plain_target target
target_written (Err why) out = out

unfoldable pub reached_reply : Result Bool Refusal → PlainReply
reached_reply (Ok reached) = flag_of coded.Reached reached
reached_reply (Err why) = plain_refusal why

-- an optional number, with its code
unfoldable pub number_reply : Code → Result (Option ℕ) Refusal → PlainReply
number_reply c (Ok None) = bare_of c
number_reply c (Ok (Some number)) = one_of c number
number_reply c (Err why) = plain_refusal why

-- the counts of a subscriber, or of a track, as numbers
abbrev pub plain_subscriber_counts : SubscriberCounts → PlainSubscriberCounts
plain_subscriber_counts c = record {
  passed = c.passed;
  not_of_target = c.not_of_target;
  behind = c.behind;
  reference = c.reference;
  full = c.full;
  link = c.link;
  unopened = c.unopened;
  queued = c.queued;
  taken = c.taken;
  resent = c.resent;
  left_out = c.left_out;
  waiting = c.waiting;
  spare = 0 ∷ 0 ∷ 0 ∷ 0 ∷ [];
}

abbrev pub plain_track_counts : TrackCounts → PlainTrackCounts
plain_track_counts c = record {
  arrived = c.arrived;
  given_up = c.given_up;
  frames = c.frames;
  key_frames = c.key_frames;
  unframed = c.unframed;
  spare = 0 ∷ 0 ∷ 0 ∷ [];
}

unfoldable pub subscriber_counts_reply : Result SubscriberCounts Refusal → PlainReply
subscriber_counts_reply (Ok counts) = bare_of coded.Counts
subscriber_counts_reply (Err why) = plain_refusal why

unfoldable pub track_counts_reply : Result TrackCounts Refusal → PlainReply
track_counts_reply (Ok counts) = bare_of coded.Counts
track_counts_reply (Err why) = plain_refusal why

-- the counts are written; after a refusal `out` is unchanged
unfoldable pub subscriber_counts_written : Result SubscriberCounts Refusal → PlainSubscriberCounts → PlainSubscriberCounts
subscriber_counts_written (Ok counts) out = plain_subscriber_counts counts
subscriber_counts_written (Err why) out = out

unfoldable pub track_counts_written : Result TrackCounts Refusal → PlainTrackCounts → PlainTrackCounts
track_counts_written (Ok counts) out = plain_track_counts counts
track_counts_written (Err why) out = out
