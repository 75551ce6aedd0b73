-- More packets: frames of a track, the outcomes of marks, and histories. The results were worked out by hand, and are checked by computation.
use Rattle.std.specs.Prelude.{◌≡◌, ℕ, zero, suc, List, [], ◌∷◌, ◌++◌, Bool, true, false, if◌then◌else◌, map, length, replicate}
use Rattle.std.specs.declared.option.Option.TheVariants.{None, Some}
use Rattle.std.specs.Option.{option_map}
use Rattle.sfu_base.specs.declared.frame.Verdict.TheVariants.{Passed}
use Rattle.forwarding_model.specs.forwarding.Causes.{cause}
use Rattle.forwarding_model.specs.forwarding.Timeline.{Event, Frame, Packet}
use Rattle.forwarding_model.specs.forwarding.Timeline.Event.{PlainPacket, Take}
use Rattle.forwarding_model.specs.frames.Cuts.{Mark, Outcome, outcome, run_of}
use Rattle.forwarding_model.specs.frames.Cuts.Mark.{Gone, Padding, Read}
use Rattle.forwarding_model.specs.frames.Cuts.Outcome.{IsPadding, IsWhole, IsPartial, IsTorn}
use Rattle.forwarding_examples.specs.WorkedFormat.{worked_format}
use Rattle.forwarding_model.specs.frames.Frames.{frames_after}
use Rattle.forwarding_model.specs.frames.Frames.Item.{Missing, Arrived}
use Rattle.forwarding_model.specs.forwarding.Outgoing.{Subscriber, next_number, oldest_number, outgoing, resent, send_marked, taken}
use Rattle.forwarding_model.specs.History.{Entry, plain_timeline, timeline}
use Rattle.forwarding_model.specs.History.Entry.{Released, Joined, Asked}
use Rattle.forwarding_examples.specs.WorkedPackets.{came, first_rest, frame_rest, joined_as, key_rest, numbers_and_markers, sent_to, summary, three_subscribers}

-- ---- frames: the items have the newest first

-- a torn frame doesn't count, though its number is above the next frame's
abbrev pub TornNumber : Type 0
TornNumber = summary (came (frame_rest 4 3) ∷ Missing ∷ came (first_rest 5) ∷ came (key_rest 1) ∷ []) ≡ (4 ∷ 1 ∷ 3 ∷ []) ∷ (1 ∷ 1 ∷ 3 ∷ []) ∷ []

-- a frame number that is the newest one's is stale
abbrev pub EqualNumber : Type 0
EqualNumber = summary (came (frame_rest 4 1) ∷ came (key_rest 4) ∷ []) ≡ (4 ∷ 1 ∷ 3 ∷ []) ∷ []

-- a key frame with a mask of its own
abbrev pub OwnMask : Type 0
OwnMask = summary (came (frame_rest 2 1) ∷ came (1 ∷ 1 ∷ 1 ∷ 7 ∷ 3 ∷ 0 ∷ 0 ∷ []) ∷ []) ≡ (2 ∷ 1 ∷ 2 ∷ []) ∷ (1 ∷ 1 ∷ 2 ∷ []) ∷ []

-- all of three targets are active
abbrev pub ThreeTargets : Type 0
ThreeTargets = summary (came (1 ∷ 1 ∷ 1 ∷ 9 ∷ 0 ∷ 0 ∷ 0 ∷ []) ∷ []) ≡ (1 ∷ 1 ∷ 7 ∷ []) ∷ []

-- a key frame of two packets
abbrev pub LongKeyFrame : Type 0
LongKeyFrame = summary (came (0 ∷ 1 ∷ 1 ∷ 0 ∷ 0 ∷ 1 ∷ 0 ∷ []) ∷ came (1 ∷ 0 ∷ 1 ∷ 7 ∷ 0 ∷ 0 ∷ 1 ∷ []) ∷ []) ≡ (1 ∷ 2 ∷ 3 ∷ []) ∷ []

-- for each frame its epoch, the epoch's start, and whether it is a key frame; the frames are a key frame, one that refers to it, and another key frame
abbrev pub EpochsAndStarts : Type 0
EpochsAndStarts =
    map (λ (x : Frame ℕ). x.meaning.epoch ∷ x.meaning.start ∷ (if x.meaning.key then 1 else 0) ∷ [])
    (frames_after worked_format (came (key_rest 5) ∷ came (frame_rest 2 1) ∷ came (key_rest 1) ∷ []))
    ≡ (2 ∷ 5 ∷ 1 ∷ []) ∷ (1 ∷ 1 ∷ 0 ∷ []) ∷ (1 ∷ 1 ∷ 1 ∷ []) ∷ []

-- a packet that isn't a start and carries the structure in force makes all targets active again
abbrev pub StructureInside : Type 0
StructureInside =
    summary (came (0 ∷ 1 ∷ 2 ∷ 7 ∷ 0 ∷ 1 ∷ 0 ∷ []) ∷ came (1 ∷ 0 ∷ 2 ∷ 0 ∷ 3 ∷ 0 ∷ 1 ∷ 1 ∷ []) ∷ came (key_rest 1) ∷ [])
    ≡ (2 ∷ 2 ∷ 3 ∷ []) ∷ (1 ∷ 1 ∷ 3 ∷ []) ∷ []

-- a structure before the first key start makes no frame, and isn't in force for the next packet
abbrev pub StructureFirst : Type 0
StructureFirst = summary (came (frame_rest 3 1) ∷ came (1 ∷ 1 ∷ 2 ∷ 7 ∷ 0 ∷ 0 ∷ 0 ∷ 1 ∷ []) ∷ []) ≡ []

-- ---- the outcome of each mark; the marks have the newest first, and so have the outcomes

abbrev pub part : (start end : Bool) → ℕ → (continues carries : Bool) → Mark ℕ
part start end number continues carries =
    Read (record { start = start; end = end; number = number; continues = continues; carries = carries; brings = 0 })

abbrev pub outcomes : List (Mark ℕ) → List Outcome
outcomes [] = []
outcomes (mark ∷ past) = outcome (run_of past) mark ∷ outcomes past

abbrev pub GapTears : Type 0
GapTears = outcomes (part false true 2 true false ∷ Gone ∷ part true false 2 false true ∷ []) ≡ IsTorn ∷ IsTorn ∷ IsPartial ∷ []

abbrev pub PaddingIsPassedOver : Type 0
PaddingIsPassedOver = outcomes (part false true 2 false false ∷ Padding ∷ part true false 2 false false ∷ []) ≡ IsWhole ∷ IsPadding ∷ IsPartial ∷ []

abbrev pub StartBeginsAnew : Type 0
StartBeginsAnew = outcomes (part true true 3 false false ∷ part true false 2 false false ∷ []) ≡ IsWhole ∷ IsPartial ∷ []

abbrev pub PaddingFirst : Type 0
PaddingFirst = outcomes (part false true 2 false false ∷ Padding ∷ []) ≡ IsTorn ∷ IsPadding ∷ []

-- the 512th part leaves the frame partial, and the 513th tears it
abbrev pub middles : ℕ → List (Mark ℕ)
middles n = replicate n (part false false 2 false false) ++ part true false 2 false false ∷ []

abbrev pub PartsOfAFrame : Type 0
PartsOfAFrame =
    outcome (run_of (middles 510)) (part false false 2 false false) ∷ outcome (run_of (middles 511)) (part false false 2 false false) ∷ []
    ≡ IsPartial ∷ IsTorn ∷ []

-- ---- histories

-- a change of another's wish doesn't change the third subscriber's
abbrev pub ThirdSubscriberMarkers : Type 0
ThirdSubscriberMarkers = numbers_and_markers (sent_to 3 (joined_as 4 7 1)) ≡ None ∷ None ∷ []

-- takes of the second subscriber aren't takes of the others
abbrev pub OnlyTheSecondTook : Type 0
OnlyTheSecondTook =
    taken send_marked (joined_as 2 65535 1) (timeline worked_format send_marked 1 three_subscribers)
    ++ taken send_marked (joined_as 4 7 1) (timeline worked_format send_marked 3 three_subscribers)
    ≡ []

-- three frames of one call
abbrev pub one_call : List (Event ℕ)
one_call =
    timeline worked_format send_marked 1
    (Released (came (frame_rest 3 1) ∷ came (frame_rest 2 1) ∷ came (key_rest 1) ∷ []) ∷ Joined 1 (joined_as 2 10 1) ∷ [])

abbrev pub OneCallNumbers : Type 0
OneCallNumbers = map (λ (p : Packet). p.sequence_number) (outgoing send_marked (joined_as 2 10 1) one_call) ≡ 10 ∷ 11 ∷ 12 ∷ []

abbrev pub OneCallCauses : Type 0
OneCallCauses = map (cause (joined_as 2 10 1).wish one_call) (1 ∷ 2 ∷ 3 ∷ []) ≡ Passed ∷ Passed ∷ Passed ∷ []

-- ---- plain tracks: a subscriber that joined with first number 10

abbrev pub plain_subscriber : Subscriber
plain_subscriber = joined_as 2 10 0

abbrev pub plain : Bool → ℕ → Packet
plain marker content = record { sequence_number = 77; ssrc = 1; marker = marker; rest = content ∷ [] }

-- packets are forwarded as they came, except for the number and the SSRC
abbrev pub PlainContents : Type 0
PlainContents =
    outgoing {S = ℕ} send_marked plain_subscriber (PlainPacket (plain false 9) ∷ PlainPacket (plain true 8) ∷ [])
    ≡ record { sequence_number = 10; ssrc = 2; marker = true; rest = 8 ∷ [] } ∷ record { sequence_number = 11; ssrc = 2; marker = false; rest = 9 ∷ [] } ∷ []

-- at most 512 packets are queued, and a take makes space for one
abbrev pub PlainQueue : Type 0
PlainQueue =
    length (outgoing {S = ℕ} send_marked plain_subscriber (replicate 513 (PlainPacket (plain false 9))))
    ∷ length (outgoing {S = ℕ} send_marked plain_subscriber (PlainPacket (plain false 9) ∷ Take ∷ replicate 513 (PlainPacket (plain false 9))))
    ∷ []
    ≡ 512 ∷ 513 ∷ []

-- a history: packets before the join aren't the subscriber's, and numbers that were given up add nothing
abbrev pub plain_history : List Entry
plain_history =
    Asked 1
    ∷ Released (Arrived (plain false 6) ∷ Missing ∷ Arrived (plain true 5) ∷ [])
    ∷ Asked 1
    ∷ Joined 1 plain_subscriber
    ∷ Released (Arrived (plain false 4) ∷ [])
    ∷ []

abbrev pub PlainHistory : Type 0
PlainHistory =
    map (λ (p : Packet). p.sequence_number ∷ p.rest) (outgoing {S = ℕ} send_marked plain_subscriber (plain_timeline send_marked 1 plain_history))
    ≡ (10 ∷ 5 ∷ []) ∷ (11 ∷ 6 ∷ []) ∷ []

abbrev pub PlainTaken : Type 0
PlainTaken = map (λ (p : Packet). p.rest) (taken {S = ℕ} send_marked plain_subscriber (plain_timeline send_marked 1 plain_history)) ≡ (5 ∷ []) ∷ []

-- of 1,025 taken packets, the last 1,024 are kept; one more packet is queued
abbrev pub all_taken : ℕ → List (Event ℕ)
all_taken zero = []
all_taken (suc n) = Take ∷ PlainPacket (plain true n) ∷ all_taken n

abbrev pub long_store : List (Event ℕ)
long_store = PlainPacket (plain true 1025) ∷ all_taken 1025

abbrev pub from_zero : Subscriber
from_zero = joined_as 2 0 0

abbrev pub LongStore : Type 0
LongStore =
    (oldest_number send_marked from_zero long_store ∷ next_number send_marked from_zero long_store ∷ [])
    ≡ 1 ∷ 1025 ∷ []

abbrev pub LongStoreResends : Type 0
LongStoreResends =
    map (λ n. option_map (λ (p : Packet). p.rest) (resent send_marked from_zero long_store n)) (0 ∷ 1 ∷ 1024 ∷ 1025 ∷ [])
    ≡ None ∷ Some (1 ∷ []) ∷ Some (1024 ∷ []) ∷ None ∷ []
