-- The timeline that the code's state for a subscriber represents, and how each event changes that state. In lists of events the newest event comes first.
use Rattle.std.specs.Prelude.{◌≡◌, ℕ, ◌+◌, ◌%◌, Bool, true, false, List, [], ◌∷◌, ◌++◌, length, map, take, drop, Option, None, Some, Result, Ok, Err}
use Rattle.sfu_base.specs.Answer.{is_memory}
use Rattle.sfu_base.specs.declared.call.Kind.{Kind}
use Rattle.sfu_base.specs.declared.call.Refusal.{Refusal}
use Rattle.sfu_base.specs.declared.call.Refusal.TheVariants.{NotKept}
use Rattle.sfu_base.specs.declared.frame.FrameMeaning.{FrameMeaning}
use Rattle.sfu_base.specs.declared.frame.Verdict.{Verdict}
use Rattle.sfu_base.specs.declared.frame.Wish.{Wish}
use Rattle.forwarding_model.specs.forwarding.Timeline.{Packet, Frame, Event, meanings_of, takes_of}
use Rattle.forwarding_model.specs.forwarding.Timeline.Event.{WholeFrame, PlainPacket, WishChange, Take}
use Rattle.forwarding_model.specs.frames.TrackFrames.{IsOneTrack}
use Rattle.forwarding_model.specs.forwarding.Standing.{joined, standing}
use Rattle.forwarding_model.specs.forwarding.Outgoing.{Subscriber, FindPackets, marked, next_number, next_packet, numbered, oldest_number, outgoing, resent}
use Rattle.forwarding_model.specs.Lists.{last_part}
use Rattle.forwarding_model.specs.forwarding.Causes.{verdicts}
use Rattle.dd_structure.specs.TemplateStructure.{TemplateStructure}
use Rattle.packet_format.specs.Packets.{bytes_of, packet_of}
use Rattle.out_ring.specs.Ring.{Sent, Ring, begun}
use Rattle.cause_book.specs.Book.{judged, recent}
use Rattle.target_selector.specs.Stands.{StandsFor}
use Rattle.track_core.specs.declared.layers.Layers.{Layers}
use Rattle.track_core.specs.Track.{Seen, structure_in}
use Rattle.room_core.specs.Stepping.{kind_by}
use Rattle.room_core.specs.Sent.{remasked_first, sent, carries_mask_first}
use Rattle.room_core.specs.Targets.{has_no_target}
use Rattle.room_core.specs.CurrentTargets.{newest_frame, target_in}
use Rattle.room_core.specs.declared.current_target.DecodeTarget.{DecodeTarget}
use Rattle.target_selector.specs.Reaching.{reaches, targets_of}
use Rattle.std.specs.Option.{option_map}
use Rattle.room_core.specs.Counts.{feed_counts, no_counts}
use Rattle.room_core.specs.declared.feed.Feed.{Feed}

-- an event of a subscriber
abbrev pub Happened : Type 0
Happened = Event TemplateStructure

abbrev pub sent_as : Packet → Sent
sent_as packet = record { number = packet.sequence_number; bytes = bytes_of packet }

-- the state of the ring after this many takes of these packets
pub record IsRingOf (ring : Ring) (to : Subscriber) (takes : ℕ) (out : List Packet) : Type 0 where
  pub ssrc : ring.ssrc ≡ to.ssrc
  pub next : ring.next ≡ (to.first + length (take takes out)) % 65536
  pub queued : ring.queued ≡ map bytes_of (drop takes out)
  pub kept : ring.kept ≡ map sent_as (last_part 1024 (take takes out))

-- A subscriber of a track of this kind, which joined as `to`, is in the state after this timeline. Each take in the timeline found a packet.
pub record Follows (kind : Kind) (feed : Feed) (to : Subscriber) (events : List Happened) : Type 0 where
  pub kind_is : feed.kind ≡ kind
  pub selector : StandsFor feed.selector (standing to.wish events)
  pub newest_is : feed.selector.newest ≡ option_map targets_of (newest_frame events)
  pub ring : IsRingOf feed.ring to (takes_of events) (outgoing (sent kind) to events)
  pub causes : feed.causes ≡ recent (verdicts to.wish events)
  pub counts_are : feed.counts ≡ feed_counts to.wish events
  pub finds : FindPackets (sent kind) to events

-- the state before any event
pub record IsFresh (feed : Feed) (kind : Kind) (ssrc first : ℕ) (wish : Wish) : Type 0 where
  pub kind_is : feed.kind ≡ kind
  pub selector : StandsFor feed.selector (joined wish)
  pub newest_is : feed.selector.newest ≡ None
  pub ring : feed.ring ≡ begun ssrc first
  pub causes : feed.causes ≡ []
  pub counts_are : feed.counts ≡ no_counts

-- ---- one more event

abbrev pub FollowsAim : Feed → Feed → Wish → Type 0
FollowsAim old new wish = (kind : Kind) (to : Subscriber) (events : List Happened) → Follows kind old to events
    → Follows kind new to (WishChange wish ∷ events)

abbrev pub FollowsPacket : Feed → Feed → List ℕ → Type 0
FollowsPacket old new bytes = (kind : Kind) (to : Subscriber) (events : List Happened) → Follows kind old to events
    → Follows kind new to (PlainPacket (packet_of bytes) ∷ events)

-- the frame with this meaning and these packets, which were read with this structure
abbrev pub frame_by : FrameMeaning → TemplateStructure → List (List ℕ) → Frame TemplateStructure
frame_by meaning structure packets = record { meaning = meaning; structure = structure; packets = map packet_of packets }

-- A frame of the track became whole. Its number is above those of all frames before it, and it was read with the structure in force.
abbrev pub FollowsFrame : Feed → Feed → FrameMeaning → Seen → Type 0
FollowsFrame old new meaning track = (kind : Kind) (to : Subscriber) (structure : TemplateStructure) (events : List Happened)
    → kind_by track.layers ≡ kind → structure_in track.layers ≡ Some structure
    → IsOneTrack (meaning ∷ meanings_of events) → Follows kind old to events
    → Follows kind new to (WholeFrame (frame_by meaning structure track.packets) ∷ events)

-- ---- takes and resends

-- The next packet is returned, if there is one. If there is none, nothing changes.
abbrev pub TakesNext : Option Packet → Kind → Feed → Feed → Bool → List ℕ → List ℕ → Subscriber → List Happened → Type 0
TakesNext None kind old new found before bytes to events = (found ≡ false) × (new ≡ old) × (bytes ≡ before)
TakesNext (Some packet) kind old new found before bytes to events =
    (found ≡ true) × Follows kind new to (Take ∷ events) × (bytes ≡ bytes_of packet)

abbrev pub FollowsTake : Feed → Feed → Bool → List ℕ → List ℕ → Type 0
FollowsTake old new found before bytes = (kind : Kind) (to : Subscriber) (events : List Happened) → Follows kind old to events
    → TakesNext (next_packet (sent kind) to events) kind old new found before bytes to events

abbrev pub ResendsIt : Option Packet → Result (Unit {0}) Refusal → List ℕ → List ℕ → ℕ → ℕ → Type 0
ResendsIt None result before bytes oldest next = (result ≡ Err (NotKept oldest next)) × (bytes ≡ before)
ResendsIt (Some packet) result before bytes oldest next = (result ≡ Ok tt) × (bytes ≡ bytes_of packet)

abbrev pub Resends : Feed → ℕ → Result (Unit {0}) Refusal → List ℕ → List ℕ → Type 0
Resends feed sequence result before bytes = (kind : Kind) (to : Subscriber) (events : List Happened) → Follows kind feed to events
    → ResendsIt (resent (sent kind) to events sequence) result before bytes (oldest_number (sent kind) to events) (next_number (sent kind) to events)

-- the result isn't the refusal `NoMemory`
abbrev pub IsFed : {T : Type 0} → Result T Refusal → Type 0
IsFed (Ok x) = Unit {0}
IsFed (Err why) = is_memory why ≡ false

-- ---- targets and causes

abbrev pub HasNoTarget : Feed → Bool → Type 0
HasNoTarget feed none = (kind : Kind) (to : Subscriber) (events : List Happened) → Follows kind feed to events
    → none ≡ has_no_target (standing to.wish events).target

-- the target that the subscriber is sent, and whether it is the best that the subscriber's wish allows
abbrev pub HasTarget : Feed → Option DecodeTarget → Type 0
HasTarget feed result = (kind : Kind) (to : Subscriber) (events : List Happened) → Follows kind feed to events
    → result ≡ target_in (newest_frame events) (standing to.wish events).target

abbrev pub HasReached : Feed → Bool → Type 0
HasReached feed result = (kind : Kind) (to : Subscriber) (events : List Happened) → Follows kind feed to events
    → result ≡ reaches (newest_frame events) (standing to.wish events).wish (standing to.wish events).target

abbrev pub IsCauseOf : Feed → ℕ → Result Verdict Refusal → Type 0
IsCauseOf feed number result = (kind : Kind) (to : Subscriber) (events : List Happened) → Follows kind feed to events → IsOneTrack (meanings_of events)
    → result ≡ judged (verdicts to.wish events) number

-- ---- the packets of a frame

-- the ring after these packets were queued, with their numbers
abbrev pub pushed_all : List Packet → Ring → Ring
pushed_all packets ring = record ring { queued = ring.queued ++ map bytes_of (numbered (ring.next + length ring.queued) ring.ssrc packets) }

-- A frame's packets were queued. If `is_top` is true, the frame ends the temporal unit for the target, and its last packet gets the marker.
abbrev pub PushesFrame : Ring → Ring → List Packet → Bool → Type 0
PushesFrame old new packets is_top = new ≡ pushed_all (marked is_top packets) old

-- the same without the first `from` packets
abbrev pub PushesBehind : ℕ → Ring → Ring → List (List ℕ) → Bool → Type 0
PushesBehind from old new packets is_top = new ≡ pushed_all (drop from (marked is_top (map packet_of packets))) old

-- ---- the first packet of a frame, for a track with or without layers

abbrev pub carries_mask_by : Option Layers → List (List ℕ) → Bool
carries_mask_by None packets = false
carries_mask_by (Some l) packets = carries_mask_first l.id (map packet_of packets)

abbrev pub remasked_by : Option Layers → ℕ → List Packet → List Packet
remasked_by None mask packets = packets
remasked_by (Some l) mask packets = remasked_first l.id l.table.structure mask packets
