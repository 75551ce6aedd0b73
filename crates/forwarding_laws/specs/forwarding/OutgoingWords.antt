-- The packets that are forwarded at a frame, with their markers and numbers, in words (RFC 3550, section 5.1). On which packet the marker is
-- set is an own rule, over AV1 RTP payload format, section 4.2. Own statements.
use Rattle.std.specs.Prelude.{◌≡◌, ◌↔◌, ◌+◌, ◌%◌, ℕ, List, [], ◌∷◌, ◌++◌, true, false, length, slice_get}
use Rattle.std.specs.Option.{option_map}
use Rattle.std.specs.declared.option.Option.TheVariants.{Some}
use Rattle.sfu_base.specs.declared.frame.FrameMeaning.{FrameMeaning}
use Rattle.sfu_base.specs.declared.frame.Wish.{Wish}
use Rattle.forwarding_model.specs.declared.target.CurrentTarget.{CurrentTarget}
use Rattle.forwarding_model.specs.declared.target.CurrentTarget.TheVariants.{Open}
use Rattle.forwarding_model.specs.forwarding.Targets.{layers}
use Rattle.forwarding_model.specs.forwarding.Timeline.{Packet, Frame, Event, takes_of}
use Rattle.forwarding_model.specs.forwarding.Timeline.Event.{WholeFrame, WishChange, Take}
use Rattle.forwarding_model.specs.forwarding.Standing.{standing, passes_at, candidate_at}
use Rattle.forwarding_model.specs.forwarding.Outgoing.{Sender, Subscriber, is_top_layer, send_marked, numbered, outgoing, next_number, FindPackets}
use Rattle.forwarding_laws.specs.forwarding.Plain.{renumbered}

-- the target is open, and the greatest spatial id of its layers is f's
pub record EndsThePicture (f : FrameMeaning) (current : CurrentTarget) : Type 0 where
  pub target : ℕ
  pub opened : ℕ
  pub is_open : current ≡ Open target opened
  pub pair : Wish
  pub has_layers : layers f target ≡ Some pair
  pub same : f.spatial ≡ pair.spatial

abbrev pub TopLayerInWords : Type 0
TopLayerInWords = (f : FrameMeaning) (current : CurrentTarget) → (is_top_layer f current ≡ true) ↔ EndsThePicture f current

-- such a frame is forwarded with the marker set on its last packet, even if it wasn't set before, and with nothing else changed
abbrev pub LastPacketsAreMarked : Type 0 → Type 0
LastPacketsAreMarked S = (frame : Frame S) (target : CurrentTarget) (before : List Packet) (last : Packet)
    → is_top_layer frame.meaning target ≡ true
    → frame.packets ≡ before ++ last ∷ [] → send_marked frame target ≡ before ++ record last { marker = true } ∷ []

-- any other frame is forwarded as it is: a marker that is set stays set
abbrev pub OtherMarkersAreKept : Type 0 → Type 0
OtherMarkersAreKept S = (frame : Frame S) (target : CurrentTarget) → is_top_layer frame.meaning target ≡ false
    → send_marked frame target ≡ frame.packets

-- the packets of a frame that passes follow all packets forwarded before, with the next numbers, as they are sent for the frame's candidate
abbrev pub PassingFramesGoOut : Type 0 → Type 0
PassingFramesGoOut S = (send : Sender S) (subscriber : Subscriber) (frame : Frame S) (past : List (Event S))
    → passes_at (standing subscriber.wish past) frame.meaning (length frame.packets) ≡ true
    → outgoing send subscriber (WholeFrame frame ∷ past)
    ≡ outgoing send subscriber past
    ++ numbered (subscriber.first + length (outgoing send subscriber past)) subscriber.ssrc
    (send frame (candidate_at (standing subscriber.wish past) frame.meaning))

-- nothing is forwarded at a frame that doesn't pass, at a change of the wish, or at a take
abbrev pub NothingElseGoesOut : Type 0 → Type 0
NothingElseGoesOut S = (send : Sender S) (subscriber : Subscriber) (frame : Frame S) (wish : Wish) (past : List (Event S))
    → (passes_at (standing subscriber.wish past) frame.meaning (length frame.packets) ≡ false
    → outgoing send subscriber (WholeFrame frame ∷ past) ≡ outgoing send subscriber past)
    × (outgoing send subscriber (WishChange wish ∷ past) ≡ outgoing send subscriber past)
    × (outgoing send subscriber (Take ∷ past) ≡ outgoing send subscriber past)

-- the i-th packet, counted from 0, has the i-th number and the subscriber's SSRC, and is otherwise as it was
abbrev pub PacketsAreRenumbered : Type 0
PacketsAreRenumbered = (n ssrc : ℕ) (packets : List Packet) (i : ℕ)
    → slice_get (numbered n ssrc packets) i ≡ option_map (renumbered (n + i) ssrc) (slice_get packets i)

-- if each take found a packet, the next number is the first number plus the number of takes; right after the join, it is the first number modulo 65,536
abbrev pub NextNumbersCountTakes : Type 0 → Type 0
NextNumbersCountTakes S = (send : Sender S) (subscriber : Subscriber) (events : List (Event S)) → FindPackets send subscriber events
    → next_number send subscriber events ≡ (subscriber.first + takes_of events) % 65536
