-- The packets forwarded to a subscriber since a frame, and the frames that they make
-- on a second track. Own statements. S is the type of template dependency structures.
use Rattle.std.specs.Prelude.{◌≡◌, ◌+◌, ◌%◌, ◌<◌, ℕ, List, [], ◌∷◌, ◌++◌, true, false, if◌then◌else◌, length, map}
use Rattle.std.specs.declared.option.Option.TheVariants.{Some}
use Rattle.sfu_base.specs.declared.frame.FrameMeaning.{FrameMeaning}
use Rattle.sfu_base.specs.declared.frame.Wish.{Wish}
use Rattle.forwarding_model.specs.forwarding.Timeline.{Event, Frame, Packet, meaning_of}
use Rattle.forwarding_model.specs.forwarding.Timeline.Event.{WholeFrame, PlainPacket, WishChange, Take}
use Rattle.forwarding_model.specs.forwarding.Standing.{candidate_at, passes_at, standing}
use Rattle.forwarding_model.specs.forwarding.Outgoing.{Sender}
use Rattle.forwarding_model.specs.frames.Reading.{Format}
use Rattle.forwarding_model.specs.frames.Frames.{Item, frames_after, state_after}
use Rattle.forwarding_laws.specs.forwarding.Since.{EachFrameSince}
use Rattle.cascade_laws.specs.Relayed.{AreHandedOn, IsMaskedFor, IsRelayed, IsShifted, Shift}
use Rattle.cascade_laws.specs.Described.{IsSentAs}

-- ---- on the first track

-- the packets forwarded for the newest events, before they are numbered, the oldest first
abbrev pub sent_since : {S : Type 0} → Sender S → Wish → (since past : List (Event S)) → List Packet
sent_since send wish [] past = []
sent_since send wish (WholeFrame frame ∷ since) past =
    if passes_at (standing wish (since ++ past)) frame.meaning (length frame.packets)
    then sent_since send wish since past ++ send frame (candidate_at (standing wish (since ++ past)) frame.meaning)
    else sent_since send wish since past
sent_since send wish (PlainPacket packet ∷ since) past =
    sent_since send wish since past
sent_since send wish (WishChange changed ∷ since) past = sent_since send wish since past
sent_since send wish (Take ∷ since) past = sent_since send wish since past

-- the newest of a frame and the frames after it; `later` has the newest first
abbrev pub newest_of : FrameMeaning → List FrameMeaning → FrameMeaning
newest_of x [] = x
newest_of x (f ∷ later) = f

-- each frame's number is less than 32,768 above that of the frame before it
abbrev pub AreNear : FrameMeaning → List FrameMeaning → Type 0
AreNear x [] = Unit {0}
AreNear x (f ∷ later) = (f.number < (newest_of x later).number + 32768) × AreNear x later

-- The frame isn't a key frame. Its packets are sent unchanged except for these masks.
-- Each of these masks has the target, and has only targets of the frame's own mask.
pub record IsSentOn {S : Type 0} (format : Format S) (Masks : ℕ → Type 0) (target : ℕ) (s : S) (frame : Frame S) (packets : List Packet) : Type 0 where
  pub sent : IsSentAs format Masks s frame.meaning packets
  pub masked : (g : FrameMeaning) → Masks g.mask → IsMaskedFor target frame.meaning g

abbrev pub AreSentOn : {S : Type 0} → Format S → (ℕ → Type 0) → ℕ → S → Sender S → Wish → (since past : List (Event S)) → Type 0
AreSentOn format Masks target s send wish since past =
    EachFrameSince
    (λ before frame. passes_at (standing wish before) frame.meaning (length frame.packets) ≡ true
    → (frame.meaning.key ≡ false) × IsSentOn format Masks target s frame (send frame (candidate_at (standing wish before) frame.meaning)))
    since past

-- ---- on the second track

-- After these items the newest frame is the one for f, in this epoch, with this structure in force and with one of these masks.
pub record IsUpTo {S : Type 0} (format : Format S) (Masks : ℕ → Type 0) (s : S) (by : Shift) (epoch : ℕ) (f : FrameMeaning) (items : List Item) : Type 0 where
  pub structure : (state_after format items).force.structure ≡ Some s
  pub masked : Masks (state_after format items).force.mask
  pub epoch_is : (state_after format items).force.epoch ≡ epoch
  pub newest : IsShifted by f.number (state_after format items).force.newest
  pub congruent : (state_after format items).force.newest % 65536 ≡ f.number % 65536

-- a frame for x arrived
pub record HasComeFor {S : Type 0} (format : Format S) (Masks : ℕ → Type 0) (s : S) (by : Shift) (epoch : ℕ)
    (x : FrameMeaning) (y : Frame S) (items after : List Item) : Type 0 where
  pub frames : frames_after format after ≡ y ∷ frames_after format items
  pub relayed : IsRelayed by x y.meaning
  pub masked : Masks y.meaning.mask
  pub epoch_is : y.meaning.epoch ≡ epoch
  pub up_to : IsUpTo format Masks s by epoch x after

-- and a frame arrived for each frame that passed since
pub record HaveComeFor {S : Type 0} (format : Format S) (Masks : ℕ → Type 0) (s : S) (by : Shift) (target epoch : ℕ)
    (x : FrameMeaning) (passed ys : List (Frame S)) (items after : List Item) : Type 0 where
  pub frames : frames_after format after ≡ ys ++ frames_after format items
  pub handed_on : AreHandedOn by target epoch passed ys
  pub up_to : IsUpTo format Masks s by epoch (newest_of x (map meaning_of passed)) after
