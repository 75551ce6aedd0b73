-- The properties of the packets of a whole frame that a reader can rely on. AV1 RTP payload format, section 4.4 and Appendix A. Own statement:
-- a frame is whole under the structure with which it was read. The code doesn't compute this; the laws say it about the frames that a track's
-- packets make.
use Rattle.std.specs.Prelude.{◌≡◌, ◌⊎◌, ◌+◌, ◌%◌, ◌<◌, ℕ, List, [], ◌∷◌, Bool, true, false, map}
use Rattle.std.specs.List.{AllByRecursion}
use Rattle.std.specs.declared.option.Option.{Option}
use Rattle.std.specs.declared.option.Option.TheVariants.{Some}
use Rattle.sfu_base.specs.declared.frame.FrameMeaning.{FrameMeaning}
use Rattle.sfu_base.specs.Frame.{IsValid}
use Rattle.forwarding_model.specs.declared.target.CurrentTarget.{CurrentTarget}
use Rattle.forwarding_model.specs.forwarding.Targets.{references}
use Rattle.forwarding_model.specs.forwarding.Timeline.{Frame, Event, rest_of, meaning_of}
use Rattle.forwarding_model.specs.forwarding.Timeline.Event.{WholeFrame, PlainPacket, WishChange, Take}
use Rattle.forwarding_model.specs.frames.TrackFrames.{IsOneTrack}
use Rattle.forwarding_model.specs.forwarding.Outgoing.{Sender}
use Rattle.forwarding_model.specs.frames.Reading.{Descriptor, Format, IsCarried, Joins, is_key_start, referred_distances, shown}
use Rattle.forwarding_model.specs.frames.Reading.Payload.{Elements}
use Rattle.forwarding_model.specs.frames.Reading.Showing.{Shows}

-- a packet shows a descriptor and the flags of a payload
abbrev pub ReadsAs : {S : Type 0} → Format S → Option S → List ℕ → Descriptor S → Joins → Type 0
ReadsAs format force rest d joins = shown format force rest ≡ Shows d (Elements joins)

-- a packet that continues a frame with this number; `carries` says whether the packet before it left an element open
pub record Continues {S : Type 0} (format : Format S) (s : S) (number : ℕ) (carries : Bool) (rest : List ℕ) (d : Descriptor S) (joins : Joins) : Type 0 where
  pub reads : ReadsAs format (Some s) rest d joins
  pub start : d.start ≡ false
  pub numbered : d.number ≡ number
  pub continues : joins.continues ≡ carries

-- the packets after the first `count`; the last of them ends the frame and leaves no element open
abbrev pub AreContinuations : {S : Type 0} → Format S → S → ℕ → Bool → ℕ → List (List ℕ) → Type 0
AreContinuations format s number carries count [] = ⊥
AreContinuations format s number carries count (rest ∷ more) =
    (d : Descriptor _) × (joins : Joins) × Continues format s number carries rest d joins × (count < 512)
    × (((d.end ≡ true) × (joins.carries ≡ false) × (more ≡ []))
    ⊎ ((d.end ≡ false) × AreContinuations format s number joins.carries (count + 1) more))

-- The first packet of a frame. It can be read with the frame's structure in force. That of a key frame can be read with any structure in force, or with none.
pub record IsFirst {S : Type 0} (format : Format S) (s : S) (f : FrameMeaning) (rest : List ℕ) (d : Descriptor S) (joins : Joins) : Type 0 where
  pub reads : (force : Option S) → (f.key ≡ true) ⊎ (force ≡ Some s) → ReadsAs format force rest d joins
  pub start : d.start ≡ true
  pub continues : joins.continues ≡ false
  pub number : d.number ≡ f.number % 65536
  pub references : referred_distances d ≡ references f
  pub key : is_key_start d ≡ f.key
  pub structure : f.key ≡ true → d.structure ≡ Some s

abbrev pub AreWhole : {S : Type 0} → Format S → S → FrameMeaning → List (List ℕ) → Type 0
AreWhole format s f [] = ⊥
AreWhole format s f (rest ∷ more) =
    (d : Descriptor _) × (joins : Joins) × IsFirst format s f rest d joins
    × (((d.end ≡ true) × (joins.carries ≡ false) × (more ≡ []))
    ⊎ ((d.end ≡ false) × AreContinuations format s (f.number % 65536) joins.carries 1 more))

-- the packets of the frame are read as that whole frame
abbrev pub IsWholeFrame : {S : Type 0} → Format S → Frame S → Type 0
IsWholeFrame format frame = AreWhole format frame.structure frame.meaning (map rest_of frame.packets)

-- the frame's structure was carried, and the targets and chains in the frame's meaning are those of the structure
pub record IsReadBy {S : Type 0} (format : Format S) (s : S) (f : FrameMeaning) : Type 0 where
  pub carried : IsCarried format s
  pub targets : f.target_count ≡ (format.layout s).target_count
  pub pairs : f.pairs ≡ (format.layout s).pairs
  pub chains : f.chain_count ≡ (format.layout s).chain_count
  pub guards : f.guards ≡ (format.layout s).guards

abbrev pub IsReadFrame : {S : Type 0} → Format S → Frame S → Type 0
IsReadFrame format frame = IsReadBy format frame.structure frame.meaning

-- whatever the target, the packets that are sent for the frame are read as that whole frame
abbrev pub IsSentWhole : {S : Type 0} → Format S → Sender S → Frame S → Type 0
IsSentWhole format send frame = (target : CurrentTarget) → AreWhole format frame.structure frame.meaning (map rest_of (send frame target))

-- each frame that is valid and whole, and was read with a carried structure, is sent whole
abbrev pub KeepsWhole : {S : Type 0} → Format S → Sender S → Type 0
KeepsWhole format send = (frame : Frame _) → IsValid frame.meaning → IsReadFrame format frame → IsWholeFrame format frame → IsSentWhole format send frame

-- frames of one epoch were read with one structure
abbrev pub HaveEpochStructures : {S : Type 0} → List (Frame S) → Type 0
HaveEpochStructures [] = Unit {0}
HaveEpochStructures (frame ∷ past) =
    AllByRecursion (λ older. older.meaning.epoch ≡ frame.meaning.epoch → older.structure ≡ frame.structure) past × HaveEpochStructures past

-- frames of one track, each whole, the newest first
pub record IsTrack {S : Type 0} (format : Format S) (frames : List (Frame S)) : Type 0 where
  pub numbers : IsOneTrack (map meaning_of frames)
  pub structures : HaveEpochStructures frames
  pub whole : AllByRecursion (IsWholeFrame format) frames

-- a timeline of a layered track
abbrev pub IsLayered : {S : Type 0} → List (Event S) → Type 0
IsLayered [] = Unit {0}
IsLayered (WholeFrame frame ∷ past) = IsLayered past
IsLayered (PlainPacket packet ∷ past) = ⊥
IsLayered (WishChange wish ∷ past) = IsLayered past
IsLayered (Take ∷ past) = IsLayered past
