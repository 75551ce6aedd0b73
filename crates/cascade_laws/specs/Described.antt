-- What the packets of a frame determine about the frame on a second track. Own statements, over AV1 RTP payload format, Appendix A.
-- S is the type of template dependency structures.
use Rattle.std.specs.Prelude.{◌≡◌, ℕ, List, [], ◌∷◌, Bool, true, false, map}
use Rattle.std.specs.List.{AllByRecursion}
use Rattle.std.specs.declared.option.Option.TheVariants.{Some}
use Rattle.sfu_base.specs.declared.frame.FrameMeaning.{FrameMeaning}
use Rattle.forwarding_model.specs.forwarding.Timeline.{Frame, Packet, rest_of}
use Rattle.forwarding_model.specs.frames.Reading.{Descriptor, Format, IsFormat, Joins}
use Rattle.forwarding_model.specs.frames.Frames.{Item, frames_after, mask_by}
use Rattle.forwarding_model.specs.frames.Frames.Item.{Arrived}
use Rattle.forwarding_laws.specs.frames.WholeFrames.{AreWhole, IsReadBy, ReadsAs}

-- ---- the first packet

-- the descriptor contains the frame's meaning
pub record IsDescribedBy {S : Type 0} (f : FrameMeaning) (d : Descriptor S) : Type 0 where
  pub spatial : f.spatial ≡ d.spatial
  pub temporal : f.temporal ≡ d.temporal
  pub dtis : f.dtis ≡ d.dtis
  pub links : f.links ≡ d.links
  pub ref_count : f.ref_count ≡ d.ref_count
  pub refs : f.refs ≡ d.refs

-- the first of these packets, read with the structure, has a descriptor that contains the frame's meaning
abbrev pub FirstDescribes : {S : Type 0} → Format S → S → FrameMeaning → List (List ℕ) → Type 0
FirstDescribes format s f [] = ⊥
FirstDescribes format s f (rest ∷ more) = (d : Descriptor _) (joins : Joins) → ReadsAs format (Some s) rest d joins → IsDescribedBy f d

abbrev pub IsDescribed : {S : Type 0} → Format S → Frame S → Type 0
IsDescribed format frame = FirstDescribes format frame.structure frame.meaning (map rest_of frame.packets)

-- for each frame that a track's items form, the first packet contains the frame's meaning
abbrev pub FramesAreDescribed : Type 0 → Type 0
FramesAreDescribed S = (format : Format S) (items : List Item) → IsFormat format → AllByRecursion (IsDescribed format) (frames_after format items)

-- ---- masks

-- if one of these masks was in force before the packet, one of them is in force after it
abbrev pub KeepsMask : {S : Type 0} → Format S → S → (ℕ → Type 0) → List ℕ → Type 0
KeepsMask format s Masks rest =
    (d : Descriptor _) (joins : Joins) → ReadsAs format (Some s) rest d joins → (old : ℕ) → Masks old → Masks (mask_by format d.mask d.structure old)

-- one of these masks is in force after the packet, whatever mask was in force before
abbrev pub BeginsMask : {S : Type 0} → Format S → S → (ℕ → Type 0) → List ℕ → Type 0
BeginsMask format s Masks rest =
    (d : Descriptor _) (joins : Joins) → ReadsAs format (Some s) rest d joins → (old : ℕ) → Masks (mask_by format d.mask d.structure old)

-- the first packet of a key frame brings one of these masks into force, and each other packet keeps one of them in force
abbrev pub FirstMask : {S : Type 0} → Format S → S → (ℕ → Type 0) → Bool → List ℕ → Type 0
FirstMask format s Masks true rest = BeginsMask format s Masks rest
FirstMask format s Masks false rest = KeepsMask format s Masks rest

abbrev pub HaveMasks : {S : Type 0} → Format S → S → (ℕ → Type 0) → Bool → List (List ℕ) → Type 0
HaveMasks format s Masks key [] = ⊥
HaveMasks format s Masks key (rest ∷ more) = FirstMask format s Masks key rest × AllByRecursion (KeepsMask format s Masks) more

-- ---- a frame in the form in which it is sent

-- These packets are the whole frame. The first one contains the frame's meaning, and they bring only these masks into force.
pub record IsSentAs {S : Type 0} (format : Format S) (Masks : ℕ → Type 0) (s : S) (f : FrameMeaning) (packets : List Packet) : Type 0 where
  pub read : IsReadBy format s f
  pub whole : AreWhole format s f (map rest_of packets)
  pub described : FirstDescribes format s f (map rest_of packets)
  pub masks : HaveMasks format s Masks f.key (map rest_of packets)

-- the packets as items, in the order in which they arrive, after these items, which have the newest first
abbrev pub arrivals : List Packet → List Item → List Item
arrivals [] items = items
arrivals (packet ∷ packets) items = arrivals packets (Arrived packet ∷ items)
