-- What the items of a track make, in words: what each item is, what is in force, and which items end a frame with which meaning. Own
-- statements, over AV1 RTP payload format, section 4.4 and Appendix A. `Frames` makes frames item by item. The laws here say that these are
-- exactly the frames of the whole list.
use Rattle.std.specs.Prelude.{◌≡◌, ◌≢◌, ◌⊎◌, ◌+◌, ◌/◌, ◌%◌, ◌^◌, ◌<◌, ℕ, List, [], ◌∷◌, true, false, if◌then◌else◌, map}
use Rattle.std.specs.declared.option.Option.{Option}
use Rattle.std.specs.declared.option.Option.TheVariants.{None, Some}
use Rattle.sfu_base.specs.declared.frame.FrameMeaning.{FrameMeaning}
use Rattle.wrap_number.specs.Number.{IsNearestAbove, IsLeastAbove}
use Rattle.forwarding_model.specs.forwarding.Timeline.{Frame}
use Rattle.forwarding_model.specs.frames.Reading.{Descriptor, Format, IsFormat, Layout, Payload, Showing, is_key_start, shown}
use Rattle.forwarding_model.specs.frames.Reading.Payload.{Empty, Broken, Elements}
use Rattle.forwarding_model.specs.frames.Reading.Showing.{LacksStructure, Unread, Shows}
use Rattle.forwarding_model.specs.frames.Cuts.{Part, Mark, IsWholeCut, EndsIn}
use Rattle.forwarding_model.specs.frames.Cuts.Mark.{Gone, Padding, Unreadable, Read}
use Rattle.forwarding_model.specs.frames.Frames.{Item, ReadPacket, all_targets, mask_by, packet_of, state_after, frames_since}
use Rattle.forwarding_model.specs.frames.Frames.Item.{Missing, Arrived}

-- ---- what is in force: the descriptors that were read, of packets that aren't padding, whether or not their payload reads

abbrev pub descriptor_in : {S : Type 0} → Showing S → Option (Descriptor S)
descriptor_in LacksStructure = None
descriptor_in Unread = None
descriptor_in (Shows d payload) = Some d

abbrev pub said_in : {S : Type 0} → Payload → Showing S → Option (Descriptor S)
said_in Empty showing = None
said_in Broken showing = descriptor_in showing
said_in (Elements joins) showing = descriptor_in showing

abbrev pub said_by : {S : Type 0} → Format S → Option S → Item → Option (Descriptor S)
said_by format force Missing = None
said_by format force (Arrived packet) = said_in (format.payload packet.rest) (shown format force packet.rest)

-- the structure of the newest key start
abbrev pub structure_of : {S : Type 0} → List (Descriptor S) → Option S
structure_of [] = None
structure_of (d ∷ past) = if is_key_start d then d.structure else structure_of past

-- the mask by the newest descriptor, or, if it sets none, the mask before it
abbrev pub mask_of : {S : Type 0} → Format S → List (Descriptor S) → ℕ
mask_of format [] = 0
mask_of format (d ∷ past) = mask_by format d.mask d.structure (mask_of format past)

-- how many key starts there are
abbrev pub epochs_of : {S : Type 0} → List (Descriptor S) → ℕ
epochs_of [] = 0
epochs_of (d ∷ past) = if is_key_start d then epochs_of past + 1 else epochs_of past

abbrev pub and_said : {S : Type 0} → Option (Descriptor S) → List (Descriptor S) → List (Descriptor S)
and_said None past = past
and_said (Some d) past = d ∷ past

-- all descriptors that were read, the newest first, each with the structure in force
abbrev pub said : {S : Type 0} → Format S → List Item → List (Descriptor S)
said format [] = []
said format (item ∷ past) = and_said (said_by format (structure_of (said format past)) item) (said format past)

-- the newest frame number, of a key start or a whole frame; and the number of the newest key start
abbrev pub newest_number : {S : Type 0} → Format S → List Item → ℕ
newest_number format items = (state_after format items).force.newest

abbrev pub start_number : {S : Type 0} → Format S → List Item → ℕ
start_number format items = (state_after format items).force.start

-- the item carries no key start
abbrev pub BeginsNoEpoch : {S : Type 0} → Format S → Item → List Item → Type 0
BeginsNoEpoch format item past = (d : Descriptor _) → said_by format (structure_of (said format past)) item ≡ Some d → is_key_start d ≡ false

-- If the newest item makes a frame, that frame's number is the newest. If it makes none but carries a key start, the number of the new epoch's
-- start is the newest. Otherwise the newest number stays the same, even if a frame is torn. Only a key start changes the epoch's start.
pub record NumbersGoOn {S : Type 0} (format : Format S) (item : Item) (past : List Item) : Type 0 where
  pub frame : (frame : Frame S) → frames_since format past (item ∷ []) ≡ frame ∷ [] → newest_number format (item ∷ past) ≡ frame.meaning.number
  pub key_start : (d : Descriptor S) → frames_since format past (item ∷ []) ≡ [] → said_by format (structure_of (said format past)) item ≡ Some d
      → is_key_start d ≡ true → newest_number format (item ∷ past) ≡ start_number format (item ∷ past)
  pub neither : frames_since format past (item ∷ []) ≡ [] → BeginsNoEpoch format item past → newest_number format (item ∷ past) ≡ newest_number format past
  pub start : BeginsNoEpoch format item past → start_number format (item ∷ past) ≡ start_number format past

abbrev pub TheNewestIsTheLast : Type 0 → Type 0
TheNewestIsTheLast S = (format : Format S) (item : Item) (past : List Item) → NumbersGoOn format item past

-- how the newest descriptor sets the mask: to its own mask, or to all targets of the structure that it carries, or not at all
pub record MaskIsSaid {S : Type 0} (format : Format S) (d : Descriptor S) (past : List (Descriptor S)) : Type 0 where
  pub own : (mask : ℕ) → d.mask ≡ Some mask → mask_of format (d ∷ past) ≡ mask
  pub all : (s : S) → d.mask ≡ None → d.structure ≡ Some s → mask_of format (d ∷ past) ≡ all_targets (format.layout s)
  pub neither : d.mask ≡ None → d.structure ≡ None → mask_of format (d ∷ past) ≡ mask_of format past

abbrev pub MasksAreSaid : Type 0 → Type 0
MasksAreSaid S = (format : Format S) (d : Descriptor S) (past : List (Descriptor S)) → MaskIsSaid format d past

-- the mask of all targets has exactly the bits below the count set
abbrev pub AllTargetsAreActive : Type 0
AllTargetsAreActive = (layout : Layout)
    → ((target : ℕ) → target < layout.target_count → all_targets layout / 2 ^ target % 2 ≡ 1) × (all_targets layout < 2 ^ layout.target_count)

-- structure, mask and epoch in force are those of the descriptors that were read
pub record IsInForceBy {S : Type 0} (format : Format S) (items : List Item) : Type 0 where
  pub structure : (state_after format items).force.structure ≡ structure_of (said format items)
  pub mask : (state_after format items).force.mask ≡ mask_of format (said format items)
  pub epoch : (state_after format items).force.epoch ≡ epochs_of (said format items)

abbrev pub WhatWasReadIsInForce : Type 0 → Type 0
WhatWasReadIsInForce S = (format : Format S) (items : List Item) → IsInForceBy format items

-- the key start of the first epoch has its own number; a later one has the least number above the newest that equals its own number modulo 65,536
abbrev pub KeyStartsAreNumbered : Type 0 → Type 0
KeyStartsAreNumbered S = (format : Format S) (item : Item) (past : List Item) (d : Descriptor S) → said_by format (structure_of (said format past)) item
    ≡ Some d
    → is_key_start d ≡ true
    → (structure_of (said format past) ≡ None → start_number format (item ∷ past) ≡ d.number)
    × ((s : S) → structure_of (said format past) ≡ Some s → IsLeastAbove (newest_number format past) d.number (start_number format (item ∷ past)))

-- ---- what each item is

pub record IsPartOf {S : Type 0} (format : Format S) (force : Option S) (item : Item) (part : Part (ReadPacket S)) : Type 0 where
  pub came : item ≡ Arrived part.brings.packet
  pub reads : shown format force part.brings.packet.rest
      ≡ Shows part.brings.descriptor (Elements (record { continues = part.continues; carries = part.carries }))
  pub start : part.start ≡ part.brings.descriptor.start
  pub end : part.end ≡ part.brings.descriptor.end
  pub number : part.number ≡ part.brings.descriptor.number

abbrev pub IsPaddingOf : {S : Type 0} → Format S → Item → Type 0
IsPaddingOf format Missing = ⊥
IsPaddingOf format (Arrived packet) = format.payload packet.rest ≡ Empty

-- the mark of an item: numbers that were given up; a packet with an empty payload; any other packet that isn't a part; or a part
abbrev pub IsMarkOf : {S : Type 0} → Format S → Option S → Item → Mark (ReadPacket S) → Type 0
IsMarkOf format force item Gone = item ≡ Missing
IsMarkOf format force item Padding = IsPaddingOf format item
IsMarkOf format force item Unreadable = (item ≢ Missing) × (IsPaddingOf format item → ⊥) × ((part : Part (ReadPacket _)) → IsPartOf format force item part → ⊥)
IsMarkOf format force item (Read part) = IsPartOf format force item part

abbrev pub AreMarks : {S : Type 0} → Format S → List Item → List (Mark (ReadPacket S)) → Type 0
AreMarks format [] [] = Unit {0}
AreMarks format [] (mark ∷ marks) = ⊥
AreMarks format (item ∷ past) [] = ⊥
AreMarks format (item ∷ past) (mark ∷ marks) = IsMarkOf format (structure_of (said format past)) item mark × AreMarks format past marks

abbrev pub ItemsHaveMarks : Type 0 → Type 0
ItemsHaveMarks S = (format : Format S) (items : List Item) → (marks : List (Mark (ReadPacket S))) × AreMarks format items marks

-- ---- which items end a frame

-- The meaning of a frame with this first descriptor. Mask and epoch are those in force once its last packet was read.
pub record IsMeaningOf {S : Type 0} (format : Format S) (item : Item) (past : List Item) (d : Descriptor S) (f : FrameMeaning) : Type 0 where
  pub key : f.key ≡ is_key_start d
  pub key_number : is_key_start d ≡ true → f.number ≡ f.start
  pub number : is_key_start d ≡ false → IsNearestAbove (newest_number format past) d.number f.number
  pub start : f.start ≡ start_number format (item ∷ past)
  pub epoch : f.epoch ≡ epochs_of (said format (item ∷ past))
  pub mask : f.mask ≡ mask_of format (said format (item ∷ past))
  pub spatial : f.spatial ≡ d.spatial
  pub temporal : f.temporal ≡ d.temporal
  pub dtis : f.dtis ≡ d.dtis
  pub links : f.links ≡ d.links
  pub ref_count : f.ref_count ≡ d.ref_count
  pub refs : f.refs ≡ d.refs

-- the targets and chains of the meaning are those of the structure
pub record IsLaidOutBy {S : Type 0} (format : Format S) (s : S) (f : FrameMeaning) : Type 0 where
  pub targets : f.target_count ≡ (format.layout s).target_count
  pub pairs : f.pairs ≡ (format.layout s).pairs
  pub chains : f.chain_count ≡ (format.layout s).chain_count
  pub guards : f.guards ≡ (format.layout s).guards

-- the frame of a whole cut
pub record IsFrameOf {S : Type 0} (format : Format S) (item : Item) (past : List Item) (first : Part (ReadPacket S)) (more : List (Part (ReadPacket S)))
    (frame : Frame S) : Type 0 where
  pub packets : frame.packets ≡ map packet_of (first ∷ more)
  pub structure : structure_of (said format (item ∷ past)) ≡ Some frame.structure
  pub layout : IsLaidOutBy format frame.structure frame.meaning
  pub meaning : IsMeaningOf format item past first.brings.descriptor frame.meaning

-- if the newest item makes a frame, it ends a whole cut, and the frame is that of the cut
abbrev pub FramesAreCuts : Type 0 → Type 0
FramesAreCuts S = (format : Format S) (item : Item) (past : List Item) (marks : List (Mark (ReadPacket S))) (frame : Frame S)
    → AreMarks format (item ∷ past) marks
    → frames_since format past (item ∷ []) ≡ frame ∷ []
    → (first : Part (ReadPacket S)) × (more : List (Part (ReadPacket S))) × IsWholeCut (first ∷ more) × EndsIn marks (first ∷ more)
    × IsFrameOf format item past first more frame

-- if the newest item ends a whole cut whose number isn't stale, it makes a frame of the cut's packets
abbrev pub CutsAreFrames : Type 0 → Type 0
CutsAreFrames S = (format : Format S) (item : Item) (past : List Item) (marks : List (Mark (ReadPacket S))) (first : Part (ReadPacket S))
    (more : List (Part (ReadPacket S)))
    → IsFormat format → AreMarks format (item ∷ past) marks → IsWholeCut (first ∷ more) → EndsIn marks (first ∷ more)
    → (is_key_start first.brings.descriptor ≡ true) ⊎ ((number : ℕ) × IsNearestAbove (newest_number format past) first.brings.descriptor.number number)
    → (frame : Frame S) × (frames_since format past (item ∷ []) ≡ frame ∷ []) × (frame.packets ≡ map packet_of (first ∷ more))
