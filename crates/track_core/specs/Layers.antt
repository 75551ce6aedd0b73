-- What a layered track represents between two items. Lists of items and marks have the newest first.
use Rattle.std.specs.Prelude.{◌≡◌, ℕ, Bool, true, false, if◌then◌else◌, List, [], ◌∷◌, map, Option, None, Some, IfSome, is_some}
use Rattle.std.specs.Option.{option_map}
use Rattle.sfu_base.specs.declared.frame.FrameMeaning.{FrameMeaning}
use Rattle.forwarding_model.specs.forwarding.Timeline.{Frame, meaning_of}
use Rattle.forwarding_model.specs.frames.Reading.{shown}
use Rattle.forwarding_model.specs.frames.Cuts.{Mark, Part, Run, run_of, cut_by}
use Rattle.forwarding_model.specs.frames.Cuts.Mark.{Gone, Padding, Read}
use Rattle.forwarding_model.specs.frames.Frames.{Item, Force, ReadPacket, after_showing, frame_of, is_padding, made_by_item, showing_mark, state_after, with_frame}
use Rattle.forwarding_model.specs.frames.Frames.Item.{Missing, Arrived}
use Rattle.dd_structure.specs.TemplateStructure.{TemplateStructure}
use Rattle.dd_descriptor.specs.declared.descriptor.Descriptor.{Descriptor}
use Rattle.dd_layout.specs.Layouts.{structures_alone}
use Rattle.frame_assembly.specs.declared.mark.Mark.{Mark as CodeMark}
use Rattle.frame_assembly.specs.declared.mark.Mark.TheVariants as code
use Rattle.frame_assembly.specs.Assembled.{marked as assembled, IsAfter as AssembledAfter}
use Rattle.frame_table.specs.declared.table.FrameHead.{FrameHead}
use Rattle.frame_table.specs.Heads.{HasReferences, head_of}
use Rattle.frame_table.specs.Seen.{IsFirst, said_of}
use Rattle.packet_format.specs.Formats.{format_of}
use Rattle.packet_format.specs.Packets.{bytes_of, packet_of}
use Rattle.track_core.specs.declared.layers.Layers.{Layers}
use Rattle.track_core.specs.Mapped.{mark_with}

-- ---- marks

-- the mark of an item, with this structure in force
abbrev pub mark_of : ℕ → Option TemplateStructure → Item → Mark (ReadPacket TemplateStructure)
mark_of id force Missing = Gone
mark_of id force (Arrived p) =
    if is_padding ((format_of id).payload p.rest) then Padding else showing_mark (shown (format_of id) force p.rest) p

-- what is in force after the item, before a whole frame is numbered
abbrev pub force_of : ℕ → Force TemplateStructure → Item → Force TemplateStructure
force_of id force Missing = force
force_of id force (Arrived p) =
    if is_padding ((format_of id).payload p.rest) then force else after_showing (format_of id) force (shown (format_of id) force.structure p.rest)

abbrev pub marks_of : ℕ → List Item → List (Mark (ReadPacket TemplateStructure))
marks_of id [] = []
marks_of id (item ∷ past) = mark_of id (state_after (format_of id) past).force.structure item ∷ marks_of id past

-- the data of a part that an assembly sees: its packet's bytes
abbrev pub sent_of : ReadPacket TemplateStructure → List ℕ
sent_of read = bytes_of read.packet

abbrev pub sent_marks : List (Mark (ReadPacket TemplateStructure)) → List (Mark (List ℕ))
sent_marks marks = map (mark_with sent_of) marks

-- whether a mark begins a frame
abbrev pub starts : CodeMark → Bool
starts code.Gone = false
starts code.Pad = false
starts code.Unread = false
starts (code.Part start end number continues carries) = start

-- ---- the state of a layered track

-- the stored parts of the run's first descriptor
pub record HasHead (layers : Layers) (run : Run (ReadPacket TemplateStructure)) : Type 0 where
  pub head : layers.head ≡ head_of run.first.brings.descriptor
  pub references : HasReferences layers.head
  pub structure : is_some layers.table.structure ≡ true

-- the parts of a frame's first descriptor that a table stores
pub record IsHeadOf (force : Force TemplateStructure) (d : Descriptor) (head : FrameHead) : Type 0 where
  pub is : head ≡ head_of (said_of force.structure d)
  pub references : HasReferences head

-- the frame under assembly is that of these marks
pub record IsRunning (layers : Layers) (marks : List (Mark (ReadPacket TemplateStructure))) : Type 0 where
  pub assembly : AssembledAfter layers.assembly (sent_marks marks)
  pub head : IfSome (run_of marks) (HasHead layers)

-- a layered track with this extension id represents these items
pub record IsAfterAs (id : ℕ) (layers : Layers) (past : List Item) : Type 0 where
  pub force : layers.table ≡ (state_after (format_of id) past).force
  pub running : IsRunning layers (marks_of id past)

abbrev pub IsAfter : Layers → List Item → Type 0
IsAfter layers past = IsAfterAs layers.id layers past

-- the meaning of the frame that an item makes, if it makes one
abbrev pub meaning_made : ℕ → List Item → Item → Option FrameMeaning
meaning_made id past item = option_map meaning_of (made_by_item (format_of id) (state_after (format_of id) past) item).frame

-- ---- one packet

-- if the part starts a frame, the descriptor is the frame's first
pub record HasFirst (force : Force TemplateStructure) (d : Descriptor) (part : Part (ReadPacket TemplateStructure)) : Type 0 where
  pub said : said_of force.structure d ≡ part.brings.descriptor
  pub first : IsFirst force d

abbrev pub StartsAs : Force TemplateStructure → Descriptor → Mark (ReadPacket TemplateStructure) → Type 0
StartsAs force d mark = (part : Part (ReadPacket TemplateStructure)) → mark ≡ Read part → HasFirst force d part

-- A packet with these bytes was read: its mark, what is in force then, and its descriptor.
pub record Looked (id : ℕ) (old new : Force TemplateStructure) (d : Descriptor) (mark : CodeMark) (bytes : List ℕ) : Type 0 where
  pub marked : assembled mark bytes ≡ mark_with sent_of (mark_of id old.structure (Arrived (packet_of bytes)))
  pub force : new ≡ force_of id old (Arrived (packet_of bytes))
  pub starts : StartsAs new d (mark_of id old.structure (Arrived (packet_of bytes)))
  pub structure : is_some old.structure ≡ true → is_some new.structure ≡ true

-- the meaning that was written, if one was
abbrev pub written : Bool → FrameMeaning → Option FrameMeaning
written false meaning = None
written true meaning = Some meaning

-- what a mark changes in the frame under assembly
abbrev pub framed_by : Force TemplateStructure → List (Mark (ReadPacket TemplateStructure)) → Mark (ReadPacket TemplateStructure)
    → Option (Frame TemplateStructure)
framed_by force marks mark = frame_of structures_alone force (cut_by (run_of marks) mark)

pub record Pushed (old new : Layers) (result : Option FrameMeaning) (marks : List (Mark (ReadPacket TemplateStructure)))
    (mark : Mark (ReadPacket TemplateStructure)) : Type 0 where
  pub running : IsRunning new (mark ∷ marks)
  pub force : new.table ≡ with_frame old.table (framed_by old.table marks mark)
  pub made : result ≡ option_map meaning_of (framed_by old.table marks mark)

-- the pushed mark is that of some packet, after some marks
pub record IsPushable (layers : Layers) (mark : CodeMark) (bytes : List ℕ) : Type 0 where
  pub marks : List (Mark (ReadPacket TemplateStructure))
  pub next : Mark (ReadPacket TemplateStructure)
  pub running : IsRunning layers marks
  pub same : assembled mark bytes ≡ mark_with sent_of next
  pub first : StartsAs layers.table layers.newest next

abbrev pub HasStood : Layers → Type 0
HasStood layers = (past : List Item) × IsAfter layers past
