-- The head, which is kept of a frame's first descriptor until the frame is whole, and the frame's meaning then.
use Rattle.std.specs.Prelude.{◌≤◌, ◌<◌, ℕ, Bool, true, false, if◌then◌else◌, slice_index, Option, None, Some, Result, Ok, Err}
use Rattle.sfu_base.specs.declared.frame.FrameMeaning.{FrameMeaning}
use Rattle.sfu_base.specs.Frame.{IsDistance}
use Rattle.wrap_number.specs.Number.{is_above, number_above}
use Rattle.forwarding_model.specs.frames.Reading.{Descriptor as Said, Layout, is_key_start}
use Rattle.forwarding_model.specs.frames.Frames.{Force}
use Rattle.dd_structure.specs.TemplateStructure.{TemplateStructure}
use Rattle.dd_layout.specs.Layouts.{layout_of}
use Rattle.frame_table.specs.declared.table.FrameHead.{FrameHead}
use Rattle.frame_table.specs.declared.table.Stale.{Stale}
use Rattle.frame_table.specs.Seen.{newest_after}

abbrev pub head_of : Said TemplateStructure → FrameHead
head_of d = record {
  key = is_key_start d;
  number = d.number;
  spatial = d.spatial;
  temporal = d.temporal;
  dtis = d.dtis;
  links = d.links;
  ref_count = d.ref_count;
  refs = d.refs;
}

-- the head has at most 16 references, each 1 to 4,096 frame numbers back
pub record HasReferences (head : FrameHead) : Type 0 where
  pub few : head.ref_count ≤ 16
  pub distances : (i : ℕ) → i < head.ref_count → IsDistance (slice_index head.refs i)

-- the same number and meaning as `number_of` and `meaning_by` of the first descriptor
abbrev pub number_at : Force TemplateStructure → FrameHead → Option ℕ
number_at force head =
    if head.key then Some force.start
    else (if is_above force.newest head.number then Some (number_above force.newest head.number) else None)

abbrev pub meaning_at : Layout → Force TemplateStructure → ℕ → FrameHead → FrameMeaning
meaning_at layout force number head = record {
  number = number;
  start = force.start;
  epoch = force.epoch;
  spatial = head.spatial;
  temporal = head.temporal;
  key = head.key;
  mask = force.mask;
  target_count = layout.target_count;
  dtis = head.dtis;
  pairs = layout.pairs;
  chain_count = layout.chain_count;
  guards = layout.guards;
  links = head.links;
  ref_count = head.ref_count;
  refs = head.refs;
}

abbrev pub or_stale : ℕ → Option ℕ → Result ℕ Stale
or_stale newest None = Err (record { newest = newest })
or_stale newest (Some number) = Ok number

abbrev pub number_or_stale : Force TemplateStructure → FrameHead → Result ℕ Stale
number_or_stale force head = or_stale force.newest (number_at force head)

abbrev pub meant_with_head : TemplateStructure → Force TemplateStructure → FrameHead → Option ℕ → Result FrameMeaning Stale
meant_with_head s force head None = Err (record { newest = force.newest })
meant_with_head s force head (Some number) = Ok (meaning_at (layout_of s) force number head)

abbrev pub meant_at : TemplateStructure → Force TemplateStructure → FrameHead → Result FrameMeaning Stale
meant_at s force head = meant_with_head s force head (number_at force head)

-- the meaning, if one was written, otherwise `Stale`
abbrev pub written_or_stale : Bool → FrameMeaning → ℕ → Result FrameMeaning Stale
written_or_stale false meaning newest = Err (record { newest = newest })
written_or_stale true meaning newest = Ok meaning

abbrev pub numbered_at : Force TemplateStructure → FrameHead → Force TemplateStructure
numbered_at force head = record force { newest = newest_after (number_at force head) force.newest }
