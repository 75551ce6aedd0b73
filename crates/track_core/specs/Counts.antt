-- The counters of a track since its publish. Own rules. The code adds to five counters at each item. The definitions count in the lists of all
-- pieces, of all items, and of all frames that the items made.
use Rattle.std.specs.Prelude.{◌+◌, ◌-◌, ◌≤◌, ◌*◌, ℕ, Bool, true, false, if◌then◌else◌, List, [], ◌∷◌, Option, None, Some, is_some, length}
use Rattle.dd_structure.specs.TemplateStructure.{TemplateStructure}
use Rattle.forwarding_model.specs.forwarding.Timeline.{Frame}
use Rattle.forwarding_model.specs.frames.Frames.{Item, frames_after}
use Rattle.forwarding_model.specs.frames.Frames.Item.{Missing, Arrived}
use Rattle.packet_format.specs.Formats.{format_of}
use Rattle.reorder_window.specs.declared.arrival.Item.{Item as OrderItem}
use Rattle.reorder_window.specs.declared.arrival.Item.TheVariants as item
use Rattle.reorder_window.specs.Events.{Piece, Got, Gone}
use Rattle.track_core.specs.declared.counts.Tally.{Tally}
use Rattle.track_core.specs.declared.counts.TrackCounts.{TrackCounts}
use Rattle.track_core.specs.declared.track.Made.{Made}
use Rattle.track_core.specs.declared.track.Made.TheVariants as made
use Rattle.track_core.specs.Pieces.{items_of}

-- ---- counts of lists

-- how many packets are among the items
abbrev pub arrived_in : List Item → ℕ
arrived_in [] = 0
arrived_in (Missing ∷ items) = arrived_in items
arrived_in (Arrived packet ∷ items) = arrived_in items + 1

-- a count plus the number of sequence numbers that one more piece gives up, the first and the last included
abbrev pub and_given_up : Piece → ℕ → ℕ
and_given_up (Got h) n = n
and_given_up (Gone from to) n = n + (to + 1 - from)

-- how many numbers were given up
abbrev pub given_up_in : List Piece → ℕ
given_up_in [] = 0
given_up_in (piece ∷ more) = and_given_up piece (given_up_in more)

abbrev pub add_where : Bool → ℕ → ℕ
add_where true n = n + 1
add_where false n = n

abbrev pub key_frames_in : List (Frame TemplateStructure) → ℕ
key_frames_in [] = 0
key_frames_in (frame ∷ frames) = add_where frame.meaning.key (key_frames_in frames)

-- how many packets these frames have
abbrev pub packets_in_frames : List (Frame TemplateStructure) → ℕ
packets_in_frames [] = 0
packets_in_frames (frame ∷ frames) = packets_in_frames frames + length frame.packets

-- ---- the counts of a track

-- the frames that these items made whole on a track with this extension id; none on a plain track
abbrev pub frames_on : Option ℕ → List Item → List (Frame TemplateStructure)
frames_on None items = []
frames_on (Some id) items = frames_after (format_of id) items

abbrev pub tally_of : List (Frame TemplateStructure) → ℕ → ℕ → Tally
tally_of frames arrived given_up = record {
  arrived = arrived;
  given_up = given_up;
  frames = length frames;
  key_frames = key_frames_in frames;
  framed = packets_in_frames frames;
}

-- the counters after these pieces (the oldest first)
abbrev pub tally_after : Option ℕ → List Piece → Tally
tally_after id worked = tally_of (frames_on id (items_of worked)) (arrived_in (items_of worked)) (given_up_in worked)

-- the reported counters; for a layered track, they have the packets that are in no whole frame
abbrev pub counts_by : Bool → Tally → TrackCounts
counts_by layered tally = record {
  arrived = tally.arrived;
  given_up = tally.given_up;
  frames = tally.frames;
  key_frames = tally.key_frames;
  unframed = if layered then tally.arrived - tally.framed else 0;
}

abbrev pub counts_after : Option ℕ → List Piece → TrackCounts
counts_after id worked = counts_by (is_some id) (tally_after id worked)

-- ---- one item more

abbrev pub no_tally : Tally
no_tally = record { arrived = 0; given_up = 0; frames = 0; key_frames = 0; framed = 0 }

-- a count plus the number of sequence numbers that one more item gives up
abbrev pub and_gone : OrderItem → ℕ → ℕ
and_gone (item.Got number moment) n = n
and_gone (item.Gone from to) n = n + (to + 1 - from)

abbrev pub counted_item : OrderItem → Tally → Tally
counted_item (item.Got number moment) t = record t { arrived = t.arrived + 1 }
counted_item (item.Gone from to) t = record t { given_up = t.given_up + (to + 1 - from) }

-- the counters with one more frame, a key frame or not, that has this number of packets
abbrev pub framed_once : Bool → ℕ → Tally → Tally
framed_once key packets t = record t { frames = t.frames + 1; key_frames = add_where key t.key_frames; framed = t.framed + packets }

abbrev pub counted_made : Made → ℕ → Tally → Tally
counted_made made.Idle packets t = t
counted_made made.Nothing packets t = t
counted_made made.Packet packets t = t
counted_made (made.Frame meaning) packets t = framed_once meaning.key packets t

-- the greatest counters that n items can lead to
pub record IsSmall (tally : Tally) (n : ℕ) : Type 0 where
  pub arrived : tally.arrived ≤ n
  pub frames : tally.frames ≤ n
  pub key_frames : tally.key_frames ≤ n
  pub framed : tally.framed ≤ 65536 * n
