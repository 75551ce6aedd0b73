-- What a maker's state represents: the events that it has yet to return. These definitions follow the state,
-- and no public clause cites them. It is proved that a new maker has yet to return the events of the stream.
use Rattle.std.specs.Prelude.{◌≡◌, ◌≤◌, ◌<◌, ℕ, ◌+◌, ◌-◌, ◌*◌, ◌==◌, ◌&&◌, Bool, true, if◌then◌else◌, List, [], ◌∷◌, ◌++◌, map, drop, replicate, not, Option, Some, None, is_some, is_none}
use Rattle.std.specs.Option.{option_to_list}
use Rattle.rand_pcg.specs.Lcg.{Lcg}
use Rattle.sfu_base.specs.Bytes.{bit}
use Rattle.stream_maker.specs.declared.place.Place.{Place}
use Rattle.stream_maker.specs.declared.due.Due.{Due}
use Rattle.stream_maker.specs.declared.state.State.{State}
use Rattle.stream_maker.specs.declared.counts.Counts.{Counts}
use Rattle.stream_maker.specs.declared.fate.Fate.{Fate}
use Rattle.stream_maker.specs.declared.fate.Fate.TheVariants.{Lost, Twice, Held, Once}
use Rattle.stream_maker.specs.Packets.{moment_of, packet_count, parts_from, placed}
use Rattle.stream_maker.specs.Bytes.{starts_frame, ends_frame}
use Rattle.stream_maker.specs.Fates.{fate_of, word_of, after_word, is_lost, is_twice, is_to_be_held}
use Rattle.stream_maker.specs.Stream.{last_moment}
use Rattle.stream_maker.specs.Giving.{Making}
use Rattle.stream_maker.specs.Turn.{Given, sent_event, tick_event, turn}

-- the packet that is held back after a turn
unfoldable pub held_after : Fate → Option Place → Place → Option Place
held_after Lost held p = held
held_after Twice held p = None
held_after Once held p = None
held_after Held None p = Some p
held_after Held (Some q) p = None

-- the number of times that a packet of this fate is sent in its own turn
abbrev pub copies : Fate → Option Place → ℕ
copies Lost held = 0
copies Twice held = 2
copies Once held = 1
copies Held held = bit (is_some held)

-- The packet that is sent after it: the packet that was held back before. At the end of the stream it may be the packet that is held back then.
unfoldable pub behind : Fate → Option Place → Place → Bool → Option Place
behind Lost held p ends = if ends then held_after Lost held p else None
behind Twice held p ends = held
behind Once held p ends = held
behind Held None p ends = if ends then held_after Held None p else None
behind Held (Some q) p ends = Some q

-- the packet after this one
abbrev pub place_after : Place → Place
place_after p =
    if ends_frame p then record { frame = p.frame + 1; part = 0; sequence = p.sequence + 1 }
    else record { frame = p.frame; part = p.part + 1; sequence = p.sequence + 1 }

unfoldable pub counts_after : Fate → Option Place → Place → Counts → Counts
counts_after fate held p counts = record {
  frames = counts.frames + bit (starts_frame p);
  packets = counts.packets + 1;
  lost = counts.lost + bit (is_lost fate);
  repeated = counts.repeated + bit (is_twice fate);
  swapped = counts.swapped + bit (is_to_be_held fate && is_none held);
}

abbrev pub due_places : Due → List Place
due_places due = replicate due.copies due.place ++ option_to_list due.behind

-- the moment of the tick that is due
abbrev pub due_tick : Due → Option ℕ
due_tick due = if due.ticks then Some (moment_of due.place.frame) else None

-- nothing is due
abbrev pub is_idle : Due → Bool
is_idle due = due.copies == 0 && is_none due.behind && not due.ticks

unfoldable pub due_events : Counts → Due → List Given
due_events counts due = map (sent_event counts) (due_places due) ++ map (tick_event counts) (option_to_list (due_tick due))

-- the packets from this one on, of a stream of `frames` frames
unfoldable pub packets_from : ℕ → Place → List Place
packets_from frames p = placed p.sequence (drop p.part (parts_from p.frame (frames - p.frame)))

-- the turns of the packets that are still to be made, and the last tick
unfoldable pub turns_left : ℕ → ℕ → Lcg → Option Place → Counts → List Place → List Given
turns_left frames loss generator held counts [] = tick_event counts (last_moment frames) ∷ []
turns_left frames loss generator held counts (p ∷ left) =
    let fate = fate_of loss (word_of generator) in
    turn frames fate held (held_after fate held p) (counts_after fate held p counts) p
    ++ turns_left frames loss (after_word generator) (held_after fate held p) (counts_after fate held p counts) left

unfoldable pub left_of : State → List Given
left_of s =
    due_events s.counts s.due
    ++ (if s.ended then [] else turns_left s.frames s.loss s.generator s.held s.counts (packets_from s.frames s.next))

abbrev pub making_of : State → Making
making_of s = record { left = left_of s; counts = s.counts }

-- a bound on the number of packets that are still to be made
abbrev pub packets_bound : State → ℕ
packets_bound s = 3 * (s.frames - s.next.frame) - s.next.part

-- Facts that always hold for a state. They imply that its numbers fit, and that its next packet exists.
pub record IsSound (s : State) : Type 0 where
  pub some_frames : 0 < s.frames
  pub few_frames : s.frames ≤ 1000000
  pub next_frame : s.next.frame ≤ s.frames
  pub next_part : s.next.part < packet_count s.next.frame
  pub first_part : s.next.frame ≡ s.frames → s.next.part ≡ 0
  pub next_sequence : s.next.sequence ≤ 3 * s.next.frame + s.next.part
  pub ended : s.ended ≡ true → s.next.frame ≡ s.frames
  pub packets : s.counts.packets ≡ s.next.sequence
  pub counted_frames : s.counts.frames ≤ s.counts.packets
  pub lost : s.counts.lost ≤ s.counts.packets
  pub repeated : s.counts.repeated ≤ s.counts.packets
  pub swapped : s.counts.swapped ≤ s.counts.packets
