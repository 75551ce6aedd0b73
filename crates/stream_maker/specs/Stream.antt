-- The whole stream of a seed (own rule), as the events of each packet's turn. A turn depends on the packets that were made
-- before it: those that weren't lost determine whether a packet is held back. The code stores only the packet that is held back.
use Rattle.std.specs.Prelude.{ℕ, ◌+◌, ◌-◌, ◌&&◌, not, if◌then◌else◌, List, [], ◌∷◌, ◌++◌, length, filter, count_by, Option, Some, None, is_none}
use Rattle.sfu_base.specs.Bytes.{bit}
use Rattle.stream_maker.specs.declared.place.Place.{Place}
use Rattle.stream_maker.specs.declared.counts.Counts.{Counts}
use Rattle.stream_maker.specs.declared.fate.Fate.{Fate}
use Rattle.stream_maker.specs.Packets.{moment_of, packets}
use Rattle.stream_maker.specs.Bytes.{starts_frame}
use Rattle.stream_maker.specs.Fates.{fate_of, word_at, is_lost, is_twice, is_to_be_held}
use Rattle.stream_maker.specs.Turn.{Given, tick_event, turn}

-- The number of frames, the seed of the generator, and the percentage of packets that are lost. Of the
-- remaining packets the same percentage is sent twice, and of the rest the same percentage is held back.
pub record Stream : Type 0 where
  pub frames : ℕ
  pub start : ℕ
  pub loss : ℕ

-- a packet's fate, by the word that is drawn for it
abbrev pub fate : Stream → Place → Fate
fate s p = fate_of s.loss (word_at s.start p.sequence)

-- For packets that weren't lost, the newest first. The newest is held back if its draw says so and
-- the one before it isn't held back. A packet that is held back is sent directly after the next one.
unfoldable pub held_back : Stream → List Place → Option Place
held_back s [] = None
held_back s (p ∷ before) = if is_to_be_held (fate s p) && is_none (held_back s before) then Some p else None

-- the packet that is held back after these packets were made, the newest first
unfoldable pub waiting : Stream → List Place → Option Place
waiting s made = held_back s (filter (λ p. not (is_lost (fate s p))) made)

-- the number of these packets that were held back
unfoldable pub swapped_count : Stream → List Place → ℕ
swapped_count s [] = 0
swapped_count s (p ∷ before) = swapped_count s before + bit (is_to_be_held (fate s p) && is_none (waiting s before))

-- the counts of the packets that were made
unfoldable pub counts_of : Stream → List Place → Counts
counts_of s made = record {
  frames = count_by starts_frame made;
  packets = length made;
  lost = count_by (λ p. is_lost (fate s p)) made;
  repeated = count_by (λ p. is_twice (fate s p)) made;
  swapped = swapped_count s made;
}

-- the moment of the last tick: 1,000 milliseconds after that of the last unit
abbrev pub last_moment : ℕ → ℕ
last_moment frames = moment_of (frames - 1) + 1000

-- The turns of the packets that are still to be made, after those that were made, the newest first. The last tick follows all turns.
unfoldable pub turns : Stream → List Place → List Place → List Given
turns s before [] = tick_event (counts_of s before) (last_moment s.frames) ∷ []
turns s before (p ∷ left) =
    turn s.frames (fate s p) (waiting s before) (waiting s (p ∷ before)) (counts_of s (p ∷ before)) p ++ turns s (p ∷ before) left

-- all events of a stream, in order
abbrev pub events : Stream → List Given
events s = turns s [] (packets s.frames)
