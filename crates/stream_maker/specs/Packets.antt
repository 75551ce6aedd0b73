-- Units, frames and packets in order (own rule). Unit k has frame 2k, of spatial layer 0, and frame 2k + 1, of spatial layer 1.
-- The code goes from packet to packet. Here the packets are the parts of the frames, one after another, each with its place.
use Rattle.std.specs.Prelude.{ℕ, zero, suc, ◌+◌, ◌*◌, ◌/◌, ◌%◌, ◌==◌, Bool, if◌then◌else◌, List, [], ◌∷◌, map}
use Rattle.std.specs.List.{enumerate_from, flat_map}
use Rattle.stream_maker.specs.declared.place.Place.{Place}

abbrev pub unit_of : ℕ → ℕ
unit_of frame = frame / 2

-- the frame is of spatial layer 1
abbrev pub is_upper : ℕ → Bool
is_upper frame = frame % 2 == 1

-- every 50th unit is a key unit, beginning with the first
abbrev pub is_key_unit : ℕ → Bool
is_key_unit frame = unit_of frame % 50 == 0

-- the moment of a frame's unit, in milliseconds
abbrev pub moment_of : ℕ → ℕ
moment_of frame = 33 * unit_of frame

-- an upper frame has 2 packets; a lower frame has 3 in a key unit, and otherwise 1
abbrev pub packet_count : ℕ → ℕ
packet_count frame = if is_upper frame then 2 else if is_key_unit frame then 3 else 1

-- `count` numbers, from the first on
abbrev pub numbers : ℕ → ℕ → List ℕ
numbers first zero = []
numbers first (suc count) = first ∷ numbers (first + 1) count

-- a frame's packets, each with the number of the frame and its own index in the frame
unfoldable pub parts_of : ℕ → List (ℕ × ℕ)
parts_of frame = map (λ part. (frame, part)) (numbers 0 (packet_count frame))

-- the parts of `count` frames
unfoldable pub parts_from : ℕ → ℕ → List (ℕ × ℕ)
parts_from frame count = flat_map parts_of (numbers frame count)

-- these parts as packets of the stream, numbered from the first on
unfoldable pub placed : ℕ → List (ℕ × ℕ) → List Place
placed first parts =
    map (λ e. record { sequence = e.0; frame = e.1.0; part = e.1.1 }) (enumerate_from first parts)

-- all packets of a stream of `frames` frames, in order
abbrev pub packets : ℕ → List Place
packets frames = placed 0 (parts_from 0 frames)
