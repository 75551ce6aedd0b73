-- The place of a packet among the packets of its frame, unit and stream (own rule).
use Rattle.std.specs.Prelude.{ℕ, ◌-◌, ◌==◌, ◌&&◌, ◌||◌, Bool, if◌then◌else◌, Option, Some, None}
use Rattle.stream_maker.specs.declared.place.Place.{Place}
use Rattle.stream_maker.specs.Packets.{is_upper, moment_of}
use Rattle.stream_maker.specs.Bytes.{ends_frame}

-- the packet is the last one of a stream of `frames` frames
abbrev pub ends_stream : ℕ → Place → Bool
ends_stream frames p = p.frame == frames - 1 && ends_frame p

-- The last packet of a unit is followed by a tick at the unit's moment. The last unit may lack its upper frame.
abbrev pub tick_due : ℕ → Place → Option ℕ
tick_due frames p = if ends_stream frames p || is_upper p.frame && ends_frame p then Some (moment_of p.frame) else None
