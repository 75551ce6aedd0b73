-- An IVF file of AV1: a header, and temporal units, each with its size and its time. There is no standard for IVF; this is the format that
-- `dav1d`, `ffmpeg` and libvpx read. Numbers are little-endian. A temporal unit begins with a temporal delimiter (AV1 Bitstream Specification,
-- section 7.5), and its frames have one RTP timestamp, of 90,000 ticks a second (RTP Payload Format For AV1, section 4.1). Where units end is
-- an own rule. The code stores the whole file, and rewrites the newest unit's size and the number of units when a frame ends.
use Rattle.std.specs.Prelude.{ℕ, ◌+◌, ◌-◌, ◌%◌, ◌^◌, ◌==◌, ◌&&◌, Bool, nat_le, if◌then◌else◌, List, [], ◌∷◌, ◌++◌, length, codes, Option, Some, None}
use Rattle.std.specs.Int.{to_le_bytes, w16, w32, w64}
use Rattle.std.specs.List.{flat_map}
use Rattle.dd_structure.specs.TemplateStructure.{TemplateStructure}

-- ---- temporal units

-- a recorded frame: its RTP timestamp, and the bytes of its OBUs
pub record RecordedFrame : Type 0 where
  pub timestamp : ℕ
  pub bytes : List ℕ

-- consecutive frames with one RTP timestamp: the timestamp, the time in ticks since the first unit, and a temporal delimiter with the frames' OBUs
pub record TemporalUnit : Type 0 where
  pub timestamp : ℕ
  pub time : ℕ
  pub bytes : List ℕ

-- a temporal delimiter: obu_type 2, obu_has_size_field 1, and a size field of 0
abbrev pub delimiter : List ℕ
delimiter = 18 ∷ 0 ∷ []

-- the largest number of bytes of a unit with more than one frame (own rule)
abbrev pub most_unit : ℕ
most_unit = 16777216

abbrev pub begins : ℕ → RecordedFrame → TemporalUnit
begins time content = record { timestamp = content.timestamp; time = time; bytes = delimiter ++ content.bytes }

abbrev pub grown : TemporalUnit → RecordedFrame → TemporalUnit
grown unit content = record { timestamp = unit.timestamp; time = unit.time; bytes = unit.bytes ++ content.bytes }

-- the frame has the unit's timestamp, and the unit doesn't get too long
abbrev pub joins : TemporalUnit → RecordedFrame → Bool
joins unit content = unit.timestamp == content.timestamp && nat_le (length unit.bytes + length content.bytes) most_unit

-- the number of ticks from one timestamp to a later one, modulo 2^32
abbrev pub ticks_after : ℕ → ℕ → ℕ
ticks_after before later = (later + 2 ^ 32 - before) % 2 ^ 32

-- the time of the next unit, modulo 2^64 (own rule)
abbrev pub next_time : TemporalUnit → RecordedFrame → ℕ
next_time unit content = (unit.time + ticks_after unit.timestamp content.timestamp) % 2 ^ 64

-- the unit, continued with the first of these frames, and the units after it
abbrev pub units_from : TemporalUnit → List RecordedFrame → List TemporalUnit
units_from unit [] = unit ∷ []
units_from unit (content ∷ more) =
    if joins unit content then units_from (grown unit content) more else unit ∷ units_from (begins (next_time unit content) content) more

-- the units of these frames; the first unit's time is 0
abbrev pub units_of : List RecordedFrame → List TemporalUnit
units_of [] = []
units_of (content ∷ more) = units_from (begins 0 content) more

-- ---- the file

-- a unit's size in bytes, its time, and its bytes
abbrev pub unit_bytes : TemporalUnit → List ℕ
unit_bytes unit = to_le_bytes w32 (length unit.bytes % 2 ^ 32) ++ (to_le_bytes w64 unit.time ++ unit.bytes)

-- a width and a height in pixels
pub record Size : Type 0 where
  pub width : ℕ
  pub height : ℕ

abbrev pub no_size : Size
no_size = record { width = 0; height = 0 }

-- the last resolution, which is that of the highest spatial id, or 0 and 0 if there is none (own rule)
abbrev pub last_size : List (ℕ × ℕ) → Size
last_size [] = no_size
last_size (r ∷ []) = record { width = r.0; height = r.1 }
last_size (r ∷ q ∷ others) = last_size (q ∷ others)

abbrev pub size_in : Option TemplateStructure → Size
size_in None = no_size
size_in (Some structure) = last_size structure.resolutions

-- `DKIF`, version 0, the length of the header in bytes, and the codec's name
abbrev pub signature : List ℕ
signature = codes "DKIF" ++ to_le_bytes w16 0 ++ to_le_bytes w16 32 ++ codes "AV01"

-- the rate of the times: 90,000 ticks in 1 second
abbrev pub rate_bytes : List ℕ
rate_bytes = to_le_bytes w32 90000 ++ to_le_bytes w32 1

-- width and height modulo 65,536, the rate, how many units there are modulo 2^32 (own rule), and four zero bytes
abbrev pub header : Size → ℕ → List ℕ → List ℕ
header size count rest =
    signature ++ (to_le_bytes w16 (size.width % 65536) ++ (to_le_bytes w16 (size.height % 65536)
    ++ (rate_bytes ++ (to_le_bytes w32 (count % 2 ^ 32) ++ (to_le_bytes w32 0 ++ rest)))))

-- the whole file
abbrev pub ivf : Size → List RecordedFrame → List ℕ
ivf size contents = header size (length (units_of contents)) (flat_map unit_bytes (units_of contents))
