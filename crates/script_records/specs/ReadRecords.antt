-- The call of a body, as a function, which computes on whole scripts. The code visits an array of fields by index.
use Rattle.std.specs.Prelude.{ℕ, ◌+◌, ◌/◌, if◌then◌else◌, List, [], ◌∷◌, drop, Option, Some, None}
use Rattle.byteorder.specs.Endian.{big_number}
use Rattle.sfu_base.specs.declared.call.Call.{Call}
use Rattle.sfu_base.specs.declared.call.Call.TheVariants as call
use Rattle.sfu_base.specs.declared.call.Kind.TheVariants.{Plain, Layered}
use Rattle.sfu_script.specs.Fields.{bits_of}
use Rattle.sfu_script.specs.Reading.{◌>>=◌}
use Rattle.sfu_script.specs.ReadLines.{of_one, of_two, of_three, of_six}
use Rattle.sfu_script.specs.declared.fields.Field.{Field}
use Rattle.sfu_script.specs.declared.fields.Field.TheVariants.{Number8, Number16, Number32, Number64, Ssrc}
use Rattle.script_records.specs.Kinds.{kind_named, is_in_table}
use Rattle.script_records.specs.declared.kind.RecordKind.{RecordKind}
use Rattle.script_records.specs.declared.kind.RecordKind.TheVariants as kind

-- the number of bytes of a field
abbrev pub width_of : Field → ℕ
width_of field = bits_of field / 8

-- the number of bytes of the fields
abbrev pub size_of : List Field → ℕ
size_of [] = 0
size_of (field ∷ fields) = width_of field + size_of fields

-- the numbers of the fields, one after another from the start of the bytes, in network byte order
abbrev pub numbers_at : List Field → List ℕ → List ℕ
numbers_at [] bytes = []
numbers_at (field ∷ fields) bytes = big_number (width_of field) bytes ∷ numbers_at fields (drop (width_of field) bytes)

-- a call of four numbers
abbrev pub of_four : (ℕ → ℕ → ℕ → ℕ → Call) → List ℕ → Option Call
of_four make (a ∷ b ∷ c ∷ d ∷ []) = Some (make a b c d)
of_four make numbers = None

-- the call of a kind and of the bytes after it, if there are exactly as many as the kind has
abbrev pub call_at : RecordKind → List ℕ → Option Call
call_at kind.PublishPlain bytes =
    of_three (λ track ssrc hold. call.Publish track Plain ssrc hold) (numbers_at (Number32 ∷ Ssrc ∷ Number32 ∷ []) bytes)
call_at kind.PublishLayered bytes =
    of_four (λ track ssrc hold id. call.Publish track (Layered id) ssrc hold) (numbers_at (Number32 ∷ Ssrc ∷ Number32 ∷ Number8 ∷ []) bytes)
call_at kind.Unpublish bytes = of_one (λ track. call.Unpublish track) (numbers_at (Number32 ∷ []) bytes)
call_at kind.Packet bytes = of_two (λ track moment. call.Packet track moment (drop 12 bytes)) (numbers_at (Number32 ∷ Number64 ∷ []) bytes)
call_at kind.Tick bytes = of_two (λ track moment. call.Tick track moment) (numbers_at (Number32 ∷ Number64 ∷ []) bytes)
call_at kind.Join bytes =
    of_six (λ subscriber track ssrc first spatial temporal. call.Join subscriber track ssrc first (record { spatial = spatial; temporal = temporal }))
    (numbers_at (Number32 ∷ Number32 ∷ Ssrc ∷ Number16 ∷ Number8 ∷ Number8 ∷ []) bytes)
call_at kind.Leave bytes = of_one (λ subscriber. call.Leave subscriber) (numbers_at (Number32 ∷ []) bytes)
call_at kind.Aim bytes =
    of_three (λ subscriber spatial temporal. call.Aim subscriber (record { spatial = spatial; temporal = temporal }))
    (numbers_at (Number32 ∷ Number8 ∷ Number8 ∷ []) bytes)
call_at kind.Take bytes = of_one (λ subscriber. call.Take subscriber) (numbers_at (Number32 ∷ []) bytes)
call_at kind.Resend bytes = of_two (λ subscriber seq. call.Resend subscriber seq) (numbers_at (Number32 ∷ Number16 ∷ []) bytes)
call_at kind.Missing bytes = of_one (λ track. call.Missing track) (numbers_at (Number32 ∷ []) bytes)
call_at kind.KeyWanted bytes = of_one (λ track. call.KeyWanted track) (numbers_at (Number32 ∷ []) bytes)
call_at kind.Plead bytes = of_one (λ subscriber. call.Plead subscriber) (numbers_at (Number32 ∷ []) bytes)
call_at kind.Why bytes = of_two (λ subscriber number. call.Why subscriber number) (numbers_at (Number32 ∷ Number64 ∷ []) bytes)

-- the call of a body with this first byte and these bytes after it
abbrev pub call_behind : ℕ → List ℕ → Option Call
call_behind code bytes = kind_named code >>= (λ kind. call_at kind bytes)

-- the call of a body
abbrev pub call_of : List ℕ → Option Call
call_of [] = None
call_of (code ∷ bytes) = if is_in_table (code ∷ bytes) then call_behind code bytes else None
