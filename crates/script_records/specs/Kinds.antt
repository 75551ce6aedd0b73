-- The kinds of records: their numbers, and the lengths of their bodies. Own rule.
use Rattle.std.specs.Prelude.{ℕ, ◌==◌, ◌&&◌, nat_le, Bool, false, if◌then◌else◌, List, [], ◌∷◌, length, Option, Some, None}
use Rattle.std.specs.Option.{option_map_or}
use Rattle.script_records.specs.declared.kind.RecordKind.{RecordKind}
use Rattle.script_records.specs.declared.kind.RecordKind.TheVariants.{PublishPlain, PublishLayered, Unpublish, Packet, Tick, Join, Leave, Aim, Take, Resend, Missing, KeyWanted, Plead, Why}

-- the number of a kind
abbrev pub code_of : RecordKind → ℕ
code_of PublishPlain = 1
code_of PublishLayered = 2
code_of Unpublish = 3
code_of Packet = 4
code_of Tick = 5
code_of Join = 6
code_of Leave = 7
code_of Aim = 8
code_of Take = 9
code_of Resend = 10
code_of Missing = 11
code_of KeyWanted = 12
code_of Plead = 13
code_of Why = 14

-- the kind with this number
abbrev pub kind_named : ℕ → Option RecordKind
kind_named code =
    if code == 1 then Some PublishPlain
    else if code == 2 then Some PublishLayered
    else if code == 3 then Some Unpublish
    else if code == 4 then Some Packet
    else if code == 5 then Some Tick
    else if code == 6 then Some Join
    else if code == 7 then Some Leave
    else if code == 8 then Some Aim
    else if code == 9 then Some Take
    else if code == 10 then Some Resend
    else if code == 11 then Some Missing
    else if code == 12 then Some KeyWanted
    else if code == 13 then Some Plead
    else if code == 14 then Some Why
    else None

-- whether a body of the kind may have this many bytes, including the byte of the kind
abbrev pub has_length : RecordKind → ℕ → Bool
has_length PublishPlain count = count == 13
has_length PublishLayered count = count == 14
has_length Unpublish count = count == 5
has_length Packet count = nat_le 14 count && nat_le count 2061
has_length Tick count = count == 13
has_length Join count = count == 17
has_length Leave count = count == 5
has_length Aim count = count == 7
has_length Take count = count == 5
has_length Resend count = count == 7
has_length Missing count = count == 5
has_length KeyWanted count = count == 5
has_length Plead count = count == 5
has_length Why count = count == 13

-- whether a body may begin with this number and have this many bytes in all
abbrev pub may_have : ℕ → ℕ → Bool
may_have code count = option_map_or (λ kind. has_length kind count) (kind_named code) false

-- whether the body is in the table of records: its first byte is the number of a kind, and its length is one that this kind may have
abbrev pub is_in_table : List ℕ → Bool
is_in_table [] = false
is_in_table (code ∷ fields) = may_have code (length (code ∷ fields))
