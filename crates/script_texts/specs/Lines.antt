-- The lines of a script: the table of calls. Own rule.
use Rattle.std.specs.Prelude.{ℕ, ◌<◌, List, [], ◌∷◌, length, codes}
use Rattle.sfu_base.specs.declared.call.Call.{Call}
use Rattle.sfu_base.specs.declared.call.Call.TheVariants.{Publish, Unpublish, Packet, Tick, Join, Leave, Aim, Take, Resend, Missing, KeyWanted, Plead, Why}
use Rattle.sfu_base.specs.declared.call.Kind.TheVariants.{Plain, Layered}
use Rattle.script_texts.specs.Grammar.{Place, Word, Number, Ssrc, Hex, Spells, text_of, AllWithin}

-- the places of a call's line
abbrev pub places : Call → List Place
places (Publish track Plain ssrc hold) =
    Word (codes "publish") ∷ Number 32 track ∷ Word (codes "plain") ∷ Ssrc ssrc ∷ Number 32 hold ∷ []
places (Publish track (Layered id) ssrc hold) =
    Word (codes "publish") ∷ Number 32 track ∷ Word (codes "layered") ∷ Ssrc ssrc ∷ Number 32 hold ∷ Number 8 id ∷ []
places (Unpublish track) = Word (codes "unpublish") ∷ Number 32 track ∷ []
places (Packet track moment bytes) = Word (codes "packet") ∷ Number 32 track ∷ Number 64 moment ∷ Hex bytes ∷ []
places (Tick track moment) = Word (codes "tick") ∷ Number 32 track ∷ Number 64 moment ∷ []
places (Join subscriber track ssrc first wish) =
    Word (codes "join") ∷ Number 32 subscriber ∷ Number 32 track ∷ Ssrc ssrc ∷ Number 16 first ∷ Number 8 wish.spatial ∷ Number 8 wish.temporal ∷ []
places (Leave subscriber) = Word (codes "leave") ∷ Number 32 subscriber ∷ []
places (Aim subscriber wish) = Word (codes "aim") ∷ Number 32 subscriber ∷ Number 8 wish.spatial ∷ Number 8 wish.temporal ∷ []
places (Take subscriber) = Word (codes "take") ∷ Number 32 subscriber ∷ []
places (Resend subscriber seq) = Word (codes "resend") ∷ Number 32 subscriber ∷ Number 16 seq ∷ []
places (Missing track) = Word (codes "missing") ∷ Number 32 track ∷ []
places (KeyWanted track) = Word (codes "key") ∷ Number 32 track ∷ []
places (Plead subscriber) = Word (codes "plead") ∷ Number 32 subscriber ∷ []
places (Why subscriber number) = Word (codes "why") ∷ Number 32 subscriber ∷ Number 64 number ∷ []

-- The line is one of this call.
abbrev pub IsLine : Call → List ℕ → Type 0
IsLine call line = Spells (places call) line

-- the line in its written form
abbrev pub line_of : Call → List ℕ
line_of call = text_of (places call)

-- The call has a line: each number is within its type, and a packet has 1 to 2,048 bytes.
abbrev pub HasLine : Call → Type 0
HasLine call = AllWithin (places call)

-- A packet has at least one byte; only such a call can be written.
abbrev pub HasBytes : Call → Type 0
HasBytes (Packet track moment bytes) = 0 < length bytes
HasBytes call = Unit {0}
