-- The texts of replies, without their line end. Own rule.
use Rattle.std.specs.Prelude.{ℕ, Bool, true, false, Option, Some, None, List, [], ◌∷◌, ◌++◌, map, codes, decimal}
use Rattle.hex.specs.Hex.{IsBytes}
use Rattle.sfu_base.specs.Answer.{Answer, Done, Sent, Named, KeyIs, CauseIs, Refused}
use Rattle.sfu_base.specs.declared.call.Reply.{Reply}
use Rattle.sfu_base.specs.declared.call.Reply.TheVariants as reply
use Rattle.sfu_base.specs.declared.call.Refusal.{Refusal}
use Rattle.sfu_base.specs.declared.call.Refusal.TheVariants as refusal
use Rattle.sfu_base.specs.declared.call.RtpFault.{RtpFault}
use Rattle.sfu_base.specs.declared.call.RtpFault.TheVariants.{Short, Version, Csrc, Extension, Padding}
use Rattle.sfu_base.specs.declared.frame.Verdict.{Verdict}
use Rattle.sfu_base.specs.declared.frame.Verdict.TheVariants.{Passed, NotOfTarget, Behind, Reference, Full, Link, Unopened, Hole}
use Rattle.script_texts.specs.Grammar.{Place, Word, Number, Ssrc, Hex, text_of, AllWithin}

-- the number, or the word `none`
abbrev pub or_none : ℕ → Option ℕ → Place
or_none bits None = Word (codes "none")
or_none bits (Some n) = Number bits n

-- the reason why a frame was or wasn't forwarded
abbrev pub verdict_places : Verdict → List Place
verdict_places Passed = Word (codes "passed") ∷ []
verdict_places (NotOfTarget target) = Word (codes "notoftarget") ∷ or_none 8 target ∷ []
verdict_places (Behind fdiff start) = Word (codes "behind") ∷ Number 16 fdiff ∷ Number 64 start ∷ []
verdict_places (Reference number) = Word (codes "reference") ∷ Number 64 number ∷ []
verdict_places (Full queued needed) = Word (codes "full") ∷ Number 16 queued ∷ Number 16 needed ∷ []
verdict_places (Link at number) = Word (codes "link") ∷ Number 64 at ∷ Number 64 number ∷ []
verdict_places (Unopened since) = Word (codes "unopened") ∷ Number 64 since ∷ []
verdict_places (Hole below above) = Word (codes "hole") ∷ or_none 64 below ∷ Number 64 above ∷ []

-- the word for a fault of RTP
abbrev pub fault_word : RtpFault → List ℕ
fault_word Short = codes "short"
fault_word Version = codes "version"
fault_word Csrc = codes "csrc"
fault_word Extension = codes "extension"
fault_word Padding = codes "padding"

-- a refusal begins with the word `refused`; only two refusals have other texts
abbrev pub refused : List Place → List Place
refused places = Word (codes "refused") ∷ places

abbrev pub refusal_places : Refusal → List Place
refusal_places refusal.NoTrack = refused (Word (codes "notrack") ∷ [])
refusal_places refusal.NoSubscriber = refused (Word (codes "nosubscriber") ∷ [])
refusal_places (refusal.NumberUsed highest) = refused (Word (codes "numberused") ∷ Number 32 highest ∷ [])
refusal_places (refusal.TooMany live) = refused (Word (codes "toomany") ∷ Number 32 live ∷ [])
refusal_places refusal.BadExtensionId = refused (Word (codes "badextensionid") ∷ [])
refusal_places (refusal.TooBig len) = refused (Word (codes "toobig") ∷ Number 32 len ∷ [])
refusal_places (refusal.Unreadable fault) = refused (Word (codes "unreadable") ∷ Word (fault_word fault) ∷ [])
refusal_places (refusal.WrongSsrc got wanted) = refused (Word (codes "wrongssrc") ∷ Ssrc got ∷ Ssrc wanted ∷ [])
refusal_places refusal.Spent = refused (Word (codes "spent") ∷ [])
refusal_places (refusal.Late next) = refused (Word (codes "late") ∷ Number 64 next ∷ [])
refusal_places refusal.Repeat = refused (Word (codes "repeat") ∷ [])
refusal_places refusal.Empty = Word (codes "empty") ∷ []
refusal_places (refusal.NotKept oldest next) = Word (codes "notkept") ∷ Number 16 oldest ∷ Number 16 next ∷ []
refusal_places (refusal.Ahead newest) = refused (Word (codes "ahead") ∷ or_none 64 newest ∷ [])
refusal_places (refusal.TooOld oldest) = refused (Word (codes "tooold") ∷ Number 64 oldest ∷ [])
refusal_places refusal.Plain = refused (Word (codes "plain") ∷ [])
refusal_places refusal.NoMemory = refused (Word (codes "nomemory") ∷ [])

-- the word that says whether a key frame is wanted
abbrev pub key_word : Bool → List ℕ
key_word true = codes "yes"
key_word false = codes "no"

-- the places of an answer's text
abbrev pub answer_places : Answer → List Place
answer_places Done = Word (codes "ok") ∷ []
answer_places (Sent bytes) = Word (codes "packet") ∷ Hex bytes ∷ []
answer_places (Named numbers) = Word (codes "missing") ∷ map (λ n. Number 16 n) numbers
answer_places (KeyIs wanted) = Word (codes "key") ∷ Word (key_word wanted) ∷ []
answer_places (CauseIs verdict) = verdict_places verdict
answer_places (Refused why) = refusal_places why

-- the text of an answer
abbrev pub answer_text : Answer → List ℕ
answer_text answer = text_of (answer_places answer)

-- An answer that a room can return: each number is within its type, and a packet consists of bytes.
abbrev pub HasText : Answer → Type 0
HasText (Sent bytes) = IsBytes bytes
HasText answer = AllWithin (answer_places answer)

-- A reply whose text has a bounded length: any reply but packets and numbers.
abbrev pub IsShort : Reply → Type 0
IsShort reply.Packet = ⊥
IsShort reply.Names = ⊥
IsShort answered = Unit {0}

-- the text that names a line outside the grammar
abbrev pub line_fault_text : ℕ → List ℕ
line_fault_text line = codes "line " ++ decimal line

-- the text that names a record outside the grammar
abbrev pub record_fault_text : ℕ → List ℕ
record_fault_text record_number = codes "record " ++ decimal record_number

-- the text that names the line of a packet that completes a frame in which an element isn't an OBU
abbrev pub obu_text : ℕ → List ℕ
obu_text line = text_of (Word (codes "line") ∷ Number 32 line ∷ Word (codes "obu") ∷ [])
