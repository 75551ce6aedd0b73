-- The text of a complaint of the strict receiver, with the number of a line. Own rule.
use Rattle.std.specs.Prelude.{ℕ, List, [], ◌∷◌, codes}
use Rattle.forwarding_model.specs.declared.complaint.Complaint.{Complaint}
use Rattle.forwarding_model.specs.declared.complaint.Complaint.TheVariants.{Unread, OtherSource, Sequence, NoStructure, NotWhole, MissingReference}
use Rattle.script_texts.specs.Grammar.{Place, Word, Number, Ssrc, text_of}

-- the places of a complaint; the numbers of packets and frames are those in the packets
abbrev pub complaint_places : Complaint → List Place
complaint_places Unread = Word (codes "unread") ∷ []
complaint_places (OtherSource had got) = Word (codes "othersource") ∷ Ssrc had ∷ Ssrc got ∷ []
complaint_places (Sequence had got) = Word (codes "sequence") ∷ Number 16 had ∷ Number 16 got ∷ []
complaint_places NoStructure = Word (codes "nostructure") ∷ []
complaint_places NotWhole = Word (codes "notwhole") ∷ []
complaint_places (MissingReference frame fdiff) = Word (codes "missingreference") ∷ Number 16 frame ∷ Number 16 fdiff ∷ []

-- the text of a complaint at a line
abbrev pub complaint_text : ℕ → Complaint → List ℕ
complaint_text line complaint = text_of (Word (codes "line") ∷ Number 32 line ∷ complaint_places complaint)
