-- What contracts see of an assembly, and after which packets it is in that state. Lists of marks have the newest first, lists of packets the
-- oldest first. `forwarding_model` defines, for whole lists of marks, which marks make a frame.
use Rattle.std.specs.Prelude.{◌≡◌, ◌≢◌, ◌∷◌, [], ℕ, Bool, if◌then◌else◌, List, Option, None, Some, map}
use Rattle.forwarding_model.specs.frames.Cuts.{Part, Mark as CutMark, Run, Outcome as CutOutcome, parts_of, run_of, cut_of, IsWholeCut, IsUnfinishedCut, EndsIn}
use Rattle.forwarding_model.specs.frames.Cuts.Mark.{Gone, Padding, Unreadable, Read}
use Rattle.forwarding_model.specs.frames.Cuts.Outcome.{IsPadding, IsWhole, IsPartial, IsTorn}
use Rattle.frame_assembly.specs.declared.mark.Mark.{Mark}
use Rattle.frame_assembly.specs.declared.mark.Mark.TheVariants as mark
use Rattle.frame_assembly.specs.declared.mark.Outcome.{Outcome}
use Rattle.frame_assembly.specs.declared.mark.Outcome.TheVariants as made

-- a mark with its packet: a part carries the packet's bytes
abbrev pub marked : Mark → List ℕ → CutMark (List ℕ)
marked mark.Gone bytes = Gone
marked mark.Pad bytes = Padding
marked mark.Unread bytes = Unreadable
marked (mark.Part start end number continues carries) bytes =
    Read (record { start = start; end = end; number = number; continues = continues; carries = carries; brings = bytes })

-- the outcome that a call returns
abbrev pub answer : CutOutcome → Outcome
answer IsPadding = made.Pad
answer IsWhole = made.Whole
answer IsPartial = made.Partial
answer IsTorn = made.Torn

-- the marks end in a whole cut, or in an unfinished one
abbrev pub EndsWhole : List (CutMark (List ℕ)) → Type 0
EndsWhole marks = (parts : List (Part (List ℕ))) × IsWholeCut parts × EndsIn marks parts

abbrev pub EndsUnfinished : List (CutMark (List ℕ)) → Type 0
EndsUnfinished marks = (parts : List (Part (List ℕ))) × IsUnfinishedCut parts × EndsIn marks parts

-- the mark isn't padding, and the marks up to it end in neither a whole nor an unfinished cut
abbrev pub EndsNothing : CutMark (List ℕ) → List (CutMark (List ℕ)) → Type 0
EndsNothing mark past = (mark ≢ Padding) × (EndsWhole (mark ∷ past) → ⊥) × (EndsUnfinished (mark ∷ past) → ⊥)

-- an unfinished frame: its frame number, whether an element is open, and the bytes of its packets
pub record Unfinished : Type 0 where
  pub number : ℕ
  pub open_element : Bool
  pub packets : List (List ℕ)

-- The frame under assembly, if there is one, and the packets of the frame that the last call completed, if it completed one.
pub record Seen : Type 0 where
  pub unfinished : Option Unfinished
  pub frame : List (List ℕ)

abbrev pub packets_of : Run (List ℕ) → List (List ℕ)
packets_of run = map (λ p. p.brings) (parts_of run)

-- the unfinished frame of a run
abbrev pub unfinished_of : Option (Run (List ℕ)) → Option Unfinished
unfinished_of None = None
unfinished_of (Some run) =
    if run.newest.end then None
    else Some (record { number = run.first.number; open_element = run.newest.carries; packets = packets_of run })

abbrev pub frame_of : Option (Run (List ℕ)) → List (List ℕ)
frame_of None = []
frame_of (Some run) = packets_of run

-- the assembly is in the state after these marks with their packets
pub record IsAfter (assembly : Seen) (past : List (CutMark (List ℕ))) : Type 0 where
  pub unfinished : assembly.unfinished ≡ unfinished_of (run_of past)
  pub frame : assembly.frame ≡ frame_of (cut_of past)
