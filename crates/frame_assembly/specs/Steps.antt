-- How one mark changes what contracts see. These definitions are only for private functions; contracts of public calls are about whole lists of marks.
use Rattle.std.specs.Prelude.{◌++◌, ◌∷◌, [], ℕ, ◌==◌, ◌&&◌, nat_lt, Bool, false, if◌then◌else◌, List, Option, None, Some, length}
use Rattle.std.specs.Bool.{beq}
use Rattle.forwarding_model.specs.frames.Cuts.{Part, Mark as CutMark}
use Rattle.forwarding_model.specs.frames.Cuts.Mark.{Gone, Padding, Unreadable, Read}
use Rattle.frame_assembly.specs.declared.mark.Outcome.{Outcome}
use Rattle.frame_assembly.specs.declared.mark.Outcome.TheVariants as made
use Rattle.frame_assembly.specs.Assembled.{Seen, Unfinished}

abbrev pub nothing : Seen
nothing = record { unfinished = None; frame = [] }

-- the frame that a start begins, still without packets
abbrev pub begun : ℕ → Unfinished
begun number = record { number = number; open_element = false; packets = [] }

abbrev pub begun_at : Part (List ℕ) → Option Unfinished → Option Unfinished
begun_at part u = if part.start then Some (begun part.number) else u

-- the frame with one more packet, of this number, Z and Y, if the packet continues the frame
abbrev pub continued : Option Unfinished → ℕ → Bool → Bool → List ℕ → Option Unfinished
continued None number continues carries bytes = None
continued (Some u) number continues carries bytes =
    if number == u.number && (beq continues u.open_element && nat_lt (length u.packets) 512)
    then Some (record { number = number; open_element = carries; packets = u.packets ++ bytes ∷ [] })
    else None

abbrev pub with_part : Option Unfinished → Part (List ℕ) → Option Unfinished
with_part u part = continued (begun_at part u) part.number part.continues part.carries part.brings

-- what contracts see after a part that may end the frame, and the outcome
abbrev pub ended : Bool → Option Unfinished → Seen
ended end None = nothing
ended end (Some u) =
    if end then (if u.open_element then nothing else record { unfinished = None; frame = u.packets }) else record { unfinished = Some u; frame = [] }

abbrev pub answered : Bool → Option Unfinished → Outcome
answered end None = made.Torn
answered end (Some u) = if end then (if u.open_element then made.Torn else made.Whole) else made.Partial

abbrev pub pushed : Seen → CutMark (List ℕ) → Seen
pushed a Gone = nothing
pushed a Padding = record { unfinished = a.unfinished; frame = [] }
pushed a Unreadable = nothing
pushed a (Read part) = ended part.end (with_part a.unfinished part)

abbrev pub made_of : Seen → CutMark (List ℕ) → Outcome
made_of a Gone = made.Torn
made_of a Padding = made.Pad
made_of a Unreadable = made.Torn
made_of a (Read part) = answered part.end (with_part a.unfinished part)
