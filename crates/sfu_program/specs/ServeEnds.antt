-- The lines of sessions that ended. Own rule.
use Rattle.std.specs.Prelude.{ℕ, ◌+◌, ◌&&◌, Bool, true, false, List, [], ◌∷◌, ◌++◌, map, Option, Some, None}
use Rattle.script_texts.specs.Ends.{end_text}
use Rattle.sfu_serve.specs.declared.ends.SessionEnd.{SessionEnd}
use Rattle.sfu_serve.specs.declared.ends.SessionEnd.TheVariants.{AllTurns, LinkFault, Worn}
use Rattle.sfu_serve.specs.declared.run.Ended.{Ended}

-- the turn in which a session's link failed, if it failed
abbrev pub fault_of : SessionEnd → Option ℕ
fault_of AllTurns = None
fault_of (LinkFault turn) = Some turn
fault_of Worn = None

-- the line of the session with this number
abbrev pub end_line : ℕ → SessionEnd → List ℕ
end_line number end = end_text number (fault_of end) ++ 10 ∷ []

-- the lines of sessions; the first session has this number
abbrev pub ends_text : ℕ → List SessionEnd → List ℕ
ends_text number [] = []
ends_text number (end ∷ ends) = end_line number end ++ ends_text (number + 1) ends

-- the ends of these sessions
abbrev pub ends_of : {L : Type 0} → List (Ended L) → List SessionEnd
ends_of ended = map (λ session. session.end) ended

abbrev pub is_all : SessionEnd → Bool
is_all AllTurns = true
is_all end = false

-- all sessions made all their turns
abbrev pub all_made : List SessionEnd → Bool
all_made [] = true
all_made (end ∷ ends) = is_all end && all_made ends

-- the session didn't find that all tickets of the lock were drawn
abbrev pub IsUnworn : SessionEnd → Type 0
IsUnworn AllTurns = Unit {0}
IsUnworn (LinkFault turn) = Unit {0}
IsUnworn Worn = ⊥

abbrev pub AreUnworn : List SessionEnd → Type 0
AreUnworn [] = Unit {0}
AreUnworn (end ∷ ends) = IsUnworn end × AreUnworn ends
