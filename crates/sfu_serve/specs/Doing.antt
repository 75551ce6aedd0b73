-- The part of a session's rule (a `Deed`) that is done, as seen by a seat of a lock and a link.
use Rattle.std.specs.Prelude.{◌≡◌, ◌⊎◌, ℕ, ◌≤◌, List, [], ◌∷◌, ◌++◌, length, Option, Some, None}
use mathlib.Core.List.{IsPrefix}
use Rattle.sfu_base.specs.Links.{Traffic, with_more}
use Rattle.turn_lock.specs.declared.history.Entry.{Entry}
use Rattle.turn_lock.specs.Known.{Known, KeepsSeat, Fits}
use Rattle.session_steps.specs.Deeds.{Deed, Step, Leads, Word, received_of, said_of, sent_of}
use Rattle.sfu_serve.specs.Words.{words_of}

-- the datagram, if any, fits a buffer
abbrev pub FitsBuffer : Option (List ℕ) → Type 0
FitsBuffer None = Unit {0}
FitsBuffer (Some bytes) = length bytes ≤ 2048

abbrev pub AllFitBuffers : List (Option (List ℕ)) → Type 0
AllFitBuffers [] = Unit {0}
AllFitBuffers (got ∷ others) = FitsBuffer got × AllFitBuffers others

-- only calls that may run out of memory were answered `starved`
abbrev pub StarveWhereTheyMay : {C A : Type 0} → A → (C → Type 0) → List (Word C A) → Type 0
StarveWhereTheyMay starved MayStarve [] = Unit {0}
StarveWhereTheyMay starved MayStarve (word ∷ words) = (word.answer ≡ starved → MayStarve word.call) × StarveWhereTheyMay starved MayStarve words

-- Steps with this many receives lead from the deed `whole` to the deed `rest`, which remains. Meanwhile
-- the seat and the link's report went from old to new, and the link's count of faults went from before
-- to after. A call's answer is `reply` of the history before it, or `starved` if its entry says that
-- memory ran out. `MayStarve` says which calls may run out of memory, and `IsOne` says which bytes a
-- datagram has. If the seat made a call, `Holds` is true of the history that the seat has seen.
pub record IsDone {C A D : Type 0} (reply : List (Entry C) → C → A) (starved : A) (MayStarve : C → Type 0) (IsOne : D → List ℕ → Type 0)
    (Holds : List (Entry C) → Type 0) (whole rest : Deed C A D) (old new : Known C) (traffic traffic' : Option Traffic) (before after turns : ℕ) : Type 0 where
  pub steps : List (Step C A)
  pub leads : Leads IsOne whole steps rest
  -- the seat's calls are the earlier ones, followed by those of the steps with these answers
  pub words : words_of reply starved new.number new.seen ≡ words_of reply starved old.number old.seen ++ said_of steps
  -- only calls that may run out of memory did so
  pub memory : StarveWhereTheyMay starved MayStarve (said_of steps)
  -- the history that the seat had seen is a prefix of the history that it has seen
  pub grows : IsPrefix old.seen new.seen
  -- either the seat made no call and has seen no more, or `Holds` is true of the history that it has seen
  pub holds : (new.seen ≡ old.seen) ⊎ Holds new.seen
  -- the link also reports the receives and the datagrams of the steps
  pub link : traffic' ≡ with_more (received_of steps) (sent_of steps) traffic
  pub short : AllFitBuffers (received_of steps)
  pub count : length (received_of steps) ≡ turns
  -- no call on the link failed
  pub faults : after ≡ before
  pub seat : KeepsSeat old new
  pub fits : Fits new
