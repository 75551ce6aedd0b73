-- The effect of serving a session's calls on a room. Own rule. The code stores no history.
use Rattle.std.specs.Prelude.{◌≡◌, ◌⊎◌, IsTrue, ℕ, Bool, if◌then◌else◌, List, [], ◌∷◌, ◌++◌, Option}
use Rattle.sfu_base.specs.Answer.{Answer, Refused}
use Rattle.sfu_base.specs.declared.call.Refusal.TheVariants.{NoMemory}
use Rattle.room_core.specs.Content.{TakesMemory}
use Rattle.room_core.specs.History.{Entry, reply_of}
use Rattle.room_core.specs.Noted.{Noted}
use Rattle.room_core.specs.Serves.{Stands, StandsHeadline, recorder_may_refuse}
use Rattle.room_core.specs.declared.room.Room.{Room}
use Rattle.session_steps.specs.Deeds.{Ask}
use Rattle.session_steps.specs.Sessions.{Doing}
use Rattle.session_steps.specs.Stepping.{GoesOn, Waits}
use Rattle.session_steps.specs.declared.session.Output.{Output}
use Rattle.session_steps.specs.declared.session.Output.TheVariants.{Nothing}

-- the room represents some history
abbrev pub HasHistory : {R : Type 0} → (R → Option (List Noted)) → Room R → Type 0
HasHistory noted room = ∥ ((history : List Entry) × Stands noted room history) ∥₁

-- the answer to an entry's call after a history: that of the history, or `NoMemory` if the entry is starved
abbrev pub answer_at : List Entry → Entry → Answer
answer_at history e = if e.starved then Refused NoMemory else reply_of history e.call

-- This seat made the session's next calls after this history, one call for each of these entries. By the answers to them, `rest` remains of the session.
abbrev pub AreMade : ℕ → List Entry → Doing → List Entry → Doing → Type 0
AreMade seat history d [] rest = d ≡ rest
AreMade seat history (Ask call f) (e ∷ es) rest = (e.seat ≡ seat) × (e.call ≡ call) × AreMade seat (history ++ e ∷ []) (f (answer_at history e)) es rest
AreMade seat history d (e ∷ es) rest = ⊥

-- entries are starved only if their calls allocate memory, or the recorder may refuse
abbrev pub HaveCause : Bool → List Entry → Type 0
HaveCause refuses [] = Unit {0}
HaveCause refuses (e ∷ es) = (IsTrue e.starved → TakesMemory e.call ⊎ IsTrue refuses) × HaveCause refuses es

-- The calls of a session were made on a room, up to the next datagram to send. `before`
-- and `after` say what remains of the session, for each number of remaining turns.
pub record Works {R : Type 0} (noted : R → Option (List Noted)) (may_refuse : R → Bool) (old new : Room R) (seat : ℕ) (before after : ℕ → Doing)
    (bytes : List ℕ) (output : Output) : Type 0 where
  -- the entries of the calls that were made, in order
  pub made : List Entry
  -- whatever history the room represented, it then represents that history with these entries
  pub stands : (history : List Entry) → Stands noted old history → Stands noted new (history ++ made)
  -- these are the session's next calls; by that history's answers the session continues at
  -- once or, if the output is a packet, after these bytes were sent as its next datagram
  pub goes_on : (history : List Entry) → Stands noted old history → (turns : ℕ)
      → (rest : Doing) × AreMade seat history (before turns) made rest × GoesOn rest (after turns) bytes output
  -- if nothing is to be sent, no call remains
  pub ends : output ≡ Nothing → (turns : ℕ) → Waits (after turns) turns
  pub memory : HaveCause (recorder_may_refuse may_refuse old) made
  -- the guarantees (`Headline`) hold for the room's history, unless no call was made
  pub headline : (new ≡ old) ⊎ StandsHeadline noted new
