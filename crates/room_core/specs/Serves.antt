-- The history that a room represents, and the effect of a call on the room.
use Rattle.std.specs.Prelude.{◌≡◌, ◌≢◌, ◌⊎◌, IsTrue, ℕ, Bool, false, List, [], ◌∷◌, ◌++◌, Option, IfSome}
use Rattle.sfu_base.specs.Answer.{answer_of, is_starved}
use Rattle.sfu_base.specs.declared.call.Call.{Call}
use Rattle.sfu_base.specs.declared.call.Reply.{Reply}
use Rattle.sfu_base.specs.declared.call.Reply.TheVariants.{Packet, Names}
use Rattle.sfu_base.specs.declared.call.Scratch.{Scratch}
use Rattle.room_core.specs.declared.room.Room.{Room}
use Rattle.room_core.specs.Noted.{Noted}
use Rattle.room_core.specs.History.{Entry, accepted, is_accepted, kept, reply_of}
use Rattle.room_core.specs.Content.{IsAfter, TakesMemory}
use Rattle.room_core.specs.WellFormed.{AreWellFormed}
use Rattle.room_core.specs.Headline.{Headline}
use Rattle.room_core.specs.Sendable.{IsSendable}

-- The room represents this history. Its content is in the state after the accepted calls, and these calls are well
-- formed. If its recorder shows its calls, the recorder has the seats and calls of all entries that weren't starved.
pub record Stands {R : Type 0} (noted : R → Option (List Noted)) (room : Room R) (history : List Entry) : Type 0 where
  pub content_is : IsAfter room.content (accepted history)
  pub well_formed : AreWellFormed (accepted history)
  pub keeps : IfSome (noted room.recorder) (λ notes. notes ≡ kept history)

-- For each history that the room represented: the reply is the answer after that history, unless the reply is `NoMemory`.
-- Afterwards the room represents the history with this entry added. The entry is starved if and only if the reply is `NoMemory`.
pub record Serves {R : Type 0} (noted : R → Option (List Noted)) (old new : Room R) (seat : ℕ) (call : Call) (reply : Reply)
    (bytes numbers : List ℕ) : Type 0 where
  pub answered : (history : List Entry) → Stands noted old history → is_starved reply ≡ false → answer_of reply bytes numbers ≡ reply_of history call
  pub stands : (history : List Entry) → Stands noted old history
      → Stands noted new (history ++ record { seat = seat; call = call; starved = is_starved reply } ∷ [])

-- `Headline` is true of each history that the room represents
abbrev pub StandsHeadline : {R : Type 0} → (R → Option (List Noted)) → Room R → Type 0
StandsHeadline noted room = (history : List Entry) → Stands noted room history → Headline (accepted history)

-- whether the room's recorder may refuse a call for lack of memory
abbrev pub recorder_may_refuse : {R : Type 0} → (R → Bool) → Room R → Bool
recorder_may_refuse may_refuse room = may_refuse room.recorder

-- The reply is `NoMemory` only if the call allocates memory or the recorder may refuse.
abbrev pub MemoryHasCause : {R : Type 0} → (R → Bool) → Room R → Call → Reply → Type 0
MemoryHasCause may_refuse room call reply = IsTrue (is_starved reply) → TakesMemory call ⊎ IsTrue (recorder_may_refuse may_refuse room)

-- `NoMemory` is the last refusal: for each history that the room represented, the reply is
-- `NoMemory` only if the call is accepted after that history or the recorder may refuse.
abbrev pub MemoryIsLast : {R : Type 0} → (R → Option (List Noted)) → (R → Bool) → Room R → Call → Reply → Type 0
MemoryIsLast noted may_refuse room call reply = (history : List Entry) → Stands noted room history → IsTrue (is_starved reply)
    → IsTrue (is_accepted (reply_of history call)) ⊎ IsTrue (recorder_may_refuse may_refuse room)

-- The effect of a call on a room, and the reply, whatever the scratch contains. The call leaves nothing in the scratch.
pub record DoesAsServe {R : Type 0} (noted : R → Option (List Noted)) (may_refuse : R → Bool) (old new : Room R) (seat : ℕ) (call : Call)
    (reply : Reply) : Type 0 where
  pub serves : (bytes numbers : List ℕ) → Serves noted old new seat call reply bytes numbers
  pub headline : StandsHeadline noted new
  pub memory : MemoryHasCause may_refuse old call reply
  pub last : MemoryIsLast noted may_refuse old call reply
  pub recorder : recorder_may_refuse may_refuse new ≡ recorder_may_refuse may_refuse old
  pub sends_none : reply ≢ Packet

-- The same for a call that may leave a packet or numbers in the scratch. No other reply changes the scratch, and a packet there can be sent.
pub record ServesInto {R : Type 0} (noted : R → Option (List Noted)) (may_refuse : R → Bool) (old new : Room R) (seat : ℕ) (call : Call) (reply : Reply)
    (before after : Scratch) : Type 0 where
  pub serves : Serves noted old new seat call reply after.packet after.names
  pub headline : StandsHeadline noted new
  pub memory : MemoryHasCause may_refuse old call reply
  pub last : MemoryIsLast noted may_refuse old call reply
  pub recorder : recorder_may_refuse may_refuse new ≡ recorder_may_refuse may_refuse old
  pub packet : reply ≢ Packet → after.packet ≡ before.packet
  pub names : reply ≢ Names → after.names ≡ before.names
  pub sendable : reply ≡ Packet → IsSendable after.packet
