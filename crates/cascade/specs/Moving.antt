-- The effect of one step of a feed, and the state after some steps. No public clause cites these definitions.
use Rattle.std.specs.Prelude.{◌≡◌, ◌⊎◌, ℕ, false, List, [], ◌∷◌, ◌++◌, length, Option, None, Some}
use Rattle.sfu_base.specs.Answer.{Done, Sent}
use Rattle.sfu_base.specs.declared.call.Call.TheVariants as call
use Rattle.sfu_base.specs.declared.call.Refusal.{Refusal}
use Rattle.sfu_base.specs.declared.call.Reply.{Reply}
use Rattle.sfu_base.specs.declared.call.Reply.TheVariants as reply
use Rattle.room_core.specs.History.{Entry, reply_of}
use Rattle.room_core.specs.Noted.{Noted}
use Rattle.room_core.specs.Serves.{Stands}
use Rattle.room_core.specs.declared.room.Room.{Room}
use Rattle.cascade.specs.Feeding.{AreMoved, EndsAtPacket, EndsAtTake, packet_entry, packets_of, take_entry, takes_of}

-- the reason if a reply is a refusal, else none
abbrev pub refused_by : Reply → Option Refusal
refused_by (reply.Refused why) = Some why
refused_by other = None

-- a packet was moved
pub record MovesOne {A B : Type 0} (notedA : A → Option (List Noted)) (notedB : B → Option (List Noted)) (new1 : Room A) (new2 : Room B)
    (subscriber track moment : ℕ) (h1 h2 : List Entry) : Type 0 where
  pub bytes : List ℕ
  pub gave : reply_of h1 (call.Take subscriber) ≡ Sent bytes
  pub done : reply_of h2 (call.Packet track moment bytes) ≡ Done
  pub stands1 : Stands notedA new1 (h1 ++ take_entry subscriber false ∷ [])
  pub stands2 : Stands notedB new2 (h2 ++ packet_entry track moment bytes false ∷ [])

-- a call was refused
pub record EndsSo {A B : Type 0} (notedA : A → Option (List Noted)) (notedB : B → Option (List Noted)) (new1 : Room A) (new2 : Room B)
    (subscriber track moment : ℕ) (end : Refusal) (h1 h2 : List Entry) : Type 0 where
  pub more1 : List Entry
  pub more2 : List Entry
  pub ends : EndsAtTake h1 subscriber end more1 more2 ⊎ EndsAtPacket h1 subscriber h2 track moment end more1 more2
  pub stands1 : Stands notedA new1 (h1 ++ more1)
  pub stands2 : Stands notedB new2 (h2 ++ more2)

abbrev pub MovesOrEnds : {A B : Type 0} → (A → Option (List Noted)) → (B → Option (List Noted)) → Room A → Room B → ℕ → ℕ → ℕ → Option Refusal
    → List Entry → List Entry → Type 0
MovesOrEnds notedA notedB new1 new2 subscriber track moment None h1 h2 = MovesOne notedA notedB new1 new2 subscriber track moment h1 h2
MovesOrEnds notedA notedB new1 new2 subscriber track moment (Some end) h1 h2 = EndsSo notedA notedB new1 new2 subscriber track moment end h1 h2

-- `count` packets were moved
pub record HasMoved {A B : Type 0} (notedA : A → Option (List Noted)) (notedB : B → Option (List Noted)) (count : ℕ) (now1 : Room A) (now2 : Room B)
    (subscriber track moment : ℕ) (h1 h2 : List Entry) : Type 0 where
  pub packets : List (List ℕ)
  pub moves : AreMoved h1 subscriber h2 track moment packets
  pub counted : length packets ≡ count
  pub stands1 : Stands notedA now1 (h1 ++ takes_of subscriber packets)
  pub stands2 : Stands notedB now2 (h2 ++ packets_of track moment packets)
