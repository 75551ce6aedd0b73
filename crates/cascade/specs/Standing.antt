-- What the parts of a cascade represent while it runs. Only the clauses of the rooms cite these definitions.
use Rattle.std.specs.Prelude.{◌≡◌, ℕ, Bool, true, false, List, [], ◌∷◌, ◌++◌, Option, None, is_some}
use Rattle.sfu_base.specs.Answer.{Refused, Sent}
use Rattle.sfu_base.specs.declared.call.Call.{Call}
use Rattle.sfu_base.specs.declared.call.Call.TheVariants as call
use Rattle.sfu_base.specs.declared.call.Refusal.{Refusal}
use Rattle.room_core.specs.declared.recorder.KeepNone.{KeepNone}
use Rattle.room_core.specs.declared.room.Room.{Room}
use Rattle.room_core.specs.Given.{given_to}
use Rattle.room_core.specs.History.{Entry, accepted}
use Rattle.room_core.specs.Noted.{Noted}
use Rattle.room_core.specs.Replies.{answer}
use Rattle.room_core.specs.Serves.{Stands}
use Rattle.strict_receiver.specs.Receivers.{StandsFor, complaint_over}
use Rattle.cascade.specs.Calls.{Both}
use Rattle.cascade.specs.declared.endpoint.Endpoint.{Endpoint}
use Rattle.cascade.specs.declared.two_rooms.TwoRooms.{TwoRooms}

-- a recorder that stores nothing shows no calls
abbrev pub unrecorded : KeepNone → Option (List Noted)
unrecorded recorder = None

-- the room represents some history in which these calls were accepted
pub record StandsAfter (room : Room KeepNone) (past : List Call) : Type 0 where
  pub history : List Entry
  pub stands : Stands unrecorded room history
  pub are : accepted history ≡ past

-- the receiver was fed these packets
pub record WasFed (endpoint : Endpoint) (taken : List (List ℕ)) : Type 0 where
  pub id_is : endpoint.receiver.id ≡ 4
  pub stands : StandsFor endpoint.receiver taken
  pub complains_is : endpoint.complains ≡ is_some (complaint_over 4 taken)

-- one take: it returned a packet, and the receiver was fed this packet
pub record TakesNext (old new : Endpoint) (room : Room KeepNone) (n : ℕ) (past : List Call) : Type 0 where
  pub bytes : List ℕ
  pub gave : answer past (call.Take n) ≡ Sent bytes
  pub room_is : StandsAfter room (call.Take n ∷ past)
  pub fed : (taken : List (List ℕ)) → WasFed old taken → WasFed new (taken ++ bytes ∷ [])

-- a take that was refused: the receiver was fed nothing
pub record TakesNone (old new : Endpoint) (room : Room KeepNone) (n : ℕ) (past : List Call) : Type 0 where
  pub why : Refusal
  pub refused : answer past (call.Take n) ≡ Refused why
  pub room_is : StandsAfter room past
  pub fed : (taken : List (List ℕ)) → WasFed old taken → WasFed new taken

abbrev pub TakesOne : Bool → Endpoint → Endpoint → Room KeepNone → ℕ → List Call → Type 0
TakesOne true old new room n past = TakesNext old new room n past
TakesOne false old new room n past = TakesNone old new room n past

-- both rooms after these accepted calls, and the receivers of the packets that each subscriber of the second room took
pub record AreAfter (rooms : TwoRooms) (both : Both) : Type 0 where
  pub first : StandsAfter rooms.first both.first
  pub second : StandsAfter rooms.second both.second
  pub one : WasFed rooms.one (given_to 1 both.second)
  pub two : WasFed rooms.two (given_to 2 both.second)
  pub three : WasFed rooms.three (given_to 3 both.second)
