-- The effects of the functions on a session.
use Rattle.std.specs.Prelude.{◌≡◌, ◌⊎◌, ◌++◌, ⊤, ℕ, suc, false, List, length, take, Option, Some, None, Result, Ok, Err}
use Rattle.sfu_base.specs.declared.call.Call.{Call}
use Rattle.session_steps.specs.Sessions.{Doing}
use Rattle.session_steps.specs.Stepping.{Asks, GoesOn, Waits, heard}
use Rattle.session_steps.specs.declared.session.Output.{Output}
use Rattle.session_steps.specs.declared.session.Output.TheVariants.{Nothing, Packet}
use Rattle.room_sessions.specs.Either.{either_left}
use Rattle.room_sessions.specs.Working.{AreMade, HaveCause}
use Rattle.room_core.specs.History.{Entry}
use Rattle.room_core.specs.Serves.{Stands, StandsHeadline}
use Rattle.room_core.specs.declared.recorder.KeepNone.{KeepNone}
use Rattle.simulcast.specs.declared.bundles.Bundles.{Bundles}
use Rattle.simulcast.specs.declared.fault.BundleFault.{BundleFault}
use Rattle.simulcast.specs.declared.fault.BundleFault.TheVariants as fault
use Rattle.simulcast.specs.Bundles.{Simulcast, StandsFor, forbids}
use Rattle.room_c.specs.declared.attended.Attended.{Attended}
use Rattle.room_c.specs.declared.code.Code.TheVariants as code
use Rattle.room_c.specs.declared.home.Home.{Home}
use Rattle.room_c.specs.declared.plain_reply.PlainReply.{PlainReply}
use Rattle.room_c.specs.Codes.{code_number}
use Rattle.room_c.specs.Recording.{unrecorded}
use Rattle.room_c.specs.Numbers.{bare_of, one_of, plain_fault}

-- what remains of the session behind a handle, if this many turns remain
abbrev pub left_of : Attended → ℕ → Doing
left_of attended turns = either_left attended.session turns

-- ---- opening

-- the session is at the start of this rule, and waits for a datagram
abbrev pub Begins : (ℕ → Doing) → Attended → Type 0
Begins rule attended = (turns : ℕ) → left_of attended turns ≡ rule turns

-- The handle had no session, and now has one with this rule. Or it had a session, which is unchanged. Or memory ran out.
abbrev pub Opens : (ℕ → Doing) → Option Attended → Option Attended → ℕ → Type 0
Opens rule (Some old) new rc = (rc ≡ code_number code.HasSession) × (new ≡ Some old)
Opens rule None None rc = rc ≡ code_number code.NoMemory
Opens rule None (Some new) rc = (rc ≡ code_number code.Done) × Begins rule new

-- ---- a datagram, or none

-- The session had a call to make, and is unchanged. Or it waited, and handled by its rule the datagram, or none, of this moment.
abbrev pub HearsAs : Attended → Attended → Option (List ℕ) → ℕ → PlainReply → Type 0
HearsAs old new got moment rc =
    ((rc ≡ bare_of code.Busy) × (new ≡ old) × (call : Call) × ((turns : ℕ) → Asks (left_of old turns) call))
    ⊎ ((rc ≡ bare_of code.Done) × ((turns : ℕ) → Waits (left_of old turns) turns) × ((turns : ℕ) → heard (left_of old (suc turns)) got moment ≡ left_of new turns))

abbrev pub Hears : Option Attended → Option Attended → Option (List ℕ) → ℕ → PlainReply → Type 0
Hears None new got moment rc = (rc ≡ bare_of code.NoSession) × (new ≡ None)
Hears (Some old) None got moment rc = ⊥
Hears (Some old) (Some new) got moment rc = HearsAs old new got moment rc

-- ---- work

-- the datagram to send after work: none if a bundle stopped it
abbrev pub output_of : Result Output BundleFault → Output
output_of (Ok output) = output
output_of (Err why) = Nothing

-- If nothing is to be sent, no call remains, or the bundle forbids the next call, which is still to be made.
abbrev pub Ends : Bundles KeepNone → (ℕ → Doing) → Result Output BundleFault → Type 0
Ends bundles left (Ok Packet) = ⊤
Ends bundles left (Ok Nothing) = (turns : ℕ) → Waits (left turns) turns
Ends bundles left (Err (fault.Bound bundle)) =
    (call : Call) × ((turns : ℕ) → Asks (left turns) call) × ((h : Simulcast) → StandsFor unrecorded bundles h → forbids call h.made ≡ Some bundle)
Ends bundles left (Err other) = ⊥

-- The calls of a session were made on a room with bundles, up to the next datagram to send or to a call that
-- a bundle forbids. `before` and `after` say what remains of the session, for each number of remaining turns.
pub record WorksFor (old new : Bundles KeepNone) (seat : ℕ) (before after : ℕ → Doing) (bytes : List ℕ) (outcome : Result Output BundleFault) : Type 0 where
  -- the entries of the calls that were made, in order
  pub made : List Entry
  -- whatever state the room and its bundles represented, they then represent it with these entries added to the history
  pub keeps : (h : Simulcast) → StandsFor unrecorded old h → StandsFor unrecorded new (record { history = h.history ++ made; made = h.made })
  pub stands : (history : List Entry) → Stands unrecorded old.room history → Stands unrecorded new.room (history ++ made)
  -- these are the session's next calls; by that history's answers the session continues at
  -- once or, if the output is a packet, after these bytes were sent as its next datagram
  pub goes_on : (history : List Entry) → Stands unrecorded old.room history → (turns : ℕ)
      → (rest : Doing) × AreMade seat history (before turns) made rest × GoesOn rest (after turns) bytes (output_of outcome)
  pub ends : Ends new after outcome
  -- only a call that allocates memory runs out of memory
  pub memory : HaveCause false made
  -- the guarantees (`Headline`) hold for the room's history, unless no call was made
  pub headline : (new ≡ old) ⊎ StandsHeadline unrecorded new.room

-- the reply for an outcome: the packet's length, or `Done`, or the bundle that forbids the call
abbrev pub output_reply : Result Output BundleFault → List ℕ → PlainReply
output_reply (Ok Nothing) packet = bare_of code.Done
output_reply (Ok Packet) packet = one_of code.Packet (length packet)
output_reply (Err why) packet = plain_fault why

-- The session's calls were made on the room. The datagram to send, if there is one, is at the start of the buffer.
pub record WorksAs (old new : Home) (before after : Attended) (seat : ℕ) (rc : PlainReply) (out : List ℕ) : Type 0 where
  pub outcome : Result Output BundleFault
  pub works : WorksFor old.bundles new.bundles seat (left_of before) (left_of after) after.scratch.packet outcome
  pub reply_is : rc ≡ output_reply outcome after.scratch.packet
  pub gives : outcome ≡ Ok Packet → take rc.first out ≡ after.scratch.packet

-- The same through the handles of a room and of a session: if one of the handles is empty, both are unchanged.
abbrev pub WorksOn : Option Home → Option Home → Attended → Attended → ℕ → PlainReply → List ℕ → Type 0
WorksOn None new before after seat rc out = (rc ≡ bare_of code.NoRoom) × (new ≡ None) × (after ≡ before)
WorksOn (Some old) None before after seat rc out = ⊥
WorksOn (Some old) (Some new) before after seat rc out = WorksAs old new before after seat rc out

abbrev pub WorksBoth : Option Home → Option Home → Option Attended → Option Attended → ℕ → PlainReply → List ℕ → Type 0
WorksBoth old new None after seat rc out = (rc ≡ bare_of code.NoSession) × (new ≡ old) × (after ≡ None)
WorksBoth old new (Some before) None seat rc out = ⊥
WorksBoth old new (Some before) (Some after) seat rc out = WorksOn old new before after seat rc out
