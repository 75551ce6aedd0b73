-- A session's calls on a room with bundles.
use Rattle.std.proofs.Common.{◌≡◌, ℕ, List, [], ◌∷◌, ◌++◌, Option, Some, None, Ok, Err, refl, sym, subst, append_assoc}
use Rattle.sfu_base.specs.Answer.{is_starved}
use Rattle.sfu_base.specs.declared.call.Call.{Call}
use Rattle.sfu_base.specs.declared.call.Reply.{Reply}
use Rattle.session_steps.specs.Sessions.{Doing}
use Rattle.session_steps.specs.Stepping.{Asks, IsReplyIn}
use Rattle.room_core.specs.History.{Entry}
use Rattle.room_core.specs.declared.recorder.KeepNone.{KeepNone}
use Rattle.simulcast.specs.declared.bundles.Bundles.{Bundles}
use Rattle.simulcast.specs.declared.fault.BundleFault.{BundleFault}
use Rattle.simulcast.specs.declared.fault.BundleFault.TheVariants as fault
use Rattle.simulcast.specs.Bundles.{Calls, CallsAs, IsBound, Simulcast, StandsFor, forbids}
use Rattle.sfu_base.specs.declared.call.Scratch.{Scratch}
use Rattle.std.proofs.Math.Logic.{∥∥₁_map}
use Rattle.room_core.specs.Serves.{ServesInto}
use Rattle.room_sessions.proofs.Making.{entry}
use Rattle.room_sessions.proofs.RoomReplies.{replies, served_replies}
use Rattle.room_c.specs.Attending.{Ends}
use Rattle.room_c.specs.Recording.{HasState, never, unrecorded}

-- the state with these entries added to its history
abbrev pub later : Simulcast → List Entry → Simulcast
later h made = record { history = h.history ++ made; made = h.made }

append_none : (h : List Entry) → h ++ [] ≡ h
append_none [] = refl
append_none (e ∷ h) = λ i. e ∷ append_none h i

-- before the first call
pub keeps_none : (b : Bundles KeepNone) (h : Simulcast) → StandsFor unrecorded b h → StandsFor unrecorded b (later h [])
keeps_none b h at = subst (λ (l : List Entry). StandsFor unrecorded b (record { history = l; made = h.made })) (sym (append_none h.history)) at

-- after one more call
pub keeps_one : (old mid new : Bundles KeepNone) (seat : ℕ) (call : Call) (given : Reply) (bytes names : List ℕ) (made : List Entry)
    → ((h : Simulcast) → StandsFor unrecorded old h → StandsFor unrecorded mid (later h made)) → Calls unrecorded mid new seat call bytes names (Ok given)
    → (h : Simulcast) → StandsFor unrecorded old h → StandsFor unrecorded new (later h (made ++ entry seat call (is_starved given) ∷ []))
keeps_one old mid new seat call given bytes names made keeps calls h at =
    subst (λ (l : List Entry). StandsFor unrecorded new (record { history = l; made = h.made })) (append_assoc h.history made (entry seat call (is_starved given) ∷ []))
    (by (forbids call h.made) (calls (later h made) (keeps h at)))
  where
    by : (o : Option ℕ) → CallsAs unrecorded new (later h made) seat call bytes names o (Ok given) → StandsFor unrecorded new (later (later h made) (entry seat call (is_starved given) ∷ []))
    by None says = says.1
    by (Some bundle) says = absurd (let other : Ok given ≡ Err (fault.Bound bundle) = says.0 in cc)

-- the bundle that a refused call names forbids it
pub stops : (mid new : Bundles KeepNone) (seat : ℕ) (call : Call) (bytes names : List ℕ) (why : BundleFault) (left : ℕ → Doing) → new ≡ mid
    → Calls unrecorded mid new seat call bytes names (Err why) → IsBound why → ((turns : ℕ) → Asks (left turns) call) → Ends new left (Err why)
stops mid new seat call bytes names (fault.Bound bundle) left same calls is asks =
    (call, asks, λ h at. by h (forbids call h.made) (calls h (subst (λ (b : Bundles KeepNone). StandsFor unrecorded b h) same at)))
  where
    by : (h : Simulcast) (o : Option ℕ) → CallsAs unrecorded new h seat call bytes names o (Err (fault.Bound bundle)) → o ≡ Some bundle
    by h None says = absurd says
    by h (Some other) says = let named : Err (fault.Bound bundle) ≡ Err (fault.Bound other) = says.0 in cc
stops mid new seat call bytes names other left same calls is asks = absurd is

-- the session gets a reply to its call
pub is_reply : (mid new : Bundles KeepNone) (seat : ℕ) (call : Call) (given : Reply) (before after : Scratch) (left : Doing) → Asks left call → HasState mid
    → ServesInto unrecorded never mid.room new.room seat call given before after → IsReplyIn left given after.packet after.names
is_reply mid new seat call given before after left asks has serves =
    replies left call given after.packet after.names asks
    (served_replies unrecorded mid.room new.room seat call given after.packet after.names (∥∥₁_map has (λ s. (s.0.history, s.1.room_is))) serves.serves serves.sendable)
