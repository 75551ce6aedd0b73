-- The effect of a pump on a room's history and on a bundle. Own rule.
use Rattle.std.specs.Prelude.{◌≡◌, ◌⊎◌, ◌++◌, ◌==◌, ◌||◌, ℕ, nat_le, Bool, true, false, if◌then◌else◌, List, [], ◌∷◌, Option, None, Some}
use Rattle.std.specs.List.{AllByRecursion}
use Rattle.sfu_base.specs.declared.call.Call.{Call}
use Rattle.sfu_base.specs.declared.call.Call.TheVariants.{Take}
use Rattle.room_core.specs.History.{Entry, accepted}
use Rattle.leg_switch.specs.Switching.{Standing, is_active}
use Rattle.leg_switch.specs.Switching.LegEvent.{Took}
use Rattle.simulcast.specs.Waiting.{waiting}
use Rattle.simulcast.specs.Made.{Made, leg_at, queued_of}

-- the room's history, and the bundle
pub record Pumping : Type 0 where
  pub history : List Entry
  pub made : Made

-- the history after a call by seat 0, which may have run out of memory
abbrev pub called : Bool → Call → List Entry → List Entry
called starved call history = history ++ record { seat = 0; call = call; starved = starved } ∷ []

abbrev pub and_took : ℕ → List ℕ → Made → Made
and_took k packet m = record m { events = Took k packet ∷ m.events }

-- ---- takes

-- a take from a leg, and the packet that it returned, if it returned one
pub record LegTake : Type 0 where
  pub leg : ℕ
  pub subscriber : ℕ
  pub packet : Option (List ℕ)

abbrev pub and_given : ℕ → Option (List ℕ) → Made → Made
and_given k None m = m
and_given k (Some packet) m = and_took k packet m

-- the state after these takes, one after another
abbrev pub took_all : List LegTake → Pumping → Pumping
took_all [] s = s
took_all (t ∷ takes) s = took_all takes (record { history = called false (Take t.subscriber) s.history; made = and_given t.leg t.packet s.made })

-- the takes are from these legs
abbrev pub AreOfLegs : List ℕ → List LegTake → Type 0
AreOfLegs legs takes = AllByRecursion (λ t. leg_at t.leg legs ≡ Some t.subscriber) takes

-- ---- a leg, until a take is refused

-- 512 packets are queued
abbrev pub is_full : Made → Bool
is_full m = nat_le 512 (queued_of m)

-- The packets `queue` are queued for n, the subscriber of the leg k. They are taken until a take is refused or 512 packets of the bundle are queued.
abbrev pub drained : (k n : ℕ) → List (List ℕ) → Pumping → Pumping
drained k n [] s = if is_full s.made then s else record { history = called false (Take n) s.history; made = s.made }
drained k n (packet ∷ queue) s =
    if is_full s.made then s else drained k n queue (record { history = called false (Take n) s.history; made = and_took k packet s.made })

abbrev pub drained_from : ℕ → Option ℕ → Pumping → Pumping
drained_from k None s = s
drained_from k (Some n) s = drained k n (waiting n (accepted s.history)) s

-- the same for this leg, if there is such a leg
abbrev pub drained_leg : Option ℕ → Pumping → Pumping
drained_leg None s = s
drained_leg (Some k) s = drained_from k (leg_at k s.made.legs) s

-- the same for these legs, one after another
abbrev pub pumped : List (Option ℕ) → Pumping → Pumping
pumped [] s = s
pumped (leg ∷ legs) s = pumped legs (drained_leg leg s)

-- each leg's queue is empty, or 512 packets of the bundle are queued
abbrev pub IsDrained : Pumping → Type 0
IsDrained s = (k n : ℕ) → leg_at k s.made.legs ≡ Some n → (waiting n (accepted s.history) ≡ []) ⊎ (is_full s.made ≡ true)

-- ---- the order of the legs

abbrev pub unless : Bool → ℕ → Option ℕ
unless true leg = None
unless false leg = Some leg

-- a leg that is neither active nor chosen
abbrev pub other : Standing → ℕ → Option ℕ
other s leg = unless (is_active leg s.active || s.chosen == leg) leg

-- the active leg, then the chosen leg if that is another one, then the other legs in order
abbrev pub order : Standing → List (Option ℕ)
order s = s.active ∷ unless (is_active s.chosen s.active) s.chosen ∷ other s 1 ∷ other s 2 ∷ other s 3 ∷ []
