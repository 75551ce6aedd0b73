-- The result of each call on a room with bundles, and the state after it, as functions. The code's calls agree with them unless memory runs out.
use Rattle.std.specs.Prelude.{ℕ, ◌-◌, false, List, [], ◌∷◌, ◌++◌, Option, None, Some, Result, Ok, Err, length, slice_get, slice_set}
use Rattle.sfu_base.specs.Answer.{Answer}
use Rattle.sfu_base.specs.declared.call.Call.{Call}
use Rattle.sfu_base.specs.declared.call.Refusal.TheVariants.{Empty, NotKept}
use Rattle.room_core.specs.History.{reply_of}
use Rattle.out_ring.specs.Ring.{oldest_in}
use Rattle.simulcast.specs.declared.fault.BundleFault.{BundleFault}
use Rattle.simulcast.specs.declared.fault.BundleFault.TheVariants as fault
use Rattle.simulcast.specs.declared.pumped.Pumped.{Pumped}
use Rattle.simulcast.specs.Made.{Made, leg_at, outgoing_of, passed_of}
use Rattle.simulcast.specs.Pumping.{Pumping, called}
use Rattle.simulcast.specs.Bundle.{again_of, and_chosen, and_drawn, is_active_in, kept_of, next_of, pumped_whole}
use Rattle.simulcast.specs.Bundles.{Simulcast, and_asked, and_now, bundle_refusal, forbids, place_of, with_made}

-- the result of a call, and the state after it
pub record Answered (A : Type 0) : Type 0 where
  pub answer : Result A BundleFault
  pub after : Simulcast

-- the call is done
abbrev pub done_with : {A : Type 0} → A → Simulcast → Answered A
done_with answer after = record { answer = Ok answer; after = after }

-- the call is refused, and nothing changes
abbrev pub refused_for : {A : Type 0} → BundleFault → Simulcast → Answered A
refused_for why h = record { answer = Err why; after = h }

-- the bundle at this index, if there is one
abbrev pub made_at : List Made → Option ℕ → Option Made
made_at made None = None
made_at made (Some i) = slice_get made i

-- the result for the bundle with this number, which is at this index; the call is refused if no bundle has the number
abbrev pub with_found : {A : Type 0} → Simulcast → Option ℕ → Option Made → (ℕ → Made → Answered A) → Answered A
with_found h (Some i) (Some m) does = does i m
with_found h _ _ does = refused_for fault.NoBundle h

abbrev pub with_number : {A : Type 0} → ℕ → Simulcast → (ℕ → Made → Answered A) → Answered A
with_number number h does = with_found h (place_of number h.made) (made_at h.made (place_of number h.made)) does

-- ---- a call on the room by seat 0

abbrev pub called_unless : Call → Simulcast → Option ℕ → Answered Answer
called_unless call h None = done_with (reply_of h.history call) (record { history = called false call h.history; made = h.made })
called_unless call h (Some bundle) = refused_for (fault.Bound bundle) h

abbrev pub room_called : Call → Simulcast → Answered Answer
room_called call h = called_unless call h (forbids call h.made)

-- ---- a bundle

abbrev pub made_unless : Made → Simulcast → Option BundleFault → Answered (Unit {0})
made_unless m h None = done_with tt (record { history = h.history; made = h.made ++ m ∷ [] })
made_unless m h (Some why) = refused_for why h

abbrev pub bundle_made : Made → Simulcast → Answered (Unit {0})
bundle_made m h = made_unless m h (bundle_refusal h m.number m.id m.legs)

-- ---- a choice

abbrev pub choice_of : ℕ → Simulcast → ℕ → Made → Option ℕ → Answered (Unit {0})
choice_of leg h i m None = refused_for (fault.NoLeg (length m.legs)) h
choice_of leg h i m (Some n) = done_with tt
    (record { history = and_asked (is_active_in leg m) false n h.history; made = slice_set h.made i (and_chosen leg m) })

abbrev pub leg_chosen : (number leg : ℕ) → Simulcast → Answered (Unit {0})
leg_chosen number leg h = with_number number h (λ i m. choice_of leg h i m (leg_at leg m.legs))

-- ---- a pump

-- the number of packets forwarded since the old state, and the number of packets taken and dropped since
abbrev pub counts_of : (old new : Made) → Pumped
counts_of old new = record {
  forwarded = length (passed_of new) - length (passed_of old);
  dropped = length new.events - length old.events - (length (passed_of new) - length (passed_of old));
}

abbrev pub pump_of : Simulcast → ℕ → Made → Pumping → Answered Pumped
pump_of h i m s = done_with (counts_of m s.made) (and_now h i s)

abbrev pub bundle_pumped : ℕ → Simulcast → Answered Pumped
bundle_pumped number h = with_number number h (λ i m. pump_of h i m (pumped_whole (record { history = h.history; made = m })))

-- ---- outgoing packets

-- the outgoing packet after those that were drawn
abbrev pub draw_of : Simulcast → ℕ → Made → Option (List ℕ) → Answered (List ℕ)
draw_of h i m None = refused_for (fault.Room Empty) h
draw_of h i m (Some packet) = done_with packet (with_made h i (and_drawn m))

abbrev pub packet_drawn : ℕ → Simulcast → Answered (List ℕ)
packet_drawn number h = with_number number h (λ i m. draw_of h i m (slice_get (outgoing_of m) m.draws))

abbrev pub redraw_of : Simulcast → Made → Option (List ℕ) → Answered (List ℕ)
redraw_of h m None = refused_for (fault.Room (NotKept (oldest_in (kept_of m) (next_of m)) (next_of m))) h
redraw_of h m (Some packet) = done_with packet h

abbrev pub packet_redrawn : (number n : ℕ) → Simulcast → Answered (List ℕ)
packet_redrawn number n h = with_number number h (λ i m. redraw_of h m (again_of n m))
