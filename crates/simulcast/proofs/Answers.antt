-- The calls' results and states agree with those of the functions, unless memory runs out.
use Rattle.std.proofs.Common.{◌≡◌, ◌⊎◌, inl, inr, ℕ, Bool, false, List, length, refl, sym, ap, ap₂, subst, Option, Some, None, Result, Ok, Err, slice_get, arith}
use Rattle.std.proofs.lemmas.Option.{slice_get_within}
use Rattle.sfu_base.specs.Answer.{answer_of, is_starved}
use Rattle.sfu_base.specs.declared.call.Call.{Call}
use Rattle.sfu_base.specs.declared.call.Reply.{Reply}
use Rattle.room_core.specs.Noted.{Noted}
use Rattle.simulcast.specs.declared.bundles.Bundles.{Bundles}
use Rattle.simulcast.specs.declared.fault.BundleFault.{BundleFault}
use Rattle.simulcast.specs.declared.fault.BundleFault.TheVariants as fault
use Rattle.simulcast.specs.declared.pumped.Pumped.{Pumped}
use Rattle.simulcast.specs.Made.{Made, leg_at, outgoing_of}
use Rattle.simulcast.specs.Pumping.{called}
use Rattle.simulcast.specs.Bundle.{IsCounted, again_of, pumped_whole}
use Rattle.simulcast.specs.Bundles.{BundledAs, CallsAs, ChoosesAt, ChoosesLeg, DrawnTo, DrawsAt, PumpedTo, PumpsAt, RedrawnTo, RedrawsAt, Simulcast, StandsFor, bundle_refusal, forbids, place_of}
use Rattle.simulcast.specs.Answers.{Answered, bundle_made, bundle_pumped, called_unless, choice_of, counts_of, draw_of, leg_chosen, made_at, made_unless, packet_drawn, packet_redrawn, pump_of, redraw_of, room_called, with_found}
use Rattle.simulcast.proofs.Together.{made_there}

-- the object represents the state after the call, and the call has this result
pub record HasAnswered {R A : Type 0} (noted : R → Option (List Noted)) (b : Bundles R) (a : Answered A) (result : Result A BundleFault) : Type 0 where
  pub stands : StandsFor noted b a.after
  pub is : result ≡ a.answer

-- the result of a call that returns these bytes
abbrev pub handed : {A : Type 0} → List ℕ → Result A BundleFault → Result (List ℕ) BundleFault
handed bytes (Ok x) = Ok bytes
handed bytes (Err why) = Err why

-- memory ran out, or the call has this result
abbrev pub Answers : {R A : Type 0} → (R → Option (List Noted)) → Bundles R → Answered A → Result A BundleFault → Type 0
Answers noted b a result = (result ≡ Err fault.NoMemory) ⊎ HasAnswered noted b a result

-- ---- a bundle

module _ {R : Type 0} (noted : R → Option (List Noted)) (new : Bundles R) (h : Simulcast) where
  made_answers : (m : Made) (refusal : Option BundleFault) (result : Result (Unit {0}) BundleFault) → BundledAs noted new h m refusal result → Answers noted new (made_unless m h refusal) result
  made_answers m (Some why) result says = inr (record { stands = says.1; is = says.0 })
  made_answers m None (Ok x) says = inr (record { stands = says; is = refl })
  made_answers m None (Err why) says = inl (ap Err says.0)

  pub bundle_answers : (m : Made) (result : Result (Unit {0}) BundleFault) → BundledAs noted new h m (bundle_refusal h m.number m.id m.legs) result → Answers noted new (bundle_made m h) result
  bundle_answers m result says = made_answers m (bundle_refusal h m.number m.id m.legs) result says

  -- ---- a choice

  choice_answers : (leg i : ℕ) (m : Made) (at : Option ℕ) (result : Result (Unit {0}) BundleFault) → ChoosesLeg noted new h i m leg at result → Answers noted new (choice_of leg h i m at) result
  choice_answers leg i m None result says = inr (record { stands = says.1; is = says.0 })
  choice_answers leg i m (Some n) (Ok x) says = inr (record { stands = says; is = refl })
  choice_answers leg i m (Some n) (Err why) says = inl (ap Err says.0)

  pub choose_answers : (number leg : ℕ) (result : Result (Unit {0}) BundleFault) → ChoosesAt noted new h (place_of number h.made) leg result → Answers noted new (leg_chosen number leg h) result
  choose_answers number leg result says = by (place_of number h.made) refl says
    where
      by : (place : Option ℕ) → place_of number h.made ≡ place → ChoosesAt noted new h place leg result
          → Answers noted new (with_found h place (made_at h.made place) (λ i m. choice_of leg h i m (leg_at leg m.legs))) result
      by None at says = inr (record { stands = says.1; is = says.0 })
      by (Some i) at says =
          let there = made_there number i h.made at in
          subst (λ (o : Option Made). Answers noted new (with_found h (Some i) o (λ i m. choice_of leg h i m (leg_at leg m.legs))) result) (sym there.1)
          (choice_answers leg i there.0 (leg_at leg there.0.legs) result (says there.0 there.1))

  -- ---- a pump

  counted : (old new : Made) (p : Pumped) → IsCounted old new p → p ≡ counts_of old new
  counted old new p is =
      ap₂ (λ (f d : ℕ). record { forwarded = f; dropped = d })
      (let one = is.forwarded in omega (arith, one))
      (let one = is.forwarded in let all = is.dropped in omega (arith, one, all))

  pump_answers_at : (i : ℕ) (m : Made) (result : Result Pumped BundleFault) → PumpedTo noted new h i m result
      → Answers noted new (pump_of h i m (pumped_whole (record { history = h.history; made = m }))) result
  pump_answers_at i m (Ok p) says = inr (record { stands = says.0; is = ap Ok (counted m (pumped_whole (record { history = h.history; made = m })).made p says.1) })
  pump_answers_at i m (Err why) says = inl (ap Err says.0)

  pub pump_answers : (number : ℕ) (result : Result Pumped BundleFault) → PumpsAt noted new h (place_of number h.made) result → Answers noted new (bundle_pumped number h) result
  pump_answers number result says = by (place_of number h.made) refl says
    where
      by : (place : Option ℕ) → place_of number h.made ≡ place → PumpsAt noted new h place result
          → Answers noted new (with_found h place (made_at h.made place) (λ i m. pump_of h i m (pumped_whole (record { history = h.history; made = m })))) result
      by None at says = inr (record { stands = says.1; is = says.0 })
      by (Some i) at says =
          let there = made_there number i h.made at in
          subst (λ (o : Option Made). Answers noted new (with_found h (Some i) o (λ i m. pump_of h i m (pumped_whole (record { history = h.history; made = m })))) result) (sym there.1)
          (pump_answers_at i there.0 result (says there.0 there.1))

  -- ---- outgoing packets

  past_the_end : (packets : List (List ℕ)) (i : ℕ) → i ≡ length packets → slice_get packets i ≡ None
  past_the_end packets i end = go (slice_get packets i) refl
    where
      go : (o : Option (List ℕ)) → slice_get packets i ≡ o → o ≡ None
      go None at = refl
      go (Some packet) at = absurd (let within = slice_get_within packets i packet at in omega (arith, within, end))

  draw_answers_at : (i : ℕ) (m : Made) (bytes : List ℕ) (result : Result ℕ BundleFault) → DrawnTo noted new h i m bytes result
      → HasAnswered noted new (draw_of h i m (slice_get (outgoing_of m) m.draws)) (handed bytes result)
  draw_answers_at i m bytes (Ok n) says = subst (λ (o : Option (List ℕ)). HasAnswered noted new (draw_of h i m o) (Ok bytes)) (sym says.1) (record { stands = says.0; is = refl })
  draw_answers_at i m bytes (Err why) says =
      subst (λ (o : Option (List ℕ)). HasAnswered noted new (draw_of h i m o) (Err why)) (sym (past_the_end (outgoing_of m) m.draws says.2)) (record { stands = says.0; is = ap Err says.1 })

  pub draw_answers : (number : ℕ) (bytes : List ℕ) (result : Result ℕ BundleFault) → DrawsAt noted new h (place_of number h.made) bytes result
      → HasAnswered noted new (packet_drawn number h) (handed bytes result)
  draw_answers number bytes result says = by (place_of number h.made) refl says
    where
      by : (place : Option ℕ) → place_of number h.made ≡ place → DrawsAt noted new h place bytes result
          → HasAnswered noted new (with_found h place (made_at h.made place) (λ i m. draw_of h i m (slice_get (outgoing_of m) m.draws))) (handed bytes result)
      by None at says = record { stands = says.1; is = ap (handed bytes) says.0 }
      by (Some i) at says =
          let there = made_there number i h.made at in
          subst (λ (o : Option Made). HasAnswered noted new (with_found h (Some i) o (λ i m. draw_of h i m (slice_get (outgoing_of m) m.draws))) (handed bytes result)) (sym there.1)
          (draw_answers_at i there.0 bytes result (says there.0 there.1))

  redraw_answers_at : (m : Made) (n : ℕ) (bytes : List ℕ) (result : Result (Unit {0}) BundleFault) → StandsFor noted new h → RedrawnTo m n bytes result
      → HasAnswered noted new (redraw_of h m (again_of n m)) (handed bytes result)
  redraw_answers_at m n bytes (Ok x) stands says = subst (λ (o : Option (List ℕ)). HasAnswered noted new (redraw_of h m o) (Ok bytes)) (sym says.1) (record { stands = stands; is = refl })
  redraw_answers_at m n bytes (Err why) stands says =
      subst (λ (o : Option (List ℕ)). HasAnswered noted new (redraw_of h m o) (Err why)) (sym says.2) (record { stands = stands; is = ap Err says.0 })

  pub redraw_answers : (number n : ℕ) (bytes : List ℕ) (result : Result (Unit {0}) BundleFault) → StandsFor noted new h → RedrawsAt h (place_of number h.made) n bytes result
      → HasAnswered noted new (packet_redrawn number n h) (handed bytes result)
  redraw_answers number n bytes result stands says = by (place_of number h.made) refl says
    where
      by : (place : Option ℕ) → place_of number h.made ≡ place → RedrawsAt h place n bytes result
          → HasAnswered noted new (with_found h place (made_at h.made place) (λ i m. redraw_of h m (again_of n m))) (handed bytes result)
      by None at says = record { stands = stands; is = ap (handed bytes) says }
      by (Some i) at says =
          let there = made_there number i h.made at in
          subst (λ (o : Option Made). HasAnswered noted new (with_found h (Some i) o (λ i m. redraw_of h m (again_of n m))) (handed bytes result)) (sym there.1)
          (redraw_answers_at there.0 n bytes result stands (says there.0 there.1))

  -- ---- a call on the room by seat 0

  pub call_answers : (call : Call) (reply : Reply) (bytes numbers : List ℕ) → CallsAs noted new h 0 call bytes numbers (forbids call h.made) (Ok reply) → is_starved reply ≡ false
      → HasAnswered noted new (room_called call h) (Ok (answer_of reply bytes numbers))
  call_answers call reply bytes numbers says told = by (forbids call h.made) says
    where
      by : (bundle : Option ℕ) → CallsAs noted new h 0 call bytes numbers bundle (Ok reply) → HasAnswered noted new (called_unless call h bundle) (Ok (answer_of reply bytes numbers))
      by None says = record {
        stands = subst (λ (starved : Bool). StandsFor noted new (record { history = called starved call h.history; made = h.made })) told says.1;
        is = ap Ok (says.0 told);
      }
      by (Some bundle) says = absurd (let other : Ok reply ≡ Err (fault.Bound bundle) = says.0 in cc)

  pub call_refuses : (call : Call) (why : BundleFault) (bytes numbers : List ℕ) → CallsAs noted new h 0 call bytes numbers (forbids call h.made) (Err why)
      → HasAnswered noted new (room_called call h) (Err why)
  call_refuses call why bytes numbers says = by (forbids call h.made) says
    where
      by : (bundle : Option ℕ) → CallsAs noted new h 0 call bytes numbers bundle (Err why) → HasAnswered noted new (called_unless call h bundle) (Err why)
      by None says = absurd says
      by (Some bundle) says = record { stands = says.1; is = ap Err (let same : Err why ≡ Err (fault.Bound bundle) = says.0 in cc) }
