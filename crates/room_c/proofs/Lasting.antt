-- After a call the room and its bundles still represent some state.
use Rattle.std.proofs.Common.{◌≡◌, ℕ, List, Option, Some, None, Result, Ok, Err, refl}
use Rattle.std.proofs.Math.Logic.{∥∥₁_map}
use Rattle.sfu_base.specs.declared.call.Call.{Call}
use Rattle.sfu_base.specs.declared.call.Reply.{Reply}
use Rattle.room_core.specs.declared.recorder.KeepNone.{KeepNone}
use Rattle.simulcast.specs.declared.bundles.Bundles.{Bundles}
use Rattle.simulcast.specs.declared.fault.BundleFault.{BundleFault}
use Rattle.simulcast.specs.declared.pumped.Pumped.{Pumped}
use Rattle.simulcast.specs.Made.{Made, leg_at}
use Rattle.simulcast.specs.Bundles.{Bundled, BundledAs, Calls, CallsAs, Chooses, ChoosesAt, ChoosesLeg, Draws, DrawnTo, DrawsAt, PumpedTo, PumpsAt, PumpsOne, Simulcast, StandsFor, bundle_refusal, forbids, place_of}
use Rattle.simulcast.proofs.Together.{made_there}
use Rattle.room_c.specs.Recording.{HasState, unrecorded}

-- a state that the room and its bundles represent
abbrev State : Bundles KeepNone → Type 0
State b = (h : Simulcast) × StandsFor unrecorded b h

module _ (old new : Bundles KeepNone) (has : HasState old) where
  pub after_call : (seat : ℕ) (call : Call) (bytes numbers : List ℕ) (result : Result Reply BundleFault) → Calls unrecorded old new seat call bytes numbers result → HasState new
  after_call seat call bytes numbers result calls = ∥∥₁_map has (λ s. by s.0 (forbids call s.0.made) result (calls s.0 s.1))
    where
      by : (h : Simulcast) (o : Option ℕ) (r : Result Reply BundleFault) → CallsAs unrecorded new h seat call bytes numbers o r → State new
      by h (Some bundle) r says = (h, says.1)
      by h None (Ok reply) says = (_, says.1)
      by h None (Err why) says = absurd says

  pub after_bundle : (m : Made) (result : Result (Unit {0}) BundleFault) → Bundled unrecorded old new m result → HasState new
  after_bundle m result bundled = ∥∥₁_map has (λ s. by s.0 (bundle_refusal s.0 m.number m.id m.legs) result (bundled s.0 s.1))
    where
      by : (h : Simulcast) (o : Option BundleFault) (r : Result (Unit {0}) BundleFault) → BundledAs unrecorded new h m o r → State new
      by h (Some why) r says = (h, says.1)
      by h None (Ok x) says = (_, says)
      by h None (Err why) says = (h, says.1)

  pub after_choice : (number leg : ℕ) (result : Result (Unit {0}) BundleFault) → Chooses unrecorded old new number leg result → HasState new
  after_choice number leg result chooses = ∥∥₁_map has (λ s. at s.0 (place_of number s.0.made) refl (chooses s.0 s.1))
    where
      by : (h : Simulcast) (i : ℕ) (m : Made) (o : Option ℕ) (r : Result (Unit {0}) BundleFault) → ChoosesLeg unrecorded new h i m leg o r → State new
      by h i m None r says = (h, says.1)
      by h i m (Some n) (Ok x) says = (_, says)
      by h i m (Some n) (Err why) says = (_, says.2)

      at : (h : Simulcast) (o : Option ℕ) → place_of number h.made ≡ o → ChoosesAt unrecorded new h o leg result → State new
      at h None is says = (h, says.1)
      at h (Some i) is says = let there = made_there number i h.made is in by h i there.0 (leg_at leg there.0.legs) result (says there.0 there.1)

  pub after_pump : (number : ℕ) (result : Result Pumped BundleFault) → PumpsOne unrecorded old new number result → HasState new
  after_pump number result pumps = ∥∥₁_map has (λ s. at s.0 (place_of number s.0.made) refl (pumps s.0 s.1))
    where
      by : (h : Simulcast) (i : ℕ) (m : Made) (r : Result Pumped BundleFault) → PumpedTo unrecorded new h i m r → State new
      by h i m (Ok p) says = (_, says.0)
      by h i m (Err why) says = (_, says.1.there)

      at : (h : Simulcast) (o : Option ℕ) → place_of number h.made ≡ o → PumpsAt unrecorded new h o result → State new
      at h None is says = (h, says.1)
      at h (Some i) is says = let there = made_there number i h.made is in by h i there.0 result (says there.0 there.1)

  pub after_draw : (number : ℕ) (bytes : List ℕ) (result : Result ℕ BundleFault) → Draws unrecorded old new number bytes result → HasState new
  after_draw number bytes result draws = ∥∥₁_map has (λ s. at s.0 (place_of number s.0.made) refl (draws s.0 s.1))
    where
      by : (h : Simulcast) (i : ℕ) (m : Made) (r : Result ℕ BundleFault) → DrawnTo unrecorded new h i m bytes r → State new
      by h i m (Ok n) says = (_, says.0)
      by h i m (Err why) says = (h, says.0)

      at : (h : Simulcast) (o : Option ℕ) → place_of number h.made ≡ o → DrawsAt unrecorded new h o bytes result → State new
      at h None is says = (h, says.1)
      at h (Some i) is says = let there = made_there number i h.made is in by h i there.0 result (says there.0 there.1)
