-- Facts about a room's history and its bundles after any calls. Own statements, without a room:
-- they also hold for the replies to a script, which consist of the functions of `Answers`.
use Rattle.std.specs.Prelude.{◌≡◌, ◌<◌, ◌^◌, ℕ, List, [], Some, slice_get}
use Rattle.sfu_base.specs.declared.call.Call.{Call}
use Rattle.room_core.specs.Headline.{Headline}
use Rattle.room_core.specs.History.{accepted}
use Rattle.room_core.specs.WellFormed.{AreWellFormed, IsValue}
use Rattle.simulcast.specs.Made.{AreLegs, HasNoStrays, Made, just_made, just_renumbered}
use Rattle.simulcast.specs.Bundles.{NoneIsTwo, Pleases, Simulcast, nothing_made}
use Rattle.simulcast.specs.Answers.{bundle_made, bundle_pumped, leg_chosen, packet_drawn, packet_redrawn, room_called}

-- The calls are well formed. Each leg is a subscriber as `IsLeg` says, and no
-- subscriber is two legs. Packets were taken only from legs, and SSRCs have 32 bits.
pub record IsKept (h : Simulcast) : Type 0 where
  pub formed : AreWellFormed (accepted h.history)
  pub legs : (i : ℕ) (m : Made) → slice_get h.made i ≡ Some m → AreLegs (accepted h.history) m
  pub apart : NoneIsTwo h.made
  pub strays : (i : ℕ) (m : Made) → slice_get h.made i ≡ Some m → HasNoStrays m
  pub fits : (i : ℕ) (m : Made) → slice_get h.made i ≡ Some m → m.ssrc < 2 ^ 32

-- All guarantees of a room hold for the history. Each leg of a bundle is a live subscriber, and the packets taken from it are those
-- that its takes returned since the bundle was made. A strict receiver has no complaint about the packets that a bundle sends.
pub record IsPleasing (h : Simulcast) : Type 0 where
  pub headline : Headline (accepted h.history)
  pub legs : (i : ℕ) (m : Made) → slice_get h.made i ≡ Some m → AreLegs (accepted h.history) m
  pub receivers : (i : ℕ) (m : Made) → slice_get h.made i ≡ Some m → Pleases m

-- This is true before any call, and stays true after each call.
pub record CallsKeep : Type 0 where
  pub begins : IsKept (nothing_made [])
  pub calls : (h : Simulcast) (call : Call) → IsValue call → IsKept h → IsKept (room_called call h).after
  pub bundles : (h : Simulcast) (number id ssrc first : ℕ) (legs : List ℕ) → ssrc < 2 ^ 32 → IsKept h → IsKept (bundle_made (just_made number id ssrc first legs) h).after
  pub renumbered_bundles : (h : Simulcast) (number id ssrc first : ℕ) (legs : List ℕ) → ssrc < 2 ^ 32 → IsKept h
      → IsKept (bundle_made (just_renumbered number id ssrc first legs) h).after
  pub choices : (h : Simulcast) (number leg : ℕ) → IsKept h → IsKept (leg_chosen number leg h).after
  pub pumps : (h : Simulcast) (number : ℕ) → IsKept h → IsKept (bundle_pumped number h).after
  pub draws : (h : Simulcast) (number : ℕ) → IsKept h → IsKept (packet_drawn number h).after
  pub redraws : (h : Simulcast) (number n : ℕ) → IsKept h → IsKept (packet_redrawn number n h).after
  pub pleases : (h : Simulcast) → IsKept h → IsPleasing h
