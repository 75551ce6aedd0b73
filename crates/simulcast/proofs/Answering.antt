-- The result of a call on one of the bundles.
use Rattle.std.proofs.Common.{◌≡◌, ◌≤◌, ℕ, zero, suc, Bool, true, false, cond, List, [], ◌∷◌, length, get_or, refl, sym, ap, subst, ◌∙◌, Option, Some, None, Result, Ok, Err, slice_get, slice_set}
use Rattle.std.specs.Prelude.{◌==◌, position}
use Rattle.sfu_base.specs.Answer.{is_starved}
use Rattle.sfu_base.specs.declared.call.Call.{Call}
use Rattle.sfu_base.specs.declared.call.Call.TheVariants as call
use Rattle.sfu_base.specs.declared.call.Refusal.{Refusal}
use Rattle.sfu_base.specs.declared.call.Reply.{Reply}
use Rattle.room_core.specs.declared.room.Room.{Room}
use Rattle.room_core.specs.History.{Entry, accepted, after, is_accepted}
use Rattle.room_core.specs.Noted.{Noted}
use Rattle.room_core.specs.Replies.{answer}
use Rattle.room_core.specs.Serves.{Serves, Stands}
use Rattle.leg_switch.specs.Marks.{marks_of}
use Rattle.leg_switch.specs.Switching.{standing}
use Rattle.simulcast.specs.declared.bundle.Bundle.{Bundle}
use Rattle.simulcast.specs.declared.bundles.Bundles.{Bundles}
use Rattle.simulcast.specs.declared.fault.BundleFault.{BundleFault}
use Rattle.simulcast.specs.declared.fault.BundleFault.TheVariants as fault
use Rattle.simulcast.specs.declared.pumped.Pumped.{Pumped}
use Rattle.simulcast.specs.Made.{AreLegs, Made, leg_at}
use Rattle.simulcast.specs.Pumping.{Pumping, called, order}
use Rattle.simulcast.specs.Bundle.{AreAt, ChoosesTo, DrawsTo, IsBundle, IsCounted, RedrawsTo, StopsAt, and_chosen, and_drawn, is_active_in, pumped_whole}
use Rattle.simulcast.specs.Bundles.{ChoosesAt, ChoosesLeg, DrawsAt, PumpsAt, RedrawsAt, Simulcast, StandsFor, and_asked, place_of}
use Rattle.simulcast.proofs.Drained.{pump_drains}
use Rattle.simulcast.proofs.Taking.{legs_stay, pumped_taken}
use Rattle.simulcast.proofs.Waiting.{called_accepted}
use Rattle.simulcast.proofs.Together.{AreStrangers, same_place, stands_now, stopped_stay, strangers_stay, there_at}

set_same : (ms : List Made) (i : ℕ) (m : Made) → slice_get ms i ≡ Some m → slice_set ms i m ≡ ms
set_same [] i m e = refl
set_same (x ∷ ms) zero m e = ap (λ (y : Made). y ∷ ms) (let same : m ≡ x = cc in same)
set_same (x ∷ ms) (suc i) m e = ap (λ (l : List Made). x ∷ l) (set_same ms i m e)

abbrev gives : Option ℕ → Result (Option ℕ) BundleFault
gives o = Ok o

abbrev none_of : BundleFault → Result (Option ℕ) BundleFault
none_of why = Err why

-- a plea doesn't change the legs
plead_legs : (history : List Entry) (n : ℕ) (starved : Bool) (p : Made) → AreLegs (accepted history) p → AreLegs (accepted (called starved (call.Plead n) history)) p
plead_legs history n starved p legs = subst (λ (x : List Call). AreLegs x p) (sym (called_accepted history (call.Plead n) starved)) (by starved)
  where
    either : (b : Bool) → AreLegs (cond b (call.Plead n ∷ accepted history) (accepted history)) p
    either true = λ k l e. (let leg = legs k l e in record { subscriber = leg.subscriber; live = leg.live; kind_is = leg.kind_is; before = leg.before; given_is = leg.given_is })
    either false = legs

    by : (b : Bool) → AreLegs (cond b (accepted history) (after (answer (accepted history) (call.Plead n)) (call.Plead n) (accepted history))) p
    by true = legs
    by false = either (is_accepted (answer (accepted history) (call.Plead n)))

module _ {R : Type 0} (noted : R → Option (List Noted)) (old new : Bundles R) (number : ℕ) (h : Simulcast) (stands : StandsFor noted old h) where
  -- ---- no such bundle

  module _ (none : None ≡ position (λ b. b.number == number) old.bundles.items) where
    abbrev not_there : None ≡ place_of number h.made
    not_there = none ∙ same_place number old.bundles.items h.made stands.bundles_are

    pub pumps_none : PumpsAt noted old h (place_of number h.made) (Err fault.NoBundle)
    pumps_none = subst (λ (o : Option ℕ). PumpsAt noted old h o (Err fault.NoBundle)) not_there (refl, stands)

    pub draws_none : (bytes : List ℕ) → DrawsAt noted old h (place_of number h.made) bytes (Err fault.NoBundle)
    draws_none bytes = subst (λ (o : Option ℕ). DrawsAt noted old h o bytes (Err fault.NoBundle)) not_there (refl, stands)

    pub redraws_none : (n : ℕ) (bytes : List ℕ) → RedrawsAt h (place_of number h.made) n bytes (Err fault.NoBundle)
    redraws_none n bytes = subst (λ (o : Option ℕ). RedrawsAt h o n bytes (Err fault.NoBundle)) not_there refl

    pub chooses_none : (leg : ℕ) → ChoosesAt noted old h (place_of number h.made) leg (Err fault.NoBundle)
    chooses_none leg = subst (λ (o : Option ℕ). ChoosesAt noted old h o leg (Err fault.NoBundle)) not_there (refl, stands)

  -- ---- the bundle at this place

  module _ (place : ℕ) (found : Bundle) (some : Some place ≡ position (λ b. b.number == number) old.bundles.items) (found_is : found ≡ get_or old.bundles.items place found) where
    abbrev is_there : Some place ≡ place_of number h.made
    is_there = some ∙ same_place number old.bundles.items h.made stands.bundles_are

    there_is : (m : Made) → slice_get h.made place ≡ Some m → AreAt noted old.room found (record { history = h.history; made = m })
    there_is m at = subst (λ (x : Bundle). AreAt noted old.room x (record { history = h.history; made = m })) (sym found_is) (there_at noted old h place m found stands at)

    pub redraws_ok : (n : ℕ) (bytes : List ℕ) → ((m : Made) → IsBundle found m → RedrawsTo m n bytes (Ok tt)) → RedrawsAt h (place_of number h.made) n bytes (Ok tt)
    redraws_ok n bytes does = subst (λ (o : Option ℕ). RedrawsAt h o n bytes (Ok tt)) is_there (λ m at. does m (there_is m at).bundle_is)

    pub redraws_err : (n : ℕ) (bytes : List ℕ) (why : Refusal) → ((m : Made) → IsBundle found m → RedrawsTo m n bytes (Err why)) → RedrawsAt h (place_of number h.made) n bytes (Err (fault.Room why))
    redraws_err n bytes why does =
        subst (λ (o : Option ℕ). RedrawsAt h o n bytes (Err (fault.Room why))) is_there (λ m at. let done = does m (there_is m at).bundle_is in (ap fault.Room done.0, done.1, done.2))

    module _ (c : Bundle) (set_is : new.bundles.items ≡ slice_set old.bundles.items place c) where
      -- ---- a pump

      pub pumps_ok : (p : Pumped) → ((s : Pumping) → AreAt noted old.room found s → AreAt noted new.room c (pumped_whole s) × IsCounted s.made (pumped_whole s).made p)
          → PumpsAt noted new h (place_of number h.made) (Ok p)
      pumps_ok p does =
          subst (λ (o : Option ℕ). PumpsAt noted new h o (Ok p)) is_there
          (λ m at.
          let s : Pumping = record { history = h.history; made = m } in
          let there = there_is m at in
          let done = does s there in
          let few : length m.legs ≤ 3 = subst (λ (l : List ℕ). length l ≤ 3) there.bundle_is.legs_are found.few_legs in
          let reached = pumped_taken (order (standing (marks_of m.id) m.events)) s in (
            stands_now noted old new h place m stands at c (pumped_whole s) (legs_stay s (pumped_whole s) reached) set_is done.0 (λ q strangers legs. strangers_stay s (pumped_whole s) q reached strangers legs),
            done.1,
            pump_drains s (standing (marks_of m.id) m.events) there.room_is.well_formed there.legs few,
          ))

      pub pumps_err : ((s : Pumping) → AreAt noted old.room found s → StopsAt noted new.room c (order (standing (marks_of s.made.id) s.made.events)) s) → PumpsAt noted new h (place_of number h.made) (Err fault.NoMemory)
      pumps_err does =
          subst (λ (o : Option ℕ). PumpsAt noted new h o (Err fault.NoMemory)) is_there
          (λ m at.
          let s : Pumping = record { history = h.history; made = m } in
          let stop = does s (there_is m at) in
          let same = legs_stay s stop.now stop.reached in (
            refl,
            record {
              now = stop.now;
              leg = stop.leg;
              subscriber = stop.subscriber;
              later = stop.later;
              reached = stop.reached;
              is_leg = stop.is_leg;
              same = stop.same;
              there = stands_now noted old new h place m stands at c (record { history = called true (call.Take stop.subscriber) stop.now.history; made = stop.now.made }) same set_is stop.there
                  (λ q strangers legs.
                  stopped_stay stop.now stop.leg stop.subscriber q stop.is_leg (subst (λ (l : List ℕ). AreStrangers l q.legs) (sym same) strangers) (strangers_stay s stop.now q stop.reached strangers legs));
            },
          ))

      -- ---- a draw

      module _ (room_is : new.room ≡ old.room) where
        drawn_there : (m : Made) → slice_get h.made place ≡ Some m → IsBundle c (and_drawn m) → AreAt noted new.room c (record { history = h.history; made = and_drawn m })
        drawn_there m at is =
            let before = there_is m at in
            record {
              room_is = subst (λ (r : Room R). Stands noted r h.history) (sym room_is) before.room_is;
              bundle_is = is;
              legs = before.legs;
              apart = before.apart;
              strays = before.strays;
            }

        same_there : (m : Made) → slice_get h.made place ≡ Some m → IsBundle c m → StandsFor noted new h
        same_there m at is =
            let before = there_is m at in
            let s : Pumping = record { history = h.history; made = m } in
            subst (λ (l : List Made). StandsFor noted new (record { history = h.history; made = l })) (set_same h.made place m at)
            (stands_now noted old new h place m stands at c s refl set_is
            (record {
              room_is = subst (λ (r : Room R). Stands noted r h.history) (sym room_is) before.room_is;
              bundle_is = is;
              legs = before.legs;
              apart = before.apart;
              strays = before.strays;
            })
            (λ q strangers legs. legs))

        pub draws_ok : (n : ℕ) (bytes : List ℕ) → ((m : Made) → IsBundle found m → DrawsTo c m bytes (Ok n)) → DrawsAt noted new h (place_of number h.made) bytes (Ok n)
        draws_ok n bytes does =
            subst (λ (o : Option ℕ). DrawsAt noted new h o bytes (Ok n)) is_there
            (λ m at.
            let done = does m (there_is m at).bundle_is in (
              stands_now noted old new h place m stands at c (record { history = h.history; made = and_drawn m }) refl set_is (drawn_there m at done.0) (λ q strangers legs. legs),
              done.1,
              done.2,
            ))

        pub draws_err : (why : Refusal) (bytes : List ℕ) → ((m : Made) → IsBundle found m → DrawsTo c m bytes (Err why)) → DrawsAt noted new h (place_of number h.made) bytes (Err (fault.Room why))
        draws_err why bytes does =
            subst (λ (o : Option ℕ). DrawsAt noted new h o bytes (Err (fault.Room why))) is_there
            (λ m at. let done = does m (there_is m at).bundle_is in (same_there m at done.0, ap fault.Room done.1, done.2))

        -- ---- a choice

        chosen_there : (m : Made) (leg : ℕ) → slice_get h.made place ≡ Some m → IsBundle c (and_chosen leg m) → AreAt noted new.room c (record { history = h.history; made = and_chosen leg m })
        chosen_there m leg at is =
            let before = there_is m at in
            record {
              room_is = subst (λ (r : Room R). Stands noted r h.history) (sym room_is) before.room_is;
              bundle_is = is;
              legs = λ k l e. (let x = before.legs k l e in record { subscriber = x.subscriber; live = x.live; kind_is = x.kind_is; before = x.before; given_is = x.given_is });
              apart = before.apart;
              strays = before.strays;
            }

        pub chooses_active : (leg : ℕ) → ((m : Made) → IsBundle found m → ChoosesTo c leg m (leg_at leg m.legs) (Ok None)) → ChoosesAt noted new h (place_of number h.made) leg (Ok tt)
        chooses_active leg does =
            subst (λ (o : Option ℕ). ChoosesAt noted new h o leg (Ok tt)) is_there (λ m at. go m at (leg_at leg m.legs) (does m (there_is m at).bundle_is))
          where
            go : (m : Made) → slice_get h.made place ≡ Some m → (o : Option ℕ) → ChoosesTo c leg m o (Ok None) → ChoosesLeg noted new h place m leg o (Ok tt)
            go m at None done = absurd (let other : gives None ≡ Err (fault.NoLeg (length m.legs)) = done.0 in cc)
            go m at (Some n) done = by (is_active_in leg m) done.0
              where
                by : (b : Bool) → gives None ≡ gives (cond b None (Some n)) → StandsFor noted new (record { history = and_asked b false n h.history; made = slice_set h.made place (and_chosen leg m) })
                by true e = stands_now noted old new h place m stands at c (record { history = h.history; made = and_chosen leg m }) refl set_is (chosen_there m leg at done.1) (λ q strangers legs. legs)
                by false e = absurd cc

        pub chooses_err : (leg : ℕ) (why : BundleFault) → ((m : Made) → IsBundle found m → ChoosesTo c leg m (leg_at leg m.legs) (Err why)) → ChoosesAt noted new h (place_of number h.made) leg (Err why)
        chooses_err leg why does =
            subst (λ (o : Option ℕ). ChoosesAt noted new h o leg (Err why)) is_there (λ m at. go m at (leg_at leg m.legs) (does m (there_is m at).bundle_is))
          where
            go : (m : Made) → slice_get h.made place ≡ Some m → (o : Option ℕ) → ChoosesTo c leg m o (Err why) → ChoosesLeg noted new h place m leg o (Err why)
            go m at None done = ((let same : why ≡ fault.NoLeg (length m.legs) = (let e : Err why ≡ none_of (fault.NoLeg (length m.legs)) = done.0 in cc) in ap Err same), same_there m at done.1)
            go m at (Some n) done = absurd (let other : Err why ≡ gives (cond (is_active_in leg m) None (Some n)) = done.0 in cc)

      -- ---- a choice that requests a key frame

      module _ (leg subscriber : ℕ) (reply : Reply) (serves : (bytes numbers : List ℕ) → Serves noted old.room new.room 0 (call.Plead subscriber) reply bytes numbers)
          (does : (m : Made) → IsBundle found m → ChoosesTo c leg m (leg_at leg m.legs) (Ok (Some subscriber))) where
        asked_there : (starved : Bool) → is_starved reply ≡ starved → (m : Made) → slice_get h.made place ≡ Some m → IsBundle c (and_chosen leg m)
            → StandsFor noted new (record { history = called starved (call.Plead subscriber) h.history; made = slice_set h.made place (and_chosen leg m) })
        asked_there starved is m at chosen =
            let before = there_is m at in
            stands_now noted old new h place m stands at c (record { history = called starved (call.Plead subscriber) h.history; made = and_chosen leg m }) refl set_is
            (record {
              room_is = subst (λ (x : Bool). Stands noted new.room (called x (call.Plead subscriber) h.history)) is ((serves [] []).stands h.history stands.room_is);
              bundle_is = chosen;
              legs = plead_legs h.history subscriber starved (and_chosen leg m) (λ k l e. (let x = before.legs k l e in record { subscriber = x.subscriber; live = x.live; kind_is = x.kind_is; before = x.before; given_is = x.given_is }));
              apart = before.apart;
              strays = before.strays;
            })
            (λ q strangers legs. plead_legs h.history subscriber starved q legs)

        asks : (m : Made) (n : ℕ) (b : Bool) → is_active_in leg m ≡ b → gives (Some subscriber) ≡ gives (cond b None (Some n)) → (b ≡ false) × (subscriber ≡ n)
        asks m n true is e = absurd cc
        asks m n false is e = (refl, (let same : subscriber ≡ n = cc in same))

        pub chooses_asked : is_starved reply ≡ false → ChoosesAt noted new h (place_of number h.made) leg (Ok tt)
        chooses_asked fed = subst (λ (o : Option ℕ). ChoosesAt noted new h o leg (Ok tt)) is_there (λ m at. go m at (leg_at leg m.legs) (does m (there_is m at).bundle_is))
          where
            go : (m : Made) → slice_get h.made place ≡ Some m → (o : Option ℕ) → ChoosesTo c leg m o (Ok (Some subscriber)) → ChoosesLeg noted new h place m leg o (Ok tt)
            go m at None done = absurd (let other : gives (Some subscriber) ≡ Err (fault.NoLeg (length m.legs)) = done.0 in cc)
            go m at (Some n) done =
                let a = asks m n (is_active_in leg m) refl done.0 in
                subst (λ (x : Bool). StandsFor noted new (record { history = and_asked x false n h.history; made = slice_set h.made place (and_chosen leg m) })) (sym a.0)
                (subst (λ (x : ℕ). StandsFor noted new (record { history = called false (call.Plead x) h.history; made = slice_set h.made place (and_chosen leg m) })) a.1 (asked_there false fed m at done.1))

        pub chooses_starved : is_starved reply ≡ true → ChoosesAt noted new h (place_of number h.made) leg (Err fault.NoMemory)
        chooses_starved starved = subst (λ (o : Option ℕ). ChoosesAt noted new h o leg (Err fault.NoMemory)) is_there (λ m at. go m at (leg_at leg m.legs) (does m (there_is m at).bundle_is))
          where
            go : (m : Made) → slice_get h.made place ≡ Some m → (o : Option ℕ) → ChoosesTo c leg m o (Ok (Some subscriber)) → ChoosesLeg noted new h place m leg o (Err fault.NoMemory)
            go m at None done = absurd (let other : gives (Some subscriber) ≡ Err (fault.NoLeg (length m.legs)) = done.0 in cc)
            go m at (Some n) done =
                let a = asks m n (is_active_in leg m) refl done.0 in (
                  refl,
                  a.0,
                  subst (λ (x : ℕ). StandsFor noted new (record { history = called true (call.Plead x) h.history; made = slice_set h.made place (and_chosen leg m) })) a.1 (asked_there true starved m at done.1),
                )
