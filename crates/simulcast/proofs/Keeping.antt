-- The facts that each call preserves, for the history and the bundles alone.
use Rattle.std.proofs.Common.{is_some, ◌≡◌, ◌≤◌, ◌<◌, ℕ, Bool, true, false, cond, List, [], ◌∷◌, eqb, refl, sym, ap, subst, ◌∙◌, arith, Option, Some, None, slice_get, slice_set}
use Rattle.std.specs.Prelude.{◌^◌}
use Rattle.sfu_base.specs.Answer.{Answer}
use Rattle.sfu_base.specs.declared.call.Call.{Call}
use Rattle.sfu_base.specs.declared.call.Call.TheVariants as call
use Rattle.room_core.specs.History.{accepted, after, is_accepted}
use Rattle.room_core.specs.Live.{Joined, highest_subscriber, highest_track, joined, live_subscribers, published}
use Rattle.room_core.specs.Replies.{answer, join_refusal}
use Rattle.room_core.specs.WellFormed.{AreWellFormed, IsValue}
use Rattle.room_core.proofs.Beginnings.{accepted_subscriber, live_below, of_some}
use Rattle.room_core.proofs.Giving.{AreAccepted, accepted_are}
use Rattle.room_core.proofs.Promising.{headline}
use Rattle.room_core.proofs.WellFormed.{well_formed_after}
use Rattle.leg_switch.specs.Marks.{marks_of}
use Rattle.leg_switch.specs.Switching.{standing}
use Rattle.simulcast.specs.declared.fault.BundleFault.{BundleFault}
use Rattle.simulcast.specs.Waiting.{waiting}
use Rattle.simulcast.specs.Made.{AreApart, AreLegs, HasNoStrays, Made, leg_at, made_with, outgoing_of}
use Rattle.simulcast.specs.Pumping.{Pumping, and_took, called, drained, drained_from, drained_leg, is_full, order, pumped}
use Rattle.simulcast.specs.Bundle.{again_of, and_chosen, and_drawn, is_active_in, pumped_whole}
use Rattle.simulcast.specs.Bundles.{Simulcast, and_asked, and_now, bundle_refusal, forbids, place_of}
use Rattle.simulcast.specs.Answers.{Answered, bundle_made, bundle_pumped, called_unless, choice_of, draw_of, leg_chosen, made_at, made_unless, packet_drawn, packet_redrawn, pump_of, redraw_of, room_called, with_found, with_number}
use Rattle.simulcast.specs.Kept.{CallsKeep, IsKept, IsPleasing}
use Rattle.simulcast.proofs.AllPleased.{made_pleases}
use Rattle.simulcast.proofs.Calling.{not_refused, one_call, unbound}
use Rattle.simulcast.proofs.OneMore.{one_held, ssrcs_held}
use Rattle.simulcast.proofs.OneTake.{took_legs, took_strays}
use Rattle.simulcast.proofs.Taking.{legs_stay, pumped_taken}
use Rattle.simulcast.proofs.Together.{AreHeld, AreStrangers, held_now, ssrcs_now, strangers_stay}
use Rattle.simulcast.proofs.Waiting.{IsLive, called_accepted, dry_answer, next_answer, waits_less}
use Rattle.simulcast.proofs.WholePump.{pumped_alone, takes_nothing}

held : (h : Simulcast) → IsKept h → AreHeld h
held h kept = record { legs = kept.legs; apart = kept.apart; strays = kept.strays }

-- ---- the guarantees

pub kept_pleases : (h : Simulcast) → IsKept h → IsPleasing h
kept_pleases h kept = record {
  headline = headline h.history kept.formed;
  legs = kept.legs;
  receivers = λ i m at. made_pleases (accepted h.history) m (headline h.history kept.formed) (kept.legs i m at) (kept.strays i m at) (kept.fits i m at);
}

-- ---- a call on the room

-- a live subscriber's track was published
track_known : (past : List Call) → AreAccepted past → (n : ℕ) (j : Joined) → joined n past ≡ Some j → j.track ≤ highest_track past
track_known [] all n j e = absurd cc
track_known (call.Join subscriber track ssrc first wish ∷ past) all n j e =
    let found = (accepted_subscriber (is_some (published track past)) (highest_subscriber past) (live_subscribers past) subscriber
    (not_refused (join_refusal (is_some (published track past)) (highest_subscriber past) (live_subscribers past) subscriber) all.0)).0 in
    let p = of_some (published track past) found in
    go (record { track = track; ssrc = ssrc; first = first; wish = wish }) (live_below past track p.0 p.1) (eqb subscriber n) e (track_known past all.1 n j)
  where
    go : (own : Joined) → own.track ≤ highest_track past → (b : Bool) → cond b (Some own) (joined n past) ≡ Some j → (joined n past ≡ Some j → j.track ≤ highest_track past) → j.track ≤ highest_track past
    go own below true f rec = let same : own ≡ j = cc in subst (λ (x : Joined). x.track ≤ highest_track past) same below
    go own below false f rec = rec f
track_known (call.Leave subscriber ∷ past) all n j e = go (eqb subscriber n) e (track_known past all.1 n j)
  where
    go : (b : Bool) → cond b None (joined n past) ≡ Some j → (joined n past ≡ Some j → j.track ≤ highest_track past) → j.track ≤ highest_track past
    go true f rec = absurd cc
    go false f rec = rec f
track_known (call.Publish track kind ssrc hold ∷ past) all n j e = let rec = track_known past all.1 n j e in omega arith
track_known (call.Unpublish track ∷ past) all n j e = track_known past all.1 n j e
track_known (call.Packet track moment bytes ∷ past) all n j e = track_known past all.1 n j e
track_known (call.Tick track moment ∷ past) all n j e = track_known past all.1 n j e
track_known (call.Aim subscriber wish ∷ past) all n j e = track_known past all.1 n j e
track_known (call.Take subscriber ∷ past) all n j e = track_known past all.1 n j e
track_known (call.Resend subscriber sequence ∷ past) all n j e = track_known past all.1 n j e
track_known (call.Missing track ∷ past) all n j e = track_known past all.1 n j e
track_known (call.KeyWanted track ∷ past) all n j e = track_known past all.1 n j e
track_known (call.Plead subscriber ∷ past) all n j e = track_known past all.1 n j e
track_known (call.Why subscriber number ∷ past) all n j e = track_known past all.1 n j e

-- a call that no bundle forbids
call_keeps : (h : Simulcast) (c : Call) → IsValue c → IsKept h → forbids c h.made ≡ None → IsKept (record { history = called false c h.history; made = h.made })
call_keeps h c value kept free = record {
  formed = subst AreWellFormed (sym past_is) (well_formed_after (accepted h.history) c value kept.formed);
  legs = λ i p at. subst (λ (x : List Call). AreLegs x p) (sym past_is) (by (is_accepted (answer (accepted h.history) c)) refl i p at);
  apart = kept.apart;
  strays = kept.strays;
  fits = kept.fits;
}
  where
    past_is : accepted (called false c h.history) ≡ after (answer (accepted h.history) c) c (accepted h.history)
    past_is = called_accepted h.history c false

    by : (b : Bool) → is_accepted (answer (accepted h.history) c) ≡ b → (i : ℕ) (p : Made) → slice_get h.made i ≡ Some p → AreLegs (cond b (c ∷ accepted h.history) (accepted h.history)) p
    by true ok i p at =
        λ k n e. (
        let leg = kept.legs i p at k n e in
        let free_of = unbound c h.made i k n p free at e in
        one_call (accepted h.history) p.id k n p leg (track_known (accepted h.history) (accepted_are h.history) n leg.subscriber leg.live) c ok free_of.0 free_of.1)
    by false ok i p at = kept.legs i p at

room_keeps : (h : Simulcast) (c : Call) → IsValue c → IsKept h → IsKept (room_called c h).after
room_keeps h c value kept = go (forbids c h.made) refl
  where
    go : (o : Option ℕ) → forbids c h.made ≡ o → IsKept (called_unless c h o).after
    go None free = call_keeps h c value kept free
    go (Some bundle) is = kept

-- ---- a bundle

bundle_keeps : (renumbers : Bool) (h : Simulcast) (number id ssrc first : ℕ) (legs : List ℕ) → ssrc < 2 ^ 32 → IsKept h → IsKept (bundle_made (made_with renumbers number id ssrc first legs) h).after
bundle_keeps renumbers h number id ssrc first legs small kept = go (bundle_refusal h number id legs) refl
  where
    go : (o : Option BundleFault) → bundle_refusal h number id legs ≡ o → IsKept (made_unless (made_with renumbers number id ssrc first legs) h o).after
    go (Some why) is = kept
    go None is =
        let now = one_held renumbers number id ssrc first legs h (held h kept) (sym is) in
        record { formed = kept.formed; legs = now.legs; apart = now.apart; strays = now.strays; fits = ssrcs_held renumbers number id ssrc first legs h (held h kept) (sym is) small kept.fits }

-- ---- a call on an existing bundle

found_keeps : {A : Type 0} (h : Simulcast) (number : ℕ) (does : ℕ → Made → Answered A) → IsKept h → ((i : ℕ) (m : Made) → slice_get h.made i ≡ Some m → IsKept (does i m).after)
    → IsKept (with_number number h does).after
found_keeps {A} h number does kept keeps = go (place_of number h.made)
  where
    at : (i : ℕ) (o : Option Made) → slice_get h.made i ≡ o → IsKept (with_found h (Some i) o does).after
    at i None e = kept
    at i (Some m) e = keeps i m e

    go : (o : Option ℕ) → IsKept (with_found h o (made_at h.made o) does).after
    go None = kept
    go (Some i) = at i (slice_get h.made i) refl

-- one of the bundles changed, and possibly the history
change_keeps : (h : Simulcast) (i : ℕ) (m : Made) (s : Pumping) → IsKept h → slice_get h.made i ≡ Some m → s.made.legs ≡ m.legs → s.made.ssrc ≡ m.ssrc → AreWellFormed (accepted s.history)
    → AreLegs (accepted s.history) s.made → HasNoStrays s.made → ((p : Made) → AreStrangers m.legs p.legs → AreLegs (accepted h.history) p → AreLegs (accepted s.history) p) → IsKept (and_now h i s)
change_keeps h i m s kept at same ssrc formed legs strays others =
    let now = held_now h i m (held h kept) at s same legs strays others in
    record { formed = formed; legs = now.legs; apart = now.apart; strays = now.strays; fits = ssrcs_now h i m (held h kept) at s same legs strays others ssrc kept.fits }

-- ---- a choice

chosen_keeps : (h : Simulcast) (i leg : ℕ) (m : Made) → IsKept h → slice_get h.made i ≡ Some m → IsKept (record { history = h.history; made = slice_set h.made i (and_chosen leg m) })
chosen_keeps h i leg m kept at =
    change_keeps h i m (record { history = h.history; made = and_chosen leg m }) kept at refl refl kept.formed
    (λ k n e. (let x = kept.legs i m at k n e in record { subscriber = x.subscriber; live = x.live; kind_is = x.kind_is; before = x.before; given_is = x.given_is }))
    (kept.strays i m at) (λ p strangers legs. legs)

choice_keeps : (h : Simulcast) (number leg : ℕ) → IsKept h → IsKept (leg_chosen number leg h).after
choice_keeps h number leg kept = found_keeps h number (λ i m. choice_of leg h i m (leg_at leg m.legs)) kept (λ i m at. go i m at (leg_at leg m.legs))
  where
    asked : (i n : ℕ) (m : Made) → slice_get h.made i ≡ Some m → (active : Bool) → IsKept (record { history = and_asked active false n h.history; made = slice_set h.made i (and_chosen leg m) })
    asked i n m at true = chosen_keeps h i leg m kept at
    asked i n m at false = chosen_keeps (record { history = called false (call.Plead n) h.history; made = h.made }) i leg m (call_keeps h (call.Plead n) tt kept refl) at

    go : (i : ℕ) (m : Made) → slice_get h.made i ≡ Some m → (o : Option ℕ) → IsKept (choice_of leg h i m o).after
    go i m at None = kept
    go i m at (Some n) = asked i n m at (is_active_in leg m)

-- ---- a pump

record IsWhole (s : Pumping) : Type 0 where
  formed : AreWellFormed (accepted s.history)
  legs : AreLegs (accepted s.history) s.made
  apart : AreApart s.made.legs
  strays : HasNoStrays s.made

live_leg : (s : Pumping) (k n : ℕ) (queue : List (List ℕ)) → IsWhole s → leg_at k s.made.legs ≡ Some n → waiting n (accepted s.history) ≡ queue
    → (j : Joined) × IsLive (accepted s.history) n j queue
live_leg s k n queue whole at waits =
    let leg = whole.legs k n at in
    (leg.subscriber, record { live = leg.live; numbered = (headline s.history whole.formed).all n leg.subscriber leg.live; waits = waits })

whole_drained : (k n : ℕ) (queue : List (List ℕ)) (s : Pumping) → IsWhole s → leg_at k s.made.legs ≡ Some n → waiting n (accepted s.history) ≡ queue → IsWhole (drained k n queue s)
whole_drained k n [] s whole at waits = by (is_full s.made)
  where
    past_is : accepted (called false (call.Take n) s.history) ≡ accepted s.history
    past_is =
        let live = live_leg s k n [] whole at waits in
        called_accepted s.history (call.Take n) false ∙ ap (λ (a : Answer). after a (call.Take n) (accepted s.history)) (dry_answer (accepted s.history) n live.0 live.1)

    by : (b : Bool) → IsWhole (cond b s (record { history = called false (call.Take n) s.history; made = s.made }))
    by true = whole
    by false = record {
      formed = subst AreWellFormed (sym past_is) whole.formed;
      legs = subst (λ (x : List Call). AreLegs x s.made) (sym past_is) whole.legs;
      apart = whole.apart;
      strays = whole.strays;
    }
whole_drained k n (p ∷ queue) s whole at waits =
    let live = live_leg s k n (p ∷ queue) whole at waits in
    let gives = next_answer (accepted s.history) n live.0 p queue live.1 in
    let next : Pumping = record { history = called false (call.Take n) s.history; made = and_took k p s.made } in
    let past_is : accepted next.history ≡ call.Take n ∷ accepted s.history =
    called_accepted s.history (call.Take n) false ∙ ap (λ (a : Answer). after a (call.Take n) (accepted s.history)) gives in
    let one : IsWhole next = record {
      formed = subst AreWellFormed (sym past_is) (tt, whole.formed);
      legs = subst (λ (x : List Call). AreLegs x (and_took k p s.made)) (sym past_is) (took_legs (accepted s.history) s.made k n p at whole.apart gives whole.legs);
      apart = whole.apart;
      strays = took_strays s.made k n p at whole.strays;
    } in
    by (is_full s.made) (whole_drained k n queue next one at (ap (waiting n) past_is ∙ waits_less (accepted s.history) n live.0 p queue live.1))
  where
    by : (b : Bool) → IsWhole (drained k n queue (record { history = called false (call.Take n) s.history; made = and_took k p s.made }))
        → IsWhole (cond b s (drained k n queue (record { history = called false (call.Take n) s.history; made = and_took k p s.made })))
    by true rest = whole
    by false rest = rest

whole_leg : (leg : Option ℕ) (s : Pumping) → IsWhole s → IsWhole (drained_leg leg s)
whole_leg None s whole = whole
whole_leg (Some k) s whole = go (leg_at k s.made.legs) refl
  where
    go : (o : Option ℕ) → leg_at k s.made.legs ≡ o → IsWhole (drained_from k o s)
    go None e = whole
    go (Some n) e = whole_drained k n (waiting n (accepted s.history)) s whole e refl

whole_pumped : (legs : List (Option ℕ)) (s : Pumping) → IsWhole s → IsWhole (pumped legs s)
whole_pumped [] s whole = whole
whole_pumped (leg ∷ legs) s whole = whole_pumped legs (drained_leg leg s) (whole_leg leg s whole)

pump_keeps : (h : Simulcast) (number : ℕ) → IsKept h → IsKept (bundle_pumped number h).after
pump_keeps h number kept =
    found_keeps h number (λ i m. pump_of h i m (pumped_whole (record { history = h.history; made = m }))) kept
    (λ i m at.
    let s : Pumping = record { history = h.history; made = m } in
    let legs : List (Option ℕ) = order (standing (marks_of m.id) m.events) in
    let whole : IsWhole (pumped legs s) =
    whole_pumped legs s (record { formed = kept.formed; legs = kept.legs i m at; apart = λ j k n e f. (kept.apart i i j k n m m at at e f).1; strays = kept.strays i m at }) in
    let reached = pumped_taken legs s in
    change_keeps h i m (pumped legs s) kept at (legs_stay s (pumped legs s) reached) (pumped_alone legs m s (takes_nothing m)).ssrc_is whole.formed whole.legs whole.strays
    (λ p strangers others. strangers_stay s (pumped legs s) p reached strangers others))

-- ---- draws

draw_keeps : (h : Simulcast) (number : ℕ) → IsKept h → IsKept (packet_drawn number h).after
draw_keeps h number kept = found_keeps h number (λ i m. draw_of h i m (slice_get (outgoing_of m) m.draws)) kept (λ i m at. go i m at (slice_get (outgoing_of m) m.draws))
  where
    go : (i : ℕ) (m : Made) → slice_get h.made i ≡ Some m → (o : Option (List ℕ)) → IsKept (draw_of h i m o).after
    go i m at None = kept
    go i m at (Some packet) =
        change_keeps h i m (record { history = h.history; made = and_drawn m }) kept at refl refl kept.formed
        (λ k n e. (let x = kept.legs i m at k n e in record { subscriber = x.subscriber; live = x.live; kind_is = x.kind_is; before = x.before; given_is = x.given_is }))
        (kept.strays i m at) (λ p strangers legs. legs)

redraw_keeps : (h : Simulcast) (number n : ℕ) → IsKept h → IsKept (packet_redrawn number n h).after
redraw_keeps h number n kept = found_keeps h number (λ i m. redraw_of h m (again_of n m)) kept (λ i m at. go m (again_of n m))
  where
    go : (m : Made) (o : Option (List ℕ)) → IsKept (redraw_of h m o).after
    go m None = kept
    go m (Some packet) = kept

-- ---- all

pub calls_keep : CallsKeep
calls_keep = record {
  begins = record { formed = tt; legs = λ i m e. absurd cc; apart = λ i j k l n m p e. absurd cc; strays = λ i m e. absurd cc; fits = λ i m e. absurd cc };
  calls = room_keeps;
  bundles = bundle_keeps false;
  renumbered_bundles = bundle_keeps true;
  choices = choice_keeps;
  pumps = pump_keeps;
  draws = draw_keeps;
  redraws = redraw_keeps;
  pleases = kept_pleases;
}
