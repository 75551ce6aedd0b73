-- The first frame that passes after a chain was found broken.
use Rattle.std.proofs.Common.{◌≡◌, ◌⊎◌, inl, inr, ◌≤◌, ℕ, arith, Bool, true, false, List, [], ◌∷◌, ◌++◌, refl, sym, ap, cond, true≢false, ◌&&◌, ◌||◌, length}
use Rattle.std.proofs.lemmas.Bool.{and_parts, or_cases}
use Rattle.std.specs.declared.option.Option.{Option}
use Rattle.std.specs.declared.option.Option.TheVariants.{None, Some}
use Rattle.sfu_base.specs.declared.frame.FrameMeaning.{FrameMeaning}
use Rattle.sfu_base.specs.declared.frame.Wish.{Wish}
use Rattle.forwarding_model.specs.forwarding.Targets.{is_switch, is_present, is_allowed, best}
use Rattle.forwarding_model.specs.declared.target.CurrentTarget.{CurrentTarget}
use Rattle.forwarding_model.specs.forwarding.Selection.{missing_reference, target_under_mask, target_after_link, can_open, opened_or, is_present_in, has_capacity}
use Rattle.forwarding_model.specs.forwarding.Timeline.{Event, Frame}
use Rattle.forwarding_model.specs.forwarding.Standing.{Standing, is_epoch, has_below, passed_at, target_at, has_passed, key_passed, kept_target_at, candidate_at, passes_at, admitted, after_plain, plain_passes, standing}
use Rattle.forwarding_model.specs.forwarding.Timeline.Event.{WholeFrame, PlainPacket, WishChange, Take}
use Rattle.forwarding_model.specs.declared.target.CurrentTarget.TheVariants.{Open, Closed}
use Rattle.forwarding_model.specs.declared.target.Reason.TheVariants.{NotOpened}
use Rattle.forwarding_laws.specs.forwarding.Restart.{WasClosed, BreaksAt, OpensBySwitch, IsRestart}
use Rattle.forwarding_model.specs.Lists.{is_nothing}
use Rattle.forwarding_laws.proofs.Sound.{none_is, best_passes}

abbrev IsClosed : CurrentTarget → Type 0
IsClosed (Open t opened) = ⊥
IsClosed (Closed r) = Unit {0}

cut_closed : (before target : CurrentTarget) → WasClosed before target → IsClosed target
cut_closed (Open t opened) (Closed r) c = tt
cut_closed (Open t opened) (Open u later) c = c
cut_closed (Closed r) target c = absurd c

-- a closed target stays closed until a frame opens a target
closed_at : (s : Standing) (f : FrameMeaning) → IsClosed s.target → IsClosed (kept_target_at s f)
closed_at s f h = after_steps (target_at s f) (go (is_epoch s.epoch f.epoch))
  where
    go : (b : Bool) → IsClosed (cond b s.target (Closed (NotOpened f.number)))
    go true = h
    go false = tt

    after_steps : (t : CurrentTarget) → IsClosed t → IsClosed (target_after_link (has_below (passed_at s f) f.number) f (target_under_mask f t))
    after_steps (Open t opened) c = absurd c
    after_steps (Closed r) c = tt

-- which frames pass if no target is open
restart : (s : Standing) (f : FrameMeaning) (packets : ℕ) → IsClosed (kept_target_at s f) → passes_at s f packets ≡ true → IsRestart s f
restart s f packets closed p =
    let a = and_parts (is_present_in f (candidate_at s f)) _ p in
    let b = and_parts (is_nothing (missing_reference (has_passed s f) f)) (has_capacity s.queued packets) a.1 in
    record {
      complete = none_is _ b.0;
      begins = go (best f (can_open s.wish (is_nothing (missing_reference (has_passed s f) f)) (f.key || key_passed s f) f (kept_target_at s f))) refl a.0;
    }
  where
    shut : (t : CurrentTarget) → IsClosed t → is_present_in f t ≡ true → ⊥
    shut (Open t opened) c e = c
    shut (Closed r) c e = true≢false (sym e)

    opens : (t : ℕ) → can_open s.wish (is_nothing (missing_reference (has_passed s f) f)) (f.key || key_passed s f) f (kept_target_at s f) t ≡ true → (f.key ≡ true) ⊎ (is_switch f t ≡ true)
    opens t h =
        let a = and_parts (is_allowed s.wish f t) _ h in
        let b = and_parts (is_switch f t || (f.key && is_present f t)) _ a.1 in
        elim (or_cases (is_switch f t) _ b.0) [ inl e ↦ inr e | inr e ↦ inl (and_parts f.key _ e).0 ]

    go : (o : Option ℕ) → best f (can_open s.wish (is_nothing (missing_reference (has_passed s f) f)) (f.key || key_passed s f) f (kept_target_at s f)) ≡ o
        → is_present_in f (opened_or f o (kept_target_at s f)) ≡ true → (f.key ≡ true) ⊎ OpensBySwitch s f
    go None e present = absurd (shut (kept_target_at s f) closed present)
    go (Some t) e present = elim (opens t (best_passes f _ f.target_count t e)) [ inl k ↦ inl k | inr w ↦ inr (t, e, w) ]

-- passed frames are only added, so if the list is the same at the end, no frame passed in between
grows : {S : Type 0} (wish : Wish) (since past : List (Event S)) → length (standing wish past).passed ≤ length (standing wish (since ++ past)).passed
grows wish [] past = omega arith
grows wish (WholeFrame x ∷ since) past = go (passes_at (standing wish (since ++ past)) x.meaning (length x.packets)) (grows wish since past)
  where
    go : (b : Bool) → length (standing wish past).passed ≤ length (standing wish (since ++ past)).passed
        → length (standing wish past).passed ≤ length (admitted b (standing wish (since ++ past)) x.meaning (length x.packets)).passed
    go true h = omega arith
    go false h = h
grows wish (PlainPacket p ∷ since) past = go (plain_passes (standing wish (since ++ past))) (grows wish since past)
  where
    go : (b : Bool) → length (standing wish past).passed ≤ length (standing wish (since ++ past)).passed
        → length (standing wish past).passed ≤ length (after_plain b (standing wish (since ++ past))).passed
    go true h = h
    go false h = h
grows wish (WishChange w ∷ since) past = grows wish since past
grows wish (Take ∷ since) past = grows wish since past

stays_closed : {S : Type 0} (wish : Wish) (since past : List (Event S)) → IsClosed (standing wish past).target
    → length (standing wish (since ++ past)).passed ≤ length (standing wish past).passed → IsClosed (standing wish (since ++ past)).target
stays_closed wish [] past c e = c
stays_closed wish (WholeFrame x ∷ since) past c e =
    go (passes_at (standing wish (since ++ past)) x.meaning (length x.packets)) e (grows wish since past) (stays_closed wish since past c)
  where
    go : (b : Bool) → length (admitted b (standing wish (since ++ past)) x.meaning (length x.packets)).passed ≤ length (standing wish past).passed
        → length (standing wish past).passed ≤ length (standing wish (since ++ past)).passed
        → (length (standing wish (since ++ past)).passed ≤ length (standing wish past).passed → IsClosed (standing wish (since ++ past)).target)
        → IsClosed (admitted b (standing wish (since ++ past)) x.meaning (length x.packets)).target
    go true e more rec = absurd (omega arith)
    go false e more rec = closed_at (standing wish (since ++ past)) x.meaning (rec e)
stays_closed wish (PlainPacket p ∷ since) past c e =
    go (plain_passes (standing wish (since ++ past))) e (stays_closed wish since past c)
  where
    go : (b : Bool) → length (after_plain b (standing wish (since ++ past))).passed ≤ length (standing wish past).passed
        → (length (standing wish (since ++ past)).passed ≤ length (standing wish past).passed → IsClosed (standing wish (since ++ past)).target)
        → IsClosed (after_plain b (standing wish (since ++ past))).target
    go true e rec = rec e
    go false e rec = rec e
stays_closed wish (WishChange w ∷ since) past c e = stays_closed wish since past c e
stays_closed wish (Take ∷ since) past c e = stays_closed wish since past c e

pub restart_there : {S : Type 0} (wish : Wish) (past : List (Event S)) (f : FrameMeaning) (packets : ℕ) → BreaksAt (standing wish past) f
    → passes_at (standing wish past) f packets ≡ true → IsRestart (standing wish past) f
restart_there wish past f packets breaks p = restart (standing wish past) f packets (cut_closed _ _ breaks) p

pub restart_later : {S : Type 0} (wish : Wish) (past since : List (Event S)) (x : Frame S) (g : FrameMeaning) (packets : ℕ) → BreaksAt (standing wish past) x.meaning
    → (standing wish (since ++ WholeFrame x ∷ past)).passed ≡ (standing wish past).passed
    → passes_at (standing wish (since ++ WholeFrame x ∷ past)) g packets ≡ true → IsRestart (standing wish (since ++ WholeFrame x ∷ past)) g
restart_later wish past since x g packets breaks none p =
    restart (standing wish (since ++ WholeFrame x ∷ past)) g packets
    (closed_at (standing wish (since ++ WholeFrame x ∷ past)) g
    (stays_closed wish since (WholeFrame x ∷ past) closed (omega (arith, same, ap length none))))
    p
  where
    same : length (standing wish past).passed ≤ length (standing wish (WholeFrame x ∷ past)).passed
    same = grows wish (WholeFrame x ∷ []) past

    here : (b : Bool) → length (admitted b (standing wish past) x.meaning (length x.packets)).passed ≤ length (standing wish past).passed
        → IsClosed (admitted b (standing wish past) x.meaning (length x.packets)).target
    here true e = absurd (omega arith)
    here false e = cut_closed _ _ breaks

    closed : IsClosed (standing wish (WholeFrame x ∷ past)).target
    closed = here (passes_at (standing wish past) x.meaning (length x.packets)) (omega (arith, grows wish since (WholeFrame x ∷ past), ap length none))
