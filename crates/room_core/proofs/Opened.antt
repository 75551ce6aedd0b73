-- A frame opens its target if and only if the selector says so.
use Rattle.std.proofs.Common.{◌≡◌, ◌<◌, ℕ, Bool, true, false, cond, List, [], ◌∷◌, ◌++◌, inl, inr, refl, sym, ap, ◌∙◌, subst, arith, Option, Some, None}
use Rattle.std.proofs.lemmas.Bool.{eq-eqb, ne_eqb}
use Rattle.sfu_base.specs.declared.frame.FrameMeaning.{FrameMeaning}
use Rattle.sfu_base.specs.declared.frame.Wish.{Wish}
use Rattle.forwarding_model.specs.Lists.{IsMember}
use Rattle.forwarding_model.specs.declared.target.CurrentTarget.{CurrentTarget}
use Rattle.forwarding_model.specs.declared.target.CurrentTarget.TheVariants.{Open, Closed}
use Rattle.forwarding_model.specs.declared.target.Reason.TheVariants.{NotOpened}
use Rattle.forwarding_model.specs.forwarding.Selection.{opened_or, opening}
use Rattle.forwarding_model.specs.forwarding.Timeline.{Frame, meanings_of}
use Rattle.forwarding_model.specs.forwarding.Timeline.Event.{WholeFrame, PlainPacket, WishChange, Take}
use Rattle.forwarding_model.specs.frames.TrackFrames.{IsOneTrack, Precedes}
use Rattle.forwarding_model.specs.forwarding.Standing.{Standing, admitted, after_frame, candidate_at, has_passed, is_epoch, kept_target_at, key_passed, passes_at, standing, target_at}
use Rattle.forwarding_laws.proofs.Links.{kept_open}
use Rattle.forwarding_laws.proofs.Members.{each_member}
use Rattle.forwarding_laws.proofs.Openings.{openings_hold}
use Rattle.target_selector.specs.Stands.{is_opening_at, is_something}
use Rattle.room_core.specs.Follows.{Happened}
use Rattle.room_core.specs.Openings.{FramesOpenTheirTargets}
use Rattle.room_core.specs.Sent.{opens}

-- ---- the opening

was_open : (s : Standing) (f : FrameMeaning) (target opened : ℕ) → kept_target_at s f ≡ Open target opened → s.target ≡ Open target opened
was_open s f target opened h = go (is_epoch s.epoch f.epoch) (kept_open (has_passed s f) f (target_at s f) target opened h).0
  where
    go : (b : Bool) → cond b s.target (Closed (NotOpened f.number)) ≡ Open target opened → s.target ≡ Open target opened
    go true k = k
    go false k = absurd (cc)

stands_in : (since past : List Happened) (frame : Frame _) → IsMember frame.meaning (meanings_of (since ++ WholeFrame frame ∷ past))
stands_in [] past frame = inl refl
stands_in (WholeFrame x ∷ since) past frame = inr (stands_in since past frame)
stands_in (PlainPacket p ∷ since) past frame = stands_in since past frame
stands_in (WishChange w ∷ since) past frame = stands_in since past frame
stands_in (Take ∷ since) past frame = stands_in since past frame

-- a target that was open before was opened by an earlier frame
opened_below : (wish : Wish) (events : List Happened) (f : FrameMeaning) (target opened : ℕ) → IsOneTrack (f ∷ meanings_of events)
    → (standing wish events).target ≡ Open target opened → opened < f.number
opened_below wish events f target opened track is =
    let w = openings_hold wish events target opened is in
    let member : IsMember w.frame.meaning (meanings_of events) = subst (λ (l : List Happened). IsMember w.frame.meaning (meanings_of l)) (sym w.stands) (stands_in w.since w.past w.frame) in
    subst (λ (n : ℕ). n < f.number) w.number (each_member (Precedes f) (meanings_of events) w.frame.meaning track.1 member).rises

-- the target that is left isn't opened by f
kept_not_opened : (wish : Wish) (events : List Happened) (f : FrameMeaning) → IsOneTrack (f ∷ meanings_of events) → opens f (kept_target_at (standing wish events) f) ≡ false
kept_not_opened wish events f track = go (kept_target_at (standing wish events) f) refl
  where
    go : (t : CurrentTarget) → kept_target_at (standing wish events) f ≡ t → opens f t ≡ false
    go (Closed reason) e = refl
    go (Open target opened) e =
        let below = opened_below wish events f target opened track (was_open (standing wish events) f target opened e) in
        ne_eqb opened f.number (λ same. omega (arith, below, same))

-- f opens its target if and only if there is a target that it can open
pub opens_here : (wish : Wish) (events : List Happened) (f : FrameMeaning) → IsOneTrack (f ∷ meanings_of events)
    → is_opening_at (standing wish events) f ≡ opens f (candidate_at (standing wish events) f)
opens_here wish events f track = go (opening (has_passed s f) (key_passed s f) s.wish f (kept_target_at s f))
  where
    s : Standing
    s = standing wish events

    go : (o : Option ℕ) → is_something o ≡ opens f (opened_or f o (kept_target_at s f))
    go None = sym (kept_not_opened wish events f track)
    go (Some target) = sym (eq-eqb f.number f.number refl)

-- if f passes, the candidate is the target after it
pub target_here : (s : Standing) (f : FrameMeaning) (packets : ℕ) → passes_at s f packets ≡ true → (after_frame s f packets).target ≡ candidate_at s f
target_here s f packets passes = ap (λ (b : Bool). (admitted b s f packets).target) passes

pub frames_open : FramesOpenTheirTargets
frames_open wish events f packets track passes =
    ap (opens f) (target_here (standing wish events) f packets passes) ∙ sym (opens_here wish events f track)
