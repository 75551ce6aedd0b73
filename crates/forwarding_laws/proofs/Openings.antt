-- An open target was opened by the frame with its opening number.
use Rattle.std.proofs.Common.{◌≡◌, ℕ, Bool, true, false, List, [], ◌∷◌, refl, sym, subst, ap, ◌∙◌, cond, true≢false, length}
use Rattle.std.specs.declared.option.Option.{Option}
use Rattle.std.specs.declared.option.Option.TheVariants.{None, Some}
use Rattle.sfu_base.specs.declared.frame.FrameMeaning.{FrameMeaning}
use Rattle.sfu_base.specs.declared.frame.Wish.{Wish}
use Rattle.forwarding_model.specs.declared.target.CurrentTarget.{CurrentTarget}
use Rattle.forwarding_model.specs.declared.target.CurrentTarget.TheVariants.{Open, Closed}
use Rattle.forwarding_model.specs.declared.target.Reason.TheVariants.{NotOpened}
use Rattle.forwarding_model.specs.forwarding.Selection.{kept_target, opening, opened_or, candidate}
use Rattle.forwarding_model.specs.forwarding.Timeline.{Event}
use Rattle.forwarding_model.specs.forwarding.Timeline.Event.{WholeFrame, PlainPacket, WishChange, Take}
use Rattle.forwarding_laws.specs.forwarding.Since.{EachFrameSince}
use Rattle.forwarding_model.specs.forwarding.Standing.{Standing, is_epoch, target_at, has_passed, key_passed, kept_target_at, passes_at, admitted, plain_passes, after_plain, standing}
use Rattle.forwarding_laws.specs.forwarding.Decisions.{ClosesNone}
use Rattle.forwarding_laws.specs.forwarding.Openings.{OpensAt, LeavesOpen, WasOpenedAt}
use Rattle.forwarding_laws.proofs.Decisions.{opens_the_best, opens_what_it_can}
use Rattle.forwarding_laws.proofs.Links.{kept_open}
use Rattle.forwarding_laws.proofs.StandingSteps.{closing_frames_close}

-- ---- the candidate

pub nothing_opened_is_kept : (has : ℕ → Bool) (key_passed : Bool) (wish : Wish) (f : FrameMeaning) (current : CurrentTarget)
    → opening has key_passed wish f (kept_target has f current) ≡ None → candidate has key_passed wish f current ≡ kept_target has f current
nothing_opened_is_kept has key_passed wish f current e = ap (λ o. opened_or f o (kept_target has f current)) e

pub opened_targets_are_candidates : (has : ℕ → Bool) (key_passed : Bool) (wish : Wish) (f : FrameMeaning) (current : CurrentTarget) (target : ℕ)
    → opening has key_passed wish f (kept_target has f current) ≡ Some target → candidate has key_passed wish f current ≡ Open target f.number
opened_targets_are_candidates has key_passed wish f current target e = ap (λ o. opened_or f o (kept_target has f current)) e

-- ---- the opening frame

was_open : (s : Standing) (f : FrameMeaning) (target opened : ℕ) → kept_target_at s f ≡ Open target opened → s.target ≡ Open target opened
was_open s f target opened h = go (is_epoch s.epoch f.epoch) (kept_open (has_passed s f) f (target_at s f) target opened h).0
  where
    go : (b : Bool) → cond b s.target (Closed (NotOpened f.number)) ≡ Open target opened → s.target ≡ Open target opened
    go true k = k
    go false k = absurd (cc)

-- a frame that leaves a target open closes none
leaves_closes_none : (s : Standing) (f : FrameMeaning) (target opened : ℕ) → kept_target_at s f ≡ Open target opened → ClosesNone s f
leaves_closes_none s f target opened h reason c = let both : Open target opened ≡ Closed reason = sym h ∙ closing_frames_close s f reason c in cc

opens_at : (s : Standing) (f : FrameMeaning) (target : ℕ) → opening (has_passed s f) (key_passed s f) s.wish f (kept_target_at s f) ≡ Some target → OpensAt s f target
opens_at s f target e =
    let b = opens_the_best (has_passed s f) (key_passed s f) s.wish f (kept_target_at s f) target e in record { can = b.0; best = b.1 }

abbrev LeftOpenSince : {S : Type 0} → Wish → (since past : List (Event S)) → Type 0
LeftOpenSince wish since past = EachFrameSince (λ before later. LeavesOpen (standing wish before) later.meaning (length later.packets)) since past

later_opened : {S : Type 0} (wish : Wish) (event : Event S) (past : List (Event S)) (target opened : ℕ)
    → (w : WasOpenedAt wish past target opened) → LeftOpenSince wish (event ∷ w.since) (WholeFrame w.frame ∷ w.past) → WasOpenedAt wish (event ∷ past) target opened
later_opened wish event past target opened w last =
    record {
      since = event ∷ w.since;
      frame = w.frame;
      past = w.past;
      stands = ap (λ l. event ∷ l) w.stands;
      number = w.number;
      passes = w.passes;
      opens = w.opens;
      last = last;
    }

pub openings_hold : {S : Type 0} (wish : Wish) (events : List (Event S)) (target opened : ℕ) → (standing wish events).target ≡ Open target opened
    → WasOpenedAt wish events target opened
openings_hold wish [] target opened h = absurd (cc)
openings_hold {S} wish (WholeFrame x ∷ past) target opened h =
    go (passes_at s f (length x.packets)) refl h (openings_hold wish past target opened)
  where
    s : Standing
    s = standing wish past

    f : FrameMeaning
    f = x.meaning

    further : LeavesOpen s f (length x.packets) → WasOpenedAt wish past target opened → WasOpenedAt wish (WholeFrame x ∷ past) target opened
    further leaves w =
        later_opened wish (WholeFrame x) past target opened w
        (subst (λ l. LeavesOpen (standing wish l) f (length x.packets)) w.stands leaves, w.last)

    here : (t : ℕ) → passes_at s f (length x.packets) ≡ true → OpensAt s f t → Open t f.number ≡ Open target opened → WasOpenedAt wish (WholeFrame x ∷ past) target opened
    here t e opens k =
        let same : t ≡ target = cc in
        let number : f.number ≡ opened = cc in
        record { since = []; frame = x; past = past; stands = refl; number = number; passes = e; opens = subst (OpensAt s f) same opens; last = tt }

    passed : passes_at s f (length x.packets) ≡ true → (o : Option ℕ) → opening (has_passed s f) (key_passed s f) s.wish f (kept_target_at s f) ≡ o
        → opened_or f o (kept_target_at s f) ≡ Open target opened
        → (s.target ≡ Open target opened → WasOpenedAt wish past target opened) → WasOpenedAt wish (WholeFrame x ∷ past) target opened
    passed e (Some t) opens k rec = here t e (opens_at s f t opens) k
    passed e None opens k rec =
        further
        (record {
          closes_none = leaves_closes_none s f target opened k;
          opens_none = λ again other c. opens_what_it_can (has_passed s f) (key_passed s f) s.wish f (kept_target_at s f) other opens c;
        })
        (rec (was_open s f target opened k))

    go : (b : Bool) → passes_at s f (length x.packets) ≡ b → (admitted b s f (length x.packets)).target ≡ Open target opened
        → (s.target ≡ Open target opened → WasOpenedAt wish past target opened) → WasOpenedAt wish (WholeFrame x ∷ past) target opened
    go true e k rec = passed e (opening (has_passed s f) (key_passed s f) s.wish f (kept_target_at s f)) refl k rec
    go false e k rec =
        further
        (record { closes_none = leaves_closes_none s f target opened k; opens_none = λ again other c. true≢false (sym again ∙ e) })
        (rec (was_open s f target opened k))
openings_hold wish (PlainPacket p ∷ past) target opened h = go (plain_passes (standing wish past)) h (openings_hold wish past target opened)
  where
    go : (b : Bool) → (after_plain b (standing wish past)).target ≡ Open target opened
        → ((standing wish past).target ≡ Open target opened → WasOpenedAt wish past target opened) → WasOpenedAt wish (PlainPacket p ∷ past) target opened
    go true k rec = let w = rec k in later_opened wish (PlainPacket p) past target opened w w.last
    go false k rec = let w = rec k in later_opened wish (PlainPacket p) past target opened w w.last
openings_hold wish (WishChange changed ∷ past) target opened h =
    let w = openings_hold wish past target opened h in later_opened wish (WishChange changed) past target opened w w.last
openings_hold wish (Take ∷ past) target opened h = let w = openings_hold wish past target opened h in later_opened wish Take past target opened w w.last
