-- The steps of a standing agree with the words.
use Rattle.std.proofs.Common.{◌≡◌, ◌≢◌, inl, inr, ◌+◌, ◌-◌, ◌<◌, ◌≤◌, ℕ, arith, Bool, true, false, List, [], ◌∷◌, refl, sym, subst, ap, ◌∙◌, cond, true≢false, length}
use Rattle.std.specs.Prelude.{nat_lt}
use Rattle.std.proofs.lemmas.Bool.{lt-ltb, ltb-true}
use Rattle.std.specs.declared.option.Option.{Option}
use Rattle.std.specs.declared.option.Option.TheVariants.{None, Some}
use Rattle.sfu_base.specs.declared.frame.FrameMeaning.{FrameMeaning}
use Rattle.sfu_base.specs.declared.frame.Wish.{Wish}
use Rattle.forwarding_model.specs.declared.target.CurrentTarget.{CurrentTarget}
use Rattle.forwarding_model.specs.declared.target.CurrentTarget.TheVariants.{Open, Closed}
use Rattle.forwarding_model.specs.declared.target.Reason.{Reason}
use Rattle.forwarding_model.specs.declared.target.Reason.TheVariants.{BrokenLink, NotOpened}
use Rattle.forwarding_model.specs.forwarding.Targets.{is_active}
use Rattle.forwarding_model.specs.forwarding.Selection.{chain_link, target_after_link, kept_target}
use Rattle.forwarding_model.specs.forwarding.Timeline.{Packet, Frame, Event, frames_of}
use Rattle.forwarding_model.specs.forwarding.Timeline.Event.{WholeFrame, PlainPacket, WishChange, Take}
use Rattle.forwarding_model.specs.forwarding.Standing.{Standing, is_epoch, passed_at, has_passed, kept_target_at, passes_at, admitted, plain_passes, after_plain, standing}
use Rattle.forwarding_laws.specs.forwarding.Decisions.{IsBrokenLink, IsOpenAt, ClosesAt, ClosesNone}
use Rattle.forwarding_laws.specs.forwarding.StandingSteps.{TakesIn, Withholds}
use Rattle.forwarding_laws.proofs.Sound.{is_epoch-true}
use Rattle.forwarding_laws.proofs.Decisions.{epoch_test, link_closes, other_links_keep, target_at-open, under_mask-active}

-- ---- the target after a frame

other_test : (epoch : Option ℕ) (n : ℕ) → epoch ≢ Some n → is_epoch epoch n ≡ false
other_test epoch n other = go (is_epoch epoch n) refl
  where
    go : (b : Bool) → is_epoch epoch n ≡ b → is_epoch epoch n ≡ false
    go true e = absurd (other (is_epoch-true epoch n e))
    go false e = e

pub other_epochs_begin_anew : (s : Standing) (f : FrameMeaning) → s.epoch ≢ Some f.epoch → (passed_at s f ≡ []) × (kept_target_at s f ≡ Closed (NotOpened f.number))
other_epochs_begin_anew s f other =
    let e = other_test s.epoch f.epoch other in (
      ap (λ b. cond b s.epoch_passed []) e,
      ap (λ b. kept_target (has_passed s f) f (cond b s.target (Closed (NotOpened f.number)))) e,
    )

pub epochs_go_on : (s : Standing) (f : FrameMeaning) → s.epoch ≡ Some f.epoch → passed_at s f ≡ s.epoch_passed
epochs_go_on s f here = ap (λ b. cond b s.epoch_passed []) (epoch_test s.epoch f.epoch here)

-- the target that is open after the rule on the epoch is then subject to the rules on the mask and the link
open_at : (s : Standing) (f : FrameMeaning) (target opened : ℕ) → IsOpenAt s f target opened → kept_target_at s f ≡ kept_target (has_passed s f) f (Open target opened)
open_at s f target opened o = ap (kept_target (has_passed s f) f) (target_at-open s f target opened o)

pub masks_close : (s : Standing) (f : FrameMeaning) (target opened : ℕ) → IsOpenAt s f target opened → is_active f target ≡ false
    → kept_target_at s f ≡ Closed (NotOpened f.number)
masks_close s f target opened o e =
    open_at s f target opened o ∙ ap (λ b. target_after_link (has_passed s f) f (cond b (Open target opened) (Closed (NotOpened f.number)))) e

active_at : (s : Standing) (f : FrameMeaning) (target opened : ℕ) → IsOpenAt s f target opened → is_active f target ≡ true
    → kept_target_at s f ≡ target_after_link (has_passed s f) f (Open target opened)
active_at s f target opened o e = open_at s f target opened o ∙ ap (target_after_link (has_passed s f) f) (under_mask-active f target opened e)

pub links_close : (s : Standing) (f : FrameMeaning) (target opened number : ℕ) → IsOpenAt s f target opened → is_active f target ≡ true
    → IsBrokenLink (has_passed s f) f target opened → number + chain_link f target ≡ f.number → kept_target_at s f ≡ Closed (BrokenLink f.number number)
links_close s f target opened number o e b names =
    active_at s f target opened o e ∙ link_closes (has_passed s f) f target opened b
    ∙ ap (λ n. Closed (BrokenLink f.number n)) (let n : f.number - chain_link f target ≡ number = omega arith in n)

pub other_targets_stay : (s : Standing) (f : FrameMeaning) (target opened : ℕ) → IsOpenAt s f target opened → is_active f target ≡ true
    → (IsBrokenLink (has_passed s f) f target opened → ⊥) → kept_target_at s f ≡ Open target opened
other_targets_stay s f target opened o e whole = active_at s f target opened o e ∙ other_links_keep (has_passed s f) f target opened whole

pub closed_targets_stay : (s : Standing) (f : FrameMeaning) (reason : Reason) → s.epoch ≡ Some f.epoch → s.target ≡ Closed reason → kept_target_at s f ≡ Closed reason
closed_targets_stay s f reason here shut =
    ap (λ b. kept_target (has_passed s f) f (cond b s.target (Closed (NotOpened f.number)))) (epoch_test s.epoch f.epoch here)
    ∙ ap (kept_target (has_passed s f) f) shut

pub closing_frames_close : (s : Standing) (f : FrameMeaning) (reason : Reason) → ClosesAt s f reason → kept_target_at s f ≡ Closed reason
closing_frames_close s f (BrokenLink at number) c =
    links_close s f c.1 c.2 number c.3 c.4 c.5 c.6 ∙ ap (λ n. Closed (BrokenLink n number)) (sym c.0)
closing_frames_close s f (NotOpened since) c =
    elim c.1 [ inl other ↦ (other_epochs_begin_anew s f other).1 | inr masked ↦ masks_close s f masked.0 masked.1 masked.2 masked.3 ]
    ∙ ap (λ n. Closed (NotOpened n)) (sym c.0)

pub other_frames_keep : (s : Standing) (f : FrameMeaning) → ClosesNone s f → kept_target_at s f ≡ s.target
other_frames_keep s f none = by_epoch (is_epoch s.epoch f.epoch) refl
  where
    by_mask : (target opened : ℕ) → IsOpenAt s f target opened → (b : Bool) → is_active f target ≡ b → kept_target_at s f ≡ Open target opened
    by_mask target opened o true e =
        other_targets_stay s f target opened o e
        (λ b. none (BrokenLink f.number (f.number - chain_link f target))
        (refl, target, opened, o, e, b, (let late : opened + chain_link f target ≤ f.number = b.late in omega arith)))
    by_mask target opened o false e = absurd (none (NotOpened f.number) (refl, inr (target, opened, o, e)))

    by_target : s.epoch ≡ Some f.epoch → (t : CurrentTarget) → s.target ≡ t → kept_target_at s f ≡ t
    by_target here (Open target opened) e = by_mask target opened (record { epoch = here; target_is = e }) (is_active f target) refl
    by_target here (Closed reason) e = closed_targets_stay s f reason here e

    by_epoch : (b : Bool) → is_epoch s.epoch f.epoch ≡ b → kept_target_at s f ≡ s.target
    by_epoch true e = by_target (is_epoch-true s.epoch f.epoch e) s.target refl
    by_epoch false e = absurd (none (NotOpened f.number) (refl, inl (λ here. true≢false (sym (epoch_test s.epoch f.epoch here) ∙ e))))

-- ---- how an event changes a standing

takes_in : (s : Standing) (f : FrameMeaning) (packets : ℕ) → TakesIn s f packets (admitted true s f packets)
takes_in s f packets = record { epoch = refl; epoch_passed = refl; target = refl; passed = refl; queued = refl; wish = refl }

withholds : (s : Standing) (f : FrameMeaning) (packets : ℕ) → Withholds s f (admitted false s f packets)
withholds s f packets = record { epoch = refl; epoch_passed = refl; target = refl; passed = refl; queued = refl; wish = refl }

pub passing_frames_are_taken_in : {S : Type 0} (wish : Wish) (frame : Frame S) (past : List (Event S)) → passes_at (standing wish past) frame.meaning (length frame.packets) ≡ true
    → TakesIn (standing wish past) frame.meaning (length frame.packets) (standing wish (WholeFrame frame ∷ past))
passing_frames_are_taken_in wish frame past e =
    subst (λ b. TakesIn (standing wish past) frame.meaning (length frame.packets) (admitted b (standing wish past) frame.meaning (length frame.packets))) (sym e)
    (takes_in (standing wish past) frame.meaning (length frame.packets))

pub other_frames_are_withheld : {S : Type 0} (wish : Wish) (frame : Frame S) (past : List (Event S)) → passes_at (standing wish past) frame.meaning (length frame.packets) ≡ false
    → Withholds (standing wish past) frame.meaning (standing wish (WholeFrame frame ∷ past))
other_frames_are_withheld wish frame past e =
    subst (λ b. Withholds (standing wish past) frame.meaning (admitted b (standing wish past) frame.meaning (length frame.packets))) (sym e)
    (withholds (standing wish past) frame.meaning (length frame.packets))

pub plain_packets_are_queued : {S : Type 0} (wish : Wish) (packet : Packet) (past : List (Event S))
    → ((standing wish past).queued < 512 → standing wish (PlainPacket packet ∷ past) ≡ record (standing wish past) { queued = (standing wish past).queued + 1 })
    × (512 ≤ (standing wish past).queued → standing wish (PlainPacket packet ∷ past) ≡ standing wish past)
plain_packets_are_queued wish packet past = (
  λ lt. ap (λ (b : Bool). after_plain b (standing wish past)) (lt-ltb (standing wish past).queued 512 lt),
  λ full. go full (nat_lt (standing wish past).queued 512) refl,
)
  where
    go : 512 ≤ (standing wish past).queued → (b : Bool) → nat_lt (standing wish past).queued 512 ≡ b → after_plain b (standing wish past) ≡ standing wish past
    go full true e = let lt : (standing wish past).queued < 512 = ltb-true (standing wish past).queued 512 e in absurd (omega arith)
    go full false e = refl

pub wishes_change_alone : {S : Type 0} (wish changed : Wish) (past : List (Event S)) → standing wish (WishChange changed ∷ past) ≡ record (standing wish past) { wish = changed }
wishes_change_alone wish changed past = refl

pub takes_change_the_queue : {S : Type 0} (wish : Wish) (past : List (Event S)) → standing wish (Take ∷ past) ≡ record (standing wish past) { queued = (standing wish past).queued - 1 }
takes_change_the_queue wish past = refl

abbrev IsEpochOf : {S : Type 0} → List (Frame S) → Option ℕ → Type 0
IsEpochOf [] epoch = epoch ≡ None
IsEpochOf (frame ∷ older) epoch = epoch ≡ Some frame.meaning.epoch

epoch_after : {S : Type 0} (wish : Wish) (events : List (Event S)) → IsEpochOf (frames_of events) (standing wish events).epoch
epoch_after wish [] = refl
epoch_after wish (WholeFrame x ∷ past) = go (passes_at (standing wish past) x.meaning (length x.packets))
  where
    go : (b : Bool) → (admitted b (standing wish past) x.meaning (length x.packets)).epoch ≡ Some x.meaning.epoch
    go true = refl
    go false = refl
epoch_after wish (PlainPacket p ∷ past) = go (plain_passes (standing wish past)) (epoch_after wish past)
  where
    go : (b : Bool) → IsEpochOf (frames_of past) (standing wish past).epoch → IsEpochOf (frames_of past) (after_plain b (standing wish past)).epoch
    go true h = h
    go false h = h
epoch_after wish (WishChange w ∷ past) = epoch_after wish past
epoch_after wish (Take ∷ past) = epoch_after wish past

pub newest_frames_have_the_epoch : {S : Type 0} (wish : Wish) (events : List (Event S))
    → (frames_of events ≡ [] → (standing wish events).epoch ≡ None)
    × ((frame : Frame S) (older : List (Frame S)) → frames_of events ≡ frame ∷ older → (standing wish events).epoch ≡ Some frame.meaning.epoch)
newest_frames_have_the_epoch wish events = (
  λ none. subst (λ l. IsEpochOf l (standing wish events).epoch) none (epoch_after wish events),
  λ frame older some. subst (λ l. IsEpochOf l (standing wish events).epoch) some (epoch_after wish events),
)
