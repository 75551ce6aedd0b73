-- Each frame that passed to one subscriber passes to the other, by induction on both timelines since the key frame.
use Rattle.std.proofs.Common.{◌≡◌, inl, inr, ◌<◌, ◌≤◌, ℕ, arith, Bool, true, false, List, [], ◌∷◌, ◌++◌, refl, sym, subst, ap, ◌∙◌, cond, map, length}
use Rattle.std.specs.List.{AllByRecursion, list_any}
use Rattle.std.specs.declared.option.Option.TheVariants.{None, Some}
use Rattle.sfu_base.specs.declared.frame.FrameMeaning.{FrameMeaning}
use Rattle.sfu_base.specs.declared.frame.Wish.{Wish}
use Rattle.forwarding_model.specs.Lists.{IsMember, first_failing}
use Rattle.forwarding_model.specs.declared.target.CurrentTarget.{CurrentTarget}
use Rattle.forwarding_model.specs.declared.target.CurrentTarget.TheVariants.{Open, Closed}
use Rattle.forwarding_model.specs.declared.target.Reason.TheVariants.{NotOpened}
use Rattle.forwarding_model.specs.forwarding.Targets.{references}
use Rattle.forwarding_model.specs.forwarding.Selection.{candidate, missing_reference, passes}
use Rattle.forwarding_model.specs.forwarding.Timeline.{Event, Frame, frames_of, meaning_of, meanings_of}
use Rattle.forwarding_model.specs.forwarding.Timeline.Event.{WholeFrame, PlainPacket, WishChange, Take}
use Rattle.forwarding_model.specs.forwarding.Standing.{Standing, after_plain, admitted, candidate_at, has_below, is_epoch, is_key, kept_target_at, passed_at, passes_at, plain_passes, standing, target_at}
use Rattle.forwarding_model.specs.frames.TrackFrames.{IsOneTrack, Precedes}
use Rattle.forwarding_laws.proofs.Decisions.{epoch_test}
use Rattle.forwarding_laws.proofs.Links.{kept_open}
use Rattle.forwarding_laws.proofs.Members.{each_member}
use Rattle.forwarding_laws.proofs.Sound.{is_epoch-true}
use Rattle.forwarding_laws.proofs.StandingSteps.{newest_frames_have_the_epoch}
use Rattle.cascade_laws.specs.Relayed.{AllPass, AreHandedOn, AreRelayed, IsMaskedFor, IsNotFull, IsRelayed, IsShifted, KeepsWish, NoneIsFull, Shift, StandAlike, passed_since}
use Rattle.cascade_laws.specs.Laws.{IsHandedOn, PassesOn}
use Rattle.cascade_laws.proofs.Shifted.{has_same, key_same, keys_same}
use Rattle.cascade_laws.proofs.Alike.{IsReady, missing_there, opens_there, ready, ready_passes, ready_there, references_there, stays_there, was_kept}

-- ---- the rules at a standing, by the passed frames of the epoch and by the target

abbrev chosen : List FrameMeaning → CurrentTarget → Wish → FrameMeaning → CurrentTarget
chosen l t w f = candidate (λ d. has_below l f.number d) (list_any is_key l) w f t

abbrev let_pass : List FrameMeaning → CurrentTarget → Wish → FrameMeaning → ℕ → ℕ → Bool
let_pass l t w f queued packets = passes (λ d. has_below l f.number d) (list_any is_key l) w f t queued packets

abbrev Ready : List FrameMeaning → CurrentTarget → Wish → FrameMeaning → ℕ → ℕ → Type 0
Ready l t w f target opened = IsReady (λ d. has_below l f.number d) (list_any is_key l) w f t target opened

-- ---- if a frame leaves open a target that an older frame opened, the target was open before, in the frame's epoch

pub record WasOpen (s : Standing) (f : FrameMeaning) (target opened : ℕ) : Type 0 where
  pub in_epoch : is_epoch s.epoch f.epoch ≡ true
  pub target_is : s.target ≡ Open target opened

was_open_at : (s : Standing) (f : FrameMeaning) (target opened : ℕ) → target_at s f ≡ Open target opened → WasOpen s f target opened
was_open_at s f target opened h = go (is_epoch s.epoch f.epoch) refl h
  where
    go : (b : Bool) → is_epoch s.epoch f.epoch ≡ b → cond b s.target (Closed (NotOpened f.number)) ≡ Open target opened → WasOpen s f target opened
    go true e k = record { in_epoch = e; target_is = k }
    go false e k = absurd (cc)

pub passing_was_open : (s : Standing) (f : FrameMeaning) (target opened : ℕ) → opened < f.number → candidate_at s f ≡ Open target opened → WasOpen s f target opened
passing_was_open s f target opened below h =
    was_open_at s f target opened (was_kept (λ d. has_below (passed_at s f) f.number d) (list_any is_key (passed_at s f)) s.wish f (target_at s f) target opened below h)

pub withheld_was_open : (s : Standing) (f : FrameMeaning) (target opened : ℕ) → kept_target_at s f ≡ Open target opened → WasOpen s f target opened
withheld_was_open s f target opened h =
    was_open_at s f target opened (kept_open (λ d. has_below (passed_at s f) f.number d) f (target_at s f) target opened h).0

passed_in : (s : Standing) (f : FrameMeaning) → is_epoch s.epoch f.epoch ≡ true → passed_at s f ≡ s.epoch_passed
passed_in s f e = ap (λ b. cond b s.epoch_passed []) e

target_in : (s : Standing) (f : FrameMeaning) → is_epoch s.epoch f.epoch ≡ true → target_at s f ≡ s.target
target_in s f e = ap (λ b. cond b s.target (Closed (NotOpened f.number))) e

-- ---- one frame that passed to the first subscriber

module _ (by : Shift) (target opened reopened epoch : ℕ) (now : Wish) where
  ready_for_other : (l l' : List FrameMeaning) (f g : FrameMeaning) → AreRelayed by l l' → IsShifted by opened reopened → IsRelayed by f g → IsMaskedFor target f g
      → opened < f.number → Ready l (Open target opened) now f target opened → Ready l' (Open target reopened) now g target reopened
  ready_for_other l l' f g relayed openings r masked below i =
      ready_there by f g target opened reopened (λ d. has_below l f.number d) (λ d. has_below l' g.number d) (list_any is_key l) (list_any is_key l') now
      (Open target opened) (Open target reopened) r (missing_there by f g (λ d. has_below l f.number d) (λ d. has_below l' g.number d) r alike)
      (subst (λ (k : Bool). candidate (λ d. has_below l' g.number d) k now g (Open target reopened) ≡ Open target reopened) (sym (keys_same by l l' relayed))
      (stays_there by f g target opened reopened (λ d. has_below l f.number d) (λ d. has_below l' g.number d) (list_any is_key l) now r masked alike openings below i.open_is))
      i
    where
      alike : (d : ℕ) → has_below l' g.number d ≡ has_below l f.number d
      alike d = has_same by l l' f.number g.number d relayed r.shifted

  one_more : (s u : Standing) (f g : FrameMeaning) (packets packets' : ℕ) → StandAlike by target opened reopened epoch now s u → IsShifted by opened reopened
      → IsRelayed by f g → IsMaskedFor target f g → g.epoch ≡ epoch → opened < f.number → passes_at s f packets ≡ true → candidate_at s f ≡ Open target opened
      → IsNotFull u g packets'
      → (passes_at u g packets' ≡ true) × StandAlike by target opened reopened epoch now (admitted true s f packets) (admitted true u g packets')
  one_more s u f g packets packets' a openings r masked in_epoch below passed open_is not_full = (
    ready_passes (λ d. has_below (passed_at u g) g.number d) (list_any is_key (passed_at u g)) u.wish g (target_at u g) target reopened u.queued packets' there not_full,
    record {
      wish = a.wish;
      same_wish = a.same_wish;
      target_is = open_is;
      same_target = there.open_is;
      epoch_is = ap Some in_epoch;
      passed = (r, subst (λ (l : List FrameMeaning). AreRelayed by l (passed_at u g)) (sym l_is) (subst (AreRelayed by s.epoch_passed) (sym l'_is) a.passed));
    },
  )
    where
      in_s : is_epoch s.epoch f.epoch ≡ true
      in_s = (passing_was_open s f target opened below open_is).in_epoch

      in_u : is_epoch u.epoch g.epoch ≡ true
      in_u = epoch_test u.epoch g.epoch (a.epoch_is ∙ ap Some (sym in_epoch))

      l_is : passed_at s f ≡ s.epoch_passed
      l_is = passed_in s f in_s

      l'_is : passed_at u g ≡ u.epoch_passed
      l'_is = passed_in u g in_u

      t_is : target_at s f ≡ Open target opened
      t_is = target_in s f in_s ∙ a.target_is

      t'_is : target_at u g ≡ Open target reopened
      t'_is = target_in u g in_u ∙ a.same_target

      here : Ready s.epoch_passed (Open target opened) now f target opened
      here =
          subst (λ (w : Wish). Ready s.epoch_passed (Open target opened) w f target opened) a.wish
          (subst (λ (t : CurrentTarget). Ready s.epoch_passed t s.wish f target opened) t_is
          (subst (λ (l : List FrameMeaning). Ready l (target_at s f) s.wish f target opened) l_is
          (ready (λ d. has_below (passed_at s f) f.number d) (list_any is_key (passed_at s f)) s.wish f (target_at s f) target opened s.queued packets open_is passed)))

      there : Ready (passed_at u g) (target_at u g) u.wish g target reopened
      there =
          subst (λ (l : List FrameMeaning). Ready l (target_at u g) u.wish g target reopened) (sym l'_is)
          (subst (λ (t : CurrentTarget). Ready u.epoch_passed t u.wish g target reopened) (sym t'_is)
          (subst (λ (w : Wish). Ready u.epoch_passed (Open target reopened) w g target reopened) (sym a.same_wish)
          (ready_for_other s.epoch_passed u.epoch_passed f g a.passed openings r masked below here)))

  -- a frame that is withheld from the first subscriber, and leaves its target open
  one_withheld : (s u : Standing) (f : FrameMeaning) (packets : ℕ) → StandAlike by target opened reopened epoch now s u → WasOpen s f target opened
      → kept_target_at s f ≡ Open target opened → StandAlike by target opened reopened epoch now (admitted false s f packets) u
  one_withheld s u f packets a w kept = record {
    wish = a.wish;
    same_wish = a.same_wish;
    target_is = kept;
    same_target = a.same_target;
    epoch_is = a.epoch_is;
    passed = subst (λ (l : List FrameMeaning). AreRelayed by l u.epoch_passed) (sym (passed_in s f w.in_epoch)) a.passed;
  }

  -- an event that changes only the wish or the queue

  plain_here : (s u : Standing) (b : Bool) → StandAlike by target opened reopened epoch now s u → StandAlike by target opened reopened epoch now (after_plain b s) u
  plain_here s u true a = record { wish = a.wish; same_wish = a.same_wish; target_is = a.target_is; same_target = a.same_target; epoch_is = a.epoch_is; passed = a.passed }
  plain_here s u false a = a

  plain_there : (s u : Standing) (b : Bool) → StandAlike by target opened reopened epoch now s u → StandAlike by target opened reopened epoch now s (after_plain b u)
  plain_there s u true a = record { wish = a.wish; same_wish = a.same_wish; target_is = a.target_is; same_target = a.same_target; epoch_is = a.epoch_is; passed = a.passed }
  plain_there s u false a = a

  queue_here : (s u : Standing) (n : ℕ) → StandAlike by target opened reopened epoch now s u → StandAlike by target opened reopened epoch now (record s { queued = n }) u
  queue_here s u n a = record { wish = a.wish; same_wish = a.same_wish; target_is = a.target_is; same_target = a.same_target; epoch_is = a.epoch_is; passed = a.passed }

  queue_there : (s u : Standing) (n : ℕ) → StandAlike by target opened reopened epoch now s u → StandAlike by target opened reopened epoch now s (record u { queued = n })
  queue_there s u n a = record { wish = a.wish; same_wish = a.same_wish; target_is = a.target_is; same_target = a.same_target; epoch_is = a.epoch_is; passed = a.passed }

  wish_here : (s u : Standing) (w : Wish) → w ≡ now → StandAlike by target opened reopened epoch now s u → StandAlike by target opened reopened epoch now (record s { wish = w }) u
  wish_here s u w e a = record { wish = e; same_wish = a.same_wish; target_is = a.target_is; same_target = a.same_target; epoch_is = a.epoch_is; passed = a.passed }

  wish_there : (s u : Standing) (w : Wish) → w ≡ now → StandAlike by target opened reopened epoch now s u → StandAlike by target opened reopened epoch now s (record u { wish = w })
  wish_there s u w e a = record { wish = a.wish; same_wish = e; target_is = a.target_is; same_target = a.same_target; epoch_is = a.epoch_is; passed = a.passed }

-- ---- the key frame

-- at a key frame of a track no frame of its epoch has passed before
pub key_begins : {S : Type 0} (wish : Wish) (past : List (Event S)) (f : FrameMeaning) → IsOneTrack (f ∷ meanings_of past) → f.key ≡ true
    → is_epoch (standing wish past).epoch f.epoch ≡ false
key_begins {S} wish past f track key = go (is_epoch (standing wish past).epoch f.epoch) refl
  where
    none : (frames : List (Frame S)) → frames_of past ≡ frames → (standing wish past).epoch ≡ Some f.epoch → ⊥
    none [] e here = let no : None ≡ Some f.epoch = sym ((newest_frames_have_the_epoch wish past).0 e) ∙ here in grind arith
    none (x ∷ older) e here =
        let is : (standing wish past).epoch ≡ Some x.meaning.epoch = (newest_frames_have_the_epoch wish past).1 x older e in
        let both : Some x.meaning.epoch ≡ Some f.epoch = sym is ∙ here in
        let same : x.meaning.epoch ≡ f.epoch = cc in
        let all : AllByRecursion (Precedes f) (map meaning_of (x ∷ older)) = subst (λ (l : List (Frame S)). AllByRecursion (Precedes f) (map meaning_of l)) e track.1 in
        let frames : IsOneTrack (map meaning_of (x ∷ older)) = subst (λ (l : List (Frame S)). IsOneTrack (map meaning_of l)) e track.2 in
        let start : f.number ≡ f.start = track.0.key_number key in
        let valid : x.meaning.start ≤ x.meaning.number = frames.0.valid.start in
        let rises : x.meaning.number < f.number = all.0.rises in
        elim all.0.epochs [
          | inl a ↦ (let starts : x.meaning.start ≡ f.start = a.1 in omega arith)
          | inr a ↦ a.0 same
        ]

    go : (b : Bool) → is_epoch (standing wish past).epoch f.epoch ≡ b → is_epoch (standing wish past).epoch f.epoch ≡ false
    go true e = absurd (none (frames_of past) refl (is_epoch-true (standing wish past).epoch f.epoch e))
    go false e = e

-- before it there is nothing: no frame has passed, and no target is open
begins : (s : Standing) (f : FrameMeaning) → is_epoch s.epoch f.epoch ≡ false → (passed_at s f ≡ []) × (target_at s f ≡ Closed (NotOpened f.number))
begins s f e = (ap (λ b. cond b s.epoch_passed []) e, ap (λ b. cond b s.target (Closed (NotOpened f.number))) e)

first_alike : (by : Shift) (target : ℕ) (now : Wish) (s u : Standing) (f g : FrameMeaning) (packets packets' : ℕ) → is_epoch s.epoch f.epoch ≡ false → is_epoch u.epoch g.epoch ≡ false
    → s.wish ≡ now → u.wish ≡ now → f.key ≡ true → references f ≡ [] → IsRelayed by f g → IsMaskedFor target f g → passes_at s f packets ≡ true
    → candidate_at s f ≡ Open target f.number → IsNotFull u g packets'
    → (passes_at u g packets' ≡ true) × StandAlike by target f.number g.number g.epoch now (admitted true s f packets) (admitted true u g packets')
first_alike by target now s u f g packets packets' new new' wish_is second_wish_is key no_references r masked passed open_is not_full = (
  ready_passes (λ d. has_below (passed_at u g) g.number d) (list_any is_key (passed_at u g)) u.wish g (target_at u g) target g.number u.queued packets' there not_full,
  record {
    wish = wish_is;
    same_wish = second_wish_is;
    target_is = open_is;
    same_target = there.open_is;
    epoch_is = refl;
    passed = (r, subst (λ (l : List FrameMeaning). AreRelayed by l (passed_at u g)) (sym (begins s f new).0) (subst (AreRelayed by []) (sym (begins u g new').0) tt));
  },
)
  where
    here : Ready (passed_at s f) (Closed (NotOpened f.number)) now f target f.number
    here =
        subst (λ (w : Wish). Ready (passed_at s f) (Closed (NotOpened f.number)) w f target f.number) wish_is
        (subst (λ (t : CurrentTarget). Ready (passed_at s f) t s.wish f target f.number) (begins s f new).1
        (ready (λ d. has_below (passed_at s f) f.number d) (list_any is_key (passed_at s f)) s.wish f (target_at s f) target f.number s.queued packets open_is passed))

    none : missing_reference (λ d. has_below (passed_at u g) g.number d) g ≡ missing_reference (λ d. has_below (passed_at s f) f.number d) f
    none =
        ap (λ l. first_failing (λ d. has_below (passed_at u g) g.number d) l) (references_there by f g r ∙ no_references)
        ∙ sym (ap (λ l. first_failing (λ d. has_below (passed_at s f) f.number d) l) no_references)

    there : Ready (passed_at u g) (target_at u g) u.wish g target g.number
    there =
        subst (λ (t : CurrentTarget). Ready (passed_at u g) t u.wish g target g.number) (sym (begins u g new').1)
        (subst (λ (w : Wish). Ready (passed_at u g) (Closed (NotOpened g.number)) w g target g.number) (sym second_wish_is)
        (ready_there by f g target f.number g.number (λ d. has_below (passed_at s f) f.number d) (λ d. has_below (passed_at u g) g.number d)
        (list_any is_key (passed_at s f)) (list_any is_key (passed_at u g)) now (Closed (NotOpened f.number)) (Closed (NotOpened g.number)) r none
        (opens_there by f g target (λ d. has_below (passed_at s f) f.number d) (λ d. has_below (passed_at u g) g.number d)
        (list_any is_key (passed_at s f)) (list_any is_key (passed_at u g)) now (NotOpened f.number) (NotOpened g.number) r masked key no_references here.open_is)
        here))

-- ---- the timelines since

pub stands_in : {S : Type 0} (since past : List (Event S)) (frame : Frame S) → IsMember frame.meaning (meanings_of (since ++ WholeFrame frame ∷ past))
stands_in [] past frame = inl refl
stands_in (WholeFrame x ∷ since) past frame = inr (stands_in since past frame)
stands_in (PlainPacket p ∷ since) past frame = stands_in since past frame
stands_in (WishChange w ∷ since) past frame = stands_in since past frame
stands_in (Take ∷ since) past frame = stands_in since past frame

module _ {S : Type 0} (by : Shift) (target : ℕ) (now wish second_wish : Wish) (past second_past : List (Event S)) (x y : Frame S)
    (openings : IsShifted by x.meaning.number y.meaning.number) where
  abbrev Alike : Standing → Standing → Type 0
  Alike s u = StandAlike by target x.meaning.number y.meaning.number y.meaning.epoch now s u

  abbrev at' : List (Event S) → Standing
  at' second_since = standing second_wish (second_since ++ WholeFrame y ∷ second_past)

  abbrev Passed' : List (Event S) → Type 0
  Passed' second_since = AllPass second_wish second_since (WholeFrame y ∷ second_past)

  abbrev Room' : List (Event S) → Type 0
  Room' second_since = NoneIsFull second_wish second_since (WholeFrame y ∷ second_past)

  abbrev Handed : List (Frame S) → List (Event S) → Type 0
  Handed frames second_since = AreHandedOn by target y.meaning.epoch frames (frames_of second_since)

  -- if no further frame passed to the first subscriber, none came to the second
  none_more : (s : Standing) → Alike s (standing second_wish (WholeFrame y ∷ second_past)) → (second_since : List (Event S)) → KeepsWish now second_since → Handed [] second_since → Passed' second_since × Alike s (at' second_since)
  none_more s a [] keeps h = (tt, a)
  none_more s a (WholeFrame z ∷ second_since) keeps h = absurd h
  none_more s a (PlainPacket p ∷ second_since) keeps h =
      let i = none_more s a second_since keeps h in (i.0, plain_there by target x.meaning.number y.meaning.number y.meaning.epoch now s (at' second_since) (plain_passes (at' second_since)) i.1)
  none_more s a (WishChange w ∷ second_since) keeps h =
      let i = none_more s a second_since keeps.1 h in (i.0, wish_there by target x.meaning.number y.meaning.number y.meaning.epoch now s (at' second_since) w keeps.0 i.1)
  none_more s a (Take ∷ second_since) keeps h =
      let i = none_more s a second_since keeps h in (i.0, queue_there by target x.meaning.number y.meaning.number y.meaning.epoch now s (at' second_since) _ i.1)

  abbrev After : Standing → List (Frame S) → Type 0
  After s frames = (second_since : List (Event S)) → KeepsWish now second_since → Handed frames second_since → Room' second_since → Passed' second_since × Alike s (at' second_since)

  -- if one more frame passed to the first subscriber, one more passes to the second
  one_passed : (s : Standing) (f : Frame S) (frames : List (Frame S)) → x.meaning.number < f.meaning.number → passes_at s f.meaning (length f.packets) ≡ true
      → candidate_at s f.meaning ≡ Open target x.meaning.number → After s frames → After (admitted true s f.meaning (length f.packets)) (f ∷ frames)
  one_passed s f frames below passed open_is before [] keeps h capacity = absurd h
  one_passed s f frames below passed open_is before (WholeFrame z ∷ second_since) keeps h capacity =
      let i = before second_since keeps h.3 capacity.1 in
      let o = one_more by target x.meaning.number y.meaning.number y.meaning.epoch now s (at' second_since) f.meaning z.meaning (length f.packets) (length z.packets) i.1 openings
      h.0 h.1 h.2 below passed open_is capacity.0 in
      ((o.0, i.0), subst (λ (b : Bool). Alike (admitted true s f.meaning (length f.packets)) (admitted b (at' second_since) z.meaning (length z.packets))) (sym o.0) o.1)
  one_passed s f frames below passed open_is before (PlainPacket p ∷ second_since) keeps h capacity =
      let i = one_passed s f frames below passed open_is before second_since keeps h capacity in
      (i.0, plain_there by target x.meaning.number y.meaning.number y.meaning.epoch now (admitted true s f.meaning (length f.packets)) (at' second_since) (plain_passes (at' second_since)) i.1)
  one_passed s f frames below passed open_is before (WishChange w ∷ second_since) keeps h capacity =
      let i = one_passed s f frames below passed open_is before second_since keeps.1 h capacity in
      (i.0, wish_there by target x.meaning.number y.meaning.number y.meaning.epoch now (admitted true s f.meaning (length f.packets)) (at' second_since) w keeps.0 i.1)
  one_passed s f frames below passed open_is before (Take ∷ second_since) keeps h capacity =
      let i = one_passed s f frames below passed open_is before second_since keeps h capacity in
      (i.0, queue_there by target x.meaning.number y.meaning.number y.meaning.epoch now (admitted true s f.meaning (length f.packets)) (at' second_since) _ i.1)

  abbrev at : List (Event S) → Standing
  at since = standing wish (since ++ WholeFrame x ∷ past)

  all_pass : Alike (standing wish (WholeFrame x ∷ past)) (standing second_wish (WholeFrame y ∷ second_past)) → (since : List (Event S))
      → IsOneTrack (meanings_of (since ++ WholeFrame x ∷ past)) → (at since).target ≡ Open target x.meaning.number → KeepsWish now since
      → After (at since) (passed_since wish since (WholeFrame x ∷ past))
  all_pass a [] track open_is keeps = λ second_since keeps' h capacity. none_more (standing wish (WholeFrame x ∷ past)) a second_since keeps' h
  all_pass a (WholeFrame f ∷ since) track open_is keeps = go (passes_at (at since) f.meaning (length f.packets)) refl open_is (λ was. all_pass a since track.2 was keeps)
    where
      below : x.meaning.number < f.meaning.number
      below = (each_member (Precedes f.meaning) (meanings_of (since ++ WholeFrame x ∷ past)) x.meaning track.1 (stands_in since past x)).rises

      go : (b : Bool) → passes_at (at since) f.meaning (length f.packets) ≡ b → (admitted b (at since) f.meaning (length f.packets)).target ≡ Open target x.meaning.number
          → ((at since).target ≡ Open target x.meaning.number → After (at since) (passed_since wish since (WholeFrame x ∷ past)))
          → After (admitted b (at since) f.meaning (length f.packets))
          (cond b (f ∷ passed_since wish since (WholeFrame x ∷ past)) (passed_since wish since (WholeFrame x ∷ past)))
      go true e open_is rec =
          let w = passing_was_open (at since) f.meaning target x.meaning.number below open_is in
          one_passed (at since) f (passed_since wish since (WholeFrame x ∷ past)) below e open_is (rec w.target_is)
      go false e open_is rec =
          let w = withheld_was_open (at since) f.meaning target x.meaning.number open_is in
          λ second_since keeps' h capacity.
          let i = rec w.target_is second_since keeps' h capacity in
          (i.0, one_withheld by target x.meaning.number y.meaning.number y.meaning.epoch now (at since) (at' second_since) f.meaning (length f.packets) i.1 w open_is)
  all_pass a (PlainPacket p ∷ since) track open_is keeps = go (plain_passes (at since)) open_is (λ was. all_pass a since track was keeps)
    where
      go : (b : Bool) → (after_plain b (at since)).target ≡ Open target x.meaning.number
          → ((at since).target ≡ Open target x.meaning.number → After (at since) (passed_since wish since (WholeFrame x ∷ past)))
          → After (after_plain b (at since)) (passed_since wish since (WholeFrame x ∷ past))
      go true open_is rec = λ second_since keeps' h capacity.
          let i = rec open_is second_since keeps' h capacity in
          (i.0, plain_here by target x.meaning.number y.meaning.number y.meaning.epoch now (at since) (at' second_since) true i.1)
      go false open_is rec = rec open_is
  all_pass a (WishChange w ∷ since) track open_is keeps = λ second_since keeps' h capacity.
      let i = all_pass a since track open_is keeps.1 second_since keeps' h capacity in
      (i.0, wish_here by target x.meaning.number y.meaning.number y.meaning.epoch now (at since) (at' second_since) w keeps.0 i.1)
  all_pass a (Take ∷ since) track open_is keeps = λ second_since keeps' h capacity.
      let i = all_pass a since track open_is keeps second_since keeps' h capacity in
      (i.0, queue_here by target x.meaning.number y.meaning.number y.meaning.epoch now (at since) (at' second_since) _ i.1)

  pub was_first : (since : List (Event S)) → IsOneTrack (meanings_of (since ++ WholeFrame x ∷ past)) → (at since).target ≡ Open target x.meaning.number
      → (standing wish (WholeFrame x ∷ past)).target ≡ Open target x.meaning.number
  was_first [] track h = h
  was_first (WholeFrame f ∷ since) track h = was_first since track.2 (go (passes_at (at since) f.meaning (length f.packets)) h)
    where
      below : x.meaning.number < f.meaning.number
      below = (each_member (Precedes f.meaning) (meanings_of (since ++ WholeFrame x ∷ past)) x.meaning track.1 (stands_in since past x)).rises

      go : (b : Bool) → (admitted b (at since) f.meaning (length f.packets)).target ≡ Open target x.meaning.number → (at since).target ≡ Open target x.meaning.number
      go true k = (passing_was_open (at since) f.meaning target x.meaning.number below k).target_is
      go false k = (withheld_was_open (at since) f.meaning target x.meaning.number k).target_is
  was_first (PlainPacket p ∷ since) track h = was_first since track (go (plain_passes (at since)) h)
    where
      go : (b : Bool) → (after_plain b (at since)).target ≡ Open target x.meaning.number → (at since).target ≡ Open target x.meaning.number
      go true k = k
      go false k = k
  was_first (WishChange w ∷ since) track h = was_first since track h
  was_first (Take ∷ since) track h = was_first since track h

pub track_of : {S : Type 0} (since past : List (Event S)) (x : Frame S) → IsOneTrack (meanings_of (since ++ WholeFrame x ∷ past)) → IsOneTrack (x.meaning ∷ meanings_of past)
track_of [] past x h = h
track_of (WholeFrame f ∷ since) past x h = track_of since past x h.2
track_of (PlainPacket p ∷ since) past x h = track_of since past x h
track_of (WishChange w ∷ since) past x h = track_of since past x h
track_of (Take ∷ since) past x h = track_of since past x h

pub handed_on_frames_pass : {S : Type 0} (by : Shift) (target : ℕ) (now wish : Wish) (since past : List (Event S)) (x : Frame S) (second_wish : Wish) (second_since second_past : List (Event S)) (y : Frame S)
    → IsHandedOn by target now wish since past x second_wish second_since second_past y → PassesOn by target now wish since past x second_wish second_since second_past y
handed_on_frames_pass {S} by target now wish since past x second_wish second_since second_past y h = record { first = first.0; others = all.0; alike = all.1 }
  where
    s : Standing
    s = standing wish past

    u : Standing
    u = standing second_wish second_past

    track : IsOneTrack (x.meaning ∷ meanings_of past)
    track = track_of since past x h.track

    opens : candidate_at s x.meaning ≡ Open target x.meaning.number
    opens =
        sym (ap (λ (b : Bool). (admitted b s x.meaning (length x.packets)).target) h.passed)
        ∙ was_first by target now wish second_wish past second_past x y h.first.shifted since h.track h.stays

    first : (passes_at u y.meaning (length y.packets) ≡ true)
        × StandAlike by target x.meaning.number y.meaning.number y.meaning.epoch now (admitted true s x.meaning (length x.packets)) (admitted true u y.meaning (length y.packets))
    first =
        first_alike by target now s u x.meaning y.meaning (length x.packets) (length y.packets) (key_begins wish past x.meaning track h.key)
        (key_begins second_wish second_past y.meaning h.second_track (key_same by x.meaning y.meaning h.first ∙ h.key)) h.wish_is h.second_wish_is h.key (track.0.key_references h.key)
        h.first h.first_masked h.passed opens h.first_has_capacity

    alike : StandAlike by target x.meaning.number y.meaning.number y.meaning.epoch now (standing wish (WholeFrame x ∷ past)) (standing second_wish (WholeFrame y ∷ second_past))
    alike =
        subst (λ (b : Bool). StandAlike by target x.meaning.number y.meaning.number y.meaning.epoch now (admitted b s x.meaning (length x.packets)) (standing second_wish (WholeFrame y ∷ second_past)))
        (sym h.passed)
        (subst (λ (b : Bool). StandAlike by target x.meaning.number y.meaning.number y.meaning.epoch now (admitted true s x.meaning (length x.packets)) (admitted b u y.meaning (length y.packets)))
        (sym first.0) first.1)

    all : AllPass second_wish second_since (WholeFrame y ∷ second_past)
        × StandAlike by target x.meaning.number y.meaning.number y.meaning.epoch now (standing wish (since ++ WholeFrame x ∷ past)) (standing second_wish (second_since ++ WholeFrame y ∷ second_past))
    all =
        all_pass by target now wish second_wish past second_past x y h.first.shifted alike since h.track h.stays h.wish_stays second_since h.second_wish_stays h.others h.others_have_capacity
