-- What holds for a standing after each event of a timeline, and for the receiver.
use Rattle.std.proofs.Common.{◌≡◌, ◌⊎◌, inl, inr, ◌-◌, ◌<◌, ◌≤◌, ℕ, zero, suc, arith, Bool, true, false, List, [], ◌∷◌, refl, sym, subst, ap, ◌∙◌, cond, true≢false, ◌&&◌, ◌||◌, map, length}
use Rattle.std.proofs.lemmas.Bool.{eqb-true, and_parts, or_cases}
use Rattle.std.specs.List.{AllByRecursion, list_any}
use Rattle.std.specs.declared.option.Option.{Option}
use Rattle.std.specs.declared.option.Option.TheVariants.{None, Some}
use Rattle.sfu_base.specs.declared.frame.FrameMeaning.{FrameMeaning}
use Rattle.sfu_base.specs.declared.frame.Wish.{Wish}
use Rattle.forwarding_model.specs.Lists.{IsMember, is_nothing}
use Rattle.forwarding_model.specs.forwarding.Targets.{is_active, is_better, best, best_below, is_allowed, is_switch, is_present}
use Rattle.forwarding_model.specs.declared.target.CurrentTarget.{CurrentTarget}
use Rattle.forwarding_model.specs.forwarding.Selection.{missing_reference, target_under_mask, chain_link, is_link_broken, target_after_link, is_upgrade, can_open, is_present_in, has_capacity}
use Rattle.forwarding_model.specs.forwarding.Timeline.{Event, meanings_of}
use Rattle.forwarding_model.specs.forwarding.Standing.{Standing, is_epoch, is_key, has_below, passed_at, target_at, has_passed, key_passed, kept_target_at, candidate_at, passes_at, admitted, plain_passes, after_plain, standing}
use Rattle.forwarding_model.specs.forwarding.Timeline.Event.{WholeFrame, PlainPacket, WishChange, Take}
use Rattle.forwarding_model.specs.declared.target.CurrentTarget.TheVariants.{Open, Closed}
use Rattle.forwarding_model.specs.declared.target.Reason.TheVariants.{BrokenLink, NotOpened}
use Rattle.forwarding_model.specs.frames.TrackFrames.{IsTrackFrame, Precedes, IsOneTrack}
use Rattle.forwarding_laws.proofs.Members.{each_member, each_of, each_weaker}
use Rattle.forwarding_laws.proofs.Distances.{distances_of}
use Rattle.forwarding_laws.proofs.ReceivedNumbers.{header, judge_all, IsComplete, Tracks, complete_from_tracks, tracks_key, tracks_other}

-- P holds if a target is open
abbrev pub AtOpen : CurrentTarget → Type 0 → Type 0
AtOpen (Open t opened) P = P
AtOpen (Closed r) P = Unit {0}

abbrev pub IsHeadGreatest : List FrameMeaning → Type 0
IsHeadGreatest [] = Unit {0}
IsHeadGreatest (l ∷ ls) = AllByRecursion (λ g. g.number ≤ l.number) (l ∷ ls)

pub record IsSound (past passed frames : List FrameMeaning) (epoch : Option ℕ) (target : CurrentTarget) : Type 0 where
  pub known : AllByRecursion (λ g. IsMember g past) passed
  pub one_epoch : AllByRecursion (λ g. epoch ≡ Some g.epoch) passed
  pub greatest : IsHeadGreatest passed
  pub has_key : (passed ≡ []) ⊎ (list_any is_key passed ≡ true)
  pub open_key : AtOpen target (list_any is_key passed ≡ true)
  pub tracks : Tracks passed (judge_all (map header frames))

-- ---- the steps before a target is opened

pub is_epoch-true : (epoch : Option ℕ) (n : ℕ) → is_epoch epoch n ≡ true → epoch ≡ Some n
is_epoch-true None n h = absurd (true≢false (sym h))
is_epoch-true (Some m) n h = ap Some (eqb-true m n h)

pub sound_at : (past : List FrameMeaning) (s : Standing) (f : FrameMeaning) → IsSound past s.epoch_passed s.passed s.epoch s.target
    → IsSound past (passed_at s f) s.passed (Some f.epoch) (target_at s f)
sound_at past s f h = go (is_epoch s.epoch f.epoch) refl
  where
    go : (b : Bool) → is_epoch s.epoch f.epoch ≡ b → IsSound past (cond b s.epoch_passed []) s.passed (Some f.epoch) (cond b s.target (Closed (NotOpened f.number)))
    go true e = subst (λ epoch. IsSound past s.epoch_passed s.passed epoch s.target) (is_epoch-true s.epoch f.epoch e) h
    go false e = record { known = tt; one_epoch = tt; greatest = tt; has_key = inl refl; open_key = tt; tracks = complete_from_tracks s.epoch_passed _ h.tracks }

masked_open : (f : FrameMeaning) (t : CurrentTarget) (P : Type 0) → AtOpen t P → AtOpen (target_under_mask f t) P
masked_open f (Closed r) P h = tt
masked_open f (Open t opened) P h = go (is_active f t)
  where
    go : (b : Bool) → AtOpen (cond b (Open t opened) (Closed (NotOpened f.number))) P
    go true = h
    go false = tt

linked_open : (fs : List FrameMeaning) (f : FrameMeaning) (t : CurrentTarget) (P : Type 0) → AtOpen t P → AtOpen (target_after_link (has_below fs f.number) f t) P
linked_open fs f (Closed r) P h = tt
linked_open fs f (Open t opened) P h = go (is_link_broken (has_below fs f.number) f t opened)
  where
    go : (b : Bool) → AtOpen (cond b (Closed (BrokenLink f.number (f.number - chain_link f t))) (Open t opened)) P
    go true = tt
    go false = h

target_at_open : (s : Standing) (f : FrameMeaning) (P : Type 0) → AtOpen (target_at s f) P → AtOpen (kept_target_at s f) P
target_at_open s f P h = linked_open (passed_at s f) f (target_under_mask f (target_at s f)) P (masked_open f (target_at s f) P h)

-- ---- the best target passes the test

pub best_passes : (f : FrameMeaning) (test : ℕ → Bool) (n t : ℕ) → best_below f test n ≡ Some t → test t ≡ true
best_passes f test zero t h = absurd (grind arith)
best_passes f test (suc n) t h = go (best_below f test n) (test n) refl refl (best_passes f test n)
  where
    go : (o : Option ℕ) (b : Bool) → best_below f test n ≡ o → test n ≡ b → ((u : ℕ) → best_below f test n ≡ Some u → test u ≡ true) → test t ≡ true
    go None true e k rec = let same : Some n ≡ Some t = (rw (e, k) at h) in let here : n ≡ t = grind arith in subst (λ u. test u ≡ true) here k
    go None false e k rec = let no : None ≡ Some t = (rw (e, k) at h) in absurd (grind arith)
    go (Some u) false e k rec = let same : Some u ≡ Some t = (rw (e, k) at h) in rec t (e ∙ same)
    go (Some u) true e k rec = better (is_better f n u) (rw (e, k) at h)
      where
        better : (b : Bool) → cond b (Some n) (Some u) ≡ Some t → test t ≡ true
        better true same = let here : n ≡ t = grind arith in subst (λ u. test u ≡ true) here k
        better false same = rec t (e ∙ same)

-- ---- what it takes to pass

pub record Passing (s : Standing) (f : FrameMeaning) : Type 0 where
  pub found : missing_reference (has_passed s f) f ≡ None
  pub has_key : (f.key ≡ true) ⊎ (list_any is_key (passed_at s f) ≡ true)

pub none_is : (o : Option ℕ) → is_nothing o ≡ true → o ≡ None
none_is None h = refl
none_is (Some d) h = absurd (true≢false (sym h))

key_from_opening : (s : Standing) (f : FrameMeaning) (t : ℕ) → can_open s.wish (is_nothing (missing_reference (has_passed s f) f)) (f.key || key_passed s f) f (kept_target_at s f) t ≡ true
    → (f.key ≡ true) ⊎ (list_any is_key (passed_at s f) ≡ true)
key_from_opening s f t h =
    let a = and_parts (is_allowed s.wish f t) _ h in
    let b = and_parts (is_switch f t || (f.key && is_present f t)) _ a.1 in
    let c = and_parts (is_nothing (missing_reference (has_passed s f) f)) _ b.1 in
    let d = and_parts _ (is_upgrade s.wish f (kept_target_at s f) t) c.1 in
    or_cases f.key _ d.0

open_present : (f : FrameMeaning) (target : CurrentTarget) (P : Type 0) → is_present_in f target ≡ true → AtOpen target P → P
open_present f (Open t opened) P e h = h
open_present f (Closed r) P e h = absurd (true≢false (sym e))

-- a target is open only if a key frame of the epoch has passed
abbrev pub HasOpenKey : Standing → Type 0
HasOpenKey s = AtOpen s.target (list_any is_key s.epoch_passed ≡ true)

pub open_key_at : (s : Standing) (f : FrameMeaning) → HasOpenKey s → AtOpen (kept_target_at s f) (list_any is_key (passed_at s f) ≡ true)
open_key_at s f h = target_at_open s f _ (go (is_epoch s.epoch f.epoch))
  where
    go : (b : Bool) → AtOpen (cond b s.target (Closed (NotOpened f.number))) (list_any is_key (cond b s.epoch_passed []) ≡ true)
    go true = h
    go false = tt

candidate_key : (s : Standing) (f : FrameMeaning) → HasOpenKey s
    → is_present_in f (candidate_at s f) ≡ true → (f.key ≡ true) ⊎ (list_any is_key (passed_at s f) ≡ true)
candidate_key s f h present = go (best f (can_open s.wish (is_nothing (missing_reference (has_passed s f) f)) (f.key || key_passed s f) f (kept_target_at s f))) refl
  where
    go : (o : Option ℕ) → best f (can_open s.wish (is_nothing (missing_reference (has_passed s f) f)) (f.key || key_passed s f) f (kept_target_at s f)) ≡ o → (f.key ≡ true) ⊎ (list_any is_key (passed_at s f) ≡ true)
    go (Some t) e = key_from_opening s f t (best_passes f (can_open s.wish (is_nothing (missing_reference (has_passed s f) f)) (f.key || key_passed s f) f (kept_target_at s f)) f.target_count t e)
    go None e = inr (open_present f (kept_target_at s f) _ (rw e at present) (open_key_at s f h))

pub passing : (s : Standing) (f : FrameMeaning) (packets : ℕ) → HasOpenKey s
    → passes_at s f packets ≡ true → Passing s f
passing s f packets h p =
    let a = and_parts (is_present_in f (candidate_at s f)) _ p in
    let b = and_parts (is_nothing (missing_reference (has_passed s f) f)) (has_capacity s.queued packets) a.1 in
    record {
      found = none_is _ b.0;
      has_key = candidate_key s f h a.0;
    }

-- ---- a frame that comes

pub frames_sound : (past : List FrameMeaning) → IsOneTrack past → AllByRecursion IsTrackFrame past
frames_sound [] h = tt
frames_sound (f ∷ past) h = (h.0, frames_sound past h.2)

-- a key frame is the first of its epoch
key_first : (past passed frames : List FrameMeaning) (f g : FrameMeaning) (target : CurrentTarget) → IsSound past passed frames (Some f.epoch) target → IsOneTrack past
    → AllByRecursion (Precedes f) past → IsTrackFrame f → f.key ≡ true → IsMember g passed → ⊥
key_first past passed frames f g target h track before frame key m =
    let known = each_member (λ g. IsMember g past) passed g h.known m in
    let same : Some f.epoch ≡ Some g.epoch = each_member (λ g. Some f.epoch ≡ Some g.epoch) passed g h.one_epoch m in
    let epochs : f.epoch ≡ g.epoch = grind arith in
    let at = each_member (Precedes f) past g before known in
    let good : g.start ≤ g.number = (each_member IsTrackFrame past g (frames_sound past track) known).valid.start in
    let rises : g.number < f.number = at.rises in
    let number : f.number ≡ f.start = frame.key_number key in
    elim at.epochs [ inl e ↦ (let starts : g.start ≡ f.start = e.1 in absurd (omega arith)) | inr e ↦ absurd (e.0 (sym epochs)) ]

tracks_passed : (past passed frames : List FrameMeaning) (f : FrameMeaning) (target : CurrentTarget) (key : Bool) → IsSound past passed frames (Some f.epoch) target → IsOneTrack past
    → AllByRecursion (Precedes f) past → IsTrackFrame f → f.key ≡ key → missing_reference (has_below passed f.number) f ≡ None → (f.key ≡ true) ⊎ (list_any is_key passed ≡ true)
    → Tracks (f ∷ passed) (judge_all (map header (f ∷ frames)))
tracks_passed past [] frames f target true h track before frame key found has_key = tracks_key f _ (complete_from_tracks [] _ h.tracks) key (frame.key_references key)
tracks_passed past (l ∷ ls) frames f target true h track before frame key found has_key =
    absurd (key_first past (l ∷ ls) frames f l target h track before frame key (inl refl))
tracks_passed past [] frames f target false h track before frame key found (inl e) = absurd (true≢false (sym e ∙ key))
tracks_passed past [] frames f target false h track before frame key found (inr e) = absurd (true≢false (sym e))
tracks_passed past (l ∷ ls) frames f target false h track before frame key found has_key =
    tracks_other ls l f _ h.tracks key (distances_of f frame.valid) h.greatest
    (each_member (Precedes f) past l before (h.known.0)).rises found

all_before : (past passed : List FrameMeaning) (f : FrameMeaning) → AllByRecursion (λ g. IsMember g past) passed → AllByRecursion (Precedes f) past
    → AllByRecursion (λ g. g.number ≤ f.number) passed
all_before past passed f known before =
    each_of _ passed (λ g m.
    let rises : g.number < f.number = (each_member (Precedes f) past g before (each_member (λ g. IsMember g past) passed g known m)).rises in
    omega arith)

pub key_among : (f : FrameMeaning) (passed : List FrameMeaning) → (f.key ≡ true) ⊎ (list_any is_key passed ≡ true) → list_any is_key (f ∷ passed) ≡ true
key_among f passed (inl e) = rw e refl
key_among f passed (inr e) = go f.key refl
  where
    go : (b : Bool) → f.key ≡ b → (f.key || list_any is_key passed) ≡ true
    go true k = rw k refl
    go false k = rw k e

pub always_at_open : (t : CurrentTarget) (P : Type 0) → P → AtOpen t P
always_at_open (Open t opened) P p = p
always_at_open (Closed r) P p = tt

sound_admitted : (past : List FrameMeaning) (s : Standing) (f : FrameMeaning) (packets : ℕ) (b : Bool) → IsOneTrack (f ∷ past)
    → IsSound past s.epoch_passed s.passed s.epoch s.target → passes_at s f packets ≡ b
    → IsSound (f ∷ past) (admitted b s f packets).epoch_passed (admitted b s f packets).passed (admitted b s f packets).epoch (admitted b s f packets).target
sound_admitted past s f packets false track h e =
    let at = sound_at past s f h in
    record {
      known = each_weaker _ _ (passed_at s f) (λ g m. inr m) at.known;
      one_epoch = at.one_epoch;
      greatest = at.greatest;
      has_key = at.has_key;
      open_key = target_at_open s f _ at.open_key;
      tracks = at.tracks;
    }
sound_admitted past s f packets true track h e =
    let at = sound_at past s f h in
    let p = passing s f packets h.open_key e in
    record {
      known = (inl refl, each_weaker _ _ (passed_at s f) (λ g m. inr m) at.known);
      one_epoch = (refl, at.one_epoch);
      greatest = (omega arith, all_before past (passed_at s f) f at.known track.1);
      has_key = inr (key_among f (passed_at s f) p.has_key);
      open_key = always_at_open (candidate_at s f) _ (key_among f (passed_at s f) p.has_key);
      tracks = tracks_passed past (passed_at s f) s.passed f (target_at s f) f.key at track.2 track.1 track.0 refl p.found p.has_key;
    }

abbrev pub IsSoundAfter : {S : Type 0} → List (Event S) → Standing → Type 0
IsSoundAfter past s = IsSound (meanings_of past) s.epoch_passed s.passed s.epoch s.target

after_plain_sound : (past : List FrameMeaning) (s : Standing) (b : Bool) → IsSound past s.epoch_passed s.passed s.epoch s.target
    → IsSound past (after_plain b s).epoch_passed (after_plain b s).passed (after_plain b s).epoch (after_plain b s).target
after_plain_sound past s true h = h
after_plain_sound past s false h = h

pub sound : {S : Type 0} (wish : Wish) (events : List (Event S)) → IsOneTrack (meanings_of events) → IsSoundAfter events (standing wish events)
sound wish [] track = record { known = tt; one_epoch = tt; greatest = tt; has_key = inl refl; open_key = tt; tracks = tt }
sound wish (WholeFrame x ∷ past) track =
    sound_admitted (meanings_of past) (standing wish past) x.meaning (length x.packets)
    (passes_at (standing wish past) x.meaning (length x.packets)) track (sound wish past track.2) refl
sound wish (PlainPacket p ∷ past) track =
    after_plain_sound (meanings_of past) (standing wish past) (plain_passes (standing wish past)) (sound wish past track)
sound wish (WishChange w ∷ past) track = sound wish past track
sound wish (Take ∷ past) track = sound wish past track

-- whatever the timeline, each passed frame has its references among the received numbers
pub all_complete : {S : Type 0} (wish : Wish) (events : List (Event S)) → IsOneTrack (meanings_of events)
    → IsComplete (judge_all (map header (standing wish events).passed))
all_complete wish events track = complete_from_tracks _ _ (sound wish events track).tracks
