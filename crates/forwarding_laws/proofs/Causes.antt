-- How a standing relates to the causes; and a number that a cause names is lower, and its frame wasn't passed.
use Rattle.std.proofs.Common.{◌≡◌, ◌≢◌, inl, inr, ◌+◌, ◌-◌, ◌<◌, ◌≤◌, ℕ, arith, Bool, true, false, List, [], ◌∷◌, ◌++◌, refl, sym, subst, ap, ◌∙◌, cond, true≢false, not, length}
use Rattle.std.specs.Prelude.{◌==◌, nat_lt, nat_le}
use Rattle.std.proofs.lemmas.Bool.{eqb-true, eq-eqb, ne_eqb, and_parts, ltb-true, leb-true, not-true}
use Rattle.std.specs.List.{AllByRecursion}
use Rattle.std.specs.declared.option.Option.{Option}
use Rattle.std.specs.declared.option.Option.TheVariants.{None, Some}
use Rattle.sfu_base.specs.declared.frame.FrameMeaning.{FrameMeaning}
use Rattle.sfu_base.specs.declared.frame.Wish.{Wish}
use Rattle.sfu_base.specs.declared.frame.Verdict.{Verdict}
use Rattle.sfu_base.specs.declared.frame.Verdict.TheVariants.{Passed}
use Rattle.sfu_base.specs.declared.frame.Step.{Step}
use Rattle.sfu_base.specs.Frame.{IsDistance}
use Rattle.forwarding_model.specs.declared.target.CurrentTarget.{CurrentTarget}
use Rattle.forwarding_model.specs.declared.target.CurrentTarget.TheVariants.{Open, Closed}
use Rattle.forwarding_model.specs.declared.target.Reason.TheVariants.{BrokenLink, NotOpened}
use Rattle.forwarding_model.specs.Lists.{IsMember}
use Rattle.forwarding_model.specs.forwarding.Targets.{references, is_active}
use Rattle.forwarding_model.specs.forwarding.Selection.{missing_reference, chain_link, is_link_broken, target_under_mask, target_after_link, opened_or}
use Rattle.forwarding_model.specs.forwarding.Timeline.{Event, Frame, meanings_of}
use Rattle.forwarding_model.specs.forwarding.Timeline.Event.{WholeFrame, PlainPacket, WishChange, Take}
use Rattle.forwarding_model.specs.forwarding.Standing.{Standing, is_epoch, has_below, passed_at, target_at, has_passed, key_passed, kept_target_at, passes_at, verdict_at, admitted, after_plain, plain_passes, standing}
use Rattle.forwarding_model.specs.frames.TrackFrames.{IsTrackFrame, Precedes, IsOneTrack}
use Rattle.forwarding_model.specs.forwarding.Causes.{verdict_among, verdicts, followed, IsWithheld}
use Rattle.forwarding_laws.proofs.Members.{each_member, each_of, each_weaker, member_any, failing_some}
use Rattle.forwarding_laws.proofs.Distances.{distances_of}
use Rattle.forwarding_laws.proofs.Sound.{IsSound, sound, sound_at, is_epoch-true, frames_sound}
use Rattle.forwarding_laws.proofs.Decoding.{IsKept, kept, kept_at}
use Rattle.forwarding_laws.proofs.Verdicts.{AtSome, AtBroken, opened_cut, passes_from_verdict, some_weaker, verdict_names}

-- ---- what a standing keeps of the causes

-- the number of the newest frame
abbrev newest_of : List FrameMeaning → ℕ
newest_of [] = 0
newest_of (f ∷ past) = f.number

abbrev AtOpening : CurrentTarget → List FrameMeaning → Type 0
AtOpening (Open t opened) passed = (h : FrameMeaning) × IsMember h passed × (h.number ≡ opened)
AtOpening (Closed r) passed = Unit {0}

abbrev pub IsEpochOf : List FrameMeaning → Option ℕ → Type 0
IsEpochOf [] epoch = epoch ≡ None
IsEpochOf (h ∷ past) epoch = epoch ≡ Some h.epoch

pub record IsReported (past : List FrameMeaning) (steps : List Step) (s : Standing) : Type 0 where
  pub came : AllByRecursion (λ g. IsMember g past) s.passed
  pub inside : AllByRecursion (λ g. s.epoch ≡ Some g.epoch → IsMember g s.epoch_passed) s.passed
  pub newest_epoch : IsEpochOf past s.epoch
  pub opening : AtOpening s.target s.epoch_passed
  pub cut : AtBroken s.target (λ m. (m < newest_of past) × (verdict_among steps m ≡ Some Passed → ⊥))
  pub reported : (m : ℕ) → verdict_among steps m ≡ Some Passed → (g : FrameMeaning) × IsMember g s.passed × (g.number ≡ m)

-- the frames of one epoch follow one another, without other frames between them
pub epoch_apart : (past : List FrameMeaning) (f g : FrameMeaning) (epoch : Option ℕ) → IsOneTrack (f ∷ past) → IsEpochOf past epoch → IsMember g past
    → g.epoch ≡ f.epoch → is_epoch epoch f.epoch ≡ false → ⊥
epoch_apart [] f g epoch track e m same other = elim m [ ]
epoch_apart (h ∷ past) f g epoch track e m same other = go m
  where
    differs : h.epoch ≡ f.epoch → ⊥
    differs k = true≢false (sym (eq-eqb h.epoch f.epoch k) ∙ (rw e at other))

    last : h.number < f.start
    last = elim track.1.0.epochs [ inl k ↦ absurd (differs k.0) | inr k ↦ k.1 ]

    low : h.start ≤ h.number
    low = track.2.0.valid.start

    go : IsMember g (h ∷ past) → ⊥
    go (inl k) = differs (sym (ap (λ (x : FrameMeaning). x.epoch) k) ∙ same)
    go (inr k) =
        let before_f = each_member (Precedes f) past g track.1.1 k in
        let before_h = each_member (Precedes h) past g track.2.1 k in
        let good : g.start ≤ g.number = (each_member IsTrackFrame past g (frames_sound past track.2.2) k).valid.start in
        let starts : g.start ≡ f.start = (elim before_f.epochs [ inl a ↦ a.1 | inr a ↦ absurd (a.0 same) ]) in
        let far : g.number < h.start = (elim before_h.epochs [ inl a ↦ absurd (differs (sym a.0 ∙ same)) | inr a ↦ a.1 ]) in
        absurd (omega (arith, last, low))

-- a passed frame of f's epoch is among those passed at f
inside_at : (past : List FrameMeaning) (steps : List Step) (s : Standing) (f g : FrameMeaning) → IsOneTrack (f ∷ past) → IsReported past steps s
    → IsMember g s.passed → g.epoch ≡ f.epoch → IsMember g (passed_at s f)
inside_at past steps s f g track reported m same = go (is_epoch s.epoch f.epoch) refl
  where
    go : (b : Bool) → is_epoch s.epoch f.epoch ≡ b → IsMember g (cond b s.epoch_passed [])
    go true e =
        each_member (λ g. s.epoch ≡ Some g.epoch → IsMember g s.epoch_passed) s.passed g reported.inside m
        (is_epoch-true s.epoch f.epoch e ∙ ap Some (sym same))
    go false e =
        absurd (epoch_apart past f g s.epoch track reported.newest_epoch
        (each_member (λ g. IsMember g past) s.passed g reported.came m) same e)

-- a frame at or after the start of f's epoch, that has passed, is among those passed at f
passed_has : (past : List FrameMeaning) (steps : List Step) (s : Standing) (f : FrameMeaning) (m d : ℕ) → IsOneTrack (f ∷ past) → IsReported past steps s
    → m + d ≡ f.number → f.start ≤ m → verdict_among steps m ≡ Some Passed → has_below (passed_at s f) f.number d ≡ true
passed_has past steps s f m d track reported sum low passed =
    let from = reported.reported m passed in
    let number : from.0.number ≡ m = from.2 in
    let at = each_member (Precedes f) past from.0 track.1 (each_member (λ g. IsMember g past) s.passed from.0 reported.came from.1) in
    let same : from.0.epoch ≡ f.epoch = (elim at.epochs [ inl a ↦ a.0 | inr a ↦ absurd (let lt = a.1 in omega arith) ]) in
    member_any (λ g. (g.number + d) == f.number) (passed_at s f) from.0 (inside_at past steps s f from.0 track reported from.1 same)
    (eq-eqb _ _ (omega arith))

abbrev pub IsUnpassed : List Step → ℕ → ℕ → Type 0
IsUnpassed steps n m = (m < n) × (verdict_among steps m ≡ Some Passed → ⊥)

unpassed_at : (past : List FrameMeaning) (steps : List Step) (s : Standing) (f : FrameMeaning) (m d : ℕ) → IsOneTrack (f ∷ past) → IsReported past steps s
    → m + d ≡ f.number → 1 ≤ d → f.start ≤ m → has_below (passed_at s f) f.number d ≡ false → IsUnpassed steps f.number m
unpassed_at past steps s f m d track reported sum pos low none =
    (omega arith, λ passed. true≢false (sym (passed_has past steps s f m d track reported sum low passed) ∙ none))

-- a missing reference at or after the start was not passed
reference_unpassed : (past : List FrameMeaning) (steps : List Step) (s : Standing) (f : FrameMeaning) (o : Option ℕ) → IsOneTrack (f ∷ past) → IsReported past steps s
    → missing_reference (has_passed s f) f ≡ o → AtSome o (λ d. f.start + d ≤ f.number → IsUnpassed steps f.number (f.number - d))
reference_unpassed past steps s f None track reported e = tt
reference_unpassed past steps s f (Some d) track reported e = λ low.
    let fails = failing_some (has_below (passed_at s f) f.number) (references f) d e in
    let ref : 1 ≤ d = (each_member IsDistance (references f) d (distances_of f track.0.valid) fails.0).back in
    unpassed_at past steps s f (f.number - d) d track reported (omega arith) ref (omega arith) fails.1

-- ---- the target at f

newest_before : (past : List FrameMeaning) (f : FrameMeaning) (m : ℕ) → AllByRecursion (Precedes f) past → m < newest_of past → m < f.number
newest_before [] f m before lt = omega arith
newest_before (h ∷ past) f m before lt = let rises : h.number < f.number = before.0.rises in omega arith

cut_weaker : (P Q : ℕ → Type 0) (t : CurrentTarget) → ((m : ℕ) → P m → Q m) → AtBroken t P → AtBroken t Q
cut_weaker P Q (Open t opened) h c = tt
cut_weaker P Q (Closed (BrokenLink at number)) h c = h number c
cut_weaker P Q (Closed (NotOpened since)) h c = tt

epoch_cut : (past : List FrameMeaning) (steps : List Step) (s : Standing) (f : FrameMeaning) → IsOneTrack (f ∷ past) → IsReported past steps s
    → AtBroken (target_at s f) (IsUnpassed steps f.number)
epoch_cut past steps s f track reported = go (is_epoch s.epoch f.epoch)
  where
    go : (b : Bool) → AtBroken (cond b s.target (Closed (NotOpened f.number))) (IsUnpassed steps f.number)
    go true = cut_weaker _ _ s.target (λ m c. (newest_before past f m track.1 c.0, c.1)) reported.cut
    go false = tt

epoch_opening : (past : List FrameMeaning) (steps : List Step) (s : Standing) (f : FrameMeaning) → IsReported past steps s → AtOpening (target_at s f) (passed_at s f)
epoch_opening past steps s f reported = go (is_epoch s.epoch f.epoch)
  where
    go : (b : Bool) → AtOpening (cond b s.target (Closed (NotOpened f.number))) (cond b s.epoch_passed [])
    go true = reported.opening
    go false = tt

masked_cut : (P : ℕ → Type 0) (f : FrameMeaning) (t : CurrentTarget) → AtBroken t P → AtBroken (target_under_mask f t) P
masked_cut P f (Closed r) h = h
masked_cut P f (Open t opened) h = go (is_active f t)
  where
    go : (b : Bool) → AtBroken (cond b (Open t opened) (Closed (NotOpened f.number))) P
    go true = tt
    go false = tt

masked_opening : (passed : List FrameMeaning) (f : FrameMeaning) (t : CurrentTarget) → AtOpening t passed → AtOpening (target_under_mask f t) passed
masked_opening passed f (Closed r) h = tt
masked_opening passed f (Open t opened) h = go (is_active f t)
  where
    go : (b : Bool) → AtOpening (cond b (Open t opened) (Closed (NotOpened f.number))) passed
    go true = h
    go false = tt

linked_opening : (passed : List FrameMeaning) (f : FrameMeaning) (t : CurrentTarget) → AtOpening t passed → AtOpening (target_after_link (has_below passed f.number) f t) passed
linked_opening passed f (Closed r) h = tt
linked_opening passed f (Open t opened) h = go (is_link_broken (has_below passed f.number) f t opened)
  where
    go : (b : Bool) → AtOpening (cond b (Closed (BrokenLink f.number (f.number - chain_link f t))) (Open t opened)) passed
    go true = tt
    go false = h

-- the opening frame is at or after the start of its epoch
opening_start : (past passed : List FrameMeaning) (f h : FrameMeaning) → IsOneTrack (f ∷ past) → AllByRecursion (λ g. IsMember g past) passed
    → AllByRecursion (λ g. Some f.epoch ≡ Some g.epoch) passed → IsMember h passed → f.start ≤ h.number
opening_start past passed f h track known one m =
    let came = each_member (λ g. IsMember g past) passed h known m in
    let same : Some f.epoch ≡ Some h.epoch = each_member (λ g. Some f.epoch ≡ Some g.epoch) passed h one m in
    let epochs : h.epoch ≡ f.epoch = grind arith in
    let at = each_member (Precedes f) past h track.1 came in
    let starts : h.start ≡ f.start = (elim at.epochs [ inl a ↦ a.1 | inr a ↦ absurd (a.0 epochs) ]) in
    let good : h.start ≤ h.number = (each_member IsTrackFrame past h (frames_sound past track.2) came).valid.start in
    omega arith

linked_cut : (past : List FrameMeaning) (steps : List Step) (s : Standing) (f : FrameMeaning) (t : CurrentTarget) → IsOneTrack (f ∷ past) → IsReported past steps s
    → AllByRecursion (λ g. IsMember g past) (passed_at s f) → AllByRecursion (λ g. Some f.epoch ≡ Some g.epoch) (passed_at s f)
    → AtOpening t (passed_at s f) → AtBroken t (IsUnpassed steps f.number) → AtBroken (target_after_link (has_below (passed_at s f) f.number) f t) (IsUnpassed steps f.number)
linked_cut past steps s f (Closed r) track reported known one opening h = h
linked_cut past steps s f (Open t opened) track reported known one opening h = go (is_link_broken (has_below (passed_at s f) f.number) f t opened) refl
  where
    go : (b : Bool) → is_link_broken (has_below (passed_at s f) f.number) f t opened ≡ b → AtBroken (cond b (Closed (BrokenLink f.number (f.number - chain_link f t))) (Open t opened)) (IsUnpassed steps f.number)
    go false e = tt
    go true e =
        let a = and_parts (nat_lt 0 f.chain_count) _ e in
        let b = and_parts (nat_lt 0 (chain_link f t)) _ a.1 in
        let c = and_parts (nat_le (opened + chain_link f t) f.number) (not (has_below (passed_at s f) f.number (chain_link f t))) b.1 in
        let some : 0 < chain_link f t = ltb-true _ _ b.0 in
        let late : opened + chain_link f t ≤ f.number = leb-true _ _ c.0 in
        let first : f.start ≤ opening.0.number = opening_start past (passed_at s f) f opening.0 track known one opening.1 in
        let number : opening.0.number ≡ opened = opening.2 in
        unpassed_at past steps s f (f.number - chain_link f t) (chain_link f t) track reported (omega arith) (omega arith) (omega arith) (not-true _ c.1)

-- ---- the invariant is kept

-- the cause of a number below f's is the same as before
older_cause : (steps : List Step) (f : FrameMeaning) (v : Verdict) (m : ℕ) → m < f.number
    → verdict_among (record { number = f.number; verdict = v } ∷ steps) m ≡ verdict_among steps m
older_cause steps f v m lt = rw (ne_eqb f.number m (λ e. omega arith)) refl

reported_cut : (steps : List Step) (f : FrameMeaning) (v : Verdict) (m : ℕ) → IsUnpassed steps f.number m
    → (m < f.number) × (verdict_among (record { number = f.number; verdict = v } ∷ steps) m ≡ Some Passed → ⊥)
reported_cut steps f v m u = (u.0, λ e. u.1 (sym (older_cause steps f v m u.0) ∙ e))

reported_at : (steps : List Step) (s : Standing) (f : FrameMeaning) (v : Verdict) (m : ℕ)
    → (verdict_among steps m ≡ Some Passed → (g : FrameMeaning) × IsMember g s.passed × (g.number ≡ m))
    → v ≢ Passed
    → verdict_among (record { number = f.number; verdict = v } ∷ steps) m ≡ Some Passed → (g : FrameMeaning) × IsMember g s.passed × (g.number ≡ m)
reported_at steps s f v m reported not h = go (f.number == m) h
  where
    go : (b : Bool) → cond b (Some v) (verdict_among steps m) ≡ Some Passed → (g : FrameMeaning) × IsMember g s.passed × (g.number ≡ m)
    go true e = absurd (not (grind arith))
    go false e = reported e

opening_weaker : (t : CurrentTarget) (f : FrameMeaning) (passed : List FrameMeaning) → AtOpening t passed → AtOpening t (f ∷ passed)
opening_weaker (Open t opened) f passed h = (h.0, inr h.1, h.2)
opening_weaker (Closed r) f passed h = tt

opened_opening : (f : FrameMeaning) (o : Option ℕ) (t : CurrentTarget) (passed : List FrameMeaning) → AtOpening t passed → AtOpening (opened_or f o t) (f ∷ passed)
opened_opening f None t passed h = opening_weaker t f passed h
opened_opening f (Some u) t passed h = (f, inl refl, refl)

opening_at : (past : List FrameMeaning) (steps : List Step) (s : Standing) (f : FrameMeaning) → IsReported past steps s → AtOpening (kept_target_at s f) (passed_at s f)
opening_at past steps s f reported = linked_opening (passed_at s f) f (target_under_mask f (target_at s f)) (masked_opening (passed_at s f) f (target_at s f) (epoch_opening past steps s f reported))

cut_at : (past : List FrameMeaning) (steps : List Step) (s : Standing) (f : FrameMeaning) → IsOneTrack (f ∷ past) → IsReported past steps s
    → IsSound past s.epoch_passed s.passed s.epoch s.target → IsKept s.epoch_passed s.passed s.epoch
    → AtBroken (kept_target_at s f) (IsUnpassed steps f.number)
cut_at past steps s f track reported sound kept =
    linked_cut past steps s f (target_under_mask f (target_at s f)) track reported
    (sound_at past s f sound).known
    (kept_at s f kept).one_epoch
    (masked_opening (passed_at s f) f (target_at s f) (epoch_opening past steps s f reported))
    (masked_cut _ f (target_at s f) (epoch_cut past steps s f track reported))

inside_new : (past : List FrameMeaning) (steps : List Step) (s : Standing) (f : FrameMeaning) → IsOneTrack (f ∷ past) → IsReported past steps s
    → AllByRecursion (λ g. Some f.epoch ≡ Some g.epoch → IsMember g (passed_at s f)) s.passed
inside_new past steps s f track reported =
    each_of _ s.passed (λ g m same. inside_at past steps s f g track reported m (let back : Some f.epoch ≡ Some g.epoch = same in grind arith))

reported_admitted : (past : List FrameMeaning) (steps : List Step) (s : Standing) (f : FrameMeaning) (packets : ℕ) (b : Bool) → IsOneTrack (f ∷ past)
    → IsReported past steps s → IsSound past s.epoch_passed s.passed s.epoch s.target → IsKept s.epoch_passed s.passed s.epoch → passes_at s f packets ≡ b
    → IsReported (f ∷ past) (record { number = f.number; verdict = verdict_at s f packets } ∷ steps) (admitted b s f packets)
reported_admitted past steps s f packets false track reported sound kept e =
    record {
      came = each_weaker _ _ s.passed (λ g m. inr m) reported.came;
      inside = inside_new past steps s f track reported;
      newest_epoch = refl;
      opening = opening_at past steps s f reported;
      cut = cut_weaker _ _ (kept_target_at s f) (reported_cut steps f (verdict_at s f packets)) (cut_at past steps s f track reported sound kept);
      reported = λ m h. reported_at steps s f (verdict_at s f packets) m (reported.reported m)
          (λ v. true≢false (sym (passes_from_verdict (has_passed s f) (key_passed s f) s.wish f (target_at s f) s.queued packets v) ∙ e)) h;
    }
reported_admitted past steps s f packets true track reported sound kept e =
    record {
      came = (inl refl, each_weaker _ _ s.passed (λ g m. inr m) reported.came);
      inside = ((λ same. inl refl), each_weaker _ _ s.passed (λ g h same. inr (h same)) (inside_new past steps s f track reported));
      newest_epoch = refl;
      opening = opened_opening f _ (kept_target_at s f) (passed_at s f) (opening_at past steps s f reported);
      cut = opened_cut _ f _ (kept_target_at s f)
          (cut_weaker _ _ (kept_target_at s f) (reported_cut steps f (verdict_at s f packets)) (cut_at past steps s f track reported sound kept));
      reported = λ m h. reported_new m (f.number == m) refl h;
    }
  where
    reported_new : (m : ℕ) (b : Bool) → (f.number == m) ≡ b → cond b (Some (verdict_at s f packets)) (verdict_among steps m) ≡ Some Passed
        → (g : FrameMeaning) × IsMember g (f ∷ s.passed) × (g.number ≡ m)
    reported_new m true k h = (f, inl refl, eqb-true f.number m k)
    reported_new m false k h = let from = reported.reported m h in (from.0, inr from.1, from.2)

reported_plain : (past : List FrameMeaning) (steps : List Step) (s : Standing) (b : Bool) → IsReported past steps s → IsReported past steps (after_plain b s)
reported_plain past steps s true h =
    record { came = h.came; inside = h.inside; newest_epoch = h.newest_epoch; opening = h.opening; cut = h.cut; reported = h.reported }
reported_plain past steps s false h = h

pub all_reported : {S : Type 0} (wish : Wish) (events : List (Event S)) → IsOneTrack (meanings_of events)
    → IsReported (meanings_of events) (verdicts wish events) (standing wish events)
all_reported wish [] track = record { came = tt; inside = tt; newest_epoch = refl; opening = tt; cut = tt; reported = λ m h. absurd (grind arith) }
all_reported wish (WholeFrame x ∷ past) track =
    reported_admitted (meanings_of past) (verdicts wish past) (standing wish past) x.meaning (length x.packets)
    (passes_at (standing wish past) x.meaning (length x.packets)) track
    (all_reported wish past track.2) (sound wish past track.2) (kept wish past).1 refl
all_reported wish (PlainPacket p ∷ past) track =
    reported_plain (meanings_of past) (verdicts wish past) (standing wish past) (plain_passes (standing wish past)) (all_reported wish past track)
all_reported wish (WishChange w ∷ past) track =
    let h = all_reported wish past track in
    record { came = h.came; inside = h.inside; newest_epoch = h.newest_epoch; opening = h.opening; cut = h.cut; reported = h.reported }
all_reported wish (Take ∷ past) track =
    let h = all_reported wish past track in
    record { came = h.came; inside = h.inside; newest_epoch = h.newest_epoch; opening = h.opening; cut = h.cut; reported = h.reported }

-- ---- what a cause names

-- a number with a verdict is a frame's
verdict_frame : {S : Type 0} (wish : Wish) (events : List (Event S)) (n : ℕ) (v : Verdict) → verdict_among (verdicts wish events) n ≡ Some v
    → (g : FrameMeaning) × IsMember g (meanings_of events) × (g.number ≡ n)
verdict_frame wish [] n v h = absurd (grind arith)
verdict_frame wish (WholeFrame x ∷ past) n v h = go (x.meaning.number == n) refl h (verdict_frame wish past n v)
  where
    go : (b : Bool) → (x.meaning.number == n) ≡ b
        → cond b (Some (verdict_at (standing wish past) x.meaning (length x.packets))) (verdict_among (verdicts wish past) n) ≡ Some v
        → (verdict_among (verdicts wish past) n ≡ Some v → (g : FrameMeaning) × IsMember g (meanings_of past) × (g.number ≡ n))
        → (g : FrameMeaning) × IsMember g (x.meaning ∷ meanings_of past) × (g.number ≡ n)
    go true e h rec = (x.meaning, inl refl, eqb-true x.meaning.number n e)
    go false e h rec = let r = rec h in (r.0, inr r.1, r.2)
verdict_frame wish (PlainPacket p ∷ past) n v h = verdict_frame wish past n v h
verdict_frame wish (WishChange w ∷ past) n v h = verdict_frame wish past n v h
verdict_frame wish (Take ∷ past) n v h = verdict_frame wish past n v h

-- the number that a cause names is lower, and its cause isn't Passed
pub names_unpassed : {S : Type 0} (wish : Wish) (events : List (Event S)) (n : ℕ) (v : Verdict) → IsOneTrack (meanings_of events)
    → verdict_among (verdicts wish events) n ≡ Some v → AtSome (followed v) (IsUnpassed (verdicts wish events) n)
names_unpassed wish [] n v track h = absurd (grind arith)
names_unpassed wish (WholeFrame x ∷ past) n v track h = go (f.number == n) refl h (names_unpassed wish past n v track.2)
  where
    f : FrameMeaning
    f = x.meaning

    s : Standing
    s = standing wish past

    steps : List Step
    steps = verdicts wish past

    fell : Verdict
    fell = verdict_at s f (length x.packets)

    reported : IsReported (meanings_of past) steps s
    reported = all_reported wish past track.2

    here : AtSome (followed fell) (IsUnpassed steps f.number)
    here = verdict_names _ s f (length x.packets) (cut_at (meanings_of past) steps s f track reported (sound wish past track.2) (kept wish past).1)
        (reference_unpassed (meanings_of past) steps s f (missing_reference (has_passed s f) f) track reported refl)

    go : (b : Bool) → (f.number == n) ≡ b → cond b (Some fell) (verdict_among steps n) ≡ Some v
        → (verdict_among steps n ≡ Some v → AtSome (followed v) (IsUnpassed steps n))
        → AtSome (followed v) (IsUnpassed (record { number = f.number; verdict = fell } ∷ steps) n)
    go true e h rec =
        let same : fell ≡ v = grind arith in
        some_weaker _ _ (followed v)
        (λ m u. let r = reported_cut steps f fell m u in (let lt = r.0 in omega (arith, eqb-true f.number n e), r.1))
        (subst (λ x. AtSome (followed x) (IsUnpassed steps f.number)) same here)
    go false e h rec =
        let from = verdict_frame wish past n v h in
        let rises : from.0.number < f.number = (each_member (Precedes f) (meanings_of past) from.0 track.1 from.1).rises in
        let number : from.0.number ≡ n = from.2 in
        some_weaker _ _ (followed v)
        (λ m u. (u.0, (reported_cut steps f fell m (let lt = u.0 in omega arith, u.1)).1))
        (rec h)
names_unpassed wish (PlainPacket p ∷ past) n v track h = names_unpassed wish past n v track h
names_unpassed wish (WishChange w ∷ past) n v track h = names_unpassed wish past n v track h
names_unpassed wish (Take ∷ past) n v track h = names_unpassed wish past n v track h

-- a frame that was withheld before f has another number
later_unlike : {S : Type 0} (wish : Wish) (f : FrameMeaning) (past : List (Event S)) (n : ℕ) → IsWithheld wish past n
    → AllByRecursion (Precedes f) (meanings_of past) → f.number ≡ n → ⊥
later_unlike wish f [] n w before e = w
later_unlike wish f (WholeFrame y ∷ past) n (inl w) before e =
    let rises : y.meaning.number < f.number = before.0.rises in
    let here : y.meaning.number ≡ n = w.0 in omega arith
later_unlike wish f (WholeFrame y ∷ past) n (inr w) before e = later_unlike wish f past n w before.1 e
later_unlike wish f (PlainPacket p ∷ past) n w before e = later_unlike wish f past n w before e
later_unlike wish f (WishChange u ∷ past) n w before e = later_unlike wish f past n w before e
later_unlike wish f (Take ∷ past) n w before e = later_unlike wish f past n w before e

-- the cause of a withheld frame is not Passed
pub withheld_verdict : {S : Type 0} (wish : Wish) (events : List (Event S)) (n : ℕ) → IsOneTrack (meanings_of events) → IsWithheld wish events n
    → verdict_among (verdicts wish events) n ≡ Some Passed → ⊥
withheld_verdict wish [] n track w = absurd w
withheld_verdict wish (WholeFrame x ∷ past) n track (inl w) = λ e.
    let here : Some (verdict_at (standing wish past) x.meaning (length x.packets)) ≡ Some Passed = (rw (eq-eqb x.meaning.number n w.0) at e) in
    true≢false (sym (passes_from_verdict _ _ _ x.meaning _ _ (length x.packets) (let now : verdict_at (standing wish past) x.meaning (length x.packets) ≡ Passed = grind arith in now)) ∙ w.1)
withheld_verdict wish (WholeFrame x ∷ past) n track (inr w) = λ e. go (x.meaning.number == n) refl e (withheld_verdict wish past n track.2 w)
  where
    go : (b : Bool) → (x.meaning.number == n) ≡ b
        → cond b (Some (verdict_at (standing wish past) x.meaning (length x.packets))) (verdict_among (verdicts wish past) n) ≡ Some Passed
        → (verdict_among (verdicts wish past) n ≡ Some Passed → ⊥) → ⊥
    go false k e rec = rec e
    go true k e rec = absurd (later_unlike wish x.meaning past n w track.1 (eqb-true x.meaning.number n k))
withheld_verdict wish (PlainPacket p ∷ past) n track w = withheld_verdict wish past n track w
withheld_verdict wish (WishChange u ∷ past) n track w = withheld_verdict wish past n track w
withheld_verdict wish (Take ∷ past) n track w = withheld_verdict wish past n track w

-- a frame that arrived and didn't pass is withheld
pub unpassed_are_withheld : {S : Type 0} (wish : Wish) (frame : Frame S) (since past : List (Event S))
    → passes_at (standing wish past) frame.meaning (length frame.packets) ≡ false → IsWithheld wish (since ++ WholeFrame frame ∷ past) frame.meaning.number
unpassed_are_withheld wish frame [] past e = inl (refl, e)
unpassed_are_withheld wish frame (WholeFrame x ∷ since) past e = inr (unpassed_are_withheld wish frame since past e)
unpassed_are_withheld wish frame (PlainPacket p ∷ since) past e = unpassed_are_withheld wish frame since past e
unpassed_are_withheld wish frame (WishChange u ∷ since) past e = unpassed_are_withheld wish frame since past e
unpassed_are_withheld wish frame (Take ∷ since) past e = unpassed_are_withheld wish frame since past e
