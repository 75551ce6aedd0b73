-- Each passed frame is decodable from the passed frames of its epoch.
use Rattle.std.proofs.Common.{◌≡◌, ◌⊎◌, inl, inr, ◌+◌, ℕ, arith, Bool, true, false, List, [], ◌∷◌, refl, sym, subst, cond, length}
use Rattle.std.specs.Prelude.{◌==◌}
use Rattle.std.proofs.lemmas.Bool.{eqb-true, eq-eqb}
use Rattle.std.specs.List.{AllByRecursion, list_any, filter}
use Rattle.std.specs.declared.option.Option.{Option}
use Rattle.std.specs.declared.option.Option.TheVariants.{None, Some}
use Rattle.sfu_base.specs.declared.frame.FrameMeaning.{FrameMeaning}
use Rattle.sfu_base.specs.declared.frame.Wish.{Wish}
use Rattle.forwarding_model.specs.Lists.{IsMember}
use Rattle.forwarding_model.specs.forwarding.Targets.{references}
use Rattle.forwarding_model.specs.forwarding.Selection.{missing_reference}
use Rattle.forwarding_model.specs.forwarding.Timeline.{Event}
use Rattle.forwarding_model.specs.forwarding.Standing.{Standing, has_below, is_epoch, is_key, passed_at, candidate_at, passes_at, admitted, after_plain, plain_passes, standing}
use Rattle.forwarding_model.specs.forwarding.Timeline.Event.{WholeFrame, PlainPacket, WishChange, Take}
use Rattle.forwarding_model.specs.forwarding.Decodable.{IsDecodable, of_epoch}
use Rattle.forwarding_model.specs.forwarding.Decodable.IsDecodable.{Decodes}
use Rattle.forwarding_laws.proofs.Members.{each_member, each_weaker, any_member, member_any, failing_none}
use Rattle.forwarding_laws.proofs.Sound.{passing, HasOpenKey, open_key_at, key_among, always_at_open, is_epoch-true}

pub member_filter : {X : Type 0} (test : X → Bool) (xs : List X) (x : X) → IsMember x xs → test x ≡ true → IsMember x (filter test xs)
member_filter test [] x m t = elim m [ ]
member_filter test (y ∷ ys) x (inl e) t = rw (← e, t) (inl refl)
member_filter test (y ∷ ys) x (inr m) t = go (test y) refl (member_filter test ys x m t)
  where
    go : (b : Bool) → test y ≡ b → IsMember x (filter test ys) → IsMember x (filter test (y ∷ ys))
    go true e r = rw e (inr r)
    go false e r = rw e r

pub filter_member : {X : Type 0} (test : X → Bool) (xs : List X) (x : X) → IsMember x (filter test xs) → IsMember x xs × (test x ≡ true)
filter_member test [] x m = elim m [ ]
filter_member test (y ∷ ys) x m = go (test y) refl m (filter_member test ys x)
  where
    go : (b : Bool) → test y ≡ b → IsMember x (cond b (y ∷ filter test ys) (filter test ys)) → (IsMember x (filter test ys) → IsMember x ys × (test x ≡ true)) → IsMember x (y ∷ ys) × (test x ≡ true)
    go true e (inl k) rec = (inl k, subst (λ z. test z ≡ true) (sym k) e)
    go true e (inr k) rec = let r = rec k in (inr r.0, r.1)
    go false e k rec = let r = rec k in (inr r.0, r.1)

abbrev IsPart : List FrameMeaning → List FrameMeaning → Type 0
IsPart fs gs = (g : FrameMeaning) → IsMember g fs → IsMember g gs

any_part : (fs gs : List FrameMeaning) → IsPart fs gs → list_any is_key fs ≡ true → list_any is_key gs ≡ true
any_part fs gs part h = let from = any_member is_key fs h in member_any is_key gs from.0 (part from.0 from.1) from.2

key_part : (fs gs : List FrameMeaning) (f : FrameMeaning) → IsPart fs gs → (f.key ≡ true) ⊎ (list_any is_key fs ≡ true) → (f.key ≡ true) ⊎ (list_any is_key gs ≡ true)
key_part fs gs f part (inl e) = inl e
key_part fs gs f part (inr e) = inr (any_part fs gs part e)

decodable_part : (fs gs : List FrameMeaning) (f : FrameMeaning) → IsPart fs gs → IsDecodable fs f → IsDecodable gs f
decodable_part fs gs _ part (Decodes f m key at number below) =
    Decodes f (part f m) (key_part fs gs f part key) at number (λ d r. decodable_part fs gs (at d r) part (below d r))

pub record IsKept (passed frames : List FrameMeaning) (epoch : Option ℕ) : Type 0 where
  pub in_frames : AllByRecursion (λ g. IsMember g frames) passed
  pub one_epoch : AllByRecursion (λ g. epoch ≡ Some g.epoch) passed
  pub decodable : AllByRecursion (λ g. IsDecodable (of_epoch g.epoch frames) g) frames

pub kept_at : (s : Standing) (f : FrameMeaning) → IsKept s.epoch_passed s.passed s.epoch → IsKept (passed_at s f) s.passed (Some f.epoch)
kept_at s f h = go (is_epoch s.epoch f.epoch) refl
  where
    go : (b : Bool) → is_epoch s.epoch f.epoch ≡ b → IsKept (cond b s.epoch_passed []) s.passed (Some f.epoch)
    go true e = subst (λ epoch. IsKept s.epoch_passed s.passed epoch) (is_epoch-true s.epoch f.epoch e) h
    go false e = record { in_frames = tt; one_epoch = tt; decodable = h.decodable }

same_epoch : (epoch : ℕ) (passed : List FrameMeaning) (g : FrameMeaning) → AllByRecursion (λ g. Some epoch ≡ Some g.epoch) passed → IsMember g passed → g.epoch ≡ epoch
same_epoch epoch passed g h m = let e : Some epoch ≡ Some g.epoch = each_member (λ g. Some epoch ≡ Some g.epoch) passed g h m in grind arith

passed_part : (f : FrameMeaning) (passed frames : List FrameMeaning) → IsKept passed frames (Some f.epoch) → IsPart passed (of_epoch f.epoch (f ∷ frames))
passed_part f passed frames h g m =
    member_filter (λ g. g.epoch == f.epoch) (f ∷ frames) g
    (inr (each_member (λ g. IsMember g frames) passed g h.in_frames m))
    (eq-eqb _ _ (same_epoch f.epoch passed g h.one_epoch m))

more_part : (f : FrameMeaning) (epoch : ℕ) (frames : List FrameMeaning) → IsPart (of_epoch epoch frames) (of_epoch epoch (f ∷ frames))
more_part f epoch frames g m =
    let from = filter_member (λ g. g.epoch == epoch) frames g m in
    member_filter (λ g. g.epoch == epoch) (f ∷ frames) g (inr from.0) from.1

-- the passed frame that lies d below f
record Referred (passed frames : List FrameMeaning) (f : FrameMeaning) (d : ℕ) : Type 0 where
  to : FrameMeaning
  number : to.number + d ≡ f.number
  decodable : IsDecodable (of_epoch f.epoch (f ∷ frames)) to

referred : (passed frames : List FrameMeaning) (f : FrameMeaning) → IsKept passed frames (Some f.epoch) → missing_reference (has_below passed f.number) f ≡ None
    → (d : ℕ) → IsMember d (references f) → Referred passed frames f d
referred passed frames f h found d m =
    let has : has_below passed f.number d ≡ true = each_member (λ d. has_below passed f.number d ≡ true) (references f) d (failing_none (has_below passed f.number) (references f) found) m in
    let from = any_member (λ g. (g.number + d) == f.number) passed has in
    let old : IsDecodable (of_epoch from.0.epoch frames) from.0
    = each_member (λ g. IsDecodable (of_epoch g.epoch frames) g) frames from.0 h.decodable (each_member (λ g. IsMember g frames) passed from.0 h.in_frames from.1) in
    record {
      to = from.0;
      number = eqb-true _ _ from.2;
      decodable = decodable_part _ _ from.0 (more_part f f.epoch frames)
          (subst (λ e. IsDecodable (of_epoch e frames) from.0) (same_epoch f.epoch passed from.0 h.one_epoch from.1) old);
    }

decodable_new : (passed frames : List FrameMeaning) (f : FrameMeaning) → IsKept passed frames (Some f.epoch) → missing_reference (has_below passed f.number) f ≡ None
    → (f.key ≡ true) ⊎ (list_any is_key passed ≡ true) → IsDecodable (of_epoch f.epoch (f ∷ frames)) f
decodable_new passed frames f h found key =
    Decodes f (member_filter (λ g. g.epoch == f.epoch) (f ∷ frames) f (inl refl) (eq-eqb f.epoch f.epoch refl))
    (key_part passed (of_epoch f.epoch (f ∷ frames)) f (passed_part f passed frames h) key)
    (λ d m. (referred passed frames f h found d m).to)
    (λ d m. (referred passed frames f h found d m).number)
    (λ d m. (referred passed frames f h found d m).decodable)

kept_admitted : (s : Standing) (f : FrameMeaning) (packets : ℕ) (b : Bool)
    → HasOpenKey s → passes_at s f packets ≡ b → IsKept s.epoch_passed s.passed s.epoch
    → HasOpenKey (admitted b s f packets) × IsKept (admitted b s f packets).epoch_passed (admitted b s f packets).passed (admitted b s f packets).epoch
kept_admitted s f packets false open_key e h = (open_key_at s f open_key, kept_at s f h)
kept_admitted s f packets true open_key e h =
    let at = kept_at s f h in
    let p = passing s f packets open_key e in (
      always_at_open (candidate_at s f) _ (key_among f (passed_at s f) p.has_key),
      record {
        in_frames = (inl refl, each_weaker _ _ (passed_at s f) (λ g m. inr m) at.in_frames);
        one_epoch = (refl, at.one_epoch);
        decodable = (
          decodable_new (passed_at s f) s.passed f at p.found p.has_key,
          each_weaker _ _ s.passed (λ g d. decodable_part _ _ g (more_part f g.epoch s.passed) d) at.decodable,
        );
      },
    )

kept_plain : (s : Standing) (b : Bool) → HasOpenKey s × IsKept s.epoch_passed s.passed s.epoch
    → HasOpenKey (after_plain b s) × IsKept (after_plain b s).epoch_passed (after_plain b s).passed (after_plain b s).epoch
kept_plain s true h = h
kept_plain s false h = h

-- the same for any frames, whatever their numbers and epochs
pub kept : {S : Type 0} (wish : Wish) (events : List (Event S))
    → HasOpenKey (standing wish events) × IsKept (standing wish events).epoch_passed (standing wish events).passed (standing wish events).epoch
kept wish [] = (tt, record { in_frames = tt; one_epoch = tt; decodable = tt })
kept wish (WholeFrame x ∷ past) =
    let h = kept wish past in
    kept_admitted (standing wish past) x.meaning (length x.packets) (passes_at (standing wish past) x.meaning (length x.packets)) h.0 refl h.1
kept wish (PlainPacket p ∷ past) = kept_plain (standing wish past) (plain_passes (standing wish past)) (kept wish past)
kept wish (WishChange w ∷ past) = kept wish past
kept wish (Take ∷ past) = kept wish past

pub all_decodable : {S : Type 0} (wish : Wish) (events : List (Event S))
    → AllByRecursion (λ f. IsDecodable (of_epoch f.epoch (standing wish events).passed) f) (standing wish events).passed
all_decodable wish events = (kept wish events).1.decodable
