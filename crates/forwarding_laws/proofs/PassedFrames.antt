-- The frames that count as passed at a frame are all passed frames of its epoch.
use Rattle.std.proofs.Common.{◌≡◌, ◌↔◌, ◌+◌, ℕ, Bool, true, false, List, [], ◌∷◌, refl, sym, subst, ap, ◌∙◌, cond, length}
use Rattle.std.specs.Prelude.{◌==◌}
use Rattle.std.proofs.lemmas.Bool.{eqb-true, eq-eqb, ne_eqb}
use Rattle.std.specs.List.{AllByRecursion}
use Rattle.std.specs.declared.option.Option.TheVariants.{Some}
use Rattle.sfu_base.specs.declared.frame.FrameMeaning.{FrameMeaning}
use Rattle.sfu_base.specs.declared.frame.Wish.{Wish}
use Rattle.forwarding_model.specs.Lists.{IsMember}
use Rattle.forwarding_model.specs.forwarding.Timeline.{Event, meanings_of}
use Rattle.forwarding_model.specs.forwarding.Timeline.Event.{WholeFrame, PlainPacket, WishChange, Take}
use Rattle.forwarding_model.specs.frames.TrackFrames.{IsOneTrack}
use Rattle.forwarding_model.specs.forwarding.Decodable.{of_epoch}
use Rattle.forwarding_model.specs.forwarding.Standing.{Standing, is_epoch, is_key, passed_at, has_passed, key_passed, passes_at, admitted, plain_passes, after_plain, standing}
use Rattle.forwarding_laws.proofs.Members.{each_member, each_of, any_member, member_any}
use Rattle.forwarding_laws.proofs.Sound.{is_epoch-true}
use Rattle.forwarding_laws.proofs.Decoding.{member_filter, filter_member}
use Rattle.forwarding_laws.proofs.Causes.{all_reported, epoch_apart}

abbrev EpochIsCounted : Standing → Type 0
EpochIsCounted s = (epoch : ℕ) → s.epoch ≡ Some epoch → s.epoch_passed ≡ of_epoch epoch s.passed

none_of_epoch : (epoch : ℕ) (frames : List FrameMeaning) → AllByRecursion (λ g. g.epoch ≡ epoch → ⊥) frames → of_epoch epoch frames ≡ []
none_of_epoch epoch [] other = refl
none_of_epoch epoch (g ∷ gs) other =
    ap (λ b. cond b (g ∷ of_epoch epoch gs) (of_epoch epoch gs)) (ne_eqb g.epoch epoch other.0) ∙ none_of_epoch epoch gs other.1

counted_at : {S : Type 0} (wish : Wish) (events : List (Event S)) (f : FrameMeaning) → IsOneTrack (f ∷ meanings_of events) → EpochIsCounted (standing wish events)
    → passed_at (standing wish events) f ≡ of_epoch f.epoch (standing wish events).passed
counted_at wish events f track counted = go (is_epoch s.epoch f.epoch) refl
  where
    s : Standing
    s = standing wish events

    other : is_epoch s.epoch f.epoch ≡ false → (g : FrameMeaning) → IsMember g s.passed → g.epoch ≡ f.epoch → ⊥
    other e g m same =
        let reported = all_reported wish events track.2 in
        epoch_apart (meanings_of events) f g s.epoch track reported.newest_epoch
        (each_member (λ g. IsMember g (meanings_of events)) s.passed g reported.came m) same e

    go : (b : Bool) → is_epoch s.epoch f.epoch ≡ b → cond b s.epoch_passed [] ≡ of_epoch f.epoch s.passed
    go true e = counted f.epoch (is_epoch-true s.epoch f.epoch e)
    go false e = sym (none_of_epoch f.epoch s.passed (each_of _ s.passed (other e)))

counted_admitted : (s : Standing) (f : FrameMeaning) (packets : ℕ) (b : Bool) → passed_at s f ≡ of_epoch f.epoch s.passed → EpochIsCounted (admitted b s f packets)
counted_admitted s f packets true at epoch e =
    let same : f.epoch ≡ epoch = cc in
    subst (λ n. f ∷ (passed_at s f) ≡ of_epoch n (f ∷ s.passed)) same
    (ap (λ l. f ∷ l) at ∙ sym (ap (λ b. cond b (f ∷ of_epoch f.epoch s.passed) (of_epoch f.epoch s.passed)) (eq-eqb f.epoch f.epoch refl)))
counted_admitted s f packets false at epoch e = let same : f.epoch ≡ epoch = cc in subst (λ n. passed_at s f ≡ of_epoch n s.passed) same at

counted_plain : (s : Standing) (b : Bool) → EpochIsCounted s → EpochIsCounted (after_plain b s)
counted_plain s true h = h
counted_plain s false h = h

counted : {S : Type 0} (wish : Wish) (events : List (Event S)) → IsOneTrack (meanings_of events) → EpochIsCounted (standing wish events)
counted wish [] track = λ epoch e. refl
counted wish (WholeFrame x ∷ past) track =
    counted_admitted (standing wish past) x.meaning (length x.packets) (passes_at (standing wish past) x.meaning (length x.packets))
    (counted_at wish past x.meaning track (counted wish past track.2))
counted wish (PlainPacket p ∷ past) track = counted_plain (standing wish past) (plain_passes (standing wish past)) (counted wish past track)
counted wish (WishChange w ∷ past) track = counted wish past track
counted wish (Take ∷ past) track = counted wish past track

pub epochs_frames_count : {S : Type 0} (wish : Wish) (events : List (Event S)) (f : FrameMeaning) → IsOneTrack (f ∷ meanings_of events)
    → passed_at (standing wish events) f ≡ of_epoch f.epoch (standing wish events).passed
epochs_frames_count wish events f track = counted_at wish events f track (counted wish events track.2)

-- a test on the frames that count, in words
counting : {S : Type 0} (wish : Wish) (events : List (Event S)) (f g : FrameMeaning) → IsOneTrack (f ∷ meanings_of events)
    → IsMember g (passed_at (standing wish events) f) ↔ (IsMember g (standing wish events).passed × (g.epoch ≡ f.epoch))
counting wish events f g track = (
  λ m. let r = filter_member (λ g. g.epoch == f.epoch) passed g (subst (IsMember g) (epochs_frames_count wish events f track) m) in
      (r.0, eqb-true g.epoch f.epoch r.1),
  λ h. subst (IsMember g) (sym (epochs_frames_count wish events f track)) (member_filter (λ g. g.epoch == f.epoch) passed g h.0 (eq-eqb g.epoch f.epoch h.1)),
)
  where
    passed : List FrameMeaning
    passed = (standing wish events).passed

pub has_passed_in_words : {S : Type 0} (wish : Wish) (events : List (Event S)) (f : FrameMeaning) (d : ℕ) → IsOneTrack (f ∷ meanings_of events)
    → (has_passed (standing wish events) f d ≡ true)
    ↔ ((g : FrameMeaning) × IsMember g (standing wish events).passed × (g.epoch ≡ f.epoch) × (g.number + d ≡ f.number))
has_passed_in_words wish events f d track = (
  λ h. let r = any_member (λ g. (g.number + d) == f.number) at h in
      let c = (counting wish events f r.0 track).0 r.1 in
      (r.0, c.0, c.1, eqb-true (r.0.number + d) f.number r.2),
  λ h. member_any (λ g. (g.number + d) == f.number) at h.0 ((counting wish events f h.0 track).1 (h.1, h.2)) (eq-eqb (h.0.number + d) f.number h.3),
)
  where
    at : List FrameMeaning
    at = passed_at (standing wish events) f

pub key_passed_in_words : {S : Type 0} (wish : Wish) (events : List (Event S)) (f : FrameMeaning) → IsOneTrack (f ∷ meanings_of events)
    → (key_passed (standing wish events) f ≡ true)
    ↔ ((g : FrameMeaning) × IsMember g (standing wish events).passed × (g.epoch ≡ f.epoch) × (g.key ≡ true))
key_passed_in_words wish events f track = (
  λ h. let r = any_member is_key at h in let c = (counting wish events f r.0 track).0 r.1 in (r.0, c.0, c.1, r.2),
  λ h. member_any is_key at h.0 ((counting wish events f h.0 track).1 (h.1, h.2)) h.3,
)
  where
    at : List FrameMeaning
    at = passed_at (standing wish events) f
