-- The cause of a frame's number is the frame's verdict, and that of any other number is a hole.
use Rattle.std.proofs.Common.{◌≡◌, inl, inr, ◌+◌, ◌<◌, ◌≤◌, ℕ, arith, Bool, true, false, List, [], ◌∷◌, ◌++◌, refl, sym, subst, ap, ◌∙◌, cond, map, length}
use Rattle.std.specs.Prelude.{◌==◌, nat_lt}
use Rattle.std.proofs.lemmas.Bool.{eq-eqb, ne_eqb, ltb-true, ltb-false}
use Rattle.std.specs.List.{AllByRecursion}
use Rattle.std.specs.declared.option.Option.{Option}
use Rattle.std.specs.declared.option.Option.TheVariants.{None, Some}
use Rattle.sfu_base.specs.declared.frame.FrameMeaning.{FrameMeaning}
use Rattle.sfu_base.specs.declared.frame.Wish.{Wish}
use Rattle.sfu_base.specs.declared.frame.Verdict.{Verdict}
use Rattle.sfu_base.specs.declared.frame.Verdict.TheVariants.{Hole}
use Rattle.sfu_base.specs.declared.frame.Step.{Step}
use Rattle.forwarding_model.specs.Lists.{IsMember, first_of}
use Rattle.forwarding_model.specs.forwarding.Timeline.{Event, Frame, meaning_of, frames_of, meanings_of}
use Rattle.forwarding_model.specs.forwarding.Timeline.Event.{WholeFrame, PlainPacket, WishChange, Take}
use Rattle.forwarding_model.specs.frames.TrackFrames.{Precedes, IsOneTrack}
use Rattle.forwarding_model.specs.forwarding.Standing.{standing, verdict_at}
use Rattle.forwarding_model.specs.forwarding.Causes.{verdict_among, newest_number, number_or, next_above, next_below, verdict_or_hole, verdicts, cause}
use Rattle.forwarding_laws.specs.forwarding.CauseWords.{frame_numbers, IsNextAbove, IsNextBelow}
use Rattle.forwarding_laws.proofs.Members.{each_member}
use Rattle.forwarding_laws.proofs.Claimed.{claimed}

-- ---- for recorded verdicts

abbrev step_numbers : List Step → List ℕ
step_numbers steps = map (λ step. step.number) steps

-- numbers fall
abbrev AreFalling : List ℕ → Type 0
AreFalling [] = Unit {0}
AreFalling (n ∷ ns) = AllByRecursion (λ m. m < n) ns × AreFalling ns

below_first : (n m : ℕ) (ns : List ℕ) → AreFalling (n ∷ ns) → IsMember m ns → m < n
below_first n m ns falling at = each_member (λ m. m < n) ns m falling.0 at

abbrev IsNextOf : List ℕ → ℕ → Option ℕ → Type 0
IsNextOf numbers n None = (m : ℕ) → IsMember m numbers → m ≤ n
IsNextOf numbers n (Some above) = IsNextAbove numbers n above

above_step : (n first : ℕ) (ns : List ℕ) (o : Option ℕ) → AreFalling (first ∷ ns) → n < first → IsNextOf ns n o → IsNextAbove (first ∷ ns) n (number_or o first)
above_step n first ns None falling lt none = record { stands = inl refl; higher = lt; least = least }
  where
    least : (m : ℕ) → IsMember m (first ∷ ns) → n < m → first ≤ m
    least m (inl e) up = omega arith
    least m (inr at) up = let le : m ≤ n = none m at in absurd (omega arith)
above_step n first ns (Some above) falling lt next = record { stands = inr next.stands; higher = next.higher; least = least }
  where
    least : (m : ℕ) → IsMember m (first ∷ ns) → n < m → above ≤ m
    least m (inl e) up = let under : above < first = below_first first above ns falling next.stands in omega arith
    least m (inr at) up = next.least m at up

above_is : (steps : List Step) (n : ℕ) → AreFalling (step_numbers steps) → IsNextOf (step_numbers steps) n (next_above steps n)
above_is [] n falling = λ m at. elim at [ ]
above_is (step ∷ past) n falling = go (nat_lt n step.number) refl (above_is past n falling.1)
  where
    under : step.number ≤ n → (m : ℕ) → IsMember m (step_numbers (step ∷ past)) → m ≤ n
    under le m (inl e) = omega arith
    under le m (inr at) = let lt : m < step.number = below_first step.number m (step_numbers past) falling at in omega arith

    go : (b : Bool) → nat_lt n step.number ≡ b → IsNextOf (step_numbers past) n (next_above past n)
        → IsNextOf (step_numbers (step ∷ past)) n (cond b (Some (number_or (next_above past n) step.number)) None)
    go true e rec = above_step n step.number (step_numbers past) (next_above past n) falling (ltb-true n step.number e) rec
    go false e rec = under (ltb-false n step.number e)

below_skips : (newest n first : ℕ) (ns : List ℕ) (o : Option ℕ) → n ≤ first → IsNextBelow ns newest n o → IsNextBelow (first ∷ ns) newest n o
below_skips newest n first ns None le none = all
  where
    all : (m : ℕ) → IsMember m (first ∷ ns) → m < n → m + 4096 ≤ newest
    all m (inl e) lt = absurd (omega arith)
    all m (inr at) lt = none m at lt
below_skips newest n first ns (Some below) le next = record { stands = inr next.stands; lower = next.lower; greatest = greatest; near = next.near }
  where
    greatest : (m : ℕ) → IsMember m (first ∷ ns) → m < n → m ≤ below
    greatest m (inl e) lt = absurd (omega arith)
    greatest m (inr at) lt = next.greatest m at lt

below_here : (newest n first : ℕ) (ns : List ℕ) → AreFalling (first ∷ ns) → first < n → (b : Bool) → nat_lt newest (first + 4096) ≡ b
    → IsNextBelow (first ∷ ns) newest n (cond b (Some first) None)
below_here newest n first ns falling lt true e = record { stands = inl refl; lower = lt; greatest = greatest; near = ltb-true newest (first + 4096) e }
  where
    greatest : (m : ℕ) → IsMember m (first ∷ ns) → m < n → m ≤ first
    greatest m (inl same) up = omega arith
    greatest m (inr at) up = let under : m < first = below_first first m ns falling at in omega arith
below_here newest n first ns falling lt false e = far
  where
    gone : first + 4096 ≤ newest
    gone = ltb-false newest (first + 4096) e

    far : (m : ℕ) → IsMember m (first ∷ ns) → m < n → m + 4096 ≤ newest
    far m (inl same) up = let g = gone in omega arith
    far m (inr at) up = let g = gone in let under : m < first = below_first first m ns falling at in omega arith

below_is : (steps : List Step) (newest n : ℕ) → AreFalling (step_numbers steps) → IsNextBelow (step_numbers steps) newest n (next_below steps newest n)
below_is [] newest n falling = λ m at. elim at [ ]
below_is (step ∷ past) newest n falling = go (nat_lt step.number n) refl (below_is past newest n falling.1)
  where
    go : (b : Bool) → nat_lt step.number n ≡ b → IsNextBelow (step_numbers past) newest n (next_below past newest n)
        → IsNextBelow (step_numbers (step ∷ past)) newest n (cond b (cond (nat_lt newest (step.number + 4096)) (Some step.number) None) (next_below past newest n))
    go true e rec = below_here newest n step.number (step_numbers past) falling (ltb-true step.number n e) (nat_lt newest (step.number + 4096)) refl
    go false e rec = below_skips newest n step.number (step_numbers past) (next_below past newest n) (ltb-false step.number n e) rec

none_among : (steps : List Step) (n : ℕ) → (IsMember n (step_numbers steps) → ⊥) → verdict_among steps n ≡ None
none_among [] n out = refl
none_among (step ∷ past) n out =
    ap (λ b. cond b (Some step.verdict) (verdict_among past n)) (ne_eqb step.number n (λ e. out (inl (sym e)))) ∙ none_among past n (λ at. out (inr at))

newest_is : (steps : List Step) → newest_number steps ≡ first_of (step_numbers steps)
newest_is [] = refl
newest_is (step ∷ past) = refl

-- ---- over a timeline

numbers_are : {S : Type 0} (wish : Wish) (events : List (Event S)) → step_numbers (verdicts wish events) ≡ frame_numbers events
numbers_are wish [] = refl
numbers_are wish (WholeFrame x ∷ past) = ap (λ l. x.meaning.number ∷ l) (numbers_are wish past)
numbers_are wish (PlainPacket p ∷ past) = numbers_are wish past
numbers_are wish (WishChange w ∷ past) = numbers_are wish past
numbers_are wish (Take ∷ past) = numbers_are wish past

all_below : (f : FrameMeaning) (past : List FrameMeaning) → AllByRecursion (Precedes f) past → AllByRecursion (λ m. m < f.number) (map (λ g. g.number) past)
all_below f [] before = tt
all_below f (g ∷ past) before = (before.0.rises, all_below f past before.1)

falling : (frames : List FrameMeaning) → IsOneTrack frames → AreFalling (map (λ f. f.number) frames)
falling [] track = tt
falling (f ∷ past) track = (all_below f past track.1, falling past track.2)

steps_fall : {S : Type 0} (wish : Wish) (events : List (Event S)) → IsOneTrack (meanings_of events) → AreFalling (step_numbers (verdicts wish events))
steps_fall wish events track = subst AreFalling (sym (numbers_are wish events)) (falling (meanings_of events) track)

stands_in : {S : Type 0} (since past : List (Event S)) (frame : Frame S) → IsMember frame.meaning (meanings_of (since ++ WholeFrame frame ∷ past))
stands_in [] past frame = inl refl
stands_in (WholeFrame x ∷ since) past frame = inr (stands_in since past frame)
stands_in (PlainPacket p ∷ since) past frame = stands_in since past frame
stands_in (WishChange w ∷ since) past frame = stands_in since past frame
stands_in (Take ∷ since) past frame = stands_in since past frame

frame_among : {S : Type 0} (wish : Wish) (since past : List (Event S)) (frame : Frame S) → IsOneTrack (meanings_of (since ++ WholeFrame frame ∷ past))
    → verdict_among (verdicts wish (since ++ WholeFrame frame ∷ past)) frame.meaning.number ≡ Some (verdict_at (standing wish past) frame.meaning (length frame.packets))
frame_among wish [] past frame track =
    ap (λ b. cond b (Some (verdict_at (standing wish past) frame.meaning (length frame.packets))) (verdict_among (verdicts wish past) frame.meaning.number))
    (eq-eqb frame.meaning.number frame.meaning.number refl)
frame_among wish (WholeFrame x ∷ since) past frame track =
    let rises : frame.meaning.number < x.meaning.number
    = (each_member (Precedes x.meaning) (meanings_of (since ++ WholeFrame frame ∷ past)) frame.meaning track.1 (stands_in since past frame)).rises in
    ap (λ b. cond b (Some (verdict_at (standing wish (since ++ WholeFrame frame ∷ past)) x.meaning (length x.packets)))
    (verdict_among (verdicts wish (since ++ WholeFrame frame ∷ past)) frame.meaning.number))
    (ne_eqb x.meaning.number frame.meaning.number (λ e. omega arith))
    ∙ frame_among wish since past frame track.2
frame_among wish (PlainPacket p ∷ since) past frame track = frame_among wish since past frame track
frame_among wish (WishChange w ∷ since) past frame track = frame_among wish since past frame track
frame_among wish (Take ∷ since) past frame track = frame_among wish since past frame track

pub frames_have_their_verdicts : {S : Type 0} (wish : Wish) (since past : List (Event S)) (frame : Frame S) → IsOneTrack (meanings_of (since ++ WholeFrame frame ∷ past))
    → cause wish (since ++ WholeFrame frame ∷ past) frame.meaning.number ≡ verdict_at (standing wish past) frame.meaning (length frame.packets)
frames_have_their_verdicts wish since past frame track =
    let steps : List Step = verdicts wish (since ++ WholeFrame frame ∷ past) in
    let n : ℕ = frame.meaning.number in
    ap (λ o. verdict_or_hole o (next_below steps (number_or (newest_number steps) 0) n) (next_above steps n)) (frame_among wish since past frame track)

pub other_numbers_are_holes : {S : Type 0} (wish : Wish) (events : List (Event S)) (newest : Frame S) (older : List (Frame S)) (n : ℕ) → IsOneTrack (meanings_of events)
    → frames_of events ≡ newest ∷ older → n < newest.meaning.number → (IsMember n (frame_numbers events) → ⊥)
    → (below : Option ℕ) × (above : ℕ) × (cause wish events n ≡ Hole below above)
    × IsNextBelow (frame_numbers events) newest.meaning.number n below × IsNextAbove (frame_numbers events) n above
other_numbers_are_holes wish events newest older n track first lt out = go (next_above steps n) refl (above_is steps n (steps_fall wish events track))
  where
    steps : List Step
    steps = verdicts wish events

    same : step_numbers steps ≡ frame_numbers events
    same = numbers_are wish events

    is_newest : number_or (newest_number steps) 0 ≡ newest.meaning.number
    is_newest =
        ap (λ o. number_or o 0)
        (newest_is steps ∙ ap first_of same ∙ ap (λ (frames : List (Frame _)). first_of (map (λ f. f.number) (map meaning_of frames))) first)

    newest_stands : IsMember newest.meaning.number (step_numbers steps)
    newest_stands =
        subst (IsMember newest.meaning.number) (sym (same ∙ ap (λ (frames : List (Frame _)). map (λ f. f.number) (map meaning_of frames)) first)) (inl refl)

    none : verdict_among steps n ≡ None
    none = none_among steps n (λ at. out (subst (IsMember n) same at))

    below : Option ℕ
    below = next_below steps newest.meaning.number n

    is : (o : Option ℕ) → next_above steps n ≡ o → cause wish events n ≡ Hole below (number_or o 0)
    is o e =
        ap (λ v. verdict_or_hole v (next_below steps (number_or (newest_number steps) 0) n) (next_above steps n)) none
        ∙ ap (λ k. Hole (next_below steps k n) (number_or (next_above steps n) 0)) is_newest
        ∙ ap (λ o. Hole below (number_or o 0)) e

    go : (o : Option ℕ) → next_above steps n ≡ o → IsNextOf (step_numbers steps) n o
        → (below : Option ℕ) × (above : ℕ) × (cause wish events n ≡ Hole below above)
        × IsNextBelow (frame_numbers events) newest.meaning.number n below × IsNextAbove (frame_numbers events) n above
    go None e next = let le : newest.meaning.number ≤ n = next newest.meaning.number newest_stands in absurd (omega arith)
    go (Some above) e next = (
      below,
      above,
      is (Some above) e,
      subst (λ l. IsNextBelow l newest.meaning.number n below) same (below_is steps newest.meaning.number n (steps_fall wish events track)),
      subst (λ l. IsNextAbove l n above) same next,
    )

-- ---- a hole isn't a frame

abbrev IsNoHole : Verdict → Type 0
IsNoHole v = (above : ℕ) (below : Option ℕ) → v ≡ Hole below above → ⊥

no_holes : {S : Type 0} (wish : Wish) (events : List (Event S)) → AllByRecursion (λ step. IsNoHole step.verdict) (verdicts wish events)
no_holes wish [] = tt
no_holes wish (WholeFrame x ∷ past) =
    ((λ above below e. claimed (standing wish past) x.meaning (length x.packets) (Hole below above) e), no_holes wish past)
no_holes wish (PlainPacket p ∷ past) = no_holes wish past
no_holes wish (WishChange w ∷ past) = no_holes wish past
no_holes wish (Take ∷ past) = no_holes wish past

some_among : (steps : List Step) (n : ℕ) → AllByRecursion (λ step. IsNoHole step.verdict) steps → IsMember n (step_numbers steps)
    → (v : Verdict) × (verdict_among steps n ≡ Some v) × IsNoHole v
some_among [] n whole at = elim at [ ]
some_among (step ∷ past) n whole at = go (step.number == n) refl at (some_among past n whole.1)
  where
    go : (b : Bool) → (step.number == n) ≡ b → IsMember n (step_numbers (step ∷ past))
        → (IsMember n (step_numbers past) → (v : Verdict) × (verdict_among past n ≡ Some v) × IsNoHole v)
        → (v : Verdict) × (cond b (Some step.verdict) (verdict_among past n) ≡ Some v) × IsNoHole v
    go true e m rec = (step.verdict, refl, whole.0)
    go false e (inl same) rec = let no : true ≡ false = sym (eq-eqb step.number n (sym same)) ∙ e in absurd (cc)
    go false e (inr m) rec = rec m

pub holes_are_no_frames : {S : Type 0} (wish : Wish) (events : List (Event S)) (n above : ℕ) (below : Option ℕ) → cause wish events n ≡ Hole below above
    → IsMember n (frame_numbers events) → ⊥
holes_are_no_frames wish events n above below h at =
    let steps : List Step = verdicts wish events in
    let r = some_among steps n (no_holes wish events) (subst (IsMember n) (sym (numbers_are wish events)) at) in
    r.2 above below
    (sym (ap (λ o. verdict_or_hole o (next_below steps (number_or (newest_number steps) 0) n) (next_above steps n)) r.1) ∙ h)
