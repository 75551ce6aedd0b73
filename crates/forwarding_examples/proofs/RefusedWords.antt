-- Examples that the definitions in the laws reject.
use Rattle.std.proofs.Common.{◌≡◌, ◌⊎◌, inl, inr, ℕ, List, [], ◌∷◌, arith, true, false, refl, ap, ◌+◌, subst}
use Rattle.std.specs.List.{list_any}
use Rattle.forwarding_model.specs.forwarding.Standing.{is_key}
use Rattle.forwarding_model.specs.forwarding.Targets.{references}
use Rattle.sfu_base.specs.declared.frame.FrameMeaning.{FrameMeaning}
use Rattle.forwarding_model.specs.Lists.{IsMember}
use Rattle.forwarding_model.specs.forwarding.Decodable.{IsDecodable}
use Rattle.forwarding_model.specs.forwarding.Decodable.IsDecodable.{Decodes}
use Rattle.forwarding_examples.specs.Refusals.{EmptyIsNoPath, PassedIsNoRoot, ReferenceIsNoRoot, LinkIsNoRoot, LatePassedIsNoRoot, RootsEndPaths, PassedLeadsNowhere, PathsNameTheNext, LaterStepsNameTheNext, LaterStepsFall, EqualNumbersDontFall, PathsFall, OthersAreNoCauses, LaterOthersAreNoCauses, CausesOfOthersDontCount, LacksReference, LacksFartherReference, LacksMiddleReference, LacksKeyFrame, IsNotThere, OthersAreNoRestart, IncompleteIsNoRestart, SwitchesMustOpen, LostLinkIsNoLink, LinkToTheOpeningCounts, LostLinkIsNotKept, NothingOpensUnlessOpened, OpenedIsOpenFromThere, ClosedIsNotOpen, FramesSinceCount, OlderFramesSinceCount, FramesBehindEventsCount, SinceLooksBefore, OthersMayJoin, JoiningIsNoted, plain_frame}

pub empty_is_no_path : EmptyIsNoPath
empty_is_no_path h = h

pub passed_is_no_root : PassedIsNoRoot
passed_is_no_root h = h

pub paths_name_the_next : PathsNameTheNext
paths_name_the_next h = let e = h.0 in cc

pub paths_fall : PathsFall
paths_fall h = let lt = h.1 in omega arith

pub others_are_no_causes : OthersAreNoCauses
others_are_no_causes h = let e = h.0 in cc

-- a decodable frame is in the list, and the list has a key frame
record Is (frames : List FrameMeaning) (f : FrameMeaning) : Type 0 where
  there : IsMember f frames
  keyed : (f.key ≡ true) ⊎ (list_any is_key frames ≡ true)
  referred : (d : ℕ) → IsMember d (references f) → (g : FrameMeaning) × (g.number + d ≡ f.number) × IsMember g frames

is : (frames : List FrameMeaning) (f : FrameMeaning) → IsDecodable frames f → Is frames f
is frames _ (Decodes f there keyed referred number decodes) = record {
  there = there;
  keyed = keyed;
  referred = λ d m. (referred d m, number d m, member frames (referred d m) (decodes d m));
}
  where
    member : (frames : List FrameMeaning) (g : FrameMeaning) → IsDecodable frames g → IsMember g frames
    member frames _ (Decodes g there keyed referred number decodes) = there

no_number : (g : FrameMeaning) → g.number + 1 ≡ 3 → IsMember g (plain_frame false 3 (1 ∷ []) ∷ plain_frame true 1 [] ∷ []) → ⊥
no_number g e (inl same) = let n = ap (λ (x : FrameMeaning). x.number) same in omega arith
no_number g e (inr (inl same)) = let n = ap (λ (x : FrameMeaning). x.number) same in omega arith
no_number g e (inr (inr none)) = none

pub lacks_reference : LacksReference
lacks_reference h =
    let r = (is _ _ h).referred 1 (inl refl) in no_number r.0 r.1 r.2

pub lacks_key_frame : LacksKeyFrame
lacks_key_frame h = elim (is _ _ h).keyed [
  | inl e ↦ cc
  | inr e ↦ cc
]

pub is_not_there : IsNotThere
is_not_there h = elim (is _ _ h).there [
  | inl same ↦ let n = ap (λ (x : FrameMeaning). x.number) same in omega arith
  | inr none ↦ none
]

pub others_are_no_restart : OthersAreNoRestart
others_are_no_restart h = elim h.begins [
  | inl e ↦ cc
  | inr e ↦ let found = e.1 in cc
]

pub frames_since_count : FramesSinceCount
frames_since_count h = h.0

pub reference_is_no_root : ReferenceIsNoRoot
reference_is_no_root h = h

pub link_is_no_root : LinkIsNoRoot
link_is_no_root h = h

pub late_passed_is_no_root : LatePassedIsNoRoot
late_passed_is_no_root h = h.2

pub later_steps_name_the_next : LaterStepsNameTheNext
later_steps_name_the_next h = let e = h.2.0 in cc

pub equal_numbers_dont_fall : EqualNumbersDontFall
equal_numbers_dont_fall h = let lt = h.1 in omega arith

farther : FrameMeaning
farther = plain_frame false 4 (1 ∷ [])

pub lacks_farther_reference : LacksFartherReference
lacks_farther_reference (Decodes f there keyed referred number decodes) =
    third (referred 1 (inl refl)) (number 1 (inl refl)) (decodes 1 (inl refl))
  where
    frames : List FrameMeaning
    frames = plain_frame false 4 (1 ∷ []) ∷ plain_frame false 3 (1 ∷ []) ∷ plain_frame true 1 [] ∷ []

    none_two : (g : FrameMeaning) → g.number + 1 ≡ 3 → IsMember g frames → ⊥
    none_two g e (inl same) = let n = ap (λ (x : FrameMeaning). x.number) same in omega arith
    none_two g e (inr (inl same)) = let n = ap (λ (x : FrameMeaning). x.number) same in omega arith
    none_two g e (inr (inr (inl same))) = let n = ap (λ (x : FrameMeaning). x.number) same in omega arith
    none_two g e (inr (inr (inr none))) = none

    is_third : (g : FrameMeaning) → g.number + 1 ≡ 4 → IsMember g frames → g ≡ plain_frame false 3 (1 ∷ [])
    is_third g e (inl same) = let n = ap (λ (x : FrameMeaning). x.number) same in absurd (omega arith)
    is_third g e (inr (inl same)) = same
    is_third g e (inr (inr (inl same))) = let n = ap (λ (x : FrameMeaning). x.number) same in absurd (omega arith)
    is_third g e (inr (inr (inr none))) = absurd none

    third : (g : FrameMeaning) → g.number + 1 ≡ 4 → IsDecodable frames g → ⊥
    third g e d =
        let i = is frames g d in
        let same = is_third g e i.there in
        let j = is frames (plain_frame false 3 (1 ∷ [])) (subst (IsDecodable frames) same d) in
        let r = j.referred 1 (inl refl) in
        none_two r.0 r.1 r.2

pub incomplete_is_no_restart : IncompleteIsNoRestart
incomplete_is_no_restart h = let e = h.complete in cc

pub switches_must_open : SwitchesMustOpen
switches_must_open h = elim h.begins [
  | inl e ↦ cc
  | inr e ↦ let found = e.1 in cc
]

pub lost_link_is_no_link : LostLinkIsNoLink
lost_link_is_no_link h = let e = h (omega arith) (omega arith) (omega arith) in cc

pub older_frames_since_count : OlderFramesSinceCount
older_frames_since_count h = let e = h.1.0 in cc

pub frames_behind_events_count : FramesBehindEventsCount
frames_behind_events_count h = h.0

pub others_may_join : OthersMayJoin
others_may_join = ((λ e. cc), ((λ e. cc), tt))

pub joining_is_noted : JoiningIsNoted
joining_is_noted h = h.0 refl

pub later_steps_fall : LaterStepsFall
later_steps_fall h = let lt = h.2.1 in omega arith

pub later_others_are_no_causes : LaterOthersAreNoCauses
later_others_are_no_causes h = let e = h.1.0 in cc

pub lost_link_is_not_kept : LostLinkIsNotKept
lost_link_is_not_kept h = elim h [
  | inl opened ↦ let e = opened.1 in omega arith
  | inr kept ↦ let e = kept.1 (omega arith) (omega arith) (omega arith) in cc
]

pub closed_is_not_open : ClosedIsNotOpen
closed_is_not_open h = h

pub since_looks_before : SinceLooksBefore
since_looks_before = (refl, tt)

pub roots_end_paths : RootsEndPaths
roots_end_paths h = let e = h.0 in cc

pub passed_leads_nowhere : PassedLeadsNowhere
passed_leads_nowhere h = let e = h.0 in cc

pub causes_of_others_dont_count : CausesOfOthersDontCount
causes_of_others_dont_count h = let e = h.0 in cc

no_second : (g : FrameMeaning) → g.number + 2 ≡ 4 → IsMember g (plain_frame false 4 (3 ∷ 2 ∷ 3 ∷ []) ∷ plain_frame true 1 [] ∷ []) → ⊥
no_second g e (inl same) = let n = ap (λ (x : FrameMeaning). x.number) same in omega arith
no_second g e (inr (inl same)) = let n = ap (λ (x : FrameMeaning). x.number) same in omega arith
no_second g e (inr (inr none)) = none

pub lacks_middle_reference : LacksMiddleReference
lacks_middle_reference h =
    let r = (is _ _ h).referred 2 (inr (inl refl)) in no_second r.0 r.1 r.2

pub link_to_the_opening_counts : LinkToTheOpeningCounts
link_to_the_opening_counts h = let e = h (omega arith) (omega arith) (omega arith) in cc

pub nothing_opens_unless_opened : NothingOpensUnlessOpened
nothing_opens_unless_opened h = elim h [
  | inl opened ↦ let e = opened.0 in cc
  | inr kept ↦ let e = kept.0 in cc
]

pub opened_is_open_from_there : OpenedIsOpenFromThere
opened_is_open_from_there h = elim h [
  | inl opened ↦ let e = opened.1 in omega arith
  | inr kept ↦ let e = kept.0 in cc
]
