-- How a mark changes a run.
use Rattle.std.proofs.Common.{List, ◌∷◌, ◌≡◌, ◌⊎◌, inl, inr, Bool, true, false, refl, cond, ◌&&◌, not}
use Rattle.std.specs.declared.option.Option.{Option}
use Rattle.std.specs.declared.option.Option.TheVariants.{None, Some}
use Rattle.forwarding_model.specs.frames.Cuts.{Part, Mark, Run, cut_by, extended, outcome, run_of, run_outcome, whole, IsUnfinishedCut, EndsIn}
use Rattle.forwarding_model.specs.frames.Cuts.Mark.{Gone, Padding, Unreadable, Read}
use Rattle.forwarding_model.proofs.WholeCuts.{run_is_unfinished, unfinished_is_run}
use Rattle.forwarding_model.specs.frames.Cuts.Outcome.{IsPadding, IsWhole, IsPartial, IsTorn}

whole_run : {X : Type 0} (o : Option (Run X)) → run_outcome o ≡ IsWhole → (ended : Run X) × (whole o ≡ Some ended)
whole_run None h = absurd (cc)
whole_run {X} (Some run) h = go run.newest.end run.newest.carries h
  where
    go : (b c : Bool) → cond b (cond c IsTorn IsWhole) IsPartial ≡ IsWhole → (ended : Run X) × (cond (b && not c) (Some run) None ≡ Some ended)
    go true true k = absurd (cc)
    go true false k = (run, refl)
    go false c k = absurd (cc)

run_whole : {X : Type 0} (o : Option (Run X)) (ended : Run X) → whole o ≡ Some ended → run_outcome o ≡ IsWhole
run_whole None ended h = absurd (cc)
run_whole {X} (Some run) ended h = go run.newest.end run.newest.carries h
  where
    go : (b c : Bool) → cond (b && not c) (Some run) None ≡ Some ended → cond b (cond c IsTorn IsWhole) IsPartial ≡ IsWhole
    go true true k = absurd (cc)
    go true false k = refl
    go false c k = absurd (cc)

pub whole_outcomes_are_cuts : {X : Type 0} (run : Option (Run X)) (mark : Mark X)
    → (outcome run mark ≡ IsWhole → (ended : Run X) × (cut_by run mark ≡ Some ended))
    × ((ended : Run X) → cut_by run mark ≡ Some ended → outcome run mark ≡ IsWhole)
whole_outcomes_are_cuts run Gone = ((λ e. absurd (cc)), λ ended e. absurd (cc))
whole_outcomes_are_cuts run Padding = ((λ e. absurd (cc)), λ ended e. absurd (cc))
whole_outcomes_are_cuts run Unreadable = ((λ e. absurd (cc)), λ ended e. absurd (cc))
whole_outcomes_are_cuts run (Read part) = (whole_run (extended run (Read part)), run_whole (extended run (Read part)))

ongoing_run : {X : Type 0} (o : Option (Run X)) → run_outcome o ≡ IsPartial → (ongoing : Run X) × (o ≡ Some ongoing) × (ongoing.newest.end ≡ false)
ongoing_run None h = absurd (cc)
ongoing_run {X} (Some run) h = go run.newest.end run.newest.carries refl h
  where
    go : (b c : Bool) → run.newest.end ≡ b → cond b (cond c IsTorn IsWhole) IsPartial ≡ IsPartial → (ongoing : Run X) × (Some run ≡ Some ongoing) × (ongoing.newest.end ≡ false)
    go true true e k = absurd (cc)
    go true false e k = absurd (cc)
    go false c e k = (run, refl, e)

pub partial_outcomes_go_on : {X : Type 0} (run : Option (Run X)) (mark : Mark X) → outcome run mark ≡ IsPartial
    → (ongoing : Run X) × (extended run mark ≡ Some ongoing) × (ongoing.newest.end ≡ false)
partial_outcomes_go_on run Gone h = absurd (cc)
partial_outcomes_go_on run Padding h = absurd (cc)
partial_outcomes_go_on run Unreadable h = absurd (cc)
partial_outcomes_go_on run (Read part) h = ongoing_run (extended run (Read part)) h

never_padding : {X : Type 0} (o : Option (Run X)) → run_outcome o ≡ IsPadding → ⊥
never_padding None h = cc
never_padding (Some run) h = go run.newest.end run.newest.carries h
  where
    go : (b c : Bool) → cond b (cond c IsTorn IsWhole) IsPartial ≡ IsPadding → ⊥
    go true true k = cc
    go true false k = cc
    go false c k = cc

pub padding_outcomes_are_padding : {X : Type 0} (run : Option (Run X)) (mark : Mark X) → outcome run mark ≡ IsPadding → mark ≡ Padding
padding_outcomes_are_padding run Gone h = absurd (cc)
padding_outcomes_are_padding run Padding h = refl
padding_outcomes_are_padding run Unreadable h = absurd (cc)
padding_outcomes_are_padding run (Read part) h = absurd (never_padding (extended run (Read part)) h)

torn_run : {X : Type 0} (o : Option (Run X)) → run_outcome o ≡ IsTorn
    → (o ≡ None) ⊎ ((ended : Run X) × (o ≡ Some ended) × (ended.newest.end ≡ true) × (ended.newest.carries ≡ true))
torn_run None h = inl refl
torn_run {X} (Some run) h = go run.newest.end run.newest.carries refl refl h
  where
    go : (b c : Bool) → run.newest.end ≡ b → run.newest.carries ≡ c → cond b (cond c IsTorn IsWhole) IsPartial ≡ IsTorn
        → (Some run ≡ None) ⊎ ((ended : Run X) × (Some run ≡ Some ended) × (ended.newest.end ≡ true) × (ended.newest.carries ≡ true))
    go true true e f k = inr (run, refl, e, f)
    go true false e f k = absurd (cc)
    go false c e f k = absurd (cc)

pub torn_outcomes_are_torn : {X : Type 0} (run : Option (Run X)) (mark : Mark X) → outcome run mark ≡ IsTorn
    → (extended run mark ≡ None) ⊎ ((ended : Run X) × (extended run mark ≡ Some ended) × (ended.newest.end ≡ true) × (ended.newest.carries ≡ true))
torn_outcomes_are_torn run Gone h = inl refl
torn_outcomes_are_torn run Padding h = absurd (cc)
torn_outcomes_are_torn run Unreadable h = inl refl
torn_outcomes_are_torn run (Read part) h = torn_run (extended run (Read part)) h

pub partial_is_unfinished : {X : Type 0} (mark : Mark X) (past : List (Mark X)) → outcome (run_of past) mark ≡ IsPartial
    → (first : Part X) × (more : List (Part X)) × IsUnfinishedCut (first ∷ more) × EndsIn (mark ∷ past) (first ∷ more)
partial_is_unfinished Gone past h = absurd (cc)
partial_is_unfinished Padding past h = absurd (cc)
partial_is_unfinished Unreadable past h = absurd (cc)
partial_is_unfinished (Read part) past h =
    let run = ongoing_run (extended (run_of past) (Read part)) h in
    let cut = run_is_unfinished past part run.0 run.1 run.2 in
    (run.0.first, run.0.more, cut.0, cut.1)

goes_on : {X : Type 0} (o : Option (Run X)) (run : Run X) → o ≡ Some run → run.newest.end ≡ false → run_outcome o ≡ IsPartial
goes_on o run found open_end = rw (found, open_end) refl

pub unfinished_is_partial : {X : Type 0} (mark : Mark X) (past : List (Mark X)) (first : Part X) (more : List (Part X))
    → IsUnfinishedCut (first ∷ more) → EndsIn (mark ∷ past) (first ∷ more) → outcome (run_of past) mark ≡ IsPartial
unfinished_is_partial Gone past first more cut at = absurd at.newest
unfinished_is_partial Padding past first more cut at = absurd at.newest
unfinished_is_partial Unreadable past first more cut at = absurd at.newest
unfinished_is_partial (Read part) past first more cut at =
    let h = unfinished_is_run (Read part ∷ past) first more at cut in goes_on (run_of (Read part ∷ past)) h.run h.found h.goes_on
