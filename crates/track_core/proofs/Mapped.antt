-- Runs and outcomes are the same, whatever data the parts carry.
use Rattle.std.proofs.Common.{◌≡◌, ℕ, ◌+◌, Bool, true, false, cond, not, ◌&&◌, ◌==◌, List, [], ◌∷◌, ◌++◌, map, Option, Some, None, refl, sym, ap, ◌∙◌}
use Rattle.std.specs.Prelude.{nat_lt}
use Rattle.std.specs.Bool.{beq}
use Rattle.std.specs.Option.{option_map}
use Rattle.std.proofs.lemmas.List.{length-map, map-append}
use Rattle.forwarding_model.specs.frames.Cuts.{Part, Mark, Run, begun, continued, extended, is_next, run_of, cut_by, whole, outcome, run_outcome, cut_of}
use Rattle.forwarding_model.specs.frames.Cuts.Mark.{Gone, Padding, Unreadable, Read}
use Rattle.forwarding_model.specs.frames.Cuts.Outcome.{IsWhole, IsTorn, IsPartial}
use Rattle.track_core.specs.Mapped.{part_with, mark_with, run_with}

module _ {X Y : Type 0} (f : X → Y) where
  next_with : (run : Run X) (part : Part X) → is_next (run_with f run) (part_with f part) ≡ is_next run part
  next_with run part =
      ap (λ (n : ℕ). not run.newest.end && (part.number == run.first.number && (beq part.continues run.newest.carries && nat_lt (n + 1) 512))) (length-map run.more (part_with f))

  begun_with : (part : Part X) → begun (part_with f part) ≡ option_map (run_with f) (begun part)
  begun_with part = go part.continues
    where
      go : (b : Bool) → cond b None (Some (record { first = part_with f part; more = []; newest = part_with f part }))
          ≡ option_map (run_with f) (cond b None (Some (record { first = part; more = []; newest = part })))
      go true = refl
      go false = refl

  continued_with : (run : Option (Run X)) (part : Part X) → continued (option_map (run_with f) run) (part_with f part) ≡ option_map (run_with f) (continued run part)
  continued_with None part = refl
  continued_with (Some run) part =
      ap (λ (b : Bool). cond b (Some (record { first = part_with f run.first; more = map (part_with f) run.more ++ part_with f part ∷ []; newest = part_with f part })) None) (next_with run part)
      ∙ go (is_next run part)
    where
      go : (b : Bool) → cond b (Some (record { first = part_with f run.first; more = map (part_with f) run.more ++ part_with f part ∷ []; newest = part_with f part })) None
          ≡ option_map (run_with f) (cond b (Some (record { first = run.first; more = run.more ++ part ∷ []; newest = part })) None)
      go true = ap (λ (l : List (Part Y)). Some (record { first = part_with f run.first; more = l; newest = part_with f part })) (sym (map-append (part_with f) run.more (part ∷ [])))
      go false = refl

  read_with : (run : Option (Run X)) (part : Part X) (b : Bool)
      → cond b (begun (part_with f part)) (continued (option_map (run_with f) run) (part_with f part)) ≡ option_map (run_with f) (cond b (begun part) (continued run part))
  read_with run part true = begun_with part
  read_with run part false = continued_with run part

  pub extended_with : (run : Option (Run X)) (mark : Mark X) → extended (option_map (run_with f) run) (mark_with f mark) ≡ option_map (run_with f) (extended run mark)
  extended_with run Gone = refl
  extended_with run Padding = refl
  extended_with run Unreadable = refl
  extended_with run (Read part) = read_with run part part.start

  pub run_of_with : (marks : List (Mark X)) → run_of (map (mark_with f) marks) ≡ option_map (run_with f) (run_of marks)
  run_of_with [] = refl
  run_of_with (mark ∷ past) = ap (λ (run : Option (Run Y)). extended run (mark_with f mark)) (run_of_with past) ∙ extended_with (run_of past) mark

  run_outcome_with : (run : Option (Run X)) → run_outcome (option_map (run_with f) run) ≡ run_outcome run
  run_outcome_with None = refl
  run_outcome_with (Some run) = refl

  pub outcome_with : (run : Option (Run X)) (mark : Mark X) → outcome (option_map (run_with f) run) (mark_with f mark) ≡ outcome run mark
  outcome_with run Gone = refl
  outcome_with run Padding = refl
  outcome_with run Unreadable = refl
  outcome_with run (Read part) = ap run_outcome (extended_with run (Read part)) ∙ run_outcome_with (extended run (Read part))

  -- of a list of marks, the outcome of one more
  pub outcome_of_with : (marks : List (Mark X)) (mark : Mark X) → outcome (run_of (map (mark_with f) marks)) (mark_with f mark) ≡ outcome (run_of marks) mark
  outcome_of_with marks mark = ap (λ (run : Option (Run Y)). outcome run (mark_with f mark)) (run_of_with marks) ∙ outcome_with (run_of marks) mark

-- ---- what an outcome says about the run

module _ {X : Type 0} where
  pub whole_cut : (run : Option (Run X)) (mark : Mark X) → outcome run mark ≡ IsWhole → (r : Run X) × (extended run mark ≡ Some r) × (cut_by run mark ≡ Some r)
  whole_cut run Gone e = absurd (cc)
  whole_cut run Padding e = absurd (cc)
  whole_cut run Unreadable e = absurd (cc)
  whole_cut run (Read part) e = go (extended run (Read part)) refl e
    where
      ended : (r : Run X) → extended run (Read part) ≡ Some r → (a b : Bool) → r.newest.end ≡ a → r.newest.carries ≡ b
          → cond a (cond b IsTorn IsWhole) IsPartial ≡ IsWhole → (s : Run X) × (extended run (Read part) ≡ Some s) × (cut_by run (Read part) ≡ Some s)
      ended r is true false ea eb k = (r, is, ap whole is ∙ rw (ea, eb) refl)
      ended r is true true ea eb k = absurd (cc)
      ended r is false b ea eb k = absurd (cc)

      go : (o : Option (Run X)) → extended run (Read part) ≡ o → run_outcome o ≡ IsWhole → (s : Run X) × (extended run (Read part) ≡ Some s) × (cut_by run (Read part) ≡ Some s)
      go None is k = absurd (cc)
      go (Some r) is k = ended r is r.newest.end r.newest.carries refl refl k

  pub no_cut : (run : Option (Run X)) (mark : Mark X) → (outcome run mark ≡ IsWhole → ⊥) → cut_by run mark ≡ None
  no_cut run Gone not_whole = refl
  no_cut run Padding not_whole = refl
  no_cut run Unreadable not_whole = refl
  no_cut run (Read part) not_whole = go (extended run (Read part)) not_whole
    where
      ended : (r : Run X) (a b : Bool) → (cond a (cond b IsTorn IsWhole) IsPartial ≡ IsWhole → ⊥) → cond (a && not b) (Some r) None ≡ None
      ended r true false k = absurd (k refl)
      ended r true true k = refl
      ended r false b k = refl

      go : (o : Option (Run X)) → (run_outcome o ≡ IsWhole → ⊥) → whole o ≡ None
      go None k = refl
      go (Some r) k = ended r r.newest.end r.newest.carries k

-- ---- the packets of a whole cut

module _ {X Y : Type 0} (f : X → Y) where
  whole_with : (run : Option (Run X)) → whole (option_map (run_with f) run) ≡ option_map (run_with f) (whole run)
  whole_with None = refl
  whole_with (Some run) = go (run.newest.end && not run.newest.carries)
    where
      go : (b : Bool) → cond b (Some (run_with f run)) None ≡ option_map (run_with f) (cond b (Some run) None)
      go true = refl
      go false = refl

  cut_by_with : (run : Option (Run X)) (mark : Mark X) → cut_by (option_map (run_with f) run) (mark_with f mark) ≡ option_map (run_with f) (cut_by run mark)
  cut_by_with run Gone = refl
  cut_by_with run Padding = refl
  cut_by_with run Unreadable = refl
  cut_by_with run (Read part) = ap whole (extended_with f run (Read part)) ∙ whole_with (extended run (Read part))

  pub cut_of_with : (marks : List (Mark X)) (mark : Mark X) → cut_of (mark_with f mark ∷ map (mark_with f) marks) ≡ option_map (run_with f) (cut_by (run_of marks) mark)
  cut_of_with marks mark = ap (λ (run : Option (Run Y)). cut_by run (mark_with f mark)) (run_of_with f marks) ∙ cut_by_with (run_of marks) mark
