-- The outcomes that calls return, and the cuts of the list of marks.
use Rattle.std.proofs.Common.{◌≡◌, ◌↔◌, ℕ, List, [], ◌∷◌, map, refl, sym, ap, ◌∙◌}
use Rattle.forwarding_model.specs.frames.Cuts.{Part, Mark as CutMark, Outcome as CutOutcome, parts_of, run_of, outcome, IsWholeCut, IsUnfinishedCut, EndsIn}
use Rattle.forwarding_model.specs.frames.Cuts.Mark.{Padding}
use Rattle.forwarding_model.specs.frames.Cuts.Outcome.{IsPadding, IsWhole, IsPartial, IsTorn}
use Rattle.forwarding_model.proofs.WholeCuts.{cut_is_whole, whole_is_cut}
use Rattle.forwarding_model.proofs.Outcomes.{padding_outcomes_are_padding, whole_outcomes_are_cuts, partial_is_unfinished, unfinished_is_partial}
use Rattle.frame_assembly.specs.declared.mark.Outcome.{Outcome}
use Rattle.frame_assembly.specs.declared.mark.Outcome.TheVariants as made
use Rattle.frame_assembly.specs.Assembled.{EndsNothing, EndsUnfinished, EndsWhole, IsAfter, Seen, answer, frame_of}

answers_whole : (o : CutOutcome) → answer o ≡ made.Whole → o ≡ IsWhole
answers_whole IsPadding e = cc
answers_whole IsWhole e = refl
answers_whole IsPartial e = cc
answers_whole IsTorn e = cc

answers_partial : (o : CutOutcome) → answer o ≡ made.Partial → o ≡ IsPartial
answers_partial IsPadding e = cc
answers_partial IsWhole e = cc
answers_partial IsPartial e = refl
answers_partial IsTorn e = cc

pub ends_whole : (past : List (CutMark (List ℕ))) (mark : CutMark (List ℕ)) (reply : Outcome) → reply ≡ answer (outcome (run_of past) mark)
    → (reply ≡ made.Whole) ↔ EndsWhole (mark ∷ past)
ends_whole past mark reply is = (forth, back)
  where
    forth : reply ≡ made.Whole → EndsWhole (mark ∷ past)
    forth e =
        let found = (whole_outcomes_are_cuts (run_of past) mark).0 (answers_whole (outcome (run_of past) mark) (sym is ∙ e)) in
        let cut = cut_is_whole (mark ∷ past) found.0 found.1 in
        (parts_of found.0, cut.0, cut.1)

    at : (parts : List (Part (List ℕ))) → IsWholeCut parts → EndsIn (mark ∷ past) parts → reply ≡ made.Whole
    at [] cut ends = absurd cut.starts
    at (part ∷ more) cut ends =
        let found = whole_is_cut (mark ∷ past) part more ends cut in
        is ∙ ap answer ((whole_outcomes_are_cuts (run_of past) mark).1 found.run found.found)

    back : EndsWhole (mark ∷ past) → reply ≡ made.Whole
    back ends = at ends.0 ends.1 ends.2

pub ends_unfinished : (past : List (CutMark (List ℕ))) (mark : CutMark (List ℕ)) (reply : Outcome) → reply ≡ answer (outcome (run_of past) mark)
    → (reply ≡ made.Partial) ↔ EndsUnfinished (mark ∷ past)
ends_unfinished past mark reply is = (forth, back)
  where
    forth : reply ≡ made.Partial → EndsUnfinished (mark ∷ past)
    forth e =
        let found = partial_is_unfinished mark past (answers_partial (outcome (run_of past) mark) (sym is ∙ e)) in
        (found.0 ∷ found.1, found.2, found.3)

    at : (parts : List (Part (List ℕ))) → IsUnfinishedCut parts → EndsIn (mark ∷ past) parts → reply ≡ made.Partial
    at [] cut ends = absurd cut.starts
    at (part ∷ more) cut ends = is ∙ ap answer (unfinished_is_partial mark past part more cut ends)

    back : EndsUnfinished (mark ∷ past) → reply ≡ made.Partial
    back ends = at ends.0 ends.1 ends.2

pub whole_packets : (a : Seen) (marks : List (CutMark (List ℕ))) (parts : List (Part (List ℕ))) → IsAfter a marks → IsWholeCut parts → EndsIn marks parts
    → a.frame ≡ map (λ p. p.brings) parts
whole_packets a marks [] is cut ends = absurd cut.starts
whole_packets a marks (part ∷ more) is cut ends =
    let found = whole_is_cut marks part more ends cut in
    is.frame ∙ ap frame_of found.found ∙ ap (λ (x : List (Part (List ℕ))). map (λ p. p.brings) x) found.is

answers_torn : (o : CutOutcome) → answer o ≡ made.Torn → o ≡ IsTorn
answers_torn IsPadding e = cc
answers_torn IsWhole e = cc
answers_torn IsPartial e = cc
answers_torn IsTorn e = refl

padding_is_padding : (past : List (CutMark (List ℕ))) (mark : CutMark (List ℕ)) → outcome (run_of past) mark ≡ IsPadding → mark ≡ Padding
padding_is_padding past mark e = padding_outcomes_are_padding (run_of past) mark e

pub ends_nothing : (past : List (CutMark (List ℕ))) (mark : CutMark (List ℕ)) (reply : Outcome) → reply ≡ answer (outcome (run_of past) mark)
    → (reply ≡ made.Torn) ↔ EndsNothing mark past
ends_nothing past mark reply is = (forth, λ ends. by (outcome (run_of past) mark) refl is ends)
  where
    forth : reply ≡ made.Torn → EndsNothing mark past
    forth e = (
      (λ padded. let no : answer IsPadding ≡ made.Torn = ap (λ (m : CutMark (List ℕ)). answer (outcome (run_of past) m)) (sym padded) ∙ sym is ∙ e in cc),
      (λ ends. let whole : reply ≡ made.Whole = (ends_whole past mark reply is).1 ends in let no = sym e ∙ whole in cc),
      λ ends. let partial : reply ≡ made.Partial = (ends_unfinished past mark reply is).1 ends in let no = sym e ∙ partial in cc,
    )

    by : (o : CutOutcome) → outcome (run_of past) mark ≡ o → reply ≡ answer (outcome (run_of past) mark) → EndsNothing mark past → reply ≡ made.Torn
    by IsPadding o is ends = absurd (ends.0 (padding_is_padding past mark o))
    by IsWhole o is ends = absurd (ends.1 ((ends_whole past mark reply is).0 (is ∙ ap answer o)))
    by IsPartial o is ends = absurd (ends.2 ((ends_unfinished past mark reply is).0 (is ∙ ap answer o)))
    by IsTorn o is ends = is ∙ ap answer o
