use Rattle.std.proofs.Common.{◌∙◌, ◌||◌, ◌∷◌, ℕ, List, true, false, ap, ap₂, refl, subst, sym, true≢false}
use Rattle.sfu_base.specs.declared.frame.Verdict.{Verdict}
use Rattle.sfu_base.specs.declared.frame.Step.{Step}
use Rattle.sfu_base.specs.declared.frame.Verdict.TheVariants.{Passed}
use Rattle.cause_book.specs.Book.{IsAboveAll, IsAfter}
use Rattle.target_selector.specs.Masks.{mask_for}
use Rattle.room_core.specs.Counts.{counted_frame}
use Rattle.room_core.specs.declared.counts.FrameCounts.{FrameCounts}
use Rattle.room_core.proofs.Feeding.{frame_is_withheld, frame_passes}
use Rattle.room_core.proofs.feed.Feed.pass_frame.Goals as goal

pub returns-then-is_remasked-clause-follows : goal.returns-then-is_remasked-clause-follows
returns-then-is_remasked-clause-follows c = frame_passes c.args.self.now _ c.args.offer.now.frame c.args.track.now c.args.offer.now.packets c.queued.result c.admit_offered-verdict.result c.marks_last-is_top.result true c.mask_for-mask.result
    (record {
      kind_is = refl;
      newest_is = c.admit_offered-verdict.ensures.newest;
      counts_are = ap (λ (f : FrameCounts). record c.args.self.now.counts { frames = f })
          (c.count.ensures ∙ ap (λ (v : Verdict). counted_frame v c.args.self.now.counts.frames) (sym c.in-Passed.is));
      count_is = c.requires.count;
      queued_is = c.queued.ensures.queued;
      verdict_is = c.admit_offered-verdict.ensures.verdict;
      stands = c.admit_offered-verdict.ensures.stands;
      written = λ steps before above.
          subst (λ (v : Verdict). IsAfter c.write.new.self (record { number = c.args.offer.now.frame.number; verdict = v } ∷ steps)) (sym c.in-Passed.is)
          (subst (λ (n : ℕ). IsAboveAll n steps → IsAfter c.write.new.self (record { number = n; verdict = Passed } ∷ steps)) c.number-number.ensures
          (c.write.ensures.stands steps before) above);
    })
    c.in-Passed.is
    (record {
      pushes = c.push_remasked.ensures.pushed;
      top = λ s h above q. c.marks_last-is_top.ensures ∙ c.admit_offered-verdict.ensures.top s h above q c.in-Passed.is;
      carries_mask = λ s h above q.
          sym c.if-is_remasked.true ∙ c.is_remasked.ensures
          ∙ ap₂ ◌||◌ (c.opened.ensures ∙ c.admit_offered-verdict.ensures.opened s h above q c.in-Passed.is) c.requires.carries_mask;
      mask_is = λ so s h. c.mask_for-mask.ensures ∙ ap (mask_for c.args.offer.now.frame) (c.target.ensures.stands s h);
    })

pub returns-else-is_remasked-clause-follows : goal.returns-else-is_remasked-clause-follows
returns-else-is_remasked-clause-follows c = frame_passes c.args.self.now _ c.args.offer.now.frame c.args.track.now c.args.offer.now.packets c.queued.result c.admit_offered-verdict.result c.marks_last-is_top.result false 0
    (record {
      kind_is = refl;
      newest_is = c.admit_offered-verdict.ensures.newest;
      counts_are = ap (λ (f : FrameCounts). record c.args.self.now.counts { frames = f })
          (c.count.ensures ∙ ap (λ (v : Verdict). counted_frame v c.args.self.now.counts.frames) (sym c.in-Passed.is));
      count_is = c.requires.count;
      queued_is = c.queued.ensures.queued;
      verdict_is = c.admit_offered-verdict.ensures.verdict;
      stands = c.admit_offered-verdict.ensures.stands;
      written = λ steps before above.
          subst (λ (v : Verdict). IsAfter c.write.new.self (record { number = c.args.offer.now.frame.number; verdict = v } ∷ steps)) (sym c.in-Passed.is)
          (subst (λ (n : ℕ). IsAboveAll n steps → IsAfter c.write.new.self (record { number = n; verdict = Passed } ∷ steps)) c.number-number.ensures
          (c.write.ensures.stands steps before) above);
    })
    c.in-Passed.is
    (record {
      pushes = c.push_from.ensures.pushed;
      top = λ s h above q. c.marks_last-is_top.ensures ∙ c.admit_offered-verdict.ensures.top s h above q c.in-Passed.is;
      carries_mask = λ s h above q.
          sym c.if-is_remasked.false ∙ c.is_remasked.ensures
          ∙ ap₂ ◌||◌ (c.opened.ensures ∙ c.admit_offered-verdict.ensures.opened s h above q c.in-Passed.is) c.requires.carries_mask;
      mask_is = λ so. absurd (true≢false (sym so));
    })

pub returns-in_default-clause-follows : goal.returns-in_default-clause-follows
returns-in_default-clause-follows c = frame_is_withheld c.args.self.now _ c.args.offer.now.frame c.args.track.now c.args.offer.now.packets c.queued.result c.admit_offered-verdict.result
    (record {
      kind_is = refl;
      newest_is = c.admit_offered-verdict.ensures.newest;
      counts_are = ap (λ (f : FrameCounts). record c.args.self.now.counts { frames = f }) c.count-in_default.ensures;
      count_is = c.requires.count;
      queued_is = c.queued.ensures.queued;
      verdict_is = c.admit_offered-verdict.ensures.verdict;
      stands = c.admit_offered-verdict.ensures.stands;
      written =
          subst
          (λ (n : ℕ). (steps : List Step) → IsAfter c.args.self.now.causes steps → IsAboveAll n steps
          → IsAfter c.write-in_default.new.self (record { number = n; verdict = c.admit_offered-verdict.result } ∷ steps))
          c.number-number.ensures c.write-in_default.ensures.stands;
    })
    c.in_default.not-Passed refl
