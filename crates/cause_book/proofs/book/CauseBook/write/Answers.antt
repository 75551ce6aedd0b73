use Rattle.std.proofs.Common.{◌≡◌, ◌<◌, ◌+◌, ◌%◌, set, length, subst, ◌∷◌, ℕ, List, Option, Some, None, refl, true, true≢false, sym, ap, ◌∙◌}
use Rattle.std.proofs.lemmas.Bool.{lt-ltb}
use Rattle.sfu_base.specs.declared.frame.Step.{Step}
use Rattle.forwarding_model.specs.forwarding.Causes.{is_ahead, newest_number}
use Rattle.cause_book.specs.Book.{recent}
use Rattle.cause_book.specs.Kept.{steps_to}
use Rattle.cause_book.specs.Slots.{step_at}
use Rattle.cause_book.proofs.Places.{same_step}
use Rattle.cause_book.proofs.Recent.{recent_again}
use Rattle.cause_book.proofs.Writing.{newest_seen, same_newest, same_seen, write_seen}
use Rattle.cause_book.proofs.book.CauseBook.write.Goals as goal
use Rattle.cause_book.proofs.book.CauseBook.write.Goals.{in-Some+else-number-newest, in_default}

-- the number is above the newest
ahead : (c : goal.After-self-3-1) → is_ahead c.self.inside.newest c.args.number ≡ true
ahead c = elim c.match-self.branch [
  | in-Some+else-number-newest w ↦ ap (λ (o : Option ℕ). is_ahead o c.args.number) w.in-Some.is ∙ lt-ltb w.in-Some.newest c.args.number w.if-number-newest.false
  | in_default w ↦ above_none c.self.inside.newest c.args.number w.in_default.not-Some
]
  where
    above_none : (o : Option ℕ) (n : ℕ) → ((m : ℕ) → o ≡ Some m → ⊥) → is_ahead o n ≡ true
    above_none None n h = refl
    above_none (Some m) n h = absurd (h m refl)

-- contracts see the new step before the recent earlier ones
seen_after : (c : goal.After-self-3-1)
    → steps_to (Some c.args.number) c.shift_for-self-inside.result (set c.reach.new.steps.items c.place_of-place.result c.new.result)
    ≡ recent (record { number = c.args.number; verdict = c.args.verdict } ∷ c.args.self.now)
seen_after c =
    let step : Step = record { number = c.args.number; verdict = c.args.verdict } in
    let before : Option ℕ = c.self.inside.newest in
    let slots : List (Option Step) = c.self.inside.steps.items in
    let made : List (Option Step) = c.reach.new.steps.items in
    let old : ℕ = c.self.inside.shift in
    let shift : ℕ = c.shift_for-self-inside.result in
    let same : (n : ℕ) → step_at shift made n ≡ step_at old slots n =
    same_step old shift slots made (λ some. c.shift_for-self-inside.ensures (λ none. some (sym c.deref.ensures.value ∙ none))) c.reach.ensures.same in
    ap (λ (place : ℕ). steps_to (Some c.args.number) shift (set made place c.new.result)) c.place_of-place.ensures
    ∙ ap (λ (o : Option Step). steps_to (Some c.args.number) shift (set made ((c.args.number + shift) % 4096) o)) c.new.ensures
    ∙ write_seen shift made step (subst (λ (place : ℕ). place < length made) c.place_of-place.ensures c.reach.ensures.made) before
    (same_newest old slots shift made same before c.self.invariant.newest) (ahead c)
    ∙ ap (λ (l : List Step). recent (step ∷ l)) (same_seen old slots shift made same before ∙ c.self.view_is)

pub returns-clause-written : goal.returns-clause-written
returns-clause-written c above = seen_after c

pub returns-clause-unchanged : goal.returns-clause-unchanged
returns-clause-unchanged c low =
    absurd (true≢false (sym (ahead c) ∙ ap (λ (o : Option ℕ). is_ahead o c.args.number)
    (sym (newest_seen c.self.inside.newest c.self.inside.shift c.self.inside.steps.items c.self.invariant.newest) ∙ ap newest_number c.self.view_is) ∙ low))

pub returns-clause-stands : goal.returns-clause-stands
returns-clause-stands c steps at above =
    let step : Step = record { number = c.args.number; verdict = c.args.verdict } in
    seen_after c ∙ ap (λ (l : List Step). recent (step ∷ l)) at ∙ recent_again step steps above
