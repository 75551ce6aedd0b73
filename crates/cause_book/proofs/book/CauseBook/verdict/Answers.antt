use Rattle.std.proofs.Common.{◌≡◌, ◌-◌, ℕ, List, Option, Some, Result, Ok, Err, sym, ap, subst, ◌∙◌, arith}
use Rattle.sfu_base.specs.declared.call.Refusal.{Refusal}
use Rattle.sfu_base.specs.declared.call.Refusal.TheVariants.{TooOld}
use Rattle.sfu_base.specs.declared.frame.Step.{Step}
use Rattle.sfu_base.specs.declared.frame.Verdict.{Verdict}
use Rattle.sfu_base.specs.declared.frame.Verdict.TheVariants.{Hole}
use Rattle.cause_book.specs.Book.{AreFalling, IsAfter, judged}
use Rattle.cause_book.specs.Kept.{IsNewest, steps_to}
use Rattle.cause_book.specs.Slots.{IsNextAbove, IsNextBelow, step_at}
use Rattle.cause_book.proofs.Judging.{judged_hole, judged_old, judged_step}
use Rattle.cause_book.proofs.Recent.{judged_recent}
use Rattle.cause_book.proofs.book.CauseBook.verdict.Goals as goal

-- the results from the steps that contracts see are those from all written steps
told : (value : List Step) (n : ℕ) (result : Result Verdict Refusal) → result ≡ judged value n
    → (steps : List Step) → IsAfter value steps → AreFalling steps → result ≡ judged steps n
told value n result is steps at falls = is ∙ ap (λ (l : List Step). judged l n) at ∙ judged_recent steps n falls

-- ---- a number that is too old

old : (c : goal.Then-newest-number-ge-SPAN) → Err (TooOld (c.in-Some.newest - 4095)) ≡ judged c.args.self.now c.args.number
old c =
    let m : ℕ = c.in-Some.newest in
    let shift : ℕ = c.self.inside.shift in
    let slots : List (Option Step) = c.self.inside.steps.items in
    let newest : IsNewest (Some m) shift slots = subst (λ (o : Option ℕ). IsNewest o shift slots) c.in-Some.is c.self.invariant.newest in
    sym (ap (λ (steps : List Step). judged steps c.args.number) (sym c.self.view_is ∙ ap (λ (o : Option ℕ). steps_to o shift slots) c.in-Some.is)
    ∙ judged_old m shift slots c.args.number newest c.if-number-newest.false (omega arith))

pub returns-then-newest-number-ge-SPAN-clause-judged : goal.returns-then-newest-number-ge-SPAN-clause-judged
returns-then-newest-number-ge-SPAN-clause-judged c = old c

pub returns-then-newest-number-ge-SPAN-clause-stands : goal.returns-then-newest-number-ge-SPAN-clause-stands
returns-then-newest-number-ge-SPAN-clause-stands c = told c.args.self.now c.args.number _ (old c)

-- ---- a frame's number

step : (c : goal.In-Some-step_in) → Ok c.in-Some-step_in.step.verdict ≡ judged c.args.self.now c.args.number
step c =
    let m : ℕ = c.in-Some.newest in
    let shift : ℕ = c.self.inside.shift in
    let slots : List (Option Step) = c.self.inside.steps.items in
    let newest : IsNewest (Some m) shift slots = subst (λ (o : Option ℕ). IsNewest o shift slots) c.in-Some.is c.self.invariant.newest in
    sym (ap (λ (steps : List Step). judged steps c.args.number) (sym c.self.view_is ∙ ap (λ (o : Option ℕ). steps_to o shift slots) c.in-Some.is)
    ∙ judged_step m shift slots c.args.number newest c.if-number-newest.false c.in-Some-step_in.step (omega arith)
    (ap (λ (l : List (Option Step)). step_at shift l c.args.number) (sym c.deref.ensures.value) ∙ sym c.step_in.ensures ∙ c.in-Some-step_in.is))

pub returns-in-Some-step_in-clause-judged : goal.returns-in-Some-step_in-clause-judged
returns-in-Some-step_in-clause-judged c = step c

pub returns-in-Some-step_in-clause-stands : goal.returns-in-Some-step_in-clause-stands
returns-in-Some-step_in-clause-stands c = told c.args.self.now c.args.number _ (step c)

-- ---- a number without a frame

hole : (c : goal.After-next_above) → Ok (Hole c.next_below.result c.next_above.result) ≡ judged c.args.self.now c.args.number
hole c =
    let m : ℕ = c.in-Some.newest in
    let shift : ℕ = c.self.inside.shift in
    let slots : List (Option Step) = c.self.inside.steps.items in
    let newest : IsNewest (Some m) shift slots = subst (λ (o : Option ℕ). IsNewest o shift slots) c.in-Some.is c.self.invariant.newest in
    let below : IsNextBelow shift slots (m - 4095) c.args.number c.next_below.result =
    subst (λ (l : List (Option Step)). IsNextBelow shift l (m - 4095) c.args.number c.next_below.result) c.deref-2.ensures.value
    (subst (λ (low : ℕ). IsNextBelow shift c.deref-2.result.now low c.args.number c.next_below.result) c.saturating_sub-lowest.ensures c.next_below.ensures) in
    let above : IsNextAbove shift slots c.args.number c.next_above.result =
    subst (λ (l : List (Option Step)). IsNextAbove shift l c.args.number c.next_above.result) c.deref-3.ensures.value c.next_above.ensures in
    sym (ap (λ (steps : List Step). judged steps c.args.number) (sym c.self.view_is ∙ ap (λ (o : Option ℕ). steps_to o shift slots) c.in-Some.is)
    ∙ judged_hole m shift slots c.args.number newest c.if-number-newest.false c.next_below.result c.next_above.result (omega arith)
    (ap (λ (l : List (Option Step)). step_at shift l c.args.number) (sym c.deref.ensures.value) ∙ sym c.step_in.ensures ∙ c.in_default-step_in.is) below above)

pub returns-clause-judged : goal.returns-clause-judged
returns-clause-judged c = hole c

pub returns-clause-stands : goal.returns-clause-stands
returns-clause-stands c = told c.args.self.now c.args.number _ (hole c)
