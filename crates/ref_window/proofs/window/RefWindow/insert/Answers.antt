use Rattle.std.proofs.Common.{◌∷◌, ap, arith, sym, subst, ◌∙◌}
use Rattle.ref_window.specs.Numbers.{IsAboveAll, held_of}
use Rattle.ref_window.proofs.Forgetting.{forgets_for_good, above_all_held}
use Rattle.ref_window.proofs.Held.{above_held, not_above_held}
use Rattle.ref_window.proofs.Recent.{above_seen, next_are, next_held, seen_none, seen_some}
use Rattle.ref_window.proofs.window.RefWindow.insert.Goals as goal

pub returns-then-self-eq0-clause-inserted : goal.returns-then-self-eq0-clause-inserted
returns-then-self-eq0-clause-inserted c = λ above.
    c.begin.ensures ∙ ap (λ l. held_of (c.args.number ∷ l)) (sym (seen_none c.self.inside.greatest c.self.inside.recent c.self.inside.words c.args.self.now c.self.view_is (omega arith)))

pub returns-then-self-eq0-clause-refused : goal.returns-then-self-eq0-clause-refused
returns-then-self-eq0-clause-refused c = λ not_above.
    absurd (not_above (subst (IsAboveAll c.args.number) (sym (seen_none c.self.inside.greatest c.self.inside.recent c.self.inside.words c.args.self.now c.self.view_is (omega arith))) tt))

pub returns-then-self-eq0-clause-stands : goal.returns-then-self-eq0-clause-stands
returns-then-self-eq0-clause-stands c = λ numbers is above.
    c.begin.ensures
    ∙ ap (λ l. held_of (c.args.number ∷ l)) (sym (seen_none c.self.inside.greatest c.self.inside.recent c.self.inside.words c.args.self.now c.self.view_is (omega arith)) ∙ is)
    ∙ forgets_for_good c.args.number numbers above

pub returns-then-number-self-clause-inserted : goal.returns-then-number-self-clause-inserted
returns-then-number-self-clause-inserted c = λ above. absurd (not_above_held c.self.inside.greatest c.self.inside.words c.args.number (omega arith) (subst (IsAboveAll c.args.number) (sym (seen_some c.self.inside.greatest c.self.inside.recent c.self.inside.words c.args.self.now c.self.view_is (λ none. omega (arith, none)))) above))

pub returns-then-number-self-clause-stands : goal.returns-then-number-self-clause-stands
returns-then-number-self-clause-stands c = λ numbers is below.
    let above = subst (IsAboveAll c.args.number) (sym is) (above_all_held c.args.number numbers below) in
    absurd (not_above_held c.self.inside.greatest c.self.inside.words c.args.number (omega arith) (subst (IsAboveAll c.args.number) (sym (seen_some c.self.inside.greatest c.self.inside.recent c.self.inside.words c.args.self.now c.self.view_is (λ none. omega (arith, none)))) above))

pub returns-clause-inserted : goal.returns-clause-inserted
returns-clause-inserted c = λ above.
    next_held c.args.number c.right_below.result c.move_on.new.words c.args.self.now
    (c.move_on.ensures ∙ ap (λ l. held_of (c.args.number ∷ l)) (seen_some c.self.inside.greatest c.self.inside.recent c.self.inside.words c.args.self.now c.self.view_is (λ none. omega (arith, none))))

pub returns-clause-refused : goal.returns-clause-refused
returns-clause-refused c = λ not_above. absurd (not_above (subst (IsAboveAll c.args.number) (seen_some c.self.inside.greatest c.self.inside.recent c.self.inside.words c.args.self.now c.self.view_is (λ none. omega (arith, none))) (above_held c.self.inside.greatest c.self.inside.words c.args.number (omega arith))))

pub returns-clause-stands : goal.returns-clause-stands
returns-clause-stands c = λ numbers is above.
    next_held c.args.number c.right_below.result c.move_on.new.words c.args.self.now
    (c.move_on.ensures ∙ ap (λ l. held_of (c.args.number ∷ l)) (seen_some c.self.inside.greatest c.self.inside.recent c.self.inside.words c.args.self.now c.self.view_is (λ none. omega (arith, none))))
    ∙ ap (λ l. held_of (c.args.number ∷ l)) is
    ∙ forgets_for_good c.args.number numbers above

pub invariant_of-self : goal.invariant_of-self
invariant_of-self c =
    next_are c.args.number c.right_below.result c.move_on.new.words c.args.self.now
    (c.move_on.ensures ∙ ap (λ l. held_of (c.args.number ∷ l)) (seen_some c.self.inside.greatest c.self.inside.recent c.self.inside.words c.args.self.now c.self.view_is (λ none. omega (arith, none))))
    (c.right_below.ensures.exact
    (above_seen c.self.inside.greatest c.self.inside.recent c.args.number c.self.inside.words c.args.self.now c.self.view_is (omega arith)))
