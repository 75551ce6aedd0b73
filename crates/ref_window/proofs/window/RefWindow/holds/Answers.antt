use Rattle.std.proofs.Common.{◌-◌, sym, ap, arith, inl, inr, ◌∙◌}
use Rattle.std.proofs.lemmas.Bool.{cases_eq, eq-eqb, ne_eqb, lt-leb}
use Rattle.ref_window.specs.Numbers.{is_among}
use Rattle.ref_window.proofs.Held.{greatest_among, near_among, above_among, far_among}
use Rattle.ref_window.proofs.Recent.{seen_none, seen_some}
use Rattle.ref_window.proofs.window.RefWindow.holds.Goals as goal

pub returns-then-self-eq0 : goal.returns-then-self-eq0
returns-then-self-eq0 c =
    ap (λ l. is_among l c.args.number) (sym (seen_none c.self.inside.greatest c.self.inside.recent c.self.inside.words c.args.self.now c.self.view_is (omega arith)))

pub returns-then-number-self : goal.returns-then-number-self
returns-then-number-self c =
    let view = seen_some c.self.inside.greatest c.self.inside.recent c.self.inside.words c.args.self.now c.self.view_is (λ none. omega (arith, none)) in
    elim (cases_eq c.args.number c.self.inside.greatest) [
      | inl same ↦
          eq-eqb c.args.number c.self.inside.greatest same
          ∙ sym (greatest_among c.self.inside.greatest c.self.inside.words c.args.number same)
          ∙ ap (λ l. is_among l c.args.number) view
      | inr apart ↦
          ne_eqb c.args.number c.self.inside.greatest apart
          ∙ sym (above_among c.self.inside.greatest c.self.inside.words c.args.number (omega arith))
          ∙ ap (λ l. is_among l c.args.number) view
    ]

pub returns-then-self-number-le-SPAN : goal.returns-then-self-number-le-SPAN
returns-then-self-number-le-SPAN c =
    let view = seen_some c.self.inside.greatest c.self.inside.recent c.self.inside.words c.args.self.now c.self.view_is (λ none. omega (arith, none)) in
    c.bit.ensures
    ∙ sym (near_among c.self.inside.greatest c.self.inside.words c.args.number (omega arith) (omega arith))
    ∙ ap (λ l. is_among l c.args.number) view

pub returns-else-self-number-le-SPAN : goal.returns-else-self-number-le-SPAN
returns-else-self-number-le-SPAN c =
    let view = seen_some c.self.inside.greatest c.self.inside.recent c.self.inside.words c.args.self.now c.self.view_is (λ none. omega (arith, none)) in
    lt-leb (c.self.inside.greatest - c.args.number) 4096 c.if-self-number-le-SPAN.false
    ∙ sym (far_among c.self.inside.greatest c.self.inside.words c.args.number (omega arith))
    ∙ ap (λ l. is_among l c.args.number) view
