use Rattle.std.proofs.Common.{◌-◌, ◌*◌, ◌%◌, ◌^◌, subst, arith}
use Rattle.ref_window.specs.Numbers.{AreBelow, AreExactlyBelow}
use Rattle.ref_window.proofs.Recent.{above_seen, none_exactly, recent_below, recent_exactly}
use Rattle.ref_window.proofs.window.RefWindow.right_below.Goals as goal
use Rattle.ref_window.proofs.window.RefWindow.right_below.Goals.{then-number-self-via-then-number-self, then-number-self-via-else-number-self+then-number-self-ge-WORD_BITS}

pub returns-then-number-self-clause-exact : goal.returns-then-number-self-clause-exact
returns-then-number-self-clause-exact c =
    none_exactly c.self.inside.greatest c.self.inside.recent c.args.number c.self.inside.words c.args.self.now c.self.view_is (elim c.then-number-self.branch [
      | then-number-self-via-then-number-self w ↦ λ greater. absurd (omega (arith, greater, w.if-number-self))
      | then-number-self-via-else-number-self+then-number-self-ge-WORD_BITS w ↦ λ greater. omega (arith, w.if-number-self-ge-WORD_BITS)
    ])

pub returns-clause-held : goal.returns-clause-held
returns-clause-held c =
    subst (λ l. AreBelow l c.args.number (c.self.inside.recent * 2 ^ (c.args.number - c.self.inside.greatest) % 2 ^ 64)) c.self.view_is
    (recent_below c.self.inside.greatest c.self.inside.words c.args.number c.self.inside.recent (c.args.number - c.self.inside.greatest)
    (omega arith) (omega arith) c.self.invariant)

pub returns-clause-exact : goal.returns-clause-exact
returns-clause-exact c = λ above.
    subst (λ l. AreExactlyBelow l c.args.number (c.self.inside.recent * 2 ^ (c.args.number - c.self.inside.greatest) % 2 ^ 64)) c.self.view_is
    (recent_exactly c.self.inside.greatest c.self.inside.words c.args.number c.self.inside.recent (c.args.number - c.self.inside.greatest)
    (omega arith) c.self.invariant)

pub returns-clause-others : goal.returns-clause-others
returns-clause-others c = λ not_above.
    absurd (not_above (above_seen c.self.inside.greatest c.self.inside.recent c.args.number c.self.inside.words c.args.self.now c.self.view_is (omega arith)))
