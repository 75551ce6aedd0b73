use Rattle.std.proofs.Common.{◌+◌, Some, refl, sym, ◌∙◌}
use Rattle.strict_receiver.specs.Frames.{said_by}
use Rattle.strict_receiver.proofs.Parts.{joined_begins, joined_breaks, joined_goes_on}
use Rattle.strict_receiver.proofs.state.State.join.Goals as goal

pub returns-then-not-goes_on-clause-joined : goal.returns-then-not-goes_on-clause-joined
returns-then-not-goes_on-clause-joined c force =
    let follows = rw c.get-newest.ensures at c.goes_on.ensures.follows force in
    joined_breaks c.args.self.now.frame (said_by force c.args.self.now.newest) (record { continues = c.args.continues; carries = c.args.carries })
    c.in-Some.frame (Some c.in-Some.frame) c.in-Some.is (sym follows ∙ c.if-not-goes_on.true)

pub returns-else-not-begins-clause-joined : goal.returns-else-not-begins-clause-joined
returns-else-not-begins-clause-joined c force =
    let begins = rw c.get-newest.ensures at c.begins.ensures in
    let begun = rw c.get-newest.ensures at c.begun.ensures force c.args.continues in
    joined_begins c.args.self.now.frame (said_by force c.args.self.now.newest) (record { continues = c.args.continues; carries = c.args.carries })
    c.begun.result c.in-None.is (sym begins ∙ c.if-not-begins.false) begun

pub returns-else-not-goes_on-clause-joined : goal.returns-else-not-goes_on-clause-joined
returns-else-not-goes_on-clause-joined c force =
    let follows = rw c.get-newest.ensures at c.goes_on.ensures.follows force in
    joined_goes_on c.args.self.now.frame (said_by force c.args.self.now.newest) (record { continues = c.args.continues; carries = c.args.carries })
    c.in-Some.frame (record { start = c.in-Some.frame.start; packets = c.in-Some.frame.packets + 1; carries = c.args.carries })
    c.in-Some.is (sym follows ∙ c.if-not-goes_on.false) refl
