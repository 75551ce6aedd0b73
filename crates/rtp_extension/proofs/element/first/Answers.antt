use Rattle.std.proofs.Common.{sym, ◌∙◌}
use Rattle.rtp_extension.proofs.Steps.{none_left, pads}
use Rattle.rtp_extension.proofs.element.first.Goals as goal

pub loop-head-preserved : goal.loop-head-preserved
loop-head-preserved c =
    sym (pads c.args.form c.in-Some.head.now c.loop-head.rest.now c.in-Some.behind.now c.in-Some.ensures.cases.0 c.if-head-ne0.false)
    ∙ c.loop-head.invariant

pub returns : goal.returns
returns c = sym c.loop-head.invariant ∙ none_left c.args.form c.loop-head.rest.now c.in_default.ensures.cases
