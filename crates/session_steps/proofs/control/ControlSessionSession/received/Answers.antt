use Rattle.std.proofs.Common.{◌∙◌, ap, sym}
use Rattle.session_steps.specs.Datagrams.{control_call}
use Rattle.session_steps.proofs.ControlSteps.{faults}
use Rattle.session_steps.proofs.control.ControlSessionSession.received.Goals as goal

pub returns : goal.returns
returns c = λ turns.
    faults c.args.self.now.said c.read_control-self.result turns c.args.came c.args.scratch.now.packet c.fill.new.self c.args._moment (c.requires 0) c.if-not-came.false (c.read_control-self.ensures ∙ ap control_call c.bytes.ensures.bytes) (sym c.is_some.ensures ∙ c.if-is_some.false) c.fill.ensures
