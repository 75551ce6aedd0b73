use Rattle.session_steps.proofs.ControlSteps.{fewer, says, short}
use Rattle.session_steps.proofs.control.ControlSessionSession.replied.Goals as goal

pub write_short-requires : goal.write_short-requires
write_short-requires c = short c.args.self.now.said c.args.reply c.args.scratch.now.packet c.args.scratch.now.names c.args.self.now.control (c.requires 0)

pub returns-clause-goes_on : goal.returns-clause-goes_on
returns-clause-goes_on c = λ turns.
    says c.args.self.now.said turns c.args.reply c.args.scratch.now.packet c.args.scratch.now.names c.write_short.new.out (c.requires 0) (c.write_short.ensures.text c.args.scratch.now.packet c.args.scratch.now.names)

pub returns-clause-fewer : goal.returns-clause-fewer
returns-clause-fewer c = fewer c.args.self.now.said c.args.reply c.args.scratch.now.packet c.args.scratch.now.names (c.requires 0)
