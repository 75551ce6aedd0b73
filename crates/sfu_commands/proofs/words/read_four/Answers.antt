use Rattle.sfu_commands.proofs.StreamNumbers.{no_other}
use Rattle.sfu_commands.proofs.words.read_four.Goals as goal

pub returns-in-None : goal.returns-in-None
returns-in-None c = λ form. no_other c.args.name.now c.args.frames.now c.args.start.now c.args.loss.now form.0 c.in_default.ensures c.in-None.ensures form.1
