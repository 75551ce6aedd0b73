use Rattle.reorder_window.proofs.Due.{gives_the_tick}
use Rattle.reorder_window.proofs.laws.the_due_moment_gives_the_tick.Goals as goal

pub returns : goal.returns
returns c = gives_the_tick
