use Rattle.ref_window.proofs.Held.{first_held}
use Rattle.ref_window.proofs.Recent.{first_are}
use Rattle.ref_window.proofs.window.RefWindow.begin.Goals as goal

pub invariant_of-self : goal.invariant_of-self
invariant_of-self c = first_are c.args.number c.clear_all.new.words (first_held c.args.number c.clear_all.new.words c.clear_all.ensures)

pub returns : goal.returns
returns c = first_held c.args.number c.clear_all.new.words c.clear_all.ensures
