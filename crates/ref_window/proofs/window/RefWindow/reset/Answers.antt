use Rattle.std.proofs.Common.{refl}
use Rattle.ref_window.specs.Words.{held_in}
use Rattle.ref_window.proofs.window.RefWindow.reset.Goals as goal

pub returns : goal.returns
unfolding held_in
returns c = refl
