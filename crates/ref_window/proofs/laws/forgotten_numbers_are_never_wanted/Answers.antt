use Rattle.ref_window.proofs.Forgetting.{forgets_for_good}
use Rattle.ref_window.proofs.laws.forgotten_numbers_are_never_wanted.Goals as goal

pub returns : goal.returns
returns c = forgets_for_good
