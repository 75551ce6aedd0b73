use Rattle.ref_window.proofs.Forgetting.{answers_for_all, holds_all_near}
use Rattle.ref_window.proofs.laws.held_numbers_are_enough.Goals as goal

pub returns-clause-below : goal.returns-clause-below
returns-clause-below c = answers_for_all

pub returns-clause-near : goal.returns-clause-near
returns-clause-near c = holds_all_near
