use Rattle.std.proofs.Common.{◌∙◌, sym}
use Rattle.rtp_extension.proofs.Steps.{none_in}
use Rattle.rtp_extension.proofs.element.ElementsIterator.next.Goals as goal

pub returns-in-None-clause-steps : goal.returns-in-None-clause-steps
returns-in-None-clause-steps c = (sym c.self.view_is ∙ c.in-None.ensures, none_in c.self.inside.form)
