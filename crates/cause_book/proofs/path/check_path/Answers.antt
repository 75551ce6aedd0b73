use Rattle.std.proofs.Common.{sym, ◌∙◌}
use Rattle.cause_book.proofs.Paths.{path_fact}
use Rattle.cause_book.proofs.path.check_path.Goals as goal

pub returns : goal.returns
returns c =
    ((λ e. (path_fact c.args.steps.now).0 (sym c.leads_to_root.ensures ∙ e)), λ h. c.leads_to_root.ensures ∙ (path_fact c.args.steps.now).1 h)
