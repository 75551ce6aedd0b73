use Rattle.std.proofs.Common.{sym}
use Rattle.dd_structure.proofs.ColumnLemmas.{template_count-is}
use Rattle.dd_structure.proofs.structure.Structure.template_count.Goals as goal

pub returns-clause-value : goal.returns-clause-value
returns-clause-value c = rw (← c.self.view_is) (sym (template_count-is c.self.inside.columns c.self.invariant.within))
