use Rattle.std.proofs.Common.{◌<◌, sym}
use Rattle.dd_structure.proofs.ColumnLemmas.{template_count-is, distances-at}
use Rattle.dd_structure.proofs.structure.Structure.distance_row.Goals as goal

pub returns-clause-value : goal.returns-clause-value
returns-clause-value c =
    let within : c.args.template < c.self.inside.columns.template_count = rw (template_count-is c.self.inside.columns c.self.invariant.within) at (rw (← c.self.view_is) at c.requires) in
    rw (← c.self.view_is) (sym (distances-at c.self.inside.columns c.args.template c.index-self-template.result c.self.invariant.within within))
