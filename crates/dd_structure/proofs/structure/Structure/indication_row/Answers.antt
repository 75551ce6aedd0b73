use Rattle.std.proofs.Common.{◌<◌, sym}
use Rattle.dd_structure.proofs.ColumnLemmas.{template_count-is, indications-at}
use Rattle.dd_structure.proofs.structure.Structure.indication_row.Goals as goal

pub returns : goal.returns
returns c =
    let within : c.args.template < c.self.inside.columns.template_count = rw (template_count-is c.self.inside.columns c.self.invariant.within) at (rw (← c.self.view_is) at c.requires) in
    record { value = rw (← c.self.view_is) (sym (indications-at c.self.inside.columns c.args.template _ c.self.invariant.within within)) }
