use Rattle.std.proofs.Common.{◌<◌, sym}
use Rattle.dd_structure.proofs.ColumnLemmas.{template_count-is, layer-at}
use Rattle.dd_structure.proofs.structure.Structure.layer.Goals as goal

pub returns : goal.returns
returns c =
    let within : c.args.template < c.self.inside.columns.template_count = rw (template_count-is c.self.inside.columns c.self.invariant.within) at (rw (← c.self.view_is) at c.requires) in
    rw (← c.self.view_is) (sym (layer-at c.self.inside.columns c.args.template _ c.self.invariant.within within))
