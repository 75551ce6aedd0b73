use Rattle.std.proofs.Common.{◌∙◌, sym, ap}
use Rattle.forwarding_model.specs.frames.Frames.{Force}
use Rattle.dd_structure.specs.TemplateStructure.{TemplateStructure}
use Rattle.frame_table.proofs.Steps.{keeps_from}
use Rattle.frame_table.proofs.table.FrameTable.has.Goals as goal

pub returns-in-Some : goal.returns-in-Some
returns-in-Some c =
    keeps_from c.args.self.now.structure c.in-Some.current c.args.structure.now c.same.result c.same.ensures
    (sym (ap (λ (f : Force TemplateStructure). f.structure) c.self.view_is) ∙ c.in-Some.is)
