use Rattle.std.proofs.Common.{subst, IfSome}
use Rattle.forwarding_model.specs.frames.Frames.{Force}
use Rattle.dd_structure.specs.TemplateStructure.{TemplateStructure}
use Rattle.dd_structure.specs.Spelling.{IsWellFormed}
use Rattle.frame_table.proofs.Seeing.{well_formed_from}
use Rattle.frame_table.proofs.table.FrameTable.lemma_is_well_formed.Goals as goal

pub returns : goal.returns
returns c = subst (λ (f : Force TemplateStructure). IfSome f.structure IsWellFormed) c.self.view_is (well_formed_from c.self.inside c.self.inside.structure c.self.invariant.laid_out)
