use Rattle.std.proofs.Common.{◌∙◌, sym, ap, Option}
use Rattle.std.specs.Prelude.{option_copied}
use Rattle.forwarding_model.specs.frames.Reading.{keeps_structure}
use Rattle.dd_structure.specs.TemplateStructure.{TemplateStructure}
use Rattle.dd_layout.specs.Layouts.{structures_alone}
use Rattle.packet_format.proofs.Shows.{kept_obeys, key_obeys}
use Rattle.packet_format.proofs.shown.obeys.Goals as goal

pub returns-then-key : goal.returns-then-key
returns-then-key c = key_obeys c.begins_epoch-key.result _ _ (c.begins_epoch-key.ensures (option_copied c.args.force)) c.if-key.true

pub returns-else-key : goal.returns-else-key
returns-else-key c =
    kept_obeys c.begins_epoch-key.result _ _ c.is_in_force.result (c.begins_epoch-key.ensures (option_copied c.args.force)) c.if-key.false
    (c.is_in_force.ensures ∙ sym (ap (λ (o : Option TemplateStructure). keeps_structure structures_alone (option_copied c.args.force) o) c.in-Some.is))
