use Rattle.std.proofs.Common.{[], ◌∷◌, true, false, sym, ◌∙◌, List}
use Rattle.sfu_script.specs.Fields.{fields_of}
use Rattle.sfu_script.specs.declared.fields.Field.{Field}
use Rattle.sfu_script.specs.declared.fields.Field.TheVariants.{Number8, Number32, Ssrc}
use Rattle.sfu_script.proofs.FieldLaws.{fields_length}
use Rattle.sfu_script.proofs.RtxPorts.{rtx_by}
use Rattle.sfu_script.proofs.ports.rtx.Goals as goal

abbrev places : List Field
places = Number32 ∷ Ssrc ∷ Ssrc ∷ Number8 ∷ []

pub returns-then-not-are_apart : goal.returns-then-not-are_apart
returns-then-not-are_apart c =
    let rest = c.args.rest.now in
    let numbers = c.in_ok-subscriber.field-0 in
    rtx_by (fields_of places rest) numbers false c.in_ok-subscriber.ensures.value (fields_length places rest numbers c.in_ok-subscriber.ensures.value) (sym (c.are_apart.ensures 0) ∙ c.if-not-are_apart.true)

pub returns : goal.returns
returns c =
    let rest = c.args.rest.now in
    let numbers = c.in_ok-subscriber.field-0 in
    rtx_by (fields_of places rest) numbers true c.in_ok-subscriber.ensures.value (fields_length places rest numbers c.in_ok-subscriber.ensures.value) (sym (c.are_apart.ensures 0) ∙ c.if-not-are_apart.false)
