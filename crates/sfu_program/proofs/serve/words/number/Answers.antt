use Rattle.std.proofs.Common.{[], ◌∷◌, sym, ap, ◌∙◌}
use Rattle.sfu_script.specs.Fields.{fields_of}
use Rattle.sfu_script.specs.declared.fields.Field.TheVariants.{Number64}
use Rattle.sfu_commands.proofs.StreamNumbers.{number_is, number_is_none}
use Rattle.sfu_program.proofs.serve.words.number.Goals as goal

pub returns-in-Ok : goal.returns-in-Ok
returns-in-Ok c =
    number_is c.args.word.now c.in-Ok.numbers (ap (fields_of (Number64 ∷ [])) (sym c.as_bytes.ensures.value) ∙ c.in-Ok.ensures.value)

pub returns-in-Err : goal.returns-in-Err
returns-in-Err c n = number_is_none c.args.word.now n (ap (fields_of (Number64 ∷ [])) (sym c.as_bytes.ensures.value) ∙ c.in-Err.ensures.value)
