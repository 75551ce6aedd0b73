use Rattle.std.proofs.Common.{◌∙◌, ap, subst, Option, [], arith}
use Rattle.rtp_extension.specs.declared.form.Form.{Form}
use Rattle.rtp_extension.specs.declared.form.Form.TheVariants.{OneByte}
use Rattle.rtp_extension.specs.Blocks.{HasElements}
use Rattle.rtp_extension.specs.Reading.{elements_in, elements_if}
use Rattle.rtp_extension.proofs.Grammar.{each_block}
use Rattle.rtp_extension.proofs.Steps.{none_in}
use Rattle.rtp_extension.proofs.block.elements.Goals as goal

pub returns-in-Some-clause-grammar : goal.returns-in-Some-clause-grammar
returns-in-Some-clause-grammar c =
    subst (λ (x : Option Form). HasElements x c.args.block.now (elements_in c.in-Some.form c.args.block.now)) c.in-Some.ensures
    (each_block c.in-Some.form c.args.block.now (λ i. omega (arith, c.type_inv.block i)))

pub returns-in-None-clause-value : goal.returns-in-None-clause-value
returns-in-None-clause-value c = none_in OneByte ∙ ap (λ (x : Option Form). elements_if x c.args.block.now) c.in-None.ensures

pub returns-in-None-clause-grammar : goal.returns-in-None-clause-grammar
returns-in-None-clause-grammar c =
    subst (λ (x : Option Form). HasElements x c.args.block.now (elements_in OneByte [])) c.in-None.ensures (none_in OneByte)
