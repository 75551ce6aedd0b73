use Rattle.std.proofs.Common.{length, refl, ap, sym, ◌∙◌, arith}
use Rattle.rtp_extension.specs.Forms.{form_of}
use Rattle.rtp_extension.proofs.Appending.{extension_written, length-extension_with}
use Rattle.rtp_extension.proofs.Reblocking.{elements_fit, new_elements_fit}
use Rattle.rtp_extension.proofs.reblocked.reblock.Goals as goal

pub append_elements-requires-clause-fit : goal.append_elements-requires-clause-fit
append_elements-requires-clause-fit c =
    new_elements_fit c.args.profile c.in-Some.old_form c.wide_enough-profile.result.1 c.args.id c.args.value.now _ (sym c.in-Some.ensures)
    (sym (ap form_of c.wide_enough-profile.ensures.profile) ∙ c.wide_enough-profile.ensures.form) c.requires.value
    (elements_fit c.in-Some.old_form c.args.block.now (λ i. omega (arith, c.type_inv.block i)))

pub returns-then-bytes-words-gt-CAPACITY-clause-fits : goal.returns-then-bytes-words-gt-CAPACITY-clause-fits
returns-then-bytes-words-gt-CAPACITY-clause-fits c =
    let whole = length-extension_with c.args.profile c.args.id c.args.block.now c.args.value.now c.in-Some.old_form c.wide_enough-profile.result.1
    c.in-Some-written_len.len c.div_ceil-words.result (sym c.in-Some.ensures)
    (sym (ap form_of c.wide_enough-profile.ensures.profile) ∙ c.wide_enough-profile.ensures.form) c.in-Some-written_len.ensures.0 c.div_ceil-words.ensures in
    ((λ no. cc), (λ capacity. absurd (omega (arith, whole, ap length c.bytes.ensures.bytes))))

pub returns-clause-fits : goal.returns-clause-fits
returns-clause-fits c =
    let whole = length-extension_with c.args.profile c.args.id c.args.block.now c.args.value.now c.in-Some.old_form c.wide_enough-profile.result.1
    c.in-Some-written_len.len c.div_ceil-words.result (sym c.in-Some.ensures)
    (sym (ap form_of c.wide_enough-profile.ensures.profile) ∙ c.wide_enough-profile.ensures.form) c.in-Some-written_len.ensures.0 c.div_ceil-words.ensures in
    ((λ yes. omega (arith, whole, ap length c.bytes.ensures.bytes)), (λ capacity. refl))

pub returns-clause-ok : goal.returns-clause-ok
returns-clause-ok c =
    extension_written c.args.profile c.args.id c.args.block.now c.args.value.now c.in-Some.old_form c.wide_enough-profile.result.1
    c.in-Some-written_len.len c.div_ceil-words.result c.wide_enough-profile.result.0 c.args.out.now _ _ _ _ _ _ _ (sym c.in-Some.ensures)
    (sym (ap form_of c.wide_enough-profile.ensures.profile) ∙ c.wide_enough-profile.ensures.form) c.in-Some-written_len.ensures.0 c.div_ceil-words.ensures
    c.wide_enough-profile.ensures.profile c.to_be_bytes.ensures c.to_be_bytes-2.ensures refl
    c.append.ensures c.append-2.ensures c.append_elements.ensures c.append-3.ensures
