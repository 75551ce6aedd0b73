use Rattle.std.proofs.Common.{length, rules}
use Rattle.rtp_extension.specs.declared.form.Form.TheVariants.{OneByte}
use Rattle.rtp_extension.specs.Forms.{IsBetween}
use Rattle.rtp_extension.proofs.Joining.{adds}
use Rattle.rtp_extension.proofs.writers.write_one.Goals as goal

pub returns-clause-reads : goal.returns-clause-reads
returns-clause-reads c =
    let value = c.args.value.now in
    let id_fits : IsBetween 1 14 c.args.id = search rules in
    let value_fits : IsBetween 1 16 (length value) = search rules in
    adds OneByte c.args.out.now c.append_element.new.out (record { id = c.args.id; value = value }) (id_fits, value_fits) c.append_element.ensures
