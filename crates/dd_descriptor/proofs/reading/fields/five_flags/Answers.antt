use Rattle.std.proofs.lemmas.Result.{err_from_is_err_and}
use Rattle.dd_bits.specs.Reader.{bits_left}
use Rattle.dd_descriptor.proofs.Fields.{flags_fault, flags_read}
use Rattle.dd_descriptor.proofs.reading.fields.five_flags.Goals as goal

pub returns-in_err-flags : goal.returns-in_err-flags
returns-in_err-flags c =
    let p = err_from_is_err_and c.from_residual.result c.from_residual.ensures.1 in
    rw (p.1, p.2) (flags_fault (bits_left c.args.bits.now) c.in_err-flags.field-0.0 c.in_err-flags.ensures.read)

pub returns : goal.returns
returns c = flags_read (bits_left c.args.bits.now) c.in_ok-flags.flags (bits_left c.number.new.bits) c.in_ok-flags.ensures.read
