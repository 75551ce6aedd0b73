use Rattle.std.proofs.Common.{◌≡◌, ◌+◌, ◌-◌, ◌*◌, arith}
use Rattle.std.proofs.lemmas.Result.{err_from_is_err_and}
use Rattle.dd_bits.specs.Numbers.{short_forms}
use Rattle.dd_bits.specs.Reader.{bits_left}
use Rattle.dd_bits.proofs.NumberLemmas.{ns_none, ns_short, ns_long, ns_cut}
use Rattle.dd_bits.proofs.reader.BitReader.ns.Goals as goal

pub returns-in_err-front-clause-short : goal.returns-in_err-front-clause-short
returns-in_err-front-clause-short c =
    let p = err_from_is_err_and c.from_residual.result c.from_residual.ensures.1 in
    rw p.1 (ns_none c.args.n (bits_left c.args.self.now) (rw c.digit_count.ensures.value at c.in_err-front.ensures.short))

pub returns-then-front-short_forms-clause-read : goal.returns-then-front-short_forms-clause-read
returns-then-front-short_forms-clause-read c =
    let read = rw c.digit_count.ensures.value at c.in_ok-front.ensures.read in
    ns_short c.args.n c.in_ok-front.front (bits_left c.args.self.now) (bits_left c.bits.new.self) read (omega arith)

pub returns-in-Ok-clause-read : goal.returns-in-Ok-clause-read
returns-in-Ok-clause-read c =
    let read = rw c.digit_count.ensures.value at c.in_ok-front.ensures.read in
    let sum : c.in_ok-front.front + (c.in_ok-front.front - short_forms c.args.n) + c.in-Ok.last ≡ 2 * c.in_ok-front.front - short_forms c.args.n + c.in-Ok.last = omega arith in
    rw (c.short_form_count-short_forms.ensures.value, sum) (ns_long c.args.n c.in_ok-front.front c.in-Ok.last (bits_left c.args.self.now) (bits_left c.bits.new.self) (bits_left c.bits-2.new.self) read (omega arith) c.in-Ok.ensures.read)

pub returns-in-Err-clause-short : goal.returns-in-Err-clause-short
returns-in-Err-clause-short c =
    let read = rw c.digit_count.ensures.value at c.in_ok-front.ensures.read in
    ns_cut c.args.n c.in_ok-front.front (bits_left c.args.self.now) (bits_left c.bits.new.self) read (omega arith) c.in-Err.ensures.short
