use Rattle.std.proofs.Common.{◌+◌, ◌<◌, length, arith}
use Rattle.std.proofs.lemmas.Int.Digits.{digits_more}
use Rattle.std.proofs.lemmas.List.{take_rest}
use Rattle.sfu_script.proofs.Parsing.{digit_summed, small_front}
use Rattle.sfu_script.proofs.LeadingNumber.{number_read_off}
use Rattle.sfu_script.proofs.words.short_leading.Goals as goal

pub overflow_mul-number : goal.overflow_mul-number
overflow_mul-number c =
    let loop = c.loop-i in
    let small = small_front c.args.text.now loop.i loop.number (omega arith) loop.invariant.digits loop.invariant.value in
    omega (arith, small)

pub overflow_add-number : goal.overflow_add-number
overflow_add-number c =
    let loop = c.loop-i in
    let small = small_front c.args.text.now loop.i loop.number (omega arith) loop.invariant.digits loop.invariant.value in
    grind (arith, small)

pub loop-i-preserved : goal.loop-i-preserved
loop-i-preserved c =
    let loop = c.loop-i in
    let inside : c.loop-i.i < length c.args.text.now = omega arith in
    let digit = c.if-not-is_ascii_digit-2.ensures in
    let summed = digit_summed c.args.text.now loop.i loop.number inside loop.invariant.value digit.cases in record {
      digits = digits_more 10 c.args.text.now loop.i inside loop.invariant.digits digit.bound;
      value = grind (arith, summed);
    }

pub returns-then-i-eq1 : goal.returns-then-i-eq1
returns-then-i-eq1 c =
    let loop = c.loop-i in
    let inside : c.loop-i.i < length c.args.text.now = omega arith in
    let space = c.if-byte-eq32.true in
    let lead = c.if-i-eq1.either in
    rw (take_rest c.args.text.now (c.loop-i.i + 1))
    (number_read_off c.args.text.now loop.i loop.number (omega arith) (omega arith) inside space lead loop.invariant.digits loop.invariant.value)
