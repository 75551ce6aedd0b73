use Rattle.std.proofs.Common.{arith}
use Rattle.std.proofs.lemmas.Int.Digits.{digits_more}
use Rattle.sfu_script.proofs.Parsing.{no_digits, digit_summed, small_front, all_summed}
use Rattle.sfu_script.proofs.words.short_decimal.Goals as goal

pub returns-then-not-is_ascii_digit : goal.returns-then-not-is_ascii_digit
returns-then-not-is_ascii_digit c = no_digits c.args.word.now c.loop-byte.byte-index c.loop-byte-test.true c.if-not-is_ascii_digit.ensures.cases

pub overflow_mul-number : goal.overflow_mul-number
overflow_mul-number c =
    let loop = c.loop-byte in
    let small = small_front c.args.word.now loop.byte-index loop.number (omega arith) loop.invariant.digits loop.invariant.value in
    omega (arith, small)

pub overflow_add-number : goal.overflow_add-number
overflow_add-number c =
    let loop = c.loop-byte in
    let small = small_front c.args.word.now loop.byte-index loop.number (omega arith) loop.invariant.digits loop.invariant.value in
    grind (arith, small)

pub loop-byte-preserved : goal.loop-byte-preserved
loop-byte-preserved c =
    let loop = c.loop-byte in
    let digit = c.if-not-is_ascii_digit.ensures in
    let summed = digit_summed c.args.word.now loop.byte-index loop.number c.loop-byte-test.true loop.invariant.value digit.cases in record {
      digits = digits_more 10 c.args.word.now loop.byte-index c.loop-byte-test.true loop.invariant.digits digit.bound;
      value = grind (arith, summed);
    }

pub returns : goal.returns
returns c =
    let loop = c.loop-byte in
    all_summed c.args.word.now loop.byte-index loop.number (omega arith) (omega arith) loop.invariant.digits loop.invariant.value
