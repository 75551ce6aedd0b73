use Rattle.std.proofs.Common.{◌∙◌, ◌+◌, arith}
use Rattle.std.proofs.lemmas.Int.Digits.{digits_more}
use Rattle.sfu_script.proofs.Parsing.{no_digits, digit_summed, too_great, all_summed}
use Rattle.sfu_script.proofs.words.decimal.Goals as goal

pub returns-then-not-is_ascii_digit : goal.returns-then-not-is_ascii_digit
returns-then-not-is_ascii_digit c = no_digits c.args.word.now c.loop-byte.byte-index c.loop-byte-test.true c.if-not-is_ascii_digit.ensures.cases

pub returns-in_err-checked_mul : goal.returns-in_err-checked_mul
returns-in_err-checked_mul c =
    let summed = digit_summed c.args.word.now c.loop-byte.byte-index c.loop-byte.number c.loop-byte-test.true c.loop-byte.invariant.value c.if-not-is_ascii_digit.ensures.cases in
    let over = c.in_err-checked_mul.ensures in
    c.from_residual.ensures ∙ too_great c.args.word.now (c.loop-byte.byte-index + 1) (grind arith)

pub returns-in_err-number : goal.returns-in_err-number
returns-in_err-number c =
    let summed = digit_summed c.args.word.now c.loop-byte.byte-index c.loop-byte.number c.loop-byte-test.true c.loop-byte.invariant.value c.if-not-is_ascii_digit.ensures.cases in
    let over = c.in_err-number.ensures in
    c.from_residual-in_err-number.ensures ∙ too_great c.args.word.now (c.loop-byte.byte-index + 1) (grind arith)

pub loop-byte-preserved : goal.loop-byte-preserved
loop-byte-preserved c =
    let summed = digit_summed c.args.word.now c.loop-byte.byte-index c.loop-byte.number c.loop-byte-test.true c.loop-byte.invariant.value c.if-not-is_ascii_digit.ensures.cases in record {
      digits = digits_more 10 c.args.word.now c.loop-byte.byte-index c.loop-byte-test.true c.loop-byte.invariant.digits c.if-not-is_ascii_digit.ensures.bound;
      value = grind arith;
      fits = grind arith;
    }

pub returns : goal.returns
returns c = all_summed c.args.word.now c.loop-byte.byte-index c.loop-byte.number (omega arith) c.loop-byte.invariant.fits c.loop-byte.invariant.digits c.loop-byte.invariant.value
