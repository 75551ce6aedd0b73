use Rattle.std.proofs.lemmas.Result.{err_from_is_err_and}
use Rattle.av1_payload.proofs.Steps.{none_left, each_more, each_fails, last_more, counted_more, counted_fails}
use Rattle.av1_payload.proofs.left.first_element.Goals as goal

pub returns-then-is_empty : goal.returns-then-is_empty
returns-then-is_empty c = none_left c.args.left.layout c.args.left.bytes.now c.in-EachSized.is c.if-is_empty.ensures

pub returns-in_err-element-in-EachSized : goal.returns-in_err-element-in-EachSized
returns-in_err-element-in-EachSized c =
    let p = err_from_is_err_and c.from_residual.result c.from_residual.ensures.1 in
    rw (p.1, p.2)
    (each_fails c.args.left.layout c.args.left.bytes.now _ c.in-EachSized.is c.if-is_empty.ensures c.in_err-element-in-EachSized.ensures)

pub returns-in_err-element-in-LastBare : goal.returns-in_err-element-in-LastBare
returns-in_err-element-in-LastBare c =
    let p = err_from_is_err_and c.from_residual-in_err-element-in-LastBare.result c.from_residual-in_err-element-in-LastBare.ensures.1 in
    rw (p.1, p.2)
    (counted_fails c.args.left.layout c.in-LastBare.sized c.args.left.bytes.now _ c.in-LastBare.is c.if-sized-eq0.false c.in_err-element-in-LastBare.ensures)

pub returns-in_ok-element-in-EachSized : goal.returns-in_ok-element-in-EachSized
returns-in_ok-element-in-EachSized c =
    each_more c.args.left.layout c.args.left.bytes.now _ _ c.in-EachSized.is c.if-is_empty.ensures c.in_ok-element-in-EachSized.ensures

pub returns-then-sized-eq0 : goal.returns-then-sized-eq0
returns-then-sized-eq0 c = last_more c.args.left.layout c.in-LastBare.sized c.args.left.bytes.now c.in-LastBare.is c.if-sized-eq0.true

pub returns-in_ok-element-in-LastBare : goal.returns-in_ok-element-in-LastBare
returns-in_ok-element-in-LastBare c =
    counted_more c.args.left.layout c.in-LastBare.sized c.args.left.bytes.now _ _ c.in-LastBare.is c.if-sized-eq0.false c.in_ok-element-in-LastBare.ensures
