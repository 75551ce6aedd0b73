use Rattle.std.proofs.Common.{List, Option, ap, arith}
use Rattle.sfu_base.specs.declared.frame.Step.{Step}
use Rattle.cause_book.specs.Slots.{step_at}
use Rattle.cause_book.proofs.book.CauseBook.new.Goals as goal

pub invariant_of-result : goal.invariant_of-result
invariant_of-result c = record {
  few = omega (arith, c.in-Ok.ensures.len);
  capacity = omega (arith, c.in-Ok.ensures.capacity);
  newest = λ n. ap (λ (slots : List (Option Step)). step_at 0 slots n) c.in-Ok.ensures.items;
}
