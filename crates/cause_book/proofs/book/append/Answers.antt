use Rattle.std.proofs.Common.{◌∙◌, ◌++◌, ◌∷◌, [], List, Option, ap, arith, slice_get}
use Rattle.sfu_base.specs.declared.frame.Step.{Step}
use Rattle.cause_book.specs.Slots.{if_numbered}
use Rattle.cause_book.proofs.Places.{one_more_entry}
use Rattle.cause_book.proofs.book.append.Goals as goal

pub loop-steps-preserved : goal.loop-steps-preserved
loop-steps-preserved c =
    let test = c.loop-steps-test.true in
    let place = c.requires.place in
    let size = c.len.ensures in
    let more = c.push_reserved.ensures.len in
    let capacity = c.push_reserved.ensures.capacity in
    let before = c.loop-steps.invariant.capacity in
    record {
      few = omega (arith, test, place, size, more);
      capacity = omega (arith, capacity, before);
      same = λ n place.
          ap (λ (slots : List (Option Step)). if_numbered n (slice_get slots place))
          (c.push_reserved.ensures.items ∙ ap (λ (o : Option Step). c.loop-steps.steps.items ++ o ∷ []) c.nothing.ensures)
          ∙ one_more_entry c.loop-steps.steps.items n place ∙ c.loop-steps.invariant.same n place;
    }
