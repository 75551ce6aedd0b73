use Rattle.std.proofs.Common.{arith, sym, ◌∙◌}
use Rattle.cause_book.proofs.Paths.{path_next}
use Rattle.cause_book.proofs.path.leads_to_root.Goals as goal

pub loop-i-preserved : goal.loop-i-preserved
loop-i-preserved c = record {
  least = omega arith;
  rest = c.loop-i.invariant.rest
      ∙ path_next c.args.steps.now c.loop-i.i _ c.loop-i.invariant.least c.loop-i-test.true (sym c.leads.ensures ∙ c.if-not-leads.false);
}
