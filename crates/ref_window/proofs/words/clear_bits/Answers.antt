use Rattle.std.proofs.Common.{arith}
use Rattle.ref_window.proofs.Rings.{clears_none, clears_more}
use Rattle.ref_window.proofs.words.clear_bits.Goals as goal

pub loop-number-init : goal.loop-number-init
loop-number-init c = record {
  from = omega arith;
  to = c.requires.order;
  cleared = clears_none c.args.words.now c.args.from c.args.to;
}

pub loop-number-preserved : goal.loop-number-preserved
loop-number-preserved c = record {
  from = omega arith;
  to = c.clear_some-number.ensures.within;
  cleared =
      clears_more c.args.words.now c.loop-number.words c.clear_some-number.new.words c.args.from c.loop-number.number c.clear_some-number.result c.args.to
      c.loop-number.invariant.from (omega arith) c.clear_some-number.ensures.within c.requires.span c.loop-number.invariant.cleared c.clear_some-number.ensures.cleared;
}
