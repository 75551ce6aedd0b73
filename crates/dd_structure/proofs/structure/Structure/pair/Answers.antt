use Rattle.std.proofs.Common.{arith}
use Rattle.dd_structure.specs.Pair.{is_present_in}
use Rattle.dd_structure.proofs.PairLemmas.{pair_step}
use Rattle.dd_structure.proofs.structure.Structure.pair.Goals as goal

pub loop-template-preserved : goal.loop-template-preserved
loop-template-preserved c =
    rw (c.join-best.ensures, c.layer_if.ensures, c.is_present_to-is_there.ensures, c.layer.ensures, c.indications.ensures.value)
    (pair_step (is_present_in c.args.target) c.args.self.now.templates c.loop-template.template _ c.loop-template.best _ (omega arith) c.loop-template.invariant)
