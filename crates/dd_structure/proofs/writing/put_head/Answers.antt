use Rattle.dd_bits.proofs.WritingLoops.{puts_then}
use Rattle.dd_structure.specs.Spelling.{head_bits}
use Rattle.dd_structure.proofs.ColumnLemmas.{layers-are}
use Rattle.dd_structure.proofs.writing.put_head.Goals as goal

pub returns : goal.returns
unfolding head_bits
returns c = rw (layers-are c.args.columns.now c.requires.within) (puts_then _ _ _ _ _ _ c.in_ok-put.ensures.put (puts_then _ _ _ _ _ _ c.in_ok-put-2.ensures.put c.put_layers.ensures))
