use Rattle.dd_bits.proofs.Bytes.{written_within}
use Rattle.dd_structure.proofs.structure.Structure.write.Goals as goal

pub returns-in-Ok-clause-within : goal.returns-in-Ok-clause-within
returns-in-Ok-clause-within c = written_within c.put_columns.new.out

pub returns-in-Err-clause-within : goal.returns-in-Err-clause-within
returns-in-Err-clause-within c = written_within c.args.out.now
