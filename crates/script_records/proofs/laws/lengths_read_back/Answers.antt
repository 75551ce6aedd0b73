use Rattle.script_records.proofs.RecordLaws.{length_back}
use Rattle.script_records.proofs.laws.lengths_read_back.Goals as goal

pub returns : goal.returns
returns c = length_back
