use Rattle.script_records.proofs.RecordLaws.{again}
use Rattle.script_records.proofs.laws.records_read_back.Goals as goal

pub returns : goal.returns
returns c = again
