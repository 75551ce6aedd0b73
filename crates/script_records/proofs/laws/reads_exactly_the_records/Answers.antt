use Rattle.script_records.proofs.RecordLaws.{call_found, call_again}
use Rattle.script_records.proofs.laws.reads_exactly_the_records.Goals as goal

pub returns : goal.returns
returns c = λ call body fits. (call_found body call fits, call_again call body)
