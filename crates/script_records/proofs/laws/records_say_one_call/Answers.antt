use Rattle.script_records.proofs.RecordLaws.{one_call}
use Rattle.script_records.proofs.laws.records_say_one_call.Goals as goal

pub returns : goal.returns
returns c = one_call
