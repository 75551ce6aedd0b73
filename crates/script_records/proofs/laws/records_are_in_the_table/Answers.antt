use Rattle.script_records.proofs.RecordLaws.{in_table, call_again}
use Rattle.script_records.proofs.laws.records_are_in_the_table.Goals as goal

pub returns : goal.returns
returns c = λ call body h. in_table body call (call_again call body h)
