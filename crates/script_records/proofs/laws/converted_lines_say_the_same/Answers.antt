use Rattle.script_records.proofs.RecordLaws.{converted}
use Rattle.script_records.proofs.laws.converted_lines_say_the_same.Goals as goal

pub returns : goal.returns
returns c = converted
