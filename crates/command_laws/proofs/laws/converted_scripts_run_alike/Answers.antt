use Rattle.std.proofs.Common.{ap}
use Rattle.sfu_driver.specs.Statuses.{text_before}
use Rattle.sfu_commands.specs.Convert.{records_due}
use Rattle.script_records.specs.RecordCut.{header}
use Rattle.script_records.specs.Script.{Script}
use Rattle.command_laws.proofs.ConvertLaws.{calls_alike, records_no_lines, replies_alike}
use Rattle.command_laws.proofs.laws.converted_scripts_run_alike.Goals as goal

pub returns-clause-calls : goal.returns-clause-calls
returns-clause-calls c = calls_alike

pub returns-clause-replies : goal.returns-clause-replies
returns-clause-replies c = replies_alike

pub returns-clause-records : goal.returns-clause-records
returns-clause-records c = λ bytes is.
    let stops = records_no_lines bytes is in
    (stops, ap (λ (s : Script). text_before header (records_due s)) stops)
