use Rattle.std.proofs.Common.{arith}
use Rattle.sfu_script.proofs.Outcomes.{read_is, none_is}
use Rattle.script_records.specs.Records.{IsBody}
use Rattle.script_records.specs.ReadRecords.{call_of}
use Rattle.script_records.proofs.RecordLaws.{call_found, call_again}
use Rattle.script_records.proofs.reader.read_record.Goals as goal

pub returns-clause-ok : goal.returns-clause-ok
returns-clause-ok c =
    read_is (λ said. IsBody said c.args.body.now) c.said.result (call_of c.args.body.now)
    (λ said. call_found c.args.body.now said (λ i. omega (arith, c.type_inv.body i))) c.said.ensures.value

pub returns-clause-err : goal.returns-clause-err
returns-clause-err c =
    none_is (λ said. IsBody said c.args.body.now) c.said.result (call_of c.args.body.now) (λ said. call_again said c.args.body.now) c.said.ensures.value
