use Rattle.std.proofs.Common.{arith, Bor}
use Rattle.sfu_base.specs.declared.call.Call.{Call}
use Rattle.sfu_script.proofs.Outcomes.{lent_is, none_lent}
use Rattle.script_records.specs.ReadRecords.{call_of}
use Rattle.script_records.specs.Records.{IsBody}
use Rattle.script_records.proofs.RecordLaws.{call_found, call_again}
use Rattle.script_records.proofs.record_reader.RecordReader.read.Goals as goal

pub returns : goal.returns
returns c = record {
  value = c.lend.ensures.value;
  ok = lent_is (λ (said : Call). IsBody said c.args.body.now) (λ (lent : Bor Call). lent.now) c.lend.result (call_of c.args.body.now)
      (λ said. call_found c.args.body.now said (λ i. omega (arith, c.type_inv.body i))) c.lend.ensures.value;
  err = none_lent (λ (said : Call). IsBody said c.args.body.now) (λ (lent : Bor Call). lent.now) c.lend.result (call_of c.args.body.now)
      (λ said. call_again said c.args.body.now) c.lend.ensures.value;
  table = c.lend.ensures.table;
}
