use Rattle.std.proofs.Common.{Bor}
use Rattle.sfu_base.specs.declared.call.Call.{Call}
use Rattle.script_texts.specs.Lines.{IsLine}
use Rattle.sfu_script.specs.ReadLines.{call_of}
use Rattle.sfu_script.proofs.LineLaws.{call_found, call_again}
use Rattle.sfu_script.proofs.Outcomes.{lent_is, none_lent}
use Rattle.sfu_script.proofs.line_reader.LineReader.read.Goals as goal

pub returns : goal.returns
returns c = record {
  value = c.lend.ensures;
  ok = lent_is (λ (said : Call). IsLine said c.args.line.now) (λ (lent : Bor Call). lent.now) c.lend.result (call_of c.args.line.now)
      (λ said e. call_found c.args.line.now said e) c.lend.ensures;
  err = none_lent (λ (said : Call). IsLine said c.args.line.now) (λ (lent : Bor Call). lent.now) c.lend.result (call_of c.args.line.now)
      (λ said h. call_again said c.args.line.now h) c.lend.ensures;
}
