use Rattle.std.proofs.Common.{◌≡◌, sym, Result, Ok, Err, List, ℕ}
use Rattle.sfu_base.specs.declared.call.Call.{Call}
use Rattle.std.specs.Prelude.{IfOk, OnErr}
use Rattle.std.specs.Result.{result_ok}
use Rattle.script_texts.specs.Lines.{IsLine}
use Rattle.sfu_script.specs.ReadLines.{call_of}
use Rattle.sfu_script.proofs.LineLaws.{call_found, call_again}
use Rattle.sfu_script.proofs.lines.read_call.Goals as goal

in_grammar : {E : Type 0} (line : List ℕ) (r : Result Call E) → result_ok r ≡ call_of line → IfOk r (λ said. IsLine said line)
in_grammar line (Ok said) e = call_found line said (sym e)
in_grammar line (Err x) e = tt

no_call : {E : Type 0} (line : List ℕ) (r : Result Call E) → result_ok r ≡ call_of line → OnErr r ((said : Call) → ¬ (IsLine said line))
no_call line (Ok said) e = tt
no_call line (Err x) e = λ said h. let found = call_again said line h in cc

pub returns-clause-ok : goal.returns-clause-ok
returns-clause-ok c = in_grammar c.args.line.now c.call.result c.call.ensures

pub returns-clause-err : goal.returns-clause-err
returns-clause-err c = no_call c.args.line.now c.call.result c.call.ensures
