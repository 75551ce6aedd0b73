use Rattle.std.proofs.Common.{Result, Ok, Err}
use Rattle.std.specs.Prelude.{OnOk}
use Rattle.sfu_base.specs.declared.call.Call.{Call}
use Rattle.script_texts.specs.Lines.{HasLine, IsLine, line_of, places}
use Rattle.script_texts.proofs.Written.{text_spells}
use Rattle.script_texts.proofs.written_lines.write_call.Goals as goal

spelled : {A E : Type 0} (call : Call) (r : Result A E) → HasLine call → OnOk r (IsLine call (line_of call))
spelled call (Ok x) h = text_spells (places call) h
spelled call (Err e) h = tt

pub returns-clause-back : goal.returns-clause-back
returns-clause-back c = spelled c.args.call.now c.whole_or_nothing.result c.append_call-written.ensures.within
