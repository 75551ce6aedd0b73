-- The line that is written for a call is a line of this call.
use Rattle.std.proofs.Common.{◌≡◌, Some}
use Rattle.sfu_base.specs.declared.call.Call.{Call}
use Rattle.script_texts.specs.Lines.{HasLine, line_of, places}
use Rattle.script_texts.proofs.Written.{text_spells}
use Rattle.sfu_script.specs.ReadLines.{call_of}
use Rattle.sfu_script.proofs.LineLaws.{call_again}

pub read_back : (call : Call) → HasLine call → call_of (line_of call) ≡ Some call
read_back call h = call_again call (line_of call) (text_spells (places call) h)
