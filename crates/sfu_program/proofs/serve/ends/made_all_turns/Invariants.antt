use Rattle.std.proofs.Common.{◌≡◌, true, take}
use Rattle.sfu_program.specs.ServeEnds.{all_made, ends_of}
use Rattle.sfu_program.proofs.serve.ends.made_all_turns.Given as goal

abbrev pub invariant-loop-session : goal.invariant-loop-session
invariant-loop-session g l = all_made (ends_of (take l.session-index l.ended)) ≡ true
