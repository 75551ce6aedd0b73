use Rattle.std.proofs.Common.{◌≡◌, ◌++◌, take}
use Rattle.sfu_program.specs.ServeEnds.{ends_of, ends_text}
use Rattle.sfu_program.proofs.serve.ends.add_ends.Given as goal

abbrev pub invariant-loop-session : goal.invariant-loop-session
invariant-loop-session g l = record {
  number : l.number ≡ l.session-index;
  text : l.ready ≡ l.initial.ready ++ ends_text 1 (ends_of (take l.session-index l.ended));
}
