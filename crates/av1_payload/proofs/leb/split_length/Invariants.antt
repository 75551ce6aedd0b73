use Rattle.av1_payload.proofs.Adding.{IsBegun}
use Rattle.av1_payload.proofs.leb.split_length.Given as goal

abbrev pub invariant-loop-place : goal.invariant-loop-place
invariant-loop-place l = IsBegun l.bytes l.place l.value l.scale
