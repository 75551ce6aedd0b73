use Rattle.std.proofs.Common.{◌≡◌, ◌≤◌, ℕ, Option, length}
use Rattle.rtx_stream.specs.declared.retransmission.Rtx.{Rtx}
use Rattle.session_steps.specs.Sessions.{Doing, serves}
use Rattle.session_steps.proofs.subscriber.next_item.Given as goal

abbrev pub invariant-loop-item : goal.invariant-loop-item
invariant-loop-item l = record {
  serves : (subscriber number : ℕ) (way : Option Rtx) (next : ℕ → Doing) → serves subscriber l.ssrc way l.fn.feedback number next ≡ serves subscriber l.ssrc way l.feedback number next;
  fewer : length l.feedback ≤ length l.fn.feedback;
}

abbrev pub decreases-loop-item : goal.decreases-loop-item
decreases-loop-item l = length l.feedback
