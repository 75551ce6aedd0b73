use Rattle.std.proofs.Common.{◌≡◌, ◌+◌, ◌≤◌, length}
use Rattle.rtp_extension.specs.Reblocked.{elements_laid}
use Rattle.rtp_extension.specs.Seen.{elements_left}
use Rattle.rtp_extension.proofs.reblocked.written_len.Given as goal

abbrev pub invariant-loop-element : goal.invariant-loop-element
invariant-loop-element l = record {
  counted : l.len + length (elements_laid l.form (elements_left l.left)) ≡ length (elements_laid l.form (elements_left l.fn.elements));
  small : l.len ≤ 2048;
}

abbrev pub decreases-loop-element : goal.decreases-loop-element
decreases-loop-element l = length (elements_left l.left)
