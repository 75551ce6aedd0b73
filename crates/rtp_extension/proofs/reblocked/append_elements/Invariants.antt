use Rattle.std.proofs.Common.{◌≡◌, ◌++◌, length}
use Rattle.rtp_extension.specs.Reblocked.{ElementsFit, elements_laid}
use Rattle.rtp_extension.specs.Seen.{elements_left}
use Rattle.rtp_extension.proofs.reblocked.append_elements.Given as goal

abbrev pub invariant-loop-element : goal.invariant-loop-element
invariant-loop-element l = record {
  written : l.out ++ elements_laid l.form (elements_left l.left) ≡ l.initial.out ++ elements_laid l.form (elements_left l.fn.elements);
  fit : ElementsFit l.form (elements_left l.left);
}

abbrev pub decreases-loop-element : goal.decreases-loop-element
decreases-loop-element l = length (elements_left l.left)
