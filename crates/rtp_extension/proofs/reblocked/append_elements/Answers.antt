use Rattle.rtp_extension.proofs.Appending.{capacity_left}
use Rattle.rtp_extension.specs.Reblocked.{elements_laid}
use Rattle.rtp_extension.specs.Seen.{elements_left}
use Rattle.rtp_extension.proofs.reblocked.append_elements.Goals as goal

pub append_element-requires-clause-capacity : goal.append_element-requires-clause-capacity
append_element-requires-clause-capacity c =
    capacity_left c.args.form c.loop-element.out (elements_laid c.args.form (elements_left c.args.elements)) c.args.out.now
    (elements_left c.loop-element.left) _ _ c.loop-element.invariant.written c.requires.capacity c.in-Some.ensures
