use Rattle.forwarding_laws.proofs.OutgoingWords.{passing_frames_go_out, nothing_else_goes_out, packets_are_renumbered}
use Rattle.forwarding_laws.proofs.forwarding.packets_of_passing_frames_go_out.Goals as goal

pub returns-clause-passing : goal.returns-clause-passing
returns-clause-passing g c = passing_frames_go_out

pub returns-clause-others : goal.returns-clause-others
returns-clause-others g c = nothing_else_goes_out

pub returns-clause-numbers : goal.returns-clause-numbers
returns-clause-numbers g c = packets_are_renumbered
