use Rattle.forwarding_examples.proofs.ReceptionRows.{other_number_at_once, broken_join_at_once, second_start_at_once, broken_payload_at_once, too_many_at_once, reference_at_the_end, first_reference, farthest_reference, not_rtp_first, no_descriptor, long_key_frame_accepted, open_end_first, broken_payload_first, other_structure_first, structure_without_key, wrapped_frame_number, no_structure_before_broken}
use Rattle.forwarding_examples.proofs.receiver.worked_receptions.Goals as goal

pub returns-clause-other_number_at_once : goal.returns-clause-other_number_at_once
returns-clause-other_number_at_once c = other_number_at_once

pub returns-clause-broken_join_at_once : goal.returns-clause-broken_join_at_once
returns-clause-broken_join_at_once c = broken_join_at_once

pub returns-clause-second_start_at_once : goal.returns-clause-second_start_at_once
returns-clause-second_start_at_once c = second_start_at_once

pub returns-clause-broken_payload_at_once : goal.returns-clause-broken_payload_at_once
returns-clause-broken_payload_at_once c = broken_payload_at_once

pub returns-clause-too_many_at_once : goal.returns-clause-too_many_at_once
returns-clause-too_many_at_once c = too_many_at_once

pub returns-clause-reference_at_the_end : goal.returns-clause-reference_at_the_end
returns-clause-reference_at_the_end c = reference_at_the_end

pub returns-clause-first_reference : goal.returns-clause-first_reference
returns-clause-first_reference c = first_reference

pub returns-clause-farthest_reference : goal.returns-clause-farthest_reference
returns-clause-farthest_reference c = farthest_reference

pub returns-clause-not_rtp_first : goal.returns-clause-not_rtp_first
returns-clause-not_rtp_first c = not_rtp_first

pub returns-clause-no_descriptor : goal.returns-clause-no_descriptor
returns-clause-no_descriptor c = no_descriptor

pub returns-clause-long_key_frame_accepted : goal.returns-clause-long_key_frame_accepted
returns-clause-long_key_frame_accepted c = long_key_frame_accepted

pub returns-clause-open_end_first : goal.returns-clause-open_end_first
returns-clause-open_end_first c = open_end_first

pub returns-clause-broken_payload_first : goal.returns-clause-broken_payload_first
returns-clause-broken_payload_first c = broken_payload_first

pub returns-clause-other_structure_first : goal.returns-clause-other_structure_first
returns-clause-other_structure_first c = other_structure_first

pub returns-clause-structure_without_key : goal.returns-clause-structure_without_key
returns-clause-structure_without_key c = structure_without_key

pub returns-clause-wrapped_frame_number : goal.returns-clause-wrapped_frame_number
returns-clause-wrapped_frame_number c = wrapped_frame_number

pub returns-clause-no_structure_before_broken : goal.returns-clause-no_structure_before_broken
returns-clause-no_structure_before_broken c = no_structure_before_broken
