use Rattle.forwarding_examples.proofs.WorkedPackets.{accepted, accepted_counts, not_rtp, other_source, repeated_number, wrapped_sequence, lacks_key_frame, empty_payload, lacks_start, second_start, broken_join, lacks_reference, lost_reference, other_number, end_carries, start_continues, longest_frame, too_many_packets, faulty_descriptor, broken_payload, structure_rule, same_structure, no_structure_first, source_first, number_before_content, first_complaint_stays, stale_empties, stale_counts}
use Rattle.forwarding_examples.proofs.receiver.worked_complaints.Goals as goal

pub returns-clause-accepted : goal.returns-clause-accepted
returns-clause-accepted c = accepted

pub returns-clause-accepted_counts : goal.returns-clause-accepted_counts
returns-clause-accepted_counts c = accepted_counts

pub returns-clause-not_rtp : goal.returns-clause-not_rtp
returns-clause-not_rtp c = not_rtp

pub returns-clause-other_source : goal.returns-clause-other_source
returns-clause-other_source c = other_source

pub returns-clause-repeated_number : goal.returns-clause-repeated_number
returns-clause-repeated_number c = repeated_number

pub returns-clause-wrapped_sequence : goal.returns-clause-wrapped_sequence
returns-clause-wrapped_sequence c = wrapped_sequence

pub returns-clause-lacks_key_frame : goal.returns-clause-lacks_key_frame
returns-clause-lacks_key_frame c = lacks_key_frame

pub returns-clause-empty_payload : goal.returns-clause-empty_payload
returns-clause-empty_payload c = empty_payload

pub returns-clause-lacks_start : goal.returns-clause-lacks_start
returns-clause-lacks_start c = lacks_start

pub returns-clause-second_start : goal.returns-clause-second_start
returns-clause-second_start c = second_start

pub returns-clause-broken_join : goal.returns-clause-broken_join
returns-clause-broken_join c = broken_join

pub returns-clause-lacks_reference : goal.returns-clause-lacks_reference
returns-clause-lacks_reference c = lacks_reference

pub returns-clause-lost_reference : goal.returns-clause-lost_reference
returns-clause-lost_reference c = lost_reference

pub returns-clause-other_number : goal.returns-clause-other_number
returns-clause-other_number c = other_number

pub returns-clause-end_carries : goal.returns-clause-end_carries
returns-clause-end_carries c = end_carries

pub returns-clause-start_continues : goal.returns-clause-start_continues
returns-clause-start_continues c = start_continues

pub returns-clause-longest_frame : goal.returns-clause-longest_frame
returns-clause-longest_frame c = longest_frame

pub returns-clause-too_many_packets : goal.returns-clause-too_many_packets
returns-clause-too_many_packets c = too_many_packets

pub returns-clause-faulty_descriptor : goal.returns-clause-faulty_descriptor
returns-clause-faulty_descriptor c = faulty_descriptor

pub returns-clause-broken_payload : goal.returns-clause-broken_payload
returns-clause-broken_payload c = broken_payload

pub returns-clause-structure_rule : goal.returns-clause-structure_rule
returns-clause-structure_rule c = structure_rule

pub returns-clause-same_structure : goal.returns-clause-same_structure
returns-clause-same_structure c = same_structure

pub returns-clause-no_structure_first : goal.returns-clause-no_structure_first
returns-clause-no_structure_first c = no_structure_first

pub returns-clause-source_first : goal.returns-clause-source_first
returns-clause-source_first c = source_first

pub returns-clause-number_before_content : goal.returns-clause-number_before_content
returns-clause-number_before_content c = number_before_content

pub returns-clause-first_complaint_stays : goal.returns-clause-first_complaint_stays
returns-clause-first_complaint_stays c = first_complaint_stays

pub returns-clause-stale_empties : goal.returns-clause-stale_empties
returns-clause-stale_empties c = stale_empties

pub returns-clause-stale_counts : goal.returns-clause-stale_counts
returns-clause-stale_counts c = stale_counts
