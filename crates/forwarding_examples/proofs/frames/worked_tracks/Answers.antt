use Rattle.forwarding_examples.proofs.TrackRows.{torn_number, equal_number, own_mask, three_targets, long_key_frame, epochs_and_starts, structure_inside, structure_first, gap_tears, padding_is_passed_over, start_begins_anew, padding_first, parts_of_a_frame, third_subscriber_markers, only_the_second_took, one_call_numbers, one_call_causes, plain_contents, plain_queue, plain_history, plain_taken, long_store, long_store_resends}
use Rattle.forwarding_examples.proofs.frames.worked_tracks.Goals as goal

pub returns-clause-torn_number : goal.returns-clause-torn_number
returns-clause-torn_number c = torn_number

pub returns-clause-equal_number : goal.returns-clause-equal_number
returns-clause-equal_number c = equal_number

pub returns-clause-own_mask : goal.returns-clause-own_mask
returns-clause-own_mask c = own_mask

pub returns-clause-three_targets : goal.returns-clause-three_targets
returns-clause-three_targets c = three_targets

pub returns-clause-long_key_frame : goal.returns-clause-long_key_frame
returns-clause-long_key_frame c = long_key_frame

pub returns-clause-epochs_and_starts : goal.returns-clause-epochs_and_starts
returns-clause-epochs_and_starts c = epochs_and_starts

pub returns-clause-structure_inside : goal.returns-clause-structure_inside
returns-clause-structure_inside c = structure_inside

pub returns-clause-structure_first : goal.returns-clause-structure_first
returns-clause-structure_first c = structure_first

pub returns-clause-gap_tears : goal.returns-clause-gap_tears
returns-clause-gap_tears c = gap_tears

pub returns-clause-padding_is_passed_over : goal.returns-clause-padding_is_passed_over
returns-clause-padding_is_passed_over c = padding_is_passed_over

pub returns-clause-start_begins_anew : goal.returns-clause-start_begins_anew
returns-clause-start_begins_anew c = start_begins_anew

pub returns-clause-padding_first : goal.returns-clause-padding_first
returns-clause-padding_first c = padding_first

pub returns-clause-parts_of_a_frame : goal.returns-clause-parts_of_a_frame
returns-clause-parts_of_a_frame c = parts_of_a_frame

pub returns-clause-third_subscriber_markers : goal.returns-clause-third_subscriber_markers
returns-clause-third_subscriber_markers c = third_subscriber_markers

pub returns-clause-only_the_second_took : goal.returns-clause-only_the_second_took
returns-clause-only_the_second_took c = only_the_second_took

pub returns-clause-one_call_numbers : goal.returns-clause-one_call_numbers
returns-clause-one_call_numbers c = one_call_numbers

pub returns-clause-one_call_causes : goal.returns-clause-one_call_causes
returns-clause-one_call_causes c = one_call_causes

pub returns-clause-plain_contents : goal.returns-clause-plain_contents
returns-clause-plain_contents c = plain_contents

pub returns-clause-plain_queue : goal.returns-clause-plain_queue
returns-clause-plain_queue c = plain_queue

pub returns-clause-plain_history : goal.returns-clause-plain_history
returns-clause-plain_history c = plain_history

pub returns-clause-plain_taken : goal.returns-clause-plain_taken
returns-clause-plain_taken c = plain_taken

pub returns-clause-long_store : goal.returns-clause-long_store
returns-clause-long_store c = long_store

pub returns-clause-long_store_resends : goal.returns-clause-long_store_resends
returns-clause-long_store_resends c = long_store_resends
