use Rattle.forwarding_examples.proofs.WorkedPackets.{unread_inside, broken_inside, other_structure_inside, broken_key_start, torn_key_frame, broken_mask, padding_says_nothing, last_mask, mask_again, first_number_zero, farthest_above, nearest_behind, long_frame, too_long_frame, padded_frame, torn_frame, early_start, wrapped_numbers, stale_number, new_mask, other_structure}
use Rattle.forwarding_examples.proofs.frames.worked_frames.Goals as goal

pub returns-clause-padded_frame : goal.returns-clause-padded_frame
returns-clause-padded_frame c = padded_frame

pub returns-clause-torn_frame : goal.returns-clause-torn_frame
returns-clause-torn_frame c = torn_frame

pub returns-clause-early_start : goal.returns-clause-early_start
returns-clause-early_start c = early_start

pub returns-clause-wrapped_numbers : goal.returns-clause-wrapped_numbers
returns-clause-wrapped_numbers c = wrapped_numbers

pub returns-clause-stale_number : goal.returns-clause-stale_number
returns-clause-stale_number c = stale_number

pub returns-clause-new_mask : goal.returns-clause-new_mask
returns-clause-new_mask c = new_mask

pub returns-clause-other_structure : goal.returns-clause-other_structure
returns-clause-other_structure c = other_structure

pub returns-clause-unread_inside : goal.returns-clause-unread_inside
returns-clause-unread_inside c = unread_inside

pub returns-clause-broken_inside : goal.returns-clause-broken_inside
returns-clause-broken_inside c = broken_inside

pub returns-clause-other_structure_inside : goal.returns-clause-other_structure_inside
returns-clause-other_structure_inside c = other_structure_inside

pub returns-clause-broken_key_start : goal.returns-clause-broken_key_start
returns-clause-broken_key_start c = broken_key_start

pub returns-clause-torn_key_frame : goal.returns-clause-torn_key_frame
returns-clause-torn_key_frame c = torn_key_frame

pub returns-clause-broken_mask : goal.returns-clause-broken_mask
returns-clause-broken_mask c = broken_mask

pub returns-clause-padding_says_nothing : goal.returns-clause-padding_says_nothing
returns-clause-padding_says_nothing c = padding_says_nothing

pub returns-clause-last_mask : goal.returns-clause-last_mask
returns-clause-last_mask c = last_mask

pub returns-clause-mask_again : goal.returns-clause-mask_again
returns-clause-mask_again c = mask_again

pub returns-clause-first_number_zero : goal.returns-clause-first_number_zero
returns-clause-first_number_zero c = first_number_zero

pub returns-clause-farthest_above : goal.returns-clause-farthest_above
returns-clause-farthest_above c = farthest_above

pub returns-clause-nearest_behind : goal.returns-clause-nearest_behind
returns-clause-nearest_behind c = nearest_behind

pub returns-clause-long_frame : goal.returns-clause-long_frame
returns-clause-long_frame c = long_frame

pub returns-clause-too_long_frame : goal.returns-clause-too_long_frame
returns-clause-too_long_frame c = too_long_frame
