use Rattle.forwarding_examples.proofs.SelectionRows.{passing_opens_nothing, new_epoch_gives_the_reason, withheld_frames_begin_epochs, temporal_wish_is_kept, discardable_frames_pass, discardable_frames_open_nothing, fourth_bit_is_target_three, absence_comes_first, no_target_comes_first, greatest_below_is_reported, old_frames_keep_their_causes, key_frames_arent_forgotten, lower_markers_are_kept, first_numbers, spatial_comes_first, first_of_equals, broken_chain_path, greater_layers_first}
use Rattle.forwarding_examples.proofs.forwarding.worked_selection.Goals as goal

pub returns-clause-passing_opens_nothing : goal.returns-clause-passing_opens_nothing
returns-clause-passing_opens_nothing c = passing_opens_nothing

pub returns-clause-new_epoch : goal.returns-clause-new_epoch
returns-clause-new_epoch c = new_epoch_gives_the_reason

pub returns-clause-withheld_frames : goal.returns-clause-withheld_frames
returns-clause-withheld_frames c = withheld_frames_begin_epochs

pub returns-clause-temporal_wish : goal.returns-clause-temporal_wish
returns-clause-temporal_wish c = temporal_wish_is_kept

pub returns-clause-discardable_passes : goal.returns-clause-discardable_passes
returns-clause-discardable_passes c = discardable_frames_pass

pub returns-clause-discardable_opens_nothing : goal.returns-clause-discardable_opens_nothing
returns-clause-discardable_opens_nothing c = discardable_frames_open_nothing

pub returns-clause-fourth_bit : goal.returns-clause-fourth_bit
returns-clause-fourth_bit c = fourth_bit_is_target_three

pub returns-clause-absence_first : goal.returns-clause-absence_first
returns-clause-absence_first c = absence_comes_first

pub returns-clause-no_target_first : goal.returns-clause-no_target_first
returns-clause-no_target_first c = no_target_comes_first

pub returns-clause-greatest_below : goal.returns-clause-greatest_below
returns-clause-greatest_below c = greatest_below_is_reported

pub returns-clause-key_frame_far_back : goal.returns-clause-key_frame_far_back
returns-clause-key_frame_far_back c = key_frames_arent_forgotten

pub returns-clause-lower_marker : goal.returns-clause-lower_marker
returns-clause-lower_marker c = lower_markers_are_kept

pub returns-clause-first_numbers : goal.returns-clause-first_numbers
returns-clause-first_numbers c = first_numbers

pub returns-clause-old_frames : goal.returns-clause-old_frames
returns-clause-old_frames c = old_frames_keep_their_causes

pub returns-clause-spatial_first : goal.returns-clause-spatial_first
returns-clause-spatial_first c = spatial_comes_first

pub returns-clause-first_of_equals : goal.returns-clause-first_of_equals
returns-clause-first_of_equals c = first_of_equals

pub returns-clause-broken_chain_path : goal.returns-clause-broken_chain_path
returns-clause-broken_chain_path c = broken_chain_path

pub returns-clause-greater_layers_first : goal.returns-clause-greater_layers_first
returns-clause-greater_layers_first c = greater_layers_first
