use Rattle.forwarding_examples.proofs.RefusedWords.{empty_is_no_path, passed_is_no_root, reference_is_no_root, link_is_no_root, late_passed_is_no_root, roots_end_paths, passed_leads_nowhere, paths_name_the_next, later_steps_name_the_next, later_steps_fall, equal_numbers_dont_fall, paths_fall, others_are_no_causes, later_others_are_no_causes, causes_of_others_dont_count, lacks_reference, lacks_farther_reference, lacks_middle_reference, lacks_key_frame, is_not_there, others_are_no_restart, incomplete_is_no_restart, switches_must_open, lost_link_is_no_link, link_to_the_opening_counts, lost_link_is_not_kept, nothing_opens_unless_opened, opened_is_open_from_there, closed_is_not_open, frames_since_count, older_frames_since_count, frames_behind_events_count, since_looks_before, others_may_join, joining_is_noted}
use Rattle.forwarding_examples.proofs.refusals.words_refuse_what_they_should.Goals as goal

pub returns-clause-empty_is_no_path : goal.returns-clause-empty_is_no_path
returns-clause-empty_is_no_path c = empty_is_no_path

pub returns-clause-passed_is_no_root : goal.returns-clause-passed_is_no_root
returns-clause-passed_is_no_root c = passed_is_no_root

pub returns-clause-reference_is_no_root : goal.returns-clause-reference_is_no_root
returns-clause-reference_is_no_root c = reference_is_no_root

pub returns-clause-link_is_no_root : goal.returns-clause-link_is_no_root
returns-clause-link_is_no_root c = link_is_no_root

pub returns-clause-late_passed_is_no_root : goal.returns-clause-late_passed_is_no_root
returns-clause-late_passed_is_no_root c = late_passed_is_no_root

pub returns-clause-roots_end_paths : goal.returns-clause-roots_end_paths
returns-clause-roots_end_paths c = roots_end_paths

pub returns-clause-passed_leads_nowhere : goal.returns-clause-passed_leads_nowhere
returns-clause-passed_leads_nowhere c = passed_leads_nowhere

pub returns-clause-paths_name_the_next : goal.returns-clause-paths_name_the_next
returns-clause-paths_name_the_next c = paths_name_the_next

pub returns-clause-later_steps_name_the_next : goal.returns-clause-later_steps_name_the_next
returns-clause-later_steps_name_the_next c = later_steps_name_the_next

pub returns-clause-later_steps_fall : goal.returns-clause-later_steps_fall
returns-clause-later_steps_fall c = later_steps_fall

pub returns-clause-equal_numbers_dont_fall : goal.returns-clause-equal_numbers_dont_fall
returns-clause-equal_numbers_dont_fall c = equal_numbers_dont_fall

pub returns-clause-paths_fall : goal.returns-clause-paths_fall
returns-clause-paths_fall c = paths_fall

pub returns-clause-others_are_no_causes : goal.returns-clause-others_are_no_causes
returns-clause-others_are_no_causes c = others_are_no_causes

pub returns-clause-later_others_are_no_causes : goal.returns-clause-later_others_are_no_causes
returns-clause-later_others_are_no_causes c = later_others_are_no_causes

pub returns-clause-causes_of_others_dont_count : goal.returns-clause-causes_of_others_dont_count
returns-clause-causes_of_others_dont_count c = causes_of_others_dont_count

pub returns-clause-lacks_reference : goal.returns-clause-lacks_reference
returns-clause-lacks_reference c = lacks_reference

pub returns-clause-lacks_farther_reference : goal.returns-clause-lacks_farther_reference
returns-clause-lacks_farther_reference c = lacks_farther_reference

pub returns-clause-lacks_middle_reference : goal.returns-clause-lacks_middle_reference
returns-clause-lacks_middle_reference c = lacks_middle_reference

pub returns-clause-lacks_key_frame : goal.returns-clause-lacks_key_frame
returns-clause-lacks_key_frame c = lacks_key_frame

pub returns-clause-is_not_there : goal.returns-clause-is_not_there
returns-clause-is_not_there c = is_not_there

pub returns-clause-others_are_no_restart : goal.returns-clause-others_are_no_restart
returns-clause-others_are_no_restart c = others_are_no_restart

pub returns-clause-incomplete_is_no_restart : goal.returns-clause-incomplete_is_no_restart
returns-clause-incomplete_is_no_restart c = incomplete_is_no_restart

pub returns-clause-switches_must_open : goal.returns-clause-switches_must_open
returns-clause-switches_must_open c = switches_must_open

pub returns-clause-lost_link_is_no_link : goal.returns-clause-lost_link_is_no_link
returns-clause-lost_link_is_no_link c = lost_link_is_no_link

pub returns-clause-link_to_the_opening_counts : goal.returns-clause-link_to_the_opening_counts
returns-clause-link_to_the_opening_counts c = link_to_the_opening_counts

pub returns-clause-lost_link_is_not_kept : goal.returns-clause-lost_link_is_not_kept
returns-clause-lost_link_is_not_kept c = lost_link_is_not_kept

pub returns-clause-nothing_opens_unless_opened : goal.returns-clause-nothing_opens_unless_opened
returns-clause-nothing_opens_unless_opened c = nothing_opens_unless_opened

pub returns-clause-opened_is_open_from_there : goal.returns-clause-opened_is_open_from_there
returns-clause-opened_is_open_from_there c = opened_is_open_from_there

pub returns-clause-closed_is_not_open : goal.returns-clause-closed_is_not_open
returns-clause-closed_is_not_open c = closed_is_not_open

pub returns-clause-frames_since_count : goal.returns-clause-frames_since_count
returns-clause-frames_since_count c = frames_since_count

pub returns-clause-older_frames_since_count : goal.returns-clause-older_frames_since_count
returns-clause-older_frames_since_count c = older_frames_since_count

pub returns-clause-frames_behind_events_count : goal.returns-clause-frames_behind_events_count
returns-clause-frames_behind_events_count c = frames_behind_events_count

pub returns-clause-since_looks_before : goal.returns-clause-since_looks_before
returns-clause-since_looks_before c = since_looks_before

pub returns-clause-others_may_join : goal.returns-clause-others_may_join
returns-clause-others_may_join c = others_may_join

pub returns-clause-joining_is_noted : goal.returns-clause-joining_is_noted
returns-clause-joining_is_noted c = joining_is_noted
