use Rattle.forwarding_examples.proofs.Rows.{broken_chain_causes, broken_chain_numbers, upper_lost_causes, upper_lost_markers, mask_markers, wish_causes, wish_markers, wish_cause_unpassed, full_causes, full_taken_causes, late_join_causes, behind_cause, hold_causes, plain_resend, broken_link_causes, unlinked_cause, early_link_causes, masked_causes, intact_upper_markers, lowered_wish_cause, three_packet_markers, kept_markers, asked_numbers, hole_bounds}
use Rattle.forwarding_examples.proofs.forwarding.worked_timelines.Goals as goal

pub returns-clause-broken_chain : goal.returns-clause-broken_chain
returns-clause-broken_chain c = broken_chain_causes

pub returns-clause-broken_chain_numbers : goal.returns-clause-broken_chain_numbers
returns-clause-broken_chain_numbers c = broken_chain_numbers

pub returns-clause-upper_lost : goal.returns-clause-upper_lost
returns-clause-upper_lost c = upper_lost_causes

pub returns-clause-upper_lost_markers : goal.returns-clause-upper_lost_markers
returns-clause-upper_lost_markers c = upper_lost_markers

pub returns-clause-mask : goal.returns-clause-mask
returns-clause-mask c = mask_markers

pub returns-clause-wish : goal.returns-clause-wish
returns-clause-wish c = wish_causes

pub returns-clause-wish_markers : goal.returns-clause-wish_markers
returns-clause-wish_markers c = wish_markers

pub returns-clause-wish_unpassed : goal.returns-clause-wish_unpassed
returns-clause-wish_unpassed c = wish_cause_unpassed

pub returns-clause-full : goal.returns-clause-full
returns-clause-full c = full_causes

pub returns-clause-full_taken : goal.returns-clause-full_taken
returns-clause-full_taken c = full_taken_causes

pub returns-clause-late_join : goal.returns-clause-late_join
returns-clause-late_join c = late_join_causes

pub returns-clause-behind : goal.returns-clause-behind
returns-clause-behind c = behind_cause

pub returns-clause-hold : goal.returns-clause-hold
returns-clause-hold c = hold_causes

pub returns-clause-plain_resend : goal.returns-clause-plain_resend
returns-clause-plain_resend c = plain_resend

pub returns-clause-broken_link : goal.returns-clause-broken_link
returns-clause-broken_link c = broken_link_causes

pub returns-clause-unlinked : goal.returns-clause-unlinked
returns-clause-unlinked c = unlinked_cause

pub returns-clause-early_link : goal.returns-clause-early_link
returns-clause-early_link c = early_link_causes

pub returns-clause-masked : goal.returns-clause-masked
returns-clause-masked c = masked_causes

pub returns-clause-intact_upper : goal.returns-clause-intact_upper
returns-clause-intact_upper c = intact_upper_markers

pub returns-clause-lowered_wish : goal.returns-clause-lowered_wish
returns-clause-lowered_wish c = lowered_wish_cause

pub returns-clause-three_packet_markers : goal.returns-clause-three_packet_markers
returns-clause-three_packet_markers c = three_packet_markers

pub returns-clause-kept_markers : goal.returns-clause-kept_markers
returns-clause-kept_markers c = kept_markers

pub returns-clause-asked_numbers : goal.returns-clause-asked_numbers
returns-clause-asked_numbers c = asked_numbers

pub returns-clause-hole_bounds : goal.returns-clause-hole_bounds
returns-clause-hole_bounds c = hole_bounds
