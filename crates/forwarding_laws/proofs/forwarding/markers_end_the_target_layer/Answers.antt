use Rattle.forwarding_laws.proofs.OutgoingWords.{top_layer_in_words, last_packets_are_marked, other_markers_are_kept}
use Rattle.forwarding_laws.proofs.forwarding.markers_end_the_target_layer.Goals as goal

pub returns-clause-top_layer : goal.returns-clause-top_layer
returns-clause-top_layer g c = top_layer_in_words

pub returns-clause-last : goal.returns-clause-last
returns-clause-last g c = last_packets_are_marked

pub returns-clause-kept : goal.returns-clause-kept
returns-clause-kept g c = other_markers_are_kept
