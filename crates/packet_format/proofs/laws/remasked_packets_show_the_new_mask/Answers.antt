use Rattle.packet_format.proofs.Remasked.{carried_decides, first_shows, packets_remasked, remasked_shows}
use Rattle.packet_format.proofs.RemaskedRests.{rests_remasked, rests_carry_mask}
use Rattle.packet_format.proofs.laws.remasked_packets_show_the_new_mask.Goals as goal

pub returns-clause-packets : goal.returns-clause-packets
returns-clause-packets c = packets_remasked

pub returns-clause-shown : goal.returns-clause-shown
returns-clause-shown c = remasked_shows

pub returns-clause-first : goal.returns-clause-first
returns-clause-first c = first_shows

pub returns-clause-carried : goal.returns-clause-carried
returns-clause-carried c = carried_decides

pub returns-clause-rests : goal.returns-clause-rests
returns-clause-rests c = rests_remasked

pub returns-clause-carries_mask : goal.returns-clause-carries_mask
returns-clause-carries_mask c = rests_carry_mask
