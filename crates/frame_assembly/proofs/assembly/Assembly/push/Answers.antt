use Rattle.frame_assembly.proofs.Cuts.{ends_nothing, ends_unfinished, ends_whole, whole_packets}
use Rattle.frame_assembly.proofs.Standing.{replies, stands}
use Rattle.frame_assembly.proofs.assembly.Assembly.push.Goals as goal

pub returns-clause-stands : goal.returns-clause-stands
returns-clause-stands c past is = stands _ _ past _ is (rw (c.self.view_is, c.fill.ensures) at c.take_mark.ensures.seen)

pub returns-clause-outcome : goal.returns-clause-outcome
returns-clause-outcome c past is = replies _ past _ _ is (rw (c.self.view_is, c.fill.ensures) at c.take_mark.ensures.made)

pub returns-clause-whole : goal.returns-clause-whole
returns-clause-whole c past is = ends_whole past _ _ (replies _ past _ _ is (rw (c.self.view_is, c.fill.ensures) at c.take_mark.ensures.made))

pub returns-clause-packets : goal.returns-clause-packets
returns-clause-packets c past parts is cut ends = whole_packets _ _ parts (stands _ _ past _ is (rw (c.self.view_is, c.fill.ensures) at c.take_mark.ensures.seen)) cut ends

pub returns-clause-partial : goal.returns-clause-partial
returns-clause-partial c past is = ends_unfinished past _ _ (replies _ past _ _ is (rw (c.self.view_is, c.fill.ensures) at c.take_mark.ensures.made))

pub returns-clause-torn : goal.returns-clause-torn
returns-clause-torn c past is = ends_nothing past _ _ (replies _ past _ _ is (rw (c.self.view_is, c.fill.ensures) at c.take_mark.ensures.made))
