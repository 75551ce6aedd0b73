use Rattle.forwarding_laws.proofs.HistoryWords.{entries_add, joins_begin, plain_packets_seen}
use Rattle.forwarding_laws.proofs.histories.entries_add_what_they_say.Goals as goal

pub returns-clause-entries : goal.returns-clause-entries
returns-clause-entries g c = entries_add

pub returns-clause-plain : goal.returns-clause-plain
returns-clause-plain g c = plain_packets_seen

pub returns-clause-join : goal.returns-clause-join
returns-clause-join g c = joins_begin
