use Rattle.forwarding_laws.proofs.HistoryWords.{joins_are_known, nobody_is_known}
use Rattle.forwarding_laws.proofs.histories.subscribers_are_known_as_they_joined.Goals as goal

pub returns-clause-joined : goal.returns-clause-joined
returns-clause-joined c = joins_are_known

pub returns-clause-nobody : goal.returns-clause-nobody
returns-clause-nobody c = nobody_is_known
