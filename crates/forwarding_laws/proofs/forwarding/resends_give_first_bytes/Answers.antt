use Rattle.forwarding_laws.proofs.Outgoings.{resent_first, resent_kept}
use Rattle.forwarding_laws.proofs.forwarding.resends_give_first_bytes.Goals as goal

pub returns-clause-first : goal.returns-clause-first
returns-clause-first g c = resent_first

pub returns-clause-kept : goal.returns-clause-kept
returns-clause-kept g c = resent_kept
