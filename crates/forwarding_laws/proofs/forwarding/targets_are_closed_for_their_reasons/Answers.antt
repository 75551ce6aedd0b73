use Rattle.forwarding_laws.proofs.Decisions.{broken_links_close, other_links_keep, broken_links_break, reasons_hold}
use Rattle.forwarding_laws.proofs.forwarding.targets_are_closed_for_their_reasons.Goals as goal

pub returns-clause-broken : goal.returns-clause-broken
returns-clause-broken g c = broken_links_close

pub returns-clause-other : goal.returns-clause-other
returns-clause-other g c = other_links_keep

pub returns-clause-breaks : goal.returns-clause-breaks
returns-clause-breaks g c = broken_links_break

pub returns-clause-reasons : goal.returns-clause-reasons
returns-clause-reasons g c = reasons_hold
