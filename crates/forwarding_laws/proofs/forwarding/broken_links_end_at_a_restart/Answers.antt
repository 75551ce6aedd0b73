use Rattle.forwarding_laws.proofs.Restarting.{restart_there, restart_later}
use Rattle.forwarding_laws.proofs.forwarding.broken_links_end_at_a_restart.Goals as goal

pub returns-clause-at_once : goal.returns-clause-at_once
returns-clause-at_once g c = restart_there

pub returns-clause-later : goal.returns-clause-later
returns-clause-later g c = restart_later
