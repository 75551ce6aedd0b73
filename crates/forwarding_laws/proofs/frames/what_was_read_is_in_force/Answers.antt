use Rattle.forwarding_laws.proofs.Making.{in_force_by, key_starts_are_numbered}
use Rattle.forwarding_laws.proofs.frames.what_was_read_is_in_force.Goals as goal

pub returns-clause-in_force : goal.returns-clause-in_force
returns-clause-in_force g c = in_force_by

pub returns-clause-numbers : goal.returns-clause-numbers
returns-clause-numbers g c = key_starts_are_numbered
