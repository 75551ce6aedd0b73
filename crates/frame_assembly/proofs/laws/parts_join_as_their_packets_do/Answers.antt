use Rattle.frame_assembly.proofs.Joins.{so_far, whole}
use Rattle.frame_assembly.proofs.laws.parts_join_as_their_packets_do.Goals as goal

pub returns-clause-whole : goal.returns-clause-whole
returns-clause-whole g c = whole

pub returns-clause-so_far : goal.returns-clause-so_far
returns-clause-so_far g c = so_far
