use Rattle.forwarding_model.specs.forwarding.Causes.{cause}
use Rattle.forwarding_laws.proofs.Causes.{unpassed_are_withheld}
use Rattle.forwarding_laws.proofs.Paths.{withheld_path, unpassed_path, path_begins, path_has_causes}
use Rattle.forwarding_laws.proofs.Timelines.{withheld_path_in_history}
use Rattle.forwarding_laws.proofs.forwarding.withheld_frames_have_a_path_to_a_root.Goals as goal

pub returns-clause-root : goal.returns-clause-root
returns-clause-root g c = withheld_path

pub returns-clause-unpassed : goal.returns-clause-unpassed
returns-clause-unpassed g c = unpassed_path

pub returns-clause-begins : goal.returns-clause-begins
returns-clause-begins g c = λ wish events n. path_begins (cause wish events) n

pub returns-clause-causes : goal.returns-clause-causes
returns-clause-causes g c = λ wish events n. path_has_causes (cause wish events) n

pub returns-clause-history : goal.returns-clause-history
returns-clause-history g c = withheld_path_in_history

pub returns-clause-withheld : goal.returns-clause-withheld
returns-clause-withheld g c = unpassed_are_withheld
