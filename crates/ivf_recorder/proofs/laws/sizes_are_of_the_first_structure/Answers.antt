use Rattle.ivf_recorder.proofs.FirstStructures.{first_sizes, no_sizes}
use Rattle.ivf_recorder.proofs.laws.sizes_are_of_the_first_structure.Goals as goal

pub returns : goal.returns
returns c = record { none = no_sizes; first = first_sizes }
