use Rattle.ivf_recorder.proofs.ReadBack.{read_back}
use Rattle.ivf_recorder.proofs.SmallUnits.{units_small}
use Rattle.ivf_recorder.proofs.laws.files_read_back.Goals as goal

pub returns : goal.returns
returns c = record { read = λ id history short. read_back id history (units_small id history short); sizes = units_small }
