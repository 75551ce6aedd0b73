use Rattle.dd_layout.proofs.Layouts.{is_layout}
use Rattle.dd_layout.proofs.laws.carried_structures_have_layouts.Goals as goal

pub returns : goal.returns
returns c = is_layout
