use Rattle.chain_state.proofs.Agreeing.{linked_is_intact}
use Rattle.chain_state.proofs.linked_chains_are_intact.Goals as goal

pub returns : goal.returns
returns c = linked_is_intact
