use Rattle.std.proofs.Common.{rules}
use Rattle.reorder_window.proofs.Slots.{pooled-empty}
use Rattle.reorder_window.proofs.pool.Pool.new.Goals as goal

pub invariant_of-result-clause-pooled : goal.invariant_of-result-clause-pooled
invariant_of-result-clause-pooled c = pooled-empty _ _ _ (search rules) (search rules) (search rules)
