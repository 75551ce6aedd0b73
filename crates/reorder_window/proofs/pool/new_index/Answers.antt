use Rattle.reorder_window.proofs.Slots.{resized}
use Rattle.reorder_window.proofs.pool.new_index.Goals as goal

pub returns-in-Ok : goal.returns-in-Ok
returns-in-Ok c = resized _ _ _ c.new-index.ensures.items c.new-index.ensures.len c.in-Ok.ensures.items
