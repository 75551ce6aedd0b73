use Rattle.std.proofs.Common.{◌≡◌, []}
use Rattle.reorder_window.proofs.tests.a_tick_is_due_once_the_lowest_held_packet_was_held_for_the_hold.Given as goal

abbrev pub invariant-loop-seq : goal.invariant-loop-seq
invariant-loop-seq g l = l.window.waiting ≡ []
