use Rattle.std.proofs.Common.{◌≡◌, []}
use Rattle.reorder_window.proofs.tests.a_slot_changes_places_with_each_packet_and_with_no_gap.Given as goal

abbrev pub invariant-loop-seq : goal.invariant-loop-seq
invariant-loop-seq g l = record { copied : l.copied.waiting ≡ []; fetched : l.window.waiting ≡ [] }
