use Rattle.std.proofs.Common.{ap, sym, ◌∙◌, ◌∷◌, ◌++◌, [], map, Ok}
use Rattle.std.proofs.lemmas.List.{map-append}
use Rattle.sfu_together.proofs.cast.all_done.Goals as goal

pub loop-end-preserved : goal.loop-end-preserved
loop-end-preserved c =
    ap (map Ok) c.in_ok-put_last.ensures ∙ (map-append Ok c.loop-end.dones.items (c.in_ok-done.done ∷ []) ∙ (λ j. c.loop-end.invariant j ++ sym c.in_ok-done.was j ∷ []))
