use Rattle.std.proofs.Common.{◌∙◌, arith, sym}
use Rattle.std.proofs.lemmas.List.{append-nil}
use Rattle.reorder_window.specs.Slots.{Made}
use Rattle.reorder_window.proofs.pool.choose.Goals as goal

pub returns-clause-chosen : goal.returns-clause-chosen
returns-clause-chosen c =
    Made c.new.result (omega (arith, c.in_default.ensures.cases.0, c.args.free.now.ok.0)) (sym (c.in_default.ensures.items ∙ append-nil _))
    (omega (arith, c.len-made.ensures, c.args.places.now.ok.0)) c.new.ensures c.push_reserved.ensures.items
