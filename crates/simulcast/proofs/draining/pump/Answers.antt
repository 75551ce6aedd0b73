use Rattle.std.proofs.Common.{◌-◌, ℕ, List, Option, refl, subst, arith}
use Rattle.std.specs.Prelude.{Ok}
use Rattle.simulcast.specs.Bundle.{PumpsAs}
use Rattle.simulcast.proofs.WholePump.{counted}
use Rattle.simulcast.proofs.draining.pump.Goals as goal

pub returns-in-Ok-clause-pumps : goal.returns-in-Ok-clause-pumps
returns-in-Ok-clause-pumps g c s there =
    counted g.R.Recorder.noted c.args.room.now c.drain_legs.new.room c.args.bundle.now c.drain_legs.new.bundle s c.from-forwarded.result (c.in-Ok.taken - c.from-forwarded.result) c.in-Ok.taken there
    (subst (λ (l : List (Option ℕ)). PumpsAs g.R.Recorder.noted c.drain_legs.new.room c.drain_legs.new.bundle l s (Ok c.in-Ok.taken)) c.order-order.ensures (c.in-Ok.ensures.pumps s there))
    (let before = c.queued-before.ensures in let after = c.queued.ensures in let is = c.from-forwarded.ensures in omega arith) c.in-Ok.ensures.grew refl
    (let before = c.queued-before.ensures in let after = c.queued.ensures in let is = c.from-forwarded.ensures in let by = c.in-Ok.ensures.by in omega arith)
