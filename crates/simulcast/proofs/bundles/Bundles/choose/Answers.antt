use Rattle.std.proofs.Common.{ℕ, Option, refl, subst, sym}
use Rattle.std.specs.Prelude.{Ok}
use Rattle.simulcast.specs.Made.{Made, leg_at}
use Rattle.simulcast.specs.Bundle.{ChoosesTo, IsBundle}
use Rattle.simulcast.proofs.Answering.{chooses_active, chooses_asked, chooses_err, chooses_none, chooses_starved}
use Rattle.sfu_base.specs.declared.call.Call.TheVariants as call
use Rattle.simulcast.proofs.Starving.{starved_by}
use Rattle.simulcast.proofs.bundles.Bundles.choose.Goals as goal

pub returns-in_default-clause-chooses : goal.returns-in_default-clause-chooses
returns-in_default-clause-chooses g c = λ h stands. chooses_none g.R.Recorder.noted c.args.self.now c.args.self.now c.args.number h stands c.in_default.ensures c.args.leg

pub returns-in-Ok-None-clause-chooses : goal.returns-in-Ok-None-clause-chooses
returns-in-Ok-None-clause-chooses g c = λ h stands.
    chooses_active g.R.Recorder.noted c.args.self.now _ c.args.number h stands c.in-Some.place c.index_mut.result.now c.in-Some.ensures c.index_mut.ensures.value c.choose.new.self refl refl c.args.leg
    (subst (λ (x : Option ℕ). (m : Made) → IsBundle c.index_mut.result.now m → ChoosesTo c.choose.new.self c.args.leg m (leg_at c.args.leg m.legs) (Ok x)) c.in-Ok-None.field-0-is c.in-Ok-None.ensures.chooses)

pub returns-in-Err-clause-chooses : goal.returns-in-Err-clause-chooses
returns-in-Err-clause-chooses g c = λ h stands.
    chooses_err g.R.Recorder.noted c.args.self.now _ c.args.number h stands c.in-Some.place c.index_mut.result.now c.in-Some.ensures c.index_mut.ensures.value c.choose.new.self refl refl c.args.leg
    c.in-Err.fault c.in-Err.ensures.chooses

pub returns-then-is_starved-clause-chooses : goal.returns-then-is_starved-clause-chooses
returns-then-is_starved-clause-chooses g c = λ h stands.
    chooses_starved g.R.Recorder.noted c.args.self.now _ c.args.number h stands c.in-Some.place c.index_mut.result.now c.in-Some.ensures c.index_mut.ensures.value c.choose.new.self refl c.args.leg
    c.in-Ok-Some.subscriber c.plead-reply.result c.plead-reply.ensures.serves
    (subst (λ (x : Option ℕ). (m : Made) → IsBundle c.index_mut.result.now m → ChoosesTo c.choose.new.self c.args.leg m (leg_at c.args.leg m.legs) (Ok x)) c.in-Ok-Some.field-0-is c.in-Ok-Some.ensures.chooses) (sym c.if-is_starved.ensures)

pub returns-else-is_starved-clause-chooses : goal.returns-else-is_starved-clause-chooses
returns-else-is_starved-clause-chooses g c = λ h stands.
    chooses_asked g.R.Recorder.noted c.args.self.now _ c.args.number h stands c.in-Some.place c.index_mut.result.now c.in-Some.ensures c.index_mut.ensures.value c.choose.new.self refl c.args.leg
    c.in-Ok-Some.subscriber c.plead-reply.result c.plead-reply.ensures.serves
    (subst (λ (x : Option ℕ). (m : Made) → IsBundle c.index_mut.result.now m → ChoosesTo c.choose.new.self c.args.leg m (leg_at c.args.leg m.legs) (Ok x)) c.in-Ok-Some.field-0-is c.in-Ok-Some.ensures.chooses) (sym c.if-is_starved.ensures)

pub returns-then-is_starved-clause-memory : goal.returns-then-is_starved-clause-memory
returns-then-is_starved-clause-memory g c = λ e.
    starved_by g.R.Recorder.may_refuse c.args.self.now.room (call.Plead c.in-Ok-Some.subscriber) c.plead-reply.result (λ h. h) c.plead-reply.ensures.memory (sym c.if-is_starved.ensures)
