use Rattle.std.proofs.Common.{Ok, Err}
use Rattle.script_run.specs.Run.{unrecorded}
use Rattle.simulcast.specs.Answers.{leg_chosen}
use Rattle.simulcast.proofs.Answers.{choose_answers}
use Rattle.sfu_program.specs.SimulcastTexts.{done_text}
use Rattle.sfu_program.proofs.SimulcastServing.{serves_err, serves_ok}
use Rattle.sfu_program.proofs.bundling.server.BundleServer.choose.Goals as goal

pub returns-in-Ok : goal.returns-in-Ok
returns-in-Ok c =
    serves_ok (leg_chosen c.args.number c.args.leg) done_text c.args.self.now c.answer.new.self c.choose.new.self c.answer.ensures.same c.args.ready.now c.answer.new.ready tt c.answer.result
    (λ h stands. choose_answers unrecorded c.choose.new.self h c.args.number c.args.leg (Ok tt) (c.in-Ok.ensures.chooses h stands)) (record { ok = c.answer.ensures.ok; err = c.answer.ensures.err; only = c.answer.ensures.only })

pub returns-in-Err : goal.returns-in-Err
returns-in-Err c =
    serves_err (leg_chosen c.args.number c.args.leg) done_text c.args.self.now c.refuse.new.self c.choose.new.self c.refuse.ensures.same c.args.ready.now c.refuse.new.ready c.in-Err.why c.refuse.result
    (λ h stands. choose_answers unrecorded c.choose.new.self h c.args.number c.args.leg (Err c.in-Err.why) (c.in-Err.ensures.chooses h stands)) c.refuse.ensures.starved (record { ok = c.refuse.ensures.ok; err = c.refuse.ensures.err; only = c.refuse.ensures.only })
