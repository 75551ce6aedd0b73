use Rattle.std.proofs.Common.{Ok, Err, refl}
use Rattle.script_run.specs.Run.{unrecorded}
use Rattle.simulcast.specs.Answers.{bundle_pumped}
use Rattle.simulcast.proofs.Answers.{pump_answers}
use Rattle.sfu_program.specs.SimulcastTexts.{pumped_text}
use Rattle.sfu_program.proofs.SimulcastServing.{serves_err, serves_ok}
use Rattle.sfu_program.proofs.bundling.server.BundleServer.pump.Goals as goal

pub returns-in-Ok : goal.returns-in-Ok
returns-in-Ok c =
    serves_ok (bundle_pumped c.args.number) pumped_text c.args.self.now _ c.pump.new.self refl c.args.ready.now c.reply_with.new.ready c.in-Ok.counts c.reply_with.result
    (λ h stands. pump_answers unrecorded c.pump.new.self h c.args.number (Ok c.in-Ok.counts) (c.in-Ok.ensures.pumps h stands)) (record { ok = c.reply_with.ensures.ok; err = c.reply_with.ensures.err; only = c.reply_with.ensures.only })

pub returns-in-Err : goal.returns-in-Err
returns-in-Err c =
    serves_err (bundle_pumped c.args.number) pumped_text c.args.self.now c.refuse.new.self c.pump.new.self c.refuse.ensures.same c.args.ready.now c.refuse.new.ready c.in-Err.why c.refuse.result
    (λ h stands. pump_answers unrecorded c.pump.new.self h c.args.number (Err c.in-Err.why) (c.in-Err.ensures.pumps h stands)) c.refuse.ensures.starved (record { ok = c.refuse.ensures.ok; err = c.refuse.ensures.err; only = c.refuse.ensures.only })
