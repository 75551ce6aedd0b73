use Rattle.std.proofs.Common.{Ok, Err}
use Rattle.script_run.specs.Run.{unrecorded}
use Rattle.simulcast.specs.Answers.{bundle_made}
use Rattle.simulcast.proofs.Answers.{bundle_answers}
use Rattle.sfu_program.specs.SimulcastTexts.{done_text}
use Rattle.sfu_program.proofs.SimulcastServing.{serves_err, serves_ok}
use Rattle.simulcast.specs.Made.{just_made}
use Rattle.sfu_program.proofs.bundling.server.BundleServer.bundle.Goals as goal

pub returns-in-Ok : goal.returns-in-Ok
returns-in-Ok c =
    serves_ok (bundle_made (just_made c.args.number c.args.id c.args.ssrc c.args.first c.args.legs.now)) done_text c.args.self.now c.answer.new.self c.bundle.new.self c.answer.ensures.same c.args.ready.now c.answer.new.ready tt c.answer.result
    (λ h stands. bundle_answers unrecorded c.bundle.new.self h (just_made c.args.number c.args.id c.args.ssrc c.args.first c.args.legs.now) (Ok tt) (c.in-Ok.ensures.bundled h stands)) (record { ok = c.answer.ensures.ok; err = c.answer.ensures.err; only = c.answer.ensures.only })

pub returns-in-Err : goal.returns-in-Err
returns-in-Err c =
    serves_err (bundle_made (just_made c.args.number c.args.id c.args.ssrc c.args.first c.args.legs.now)) done_text c.args.self.now c.refuse.new.self c.bundle.new.self c.refuse.ensures.same c.args.ready.now c.refuse.new.ready c.in-Err.why c.refuse.result
    (λ h stands. bundle_answers unrecorded c.bundle.new.self h (just_made c.args.number c.args.id c.args.ssrc c.args.first c.args.legs.now) (Err c.in-Err.why) (c.in-Err.ensures.bundled h stands)) c.refuse.ensures.starved (record { ok = c.refuse.ensures.ok; err = c.refuse.ensures.err; only = c.refuse.ensures.only })
