use Rattle.std.proofs.Common.{inr}
use Rattle.script_run.specs.Run.{unrecorded}
use Rattle.simulcast.specs.Answers.{packet_redrawn}
use Rattle.simulcast.proofs.Answers.{redraw_answers}
use Rattle.sfu_program.specs.SimulcastTexts.{packet_text}
use Rattle.sfu_program.proofs.SimulcastServing.{serves_err, serves_ok}
use Rattle.sfu_program.proofs.bundling.server.BundleServer.redraw.Goals as goal

pub returns-in-Ok : goal.returns-in-Ok
returns-in-Ok c =
    serves_ok (packet_redrawn c.args.number c.args.seq) packet_text c.args.self.now c.answer.new.self c.args.self.now.bundles c.answer.ensures.same c.args.ready.now c.answer.new.ready c.redraw.new.out c.answer.result
    (λ h stands. inr (redraw_answers unrecorded c.args.self.now.bundles h c.args.number c.args.seq c.redraw.new.out _ stands (c.in-Ok.ensures.redraws h stands))) (record { ok = c.answer.ensures.ok; err = c.answer.ensures.err; only = c.answer.ensures.only })

pub returns-in-Err : goal.returns-in-Err
returns-in-Err c =
    serves_err (packet_redrawn c.args.number c.args.seq) packet_text c.args.self.now c.refuse.new.self c.args.self.now.bundles c.refuse.ensures.same c.args.ready.now c.refuse.new.ready c.in-Err.why c.refuse.result
    (λ h stands. inr (redraw_answers unrecorded c.args.self.now.bundles h c.args.number c.args.seq c.redraw.new.out _ stands (c.in-Err.ensures.redraws h stands))) c.refuse.ensures.starved (record { ok = c.refuse.ensures.ok; err = c.refuse.ensures.err; only = c.refuse.ensures.only })
