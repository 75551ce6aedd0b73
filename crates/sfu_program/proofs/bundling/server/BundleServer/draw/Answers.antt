use Rattle.std.proofs.Common.{inr}
use Rattle.script_run.specs.Run.{unrecorded}
use Rattle.simulcast.specs.Answers.{packet_drawn}
use Rattle.simulcast.proofs.Answers.{draw_answers}
use Rattle.sfu_program.specs.SimulcastTexts.{packet_text}
use Rattle.sfu_program.proofs.SimulcastServing.{serves_err, serves_ok}
use Rattle.sfu_program.proofs.bundling.server.BundleServer.draw.Goals as goal

pub returns-in-Ok : goal.returns-in-Ok
returns-in-Ok c =
    serves_ok (packet_drawn c.args.number) packet_text c.args.self.now c.answer.new.self c.draw.new.self c.answer.ensures.same c.args.ready.now c.answer.new.ready c.draw.new.out c.answer.result
    (λ h stands. inr (draw_answers unrecorded c.draw.new.self h c.args.number c.draw.new.out _ (c.in-Ok.ensures.draws h stands))) (record { ok = c.answer.ensures.ok; err = c.answer.ensures.err; only = c.answer.ensures.only })

pub returns-in-Err : goal.returns-in-Err
returns-in-Err c =
    serves_err (packet_drawn c.args.number) packet_text c.args.self.now c.refuse.new.self c.draw.new.self c.refuse.ensures.same c.args.ready.now c.refuse.new.ready c.in-Err.why c.refuse.result
    (λ h stands. inr (draw_answers unrecorded c.draw.new.self h c.args.number c.draw.new.out _ (c.in-Err.ensures.draws h stands))) c.refuse.ensures.starved (record { ok = c.refuse.ensures.ok; err = c.refuse.ensures.err; only = c.refuse.ensures.only })
