use Rattle.sfu_program.proofs.SimulcastServing.{refuses_call, serves_call}
use Rattle.sfu_program.proofs.bundling.server.BundleServer.call.Goals as goal

pub returns-in-Ok : goal.returns-in-Ok
returns-in-Ok c =
    serves_call c.args.call.now c.args.self.now c.answer.new.self c.call.new.self c.answer.ensures.same c.args.ready.now c.answer.new.ready c.answer.result c.in-Ok.reply c.call.new.scratch.packet c.call.new.scratch.names
    c.in-Ok.ensures.calls c.answer.ensures.starved (record { ok = c.answer.ensures.ok; err = c.answer.ensures.err; only = c.answer.ensures.only })

pub returns-in-Err : goal.returns-in-Err
returns-in-Err c =
    refuses_call c.args.call.now c.args.self.now c.refuse.new.self c.call.new.self c.refuse.ensures.same c.args.ready.now c.refuse.new.ready c.refuse.result c.in-Err.why c.call.new.scratch.packet c.call.new.scratch.names
    c.in-Err.ensures.calls c.refuse.ensures.starved (record { ok = c.refuse.ensures.ok; err = c.refuse.ensures.err; only = c.refuse.ensures.only })
