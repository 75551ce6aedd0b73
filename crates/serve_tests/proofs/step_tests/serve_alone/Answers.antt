use Rattle.session_steps.specs.Stepping.{Asks}
use Rattle.sfu_serve.proofs.RoomReplies.{room_replies}
use Rattle.sfu_serve.proofs.Stepping.{replies}
use Rattle.serve_tests.proofs.step_tests.serve_alone.Goals as goal

pub replied-output-requires : goal.replied-output-requires
replied-output-requires g c = λ turns.
    let s = c.loop-call.invariant in
    let does = c.serve-reply.ensures in
    replies (g.S.Session.left c.loop-call.session turns) c.in-Some.call.now c.serve-reply.result c.serve-reply.new.scratch.packet c.serve-reply.new.scratch.names (c.in-Some.ensures turns)
    (room_replies c.in-Some.call.now c.serve-reply.result c.serve-reply.new.scratch.packet c.serve-reply.new.scratch.names (λ fed. (s.0, does.serves.answered s.0 s.1 fed)) does.sendable)

pub loop-call-preserved : goal.loop-call-preserved
loop-call-preserved g c =
    let s = c.loop-call.invariant in (_, c.serve-reply.ensures.serves.stands s.0 s.1)
