use Rattle.std.proofs.Common.{◌+◌, ◌-◌, ◌∙◌, ℕ, suc, refl, arith}
use Rattle.sfu_base.specs.Answer.{Answer, answer_of}
use Rattle.sfu_base.specs.Links.{datagram}
use Rattle.sfu_serve.specs.History.{entries_of}
use Rattle.session_steps.specs.Sessions.{Doing}
use Rattle.session_steps.specs.Stepping.{answered, heard}
use Rattle.sfu_serve.proofs.RoomReplies.{room_replies}
use Rattle.sfu_serve.proofs.Stepping.{after, hears, replies, said, silent_after, starts, unsent, worn}
use Rattle.sfu_serve.proofs.driver.run_session.Goals as goal

pub loop-turn-init : goal.loop-turn-init
loop-turn-init g c = record {
  turns = omega arith;
  waits = c.requires.waits;
  done = starts (g.S.Session.left c.args.session.now) c.args.stage.now.limit c.args.seat.now (g.L.Link.traffic c.args.link.now) (g.L.Link.faults c.args.link.now) c.lemma_fits.ensures;
  name = refl;
}

pub returns-in_default-send_output : goal.returns-in_default-send_output
returns-in_default-send_output g c =
    let limit : ℕ = c.args.stage.now.limit in
    let turn : ℕ = c.loop-turn.turn in
    let left : ℕ = limit - (turn + 1) in
    let d = hears (g.S.Session.left c.loop-turn.session) limit turn c.loop-turn.seat (g.L.Link.traffic c.loop-turn.link) (g.L.Link.faults c.loop-turn.link) c.loop-turn.invariant.waits c.loop-turn.invariant.done
    c.in-Ok.came c.listen.new.into c.in-Ok.moment (g.L.Link.traffic c.listen.new.link) (g.L.Link.faults c.listen.new.link) c.loop-turn-test.true c.listen.ensures.bounded c.in-Ok.ensures.heard c.in-Ok.ensures.cause.counts in
    let lost = c.in_default-send_output.ensures.unsent in
    record {
      keeps = unsent (heard (g.S.Session.left c.loop-turn.session (suc left)) (datagram c.in-Ok.came c.listen.new.into) c.in-Ok.moment) (g.S.Session.left c.received-output.new.self left) c.received-output.new.scratch.packet c.received-output.result
          limit turn c.loop-turn.seat (g.L.Link.traffic c.listen.new.link) (g.L.Link.traffic c.send_output.new.link) (g.L.Link.faults c.listen.new.link) (g.L.Link.faults c.send_output.new.link)
          lost.0 (c.received-output.ensures left) c.loop-turn-test.true d lost.1 lost.2;
      name = c.send_output.ensures.name ∙ (c.listen.ensures.name ∙ c.loop-turn.invariant.name);
    }

pub loop-call-init : goal.loop-call-init
loop-call-init g c =
    let limit : ℕ = c.args.stage.now.limit in
    let turn : ℕ = c.loop-turn.turn in
    let left : ℕ = limit - (turn + 1) in
    let d = hears (g.S.Session.left c.loop-turn.session) limit turn c.loop-turn.seat (g.L.Link.traffic c.loop-turn.link) (g.L.Link.faults c.loop-turn.link) c.loop-turn.invariant.waits c.loop-turn.invariant.done
    c.in-Ok.came c.listen.new.into c.in-Ok.moment (g.L.Link.traffic c.listen.new.link) (g.L.Link.faults c.listen.new.link) c.loop-turn-test.true c.listen.ensures.bounded c.in-Ok.ensures.heard c.in-Ok.ensures.cause.counts in
    record {
      done = silent_after d (c.in-Ok-send_output.ensures.sent (heard (g.S.Session.left c.loop-turn.session (suc left)) (datagram c.in-Ok.came c.listen.new.into) c.in-Ok.moment) (g.S.Session.left c.received-output.new.self left)
          c.loop-turn.seat d.fits (c.received-output.ensures left));
      name = c.send_output.ensures.name ∙ (c.listen.ensures.name ∙ c.loop-turn.invariant.name);
    }

pub returns-in_default-turn : goal.returns-in_default-turn
returns-in_default-turn g c =
    let limit : ℕ = c.args.stage.now.limit in
    let turn : ℕ = c.loop-turn.turn in
    let left : ℕ = limit - (turn + 1) in
    record {
      keeps = worn (g.S.Session.left c.loop-call.session left) c.in-Some.call.now limit turn c.loop-call.seat c.turn.new.seat (g.L.Link.traffic c.loop-call.link) (g.L.Link.faults c.loop-call.link)
          (c.in-Some.ensures left) c.loop-turn-test.true c.loop-call.invariant.done c.in_default-turn.ensures.worn.0 c.turn.ensures.fits;
      name = c.loop-call.invariant.name;
    }

pub replied-output-requires : goal.replied-output-requires
replied-output-requires g c = λ turns.
    let reply = c.in-Ok-turn.made.reply in
    let t = c.in-Ok-turn.ensures.ok.1 in
    replies (g.S.Session.left c.loop-call.session turns) c.in-Some.call.now reply c.turn.new.scratch.packet c.turn.new.scratch.names (c.in-Some.ensures turns)
    (room_replies c.in-Some.call.now reply c.turn.new.scratch.packet c.turn.new.scratch.names (λ fed. (entries_of t.0, t.3.answered fed)) t.3.sendable)

pub loop-call-preserved : goal.loop-call-preserved
loop-call-preserved g c =
    let limit : ℕ = c.args.stage.now.limit in
    let turn : ℕ = c.loop-turn.turn in
    let left : ℕ = limit - (turn + 1) in
    let before : Doing = g.S.Session.left c.loop-call.session left in
    let reply = c.in-Ok-turn.made.reply in
    let bytes = c.turn.new.scratch.packet in
    let numbers = c.turn.new.scratch.names in
    let answer : Answer = answer_of reply bytes numbers in
    let d = after {mid = before} c.loop-call.invariant.done (said g.R.Recorder.may_refuse before c.in-Some.call.now reply bytes numbers c.in-Ok-turn.made.place c.loop-call.seat c.turn.new.seat
    (g.L.Link.traffic c.loop-call.link) (g.L.Link.faults c.loop-call.link) (c.in-Some.ensures left) c.loop-call.invariant.done.fits c.in-Ok-turn.ensures.ok c.turn.ensures.fits) in
    record {
      done = silent_after d (c.in-Ok-send_output-2.ensures.sent (answered before answer) (g.S.Session.left c.replied-output.new.self left) c.turn.new.seat d.fits (c.replied-output.ensures.goes_on left));
      name = c.send_output-in-Some.ensures.name ∙ c.loop-call.invariant.name;
    }

pub returns-in_default-send_output-2 : goal.returns-in_default-send_output-2
returns-in_default-send_output-2 g c =
    let limit : ℕ = c.args.stage.now.limit in
    let turn : ℕ = c.loop-turn.turn in
    let left : ℕ = limit - (turn + 1) in
    let before : Doing = g.S.Session.left c.loop-call.session left in
    let reply = c.in-Ok-turn.made.reply in
    let bytes = c.turn.new.scratch.packet in
    let numbers = c.turn.new.scratch.names in
    let answer : Answer = answer_of reply bytes numbers in
    let d = after {mid = before} c.loop-call.invariant.done (said g.R.Recorder.may_refuse before c.in-Some.call.now reply bytes numbers c.in-Ok-turn.made.place c.loop-call.seat c.turn.new.seat
    (g.L.Link.traffic c.loop-call.link) (g.L.Link.faults c.loop-call.link) (c.in-Some.ensures left) c.loop-call.invariant.done.fits c.in-Ok-turn.ensures.ok c.turn.ensures.fits) in
    let lost = c.in_default-send_output-2.ensures.unsent in
    record {
      keeps = unsent (answered before answer) (g.S.Session.left c.replied-output.new.self left) c.replied-output.new.scratch.packet c.replied-output.result
          limit turn c.turn.new.seat (g.L.Link.traffic c.loop-call.link) (g.L.Link.traffic c.send_output-in-Some.new.link) (g.L.Link.faults c.loop-call.link) (g.L.Link.faults c.send_output-in-Some.new.link)
          lost.0 (c.replied-output.ensures.goes_on left) c.loop-turn-test.true d lost.1 lost.2;
      name = c.send_output-in-Some.ensures.name ∙ c.loop-call.invariant.name;
    }
