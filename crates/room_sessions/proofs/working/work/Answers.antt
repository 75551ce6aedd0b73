use Rattle.std.proofs.Common.{◌++◌, ◌∙◌, [], ◌∷◌, inl, inr, refl, subst}
use Rattle.sfu_base.specs.Answer.{answer_of, is_starved}
use Rattle.session_steps.specs.Sessions.{Doing}
use Rattle.session_steps.specs.Stepping.{answered}
use Rattle.room_sessions.specs.Working.{AreMade}
use Rattle.room_sessions.proofs.Making.{causes_after, entry, goes_on_having, leaves_one, stands_none, stands_one}
use Rattle.room_sessions.proofs.RoomReplies.{replies, served_replies}
use Rattle.room_sessions.proofs.working.work.Goals as goal

pub loop-call-init : goal.loop-call-init
loop-call-init g c = record {
  made = [];
  stands = λ history at. stands_none g.R.Recorder.noted c.args.room.now history at;
  are_made = λ history at turns. refl;
  memory = tt;
  recorder = refl;
  headline = inl refl;
  has = c.requires.history;
}

pub replied-output-requires : goal.replied-output-requires
replied-output-requires g c = λ turns.
    let s = c.serve-reply in
    replies (g.S.Session.left c.loop-call.session turns) c.in-Some.call.now s.result s.new.scratch.packet s.new.scratch.names (c.in-Some.ensures turns)
    (served_replies g.R.Recorder.noted c.loop-call.room s.new.self c.args.seat c.in-Some.call.now s.result s.new.scratch.packet s.new.scratch.names c.loop-call.invariant.has s.ensures.serves s.ensures.sendable)

pub loop-call-preserved : goal.loop-call-preserved
loop-call-preserved g c =
    let i = c.loop-call.invariant in
    let s = c.serve-reply in
    let bytes = s.new.scratch.packet in
    let names = s.new.scratch.names in
    let noted = g.R.Recorder.noted in record {
      made = i.made ++ entry c.args.seat c.in-Some.call.now (is_starved s.result) ∷ [];
      stands = stands_one noted c.args.room.now c.loop-call.room s.new.self c.args.seat c.in-Some.call.now s.result bytes names s.ensures.serves i.made i.stands;
      are_made = λ history at turns.
          subst (λ (rest : Doing). AreMade c.args.seat history (g.S.Session.left c.args.session.now turns) (i.made ++ entry c.args.seat c.in-Some.call.now (is_starved s.result) ∷ []) rest) (c.in_default-output.ensures.goes_on turns)
          (leaves_one noted c.args.room.now c.loop-call.room s.new.self c.args.seat c.in-Some.call.now s.result bytes names s.ensures.serves i.made i.stands history (g.S.Session.left c.args.session.now turns) (g.S.Session.left c.loop-call.session turns) at (i.are_made history at turns) (c.in-Some.ensures turns));
      memory = causes_after g.R.Recorder.may_refuse c.args.room.now c.loop-call.room i.made (entry c.args.seat c.in-Some.call.now (is_starved s.result)) i.memory i.recorder s.ensures.memory;
      recorder = s.ensures.recorder ∙ i.recorder;
      headline = inr s.ensures.headline;
      has = goes_on_having noted c.loop-call.room s.new.self c.args.seat c.in-Some.call.now s.result bytes names i.has s.ensures.serves;
    }

pub returns-in-Packet-clause-works : goal.returns-in-Packet-clause-works
returns-in-Packet-clause-works g c =
    let i = c.loop-call.invariant in
    let s = c.serve-reply in
    let bytes = s.new.scratch.packet in
    let names = s.new.scratch.names in
    let noted = g.R.Recorder.noted in record {
      made = i.made ++ entry c.args.seat c.in-Some.call.now (is_starved s.result) ∷ [];
      stands = stands_one noted c.args.room.now c.loop-call.room s.new.self c.args.seat c.in-Some.call.now s.result bytes names s.ensures.serves i.made i.stands;
      goes_on = λ history at turns. (
        answered (g.S.Session.left c.loop-call.session turns) (answer_of s.result bytes names),
        leaves_one noted c.args.room.now c.loop-call.room s.new.self c.args.seat c.in-Some.call.now s.result bytes names s.ensures.serves i.made i.stands history (g.S.Session.left c.args.session.now turns) (g.S.Session.left c.loop-call.session turns) at (i.are_made history at turns) (c.in-Some.ensures turns),
        c.in-Packet.ensures.goes_on turns,
      );
      ends = λ none. absurd (cc none);
      memory = causes_after g.R.Recorder.may_refuse c.args.room.now c.loop-call.room i.made (entry c.args.seat c.in-Some.call.now (is_starved s.result)) i.memory i.recorder s.ensures.memory;
      headline = inr s.ensures.headline;
    }

pub returns-in-Packet-clause-history : goal.returns-in-Packet-clause-history
returns-in-Packet-clause-history g c =
    let s = c.serve-reply in
    goes_on_having g.R.Recorder.noted c.loop-call.room s.new.self c.args.seat c.in-Some.call.now s.result s.new.scratch.packet s.new.scratch.names c.loop-call.invariant.has s.ensures.serves
