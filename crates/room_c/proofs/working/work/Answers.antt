use Rattle.std.specs.Prelude.{◌⊎◌, false}
use Rattle.std.proofs.Common.{◌≡◌, ◌++◌, [], ◌∷◌, inl, inr, refl, subst, sym}
use Rattle.sfu_base.specs.Answer.{answer_of, is_starved}
use Rattle.session_steps.specs.Sessions.{Doing}
use Rattle.session_steps.specs.Stepping.{answered}
use Rattle.room_core.specs.Serves.{Stands, StandsHeadline}
use Rattle.room_core.specs.declared.recorder.KeepNone.{KeepNone}
use Rattle.room_sessions.specs.Working.{AreMade}
use Rattle.room_sessions.proofs.Making.{causes_one, entry, leaves_one, stands_none, stands_one}
use Rattle.simulcast.specs.declared.bundles.Bundles.{Bundles}
use Rattle.simulcast.specs.Bundles.{StandsFor}
use Rattle.room_c.specs.Recording.{unrecorded}
use Rattle.room_c.proofs.Lasting.{after_call}
use Rattle.room_c.proofs.CallsMade.{is_reply, keeps_none, keeps_one, later, stops}
use Rattle.room_c.proofs.working.work.Goals as goal

pub loop-call-init : goal.loop-call-init
loop-call-init g c = record {
  made = [];
  keeps = keeps_none c.args.bundles.now;
  stands = λ history at. stands_none unrecorded c.args.bundles.now.room history at;
  are_made = λ history at turns. refl;
  memory = tt;
  headline = inl refl;
  has = c.requires.state;
}

pub replied-output-requires : goal.replied-output-requires
replied-output-requires g c = λ turns.
    let s = c.call-in-Some in
    is_reply c.loop-call.bundles s.new.self c.args.seat c.in-Some.call.now c.in-Ok.reply c.loop-call.scratch s.new.scratch (g.S.Session.left c.loop-call.session turns) (c.in-Some.ensures turns) c.loop-call.invariant.has c.in-Ok.ensures.whole

pub loop-call-preserved : goal.loop-call-preserved
loop-call-preserved g c =
    let i = c.loop-call.invariant in
    let s = c.call-in-Some in
    let bytes = s.new.scratch.packet in
    let names = s.new.scratch.names in
    let serves = c.in-Ok.ensures.whole.serves in
    let e = entry c.args.seat c.in-Some.call.now (is_starved c.in-Ok.reply) in record {
      made = i.made ++ e ∷ [];
      keeps = keeps_one c.args.bundles.now c.loop-call.bundles s.new.self c.args.seat c.in-Some.call.now c.in-Ok.reply bytes names i.made i.keeps c.in-Ok.ensures.calls;
      stands = stands_one unrecorded c.args.bundles.now.room c.loop-call.bundles.room s.new.self.room c.args.seat c.in-Some.call.now c.in-Ok.reply bytes names serves i.made i.stands;
      are_made = λ history at turns.
          subst (λ (rest : Doing). AreMade c.args.seat history (g.S.Session.left c.args.session.now turns) (i.made ++ e ∷ []) rest) (c.in_default-output.ensures.goes_on turns)
          (leaves_one unrecorded c.args.bundles.now.room c.loop-call.bundles.room s.new.self.room c.args.seat c.in-Some.call.now c.in-Ok.reply bytes names serves i.made i.stands history (g.S.Session.left c.args.session.now turns) (g.S.Session.left c.loop-call.session turns) at (i.are_made history at turns) (c.in-Some.ensures turns));
      memory = causes_one false i.made e i.memory c.in-Ok.ensures.whole.memory;
      headline = inr c.in-Ok.ensures.whole.headline;
      has = after_call c.loop-call.bundles s.new.self i.has c.args.seat c.in-Some.call.now bytes names s.result s.ensures.calls;
    }

pub returns-in-Packet-clause-works : goal.returns-in-Packet-clause-works
returns-in-Packet-clause-works g c =
    let i = c.loop-call.invariant in
    let s = c.call-in-Some in
    let bytes = s.new.scratch.packet in
    let names = s.new.scratch.names in
    let serves = c.in-Ok.ensures.whole.serves in
    let e = entry c.args.seat c.in-Some.call.now (is_starved c.in-Ok.reply) in record {
      made = i.made ++ e ∷ [];
      keeps = keeps_one c.args.bundles.now c.loop-call.bundles s.new.self c.args.seat c.in-Some.call.now c.in-Ok.reply bytes names i.made i.keeps c.in-Ok.ensures.calls;
      stands = stands_one unrecorded c.args.bundles.now.room c.loop-call.bundles.room s.new.self.room c.args.seat c.in-Some.call.now c.in-Ok.reply bytes names serves i.made i.stands;
      goes_on = λ history at turns. (
        answered (g.S.Session.left c.loop-call.session turns) (answer_of c.in-Ok.reply bytes names),
        leaves_one unrecorded c.args.bundles.now.room c.loop-call.bundles.room s.new.self.room c.args.seat c.in-Some.call.now c.in-Ok.reply bytes names serves i.made i.stands history (g.S.Session.left c.args.session.now turns) (g.S.Session.left c.loop-call.session turns) at (i.are_made history at turns) (c.in-Some.ensures turns),
        c.in-Packet.ensures.goes_on turns,
      );
      ends = tt;
      memory = causes_one false i.made e i.memory c.in-Ok.ensures.whole.memory;
      headline = inr c.in-Ok.ensures.whole.headline;
    }

pub returns-in-Packet-clause-state : goal.returns-in-Packet-clause-state
returns-in-Packet-clause-state g c =
    let s = c.call-in-Some in
    after_call c.loop-call.bundles s.new.self c.loop-call.invariant.has c.args.seat c.in-Some.call.now s.new.scratch.packet s.new.scratch.names s.result s.ensures.calls

pub returns-in-Err-clause-works : goal.returns-in-Err-clause-works
returns-in-Err-clause-works g c =
    let i = c.loop-call.invariant in
    let s = c.call-in-Some in
    let same : s.new.self ≡ c.loop-call.bundles = c.in-Err.ensures.whole.0 in record {
      made = i.made;
      keeps = λ h at. subst (λ (b : Bundles KeepNone). StandsFor unrecorded b (later h i.made)) (sym same) (i.keeps h at);
      stands = λ history at. subst (λ (b : Bundles KeepNone). Stands unrecorded b.room (history ++ i.made)) (sym same) (i.stands history at);
      goes_on = λ history at turns. (g.S.Session.left c.loop-call.session turns, i.are_made history at turns, refl);
      ends =
          stops c.loop-call.bundles s.new.self c.args.seat c.in-Some.call.now s.new.scratch.packet s.new.scratch.names c.in-Err.why (g.S.Session.left c.loop-call.session) same
          c.in-Err.ensures.calls c.in-Err.ensures.only c.in-Some.ensures;
      memory = i.memory;
      headline = subst (λ (b : Bundles KeepNone). (b ≡ c.args.bundles.now) ⊎ StandsHeadline unrecorded b.room) (sym same) i.headline;
    }

pub returns-in-Err-clause-state : goal.returns-in-Err-clause-state
returns-in-Err-clause-state g c =
    let s = c.call-in-Some in
    after_call c.loop-call.bundles s.new.self c.loop-call.invariant.has c.args.seat c.in-Some.call.now s.new.scratch.packet s.new.scratch.names s.result s.ensures.calls
