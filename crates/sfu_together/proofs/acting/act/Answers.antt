use Rattle.std.proofs.Common.{◌∙◌, sym, refl, arith}
use Rattle.sfu_base.specs.Answer.{is_starved}
use Rattle.script_texts.specs.Replies.{answer_text}
use Rattle.sfu_together.proofs.Turning.{all_turned, none_turned, one_turned, worn_turned}
use Rattle.sfu_together.proofs.acting.act.Goals as goal

pub loop-call-init : goal.loop-call-init
loop-call-init g c = record {
  lock = refl;
  turned = none_turned c.args.seat.now c.args.calls.now c.new-kept.result.items c.new-kept.ensures.items c.requires.fits;
  line = refl;
}

pub loop-call-preserved : goal.loop-call-preserved
loop-call-preserved g c =
    let i = c.loop-call.invariant in
    let turn = c.in-Ok.ensures.ok in
    let fed = c.in_ok-entry.ensures.fed in
    record {
      lock = turn.0.0 ∙ i.lock;
      turned = one_turned c.args.seat.now c.loop-call.seat c.turn-turn.new.seat c.args.calls.now c.loop-call.call-index c.call-item.result (is_starved c.in-Ok.turn.reply) c.in-Ok.turn.place
          c.loop-call.kept.items c.put_last.new.list.items c.in_ok-entry.entry _
          turn c.turn-turn.ensures.fits fed
          (λ h gives. c.in_ok-entry.ensures.entry ∙ (λ j. record { actor = sym c.requires.number j; call = c.call-item.result; reply = answer_text (gives fed j) }))
          c.requires.first (omega arith) c.call-item.is c.in_ok-put_last.ensures i.turned;
      line = omega arith;
    }

pub returns-clause-acts : goal.returns-clause-acts
returns-clause-acts g c = let i = c.loop-call.invariant in all_turned c.args.seat.now c.loop-call.seat c.args.calls.now c.loop-call.call-index c.loop-call.kept.items (omega arith) (omega arith) i.turned

pub returns-in_default-clause-acts : goal.returns-in_default-clause-acts
returns-in_default-clause-acts g c = let i = c.loop-call.invariant in worn_turned c.args.seat.now c.loop-call.seat c.turn-turn.new.seat c.args.calls.now c.loop-call.call-index c.loop-call.kept.items (omega arith) c.in_default.ensures.worn.0 i.turned
