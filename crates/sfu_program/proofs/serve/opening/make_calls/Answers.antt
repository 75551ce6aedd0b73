use Rattle.std.proofs.Common.{◌≡◌, ◌++◌, ◌+◌, [], ◌∷◌, ℕ, List, take, sym, ap, subst, ◌∙◌, arith, append_assoc}
use Rattle.std.proofs.lemmas.List.{take_more}
use Rattle.sfu_base.specs.declared.call.Call.{Call}
use Rattle.sfu_program.specs.ServeOpening.{HasMade, first_text, next_line}
use Rattle.sfu_program.proofs.ServeTurns.{first_more}
use Rattle.sfu_program.proofs.serve.opening.make_calls.Goals as goal

pub loop-call-preserved : goal.loop-call-preserved
loop-call-preserved g c =
    let i = c.loop-call.call-index in
    let calls = c.args.calls.now in
    let call = c.call-item.result in
    let past = take i calls in
    let more : take (i + 1) calls ≡ past ++ call ∷ [] = take_more calls i call (omega arith) ∙ ap (λ (x : Call). past ++ x ∷ []) (sym c.call-item.is) in
    let one = c.in_ok-make_call.ensures.made past c.loop-call.invariant.made in
    record {
      made = subst (λ (cs : List Call). HasMade c.args.turns.now cs c.make_call.new.seat) (sym more) one.0;
      text = one.1 ∙ (ap (λ (text : List ℕ). text ++ next_line past call) c.loop-call.invariant.text
          ∙ (append_assoc c.args.ready.now (first_text past) (next_line past call) ∙ ap (λ (text : List ℕ). c.args.ready.now ++ text) (sym (first_more past call) ∙ ap first_text (sym more))));
      fits = c.make_call.ensures.fits;
    }
