use Rattle.std.proofs.Common.{◌≡◌, ◌++◌, ◌+◌, ℕ, List, length, take, sym, ap, subst, ◌∙◌, arith, append_assoc}
use Rattle.std.proofs.lemmas.List.{length-map, length-take-le}
use Rattle.sfu_program.specs.ServeEnds.{IsUnworn, end_line, ends_of, ends_text}
use Rattle.sfu_program.proofs.ServeLines.{ends_of-more, ends_text-more, unworn_at}
use Rattle.sfu_program.proofs.serve.ends.add_ends.Goals as goal

pub add_end-requires : goal.add_end-requires
add_end-requires g c = subst (λ x. IsUnworn x.end) (sym c.session-item.is) (unworn_at c.args.ended.now c.loop-session.session-index c.session-item.result (omega arith) c.requires.unworn)

pub loop-session-preserved : goal.loop-session-preserved
loop-session-preserved g c =
    let i = c.loop-session.session-index in
    let all = c.args.ended.now in
    let e = c.session-item.result in
    let past = ends_of (take i all) in
    let many : length past ≡ i = length-map (take i all) (λ x. x.end) ∙ length-take-le i all (omega arith) in
    let same : c.loop-session.number + 1 ≡ 1 + length past = (let n = c.loop-session.invariant.number in omega arith) in
    record {
      number = ap (λ (n : ℕ). n + 1) c.loop-session.invariant.number;
      text = c.in_ok-add_end.ensures ∙ (ap (λ (text : List ℕ). text ++ end_line (c.loop-session.number + 1) e.end) c.loop-session.invariant.text
          ∙ (append_assoc c.args.ready.now (ends_text 1 past) (end_line (c.loop-session.number + 1) e.end)
          ∙ ap (λ (text : List ℕ). c.args.ready.now ++ text) (ap (λ (n : ℕ). ends_text 1 past ++ end_line n e.end) same ∙ (sym (ends_text-more past e.end 1) ∙ ap (ends_text 1) (sym (ends_of-more all i e (omega arith) c.session-item.is))))));
    }
