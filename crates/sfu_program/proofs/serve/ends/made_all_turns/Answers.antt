use Rattle.std.proofs.Common.{rules, ◌≡◌, true, false, sym, ap, ◌∙◌, arith, take}
use Rattle.sfu_program.specs.ServeEnds.{all_made, ends_of, is_all}
use Rattle.sfu_program.proofs.ServeLines.{all_made-more, ends_of-more, not_all}
use Rattle.sfu_program.proofs.serve.ends.made_all_turns.Goals as goal

pub returns-then-not-made_all : goal.returns-then-not-made_all
returns-then-not-made_all g c =
    let few : is_all c.session-item.result.end ≡ false = search rules in
    sym (not_all c.args.ended.now c.loop-session.session-index c.session-item.result (omega arith) (ap (λ x. is_all x.end) (sym c.session-item.is) ∙ few))

pub loop-session-preserved : goal.loop-session-preserved
loop-session-preserved g c =
    let one : is_all c.session-item.result.end ≡ true = search rules in
    ap all_made (ends_of-more c.args.ended.now c.loop-session.session-index c.session-item.result (omega arith) c.session-item.is)
    ∙ all_made-more (ends_of (take c.loop-session.session-index c.args.ended.now)) c.session-item.result.end c.loop-session.invariant one
