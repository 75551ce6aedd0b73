use Rattle.std.proofs.Common.{◌++◌, ℕ, ◌+◌, ◌∙◌, ap, arith}
use Rattle.sfu_driver.specs.Scan.{Whole, between}
use Rattle.sfu_driver.specs.Units.{rule_of}
use Rattle.sfu_driver.proofs.Nexts.{end_ok, judged_whole}
use Rattle.sfu_driver.proofs.units.Units.end_unit.Goals as goal

pub returns-clause-judges : goal.returns-clause-judges
returns-clause-judges g c s stand =
    let rule = rule_of g.C.Cut.scan g.C.Cut.scan_end g.J.Judge.step g.J.Judge.outside g.J.Judge.closing in
    let n = c.args.self.now.number in
    let text = between c.args.start c.args.end (c.args.self.now.kept ++ c.args.came.now) in
    end_ok g.J.Judge.stands rule c.begin.new.self c.judge_between.new.self.judge s n (Whole text) (g.J.Judge.step s n text) c.args.ready.now c.judge_between.new.ready
    (judged_whole rule s n text (omega (arith, c.if-self-gt-MOST_UNITS.false))) (c.in_ok-judge_between.ensures.judges s stand) c.begin.ensures.judge
    (c.begin.ensures.number ∙ ap (λ (k : ℕ). k + 1) c.in_ok-judge_between.ensures.number) c.begin.ensures.kept
