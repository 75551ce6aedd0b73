use Rattle.std.proofs.Common.{◌++◌, ℕ, List, take, subst, sym, refl, Result}
use Rattle.sfu_driver.specs.declared.cut.Found.{Found}
use Rattle.sfu_driver.specs.declared.halt.Halt.{Halt}
use Rattle.sfu_driver.specs.Scan.{Finds, Whole, between}
use Rattle.sfu_driver.specs.Drive.{Nexts}
use Rattle.sfu_driver.specs.Point.{byte}
use Rattle.sfu_driver.specs.Units.{StandsAt, rule_of}
use Rattle.sfu_driver.proofs.Results.{err_of}
use Rattle.sfu_driver.proofs.Nexts.{next_err, next_more, next_ok, next_outside}
use Rattle.sfu_driver.proofs.units.Units.next.Goals as goal

pub returns-in-More-clause-nexts : goal.returns-in-More-clause-nexts
returns-in-More-clause-nexts g c =
    let rule = rule_of g.C.Cut.scan g.C.Cut.scan_end g.J.Judge.step g.J.Judge.outside g.J.Judge.closing in
    let kept = subst (λ (xs : List ℕ). Finds (g.C.Cut.scan c.args.self.now.number) xs c.args.piece.now c.find.result) c.bytes.ensures.bytes c.find.ensures in
    let finds = subst (λ (f : Found). Finds (g.C.Cut.scan c.args.self.now.number) c.args.self.now.kept c.args.piece.now f) c.in-More.is kept in
    next_more g.J.Judge.stands rule c.args.self.now _ c.args.piece.now c.args.ready.now finds.0 refl refl c.append.ensures

pub returns-in_ok-end_unit-in-Whole-clause-nexts : goal.returns-in_ok-end_unit-in-Whole-clause-nexts
returns-in_ok-end_unit-in-Whole-clause-nexts g c =
    let rule = rule_of g.C.Cut.scan g.C.Cut.scan_end g.J.Judge.step g.J.Judge.outside g.J.Judge.closing in
    let kept = subst (λ (xs : List ℕ). Finds (g.C.Cut.scan c.args.self.now.number) xs c.args.piece.now c.find.result) c.bytes.ensures.bytes c.find.ensures in
    let finds = subst (λ (f : Found). Finds (g.C.Cut.scan c.args.self.now.number) c.args.self.now.kept c.args.piece.now f) c.in-Whole.is kept in
    next_ok g.J.Judge.stands rule c.args.self.now c.end_unit.new.self c.args.piece.now c.args.ready.now c.end_unit.new.ready c.in-Whole.count
    (Whole (between c.in-Whole.start c.in-Whole.end (c.args.self.now.kept ++ take c.in-Whole.count c.args.piece.now))) tt finds.0 c.in_ok-end_unit-in-Whole.ensures.judges

pub returns-in_err-end_unit-in-Whole-clause-nexts : goal.returns-in_err-end_unit-in-Whole-clause-nexts
returns-in_err-end_unit-in-Whole-clause-nexts g c =
    let rule = rule_of g.C.Cut.scan g.C.Cut.scan_end g.J.Judge.step g.J.Judge.outside g.J.Judge.closing in
    let kept = subst (λ (xs : List ℕ). Finds (g.C.Cut.scan c.args.self.now.number) xs c.args.piece.now c.find.result) c.bytes.ensures.bytes c.find.ensures in
    let finds = subst (λ (f : Found). Finds (g.C.Cut.scan c.args.self.now.number) c.args.self.now.kept c.args.piece.now f) c.in-Whole.is kept in
    let err = c.in_err-end_unit-in-Whole.field-0.0 in
    let same = err_of c.from_residual.result err c.from_residual.ensures.1 in
    λ point stand.
    subst (λ (r : Result ℕ Halt). Nexts (StandsAt g.J.Judge.stands) (byte rule) point c.args.piece.now c.end_unit.new.self c.args.ready.now c.end_unit.new.ready r) (sym same)
    (next_err g.J.Judge.stands rule c.args.self.now c.end_unit.new.self c.args.piece.now c.args.ready.now c.end_unit.new.ready c.in-Whole.count
    (Whole (between c.in-Whole.start c.in-Whole.end (c.args.self.now.kept ++ take c.in-Whole.count c.args.piece.now))) err tt finds.0 c.in_err-end_unit-in-Whole.ensures.judges point stand)

pub returns-in-Outside-clause-nexts : goal.returns-in-Outside-clause-nexts
returns-in-Outside-clause-nexts g c =
    let rule = rule_of g.C.Cut.scan g.C.Cut.scan_end g.J.Judge.step g.J.Judge.outside g.J.Judge.closing in
    let kept = subst (λ (xs : List ℕ). Finds (g.C.Cut.scan c.args.self.now.number) xs c.args.piece.now c.find.result) c.bytes.ensures.bytes c.find.ensures in
    let finds = subst (λ (f : Found). Finds (g.C.Cut.scan c.args.self.now.number) c.args.self.now.kept c.args.piece.now f) c.in-Outside.is kept in
    next_outside g.J.Judge.stands rule c.args.self.now c.args.self.now c.args.self.now.judge c.args.piece.now c.args.ready.now c.refuse.new.ready
    c.in-Outside.count c.refuse.result finds c.refuse.ensures.judges
