use Rattle.std.proofs.Common.{◌≡◌, ℕ, List, ◌++◌, sym, ap, ◌∙◌, append-nil, rules, false, Some}
use Rattle.sfu_script.specs.Reading.{bytes_of}
use Rattle.sfu_script.specs.Skipped.{is_skipped}
use Rattle.sfu_driver.specs.Outcome.{Outcome}
use Rattle.sfu_commands.specs.Check.{Reception, with_one}
use Rattle.sfu_commands.proofs.Checking.{goes_with_one, has_one}
use Rattle.sfu_commands.proofs.packet_check.PacketJudgeJudge.judge.Goals as goal

pub returns-in-Ok-clause-judges : goal.returns-in-Ok-clause-judges
returns-in-Ok-clause-judges c = λ state has.
    let now = c.args.self.now.receiver in
    let packet = c.bytes.result.now in
    let told : is_skipped c.args.line.now ≡ false = search rules in
    let read : bytes_of c.args.line.now ≡ Some c.read.new.out = search rules in
    let said : bytes_of c.args.line.now ≡ Some packet = read ∙ ap (λ (p : List ℕ). Some p) (sym c.bytes.ensures.bytes) in
    let e = c.in-Ok.ensures in
    let goes = goes_with_one now c.feed.new.self state c.args.number c.args.line.now packet has e.id e.stands e.answer told said in (
      with_one state packet,
      ap (λ (o : Outcome Reception). o.result) goes,
      has_one now c.feed.new.self state c.args.number c.args.line.now packet has e.id e.stands e.answer,
      sym (ap (λ (o : Outcome Reception). c.args.ready.now ++ o.text) goes ∙ append-nil c.args.ready.now),
    )
