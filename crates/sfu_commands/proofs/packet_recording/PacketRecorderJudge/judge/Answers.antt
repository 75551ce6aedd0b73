use Rattle.std.proofs.Common.{◌≡◌, ℕ, List, [], ◌∷◌, ◌++◌, sym, ap, ap₂, subst, ◌∙◌, append-nil, cond, rules, Bool, false, Option, Some, None, Result, Ok, Err}
use Rattle.std.specs.Prelude.{MatchResult}
use Rattle.std.specs.Result.{is_err}
use Rattle.sfu_script.specs.declared.lines.NoLine.{NoLine}
use Rattle.ivf_recorder.specs.declared.fault.RecordFault.{RecordFault}
use Rattle.ivf_recorder.specs.declared.recording.Recording.{Recording}
use Rattle.ivf_recorder.specs.Frames.{fault_over}
use Rattle.sfu_script.specs.Reading.{bytes_of}
use Rattle.sfu_script.specs.Skipped.{is_skipped}
use Rattle.sfu_driver.specs.Outcome.{Outcome, goes_on}
use Rattle.sfu_commands.specs.Check.{Reception, with_one}
use Rattle.sfu_commands.specs.Record.{HasRecorded, recorded, recorded_as, records}
use Rattle.sfu_commands.proofs.packet_recording.PacketRecorderJudge.judge.Goals as goal

ok_value : (P Q : Type 0) (r : Result (Unit {0}) NoLine) → false ≡ is_err r → MatchResult r (λ _. P) (λ _. Q) → P
ok_value P Q (Ok x) e h = h
ok_value P Q (Err x) e h = absurd cc

pub returns-in-Ok-clause-judges : goal.returns-in-Ok-clause-judges
returns-in-Ok-clause-judges c = λ state has.
    let packet = c.bytes.result.now in
    let number = c.args.number in
    let told : is_skipped c.args.line.now ≡ false = search rules in
    let read : bytes_of c.args.line.now ≡ Some c.read.new.out =
    ok_value (bytes_of c.args.line.now ≡ Some c.read.new.out) (bytes_of c.args.line.now ≡ None) c.read.result c.if-is_err.ensures.value c.read.ensures.value in
    let said : bytes_of c.args.line.now ≡ Some packet = read ∙ ap (λ (p : List ℕ). Some p) (sym c.bytes.ensures.bytes) in
    let h = subst (λ (o : Option Recording). HasRecorded o state) c.in-Some.is has in
    let fed = c.in-Ok.ensures.feeds state.packets h.1 in
    let goes : recorded state number c.args.line.now ≡ goes_on (with_one state packet) =
    ap₂ (λ (skipped : Bool) (p : Option (List ℕ)). cond skipped (goes_on state) (records p number state)) told said
    ∙ ap (λ (o : Option RecordFault). recorded_as o number (with_one state packet))
    (ap (λ (n : ℕ). fault_over n (state.packets ++ packet ∷ [])) (sym h.0) ∙ fed.1) in (
      with_one state packet,
      ap (λ (o : Outcome Reception). o.result) goes,
      (c.in-Ok.ensures.id ∙ h.0, fed.0),
      sym (ap (λ (o : Outcome Reception). c.args.ready.now ++ o.text) goes ∙ append-nil c.args.ready.now),
    )
