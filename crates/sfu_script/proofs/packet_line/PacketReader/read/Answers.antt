use Rattle.std.proofs.Common.{◌≡◌, rules, List, ℕ, Some, Result, Ok, Err}
use Rattle.std.specs.Prelude.{OnErr}
use Rattle.script_texts.specs.Grammar.{Fills, Hex}
use Rattle.sfu_script.specs.Reading.{bytes_of}
use Rattle.sfu_script.proofs.Filled.{bytes_found, bytes_again}
use Rattle.sfu_script.proofs.Outcomes.{nothing}
use Rattle.sfu_script.proofs.packet_line.PacketReader.read.Goals as goal

on_err : {A E : Type 0} (r : Result A E) (P : Type 0) → P → OnErr r P
on_err (Ok x) P h = tt
on_err (Err e) P h = h

pub returns-clause-ok : goal.returns-clause-ok
returns-clause-ok c =
    let is : bytes_of c.args.line.now ≡ Some c.fill.new.self = search rules in
    bytes_found c.args.line.now c.fill.new.self is

pub returns-in_err-count-clause-none : goal.returns-in_err-count-clause-none
returns-in_err-count-clause-none c =
    on_err c.from_residual.result _
    (nothing (λ (bytes : List ℕ). Fills (Hex bytes) c.args.line.now) (bytes_of c.args.line.now) (λ bytes h. bytes_again c.args.line.now bytes h) c.in_err-count.ensures)
