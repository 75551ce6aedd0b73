use Rattle.std.proofs.Common.{ℕ, List, Bool, Result, Ok, Err, cond, subst, sym}
use Rattle.std.proofs.lemmas.Bool.{ne_eqb}
use Rattle.sfu_driver.specs.Drive.{Judges}
use Rattle.sfu_driver.specs.Outcome.{Outcome, goes_on}
use Rattle.sfu_driver.specs.declared.halt.Halt.{Halt}
use Rattle.sfu_driver.specs.declared.halt.Halt.TheVariants as halt
use Rattle.room_core.specs.History.{Entry}
use Rattle.room_core.specs.Serves.{Stands}
use Rattle.script_records.specs.declared.form.Form.TheVariants.{Records}
use Rattle.script_records.specs.Script.{call_in}
use Rattle.script_run.specs.declared.server.CallServer.{CallServer}
use Rattle.script_run.specs.declared.server.RecordServer.{RecordServer}
use Rattle.script_run.specs.Run.{reply_to, unrecorded}
use Rattle.script_run.proofs.server.RecordServerJudge.judge.Goals as goal

-- what the call server does, the server of records does
of_calls : (due : Outcome (List Entry)) (server : CallServer) (ready ready' : List ℕ) (r : Result (Unit {0}) Halt)
    → Judges (λ (calls : CallServer) (later : List Entry). Stands unrecorded calls.room later) due server ready ready' r
    → Judges (λ (records : RecordServer) (later : List Entry). Stands unrecorded records.server.room later) due (record { server = server }) ready ready' r
of_calls due server ready ready' (Ok x) judges = judges
of_calls due server ready ready' (Err (halt.Ended why)) judges = judges
of_calls due server ready ready' (Err halt.Starved) judges = judges

pub returns-clause-judges : goal.returns-clause-judges
returns-clause-judges c state stands =
    of_calls _ c.serve.new.self c.args.ready.now c.serve.new.ready c.serve.result
    (subst (λ (silent : Bool). Judges (λ (calls : CallServer) (later : List Entry). Stands unrecorded calls.room later)
    (cond silent (goes_on state) (reply_to Records (call_in Records c.args.body.now) c.args.number state)) c.serve.new.self c.args.ready.now c.serve.new.ready c.serve.result)
    (sym (ne_eqb c.args.number 0 c.if-number-eq0.false)) (c.serve.ensures.judges state stands))
