use Rattle.std.proofs.Common.{◌≤◌, length, refl, arith}
use Rattle.std.proofs.lemmas.List.{length-map}
use Rattle.sfu_serve.specs.Runs.{job_before}
use Rattle.sfu_program.specs.ServePorts.{befores}
use Rattle.sfu_program.specs.Serve.{afters}
use Rattle.sfu_program.proofs.ServeRun.{served}
use Rattle.sfu_program.proofs.serve.running.run_all.Goals as goal

pub returns-clause-served : goal.returns-clause-served
returns-clause-served g c = λ calls made few.
    let traffic = g.L.Link.traffic in
    let faults = g.L.Link.faults in
    let many : length (befores traffic faults c.args.jobs.items) ≤ 64 = (let k = length-map c.args.jobs.items (λ job. job_before job.role (traffic job.link) (faults job.link)) in let n = c.args.jobs.ok.0 in let m = c.requires.few in omega arith) in
    served _ (λ recorder. refl) c.args.turns calls c.args.limit c.args.seat c.run_sessions.new.seat (befores traffic faults c.args.jobs.items) (afters traffic faults c.in_ok-ended.ended.items) made few many c.requires.limited
    c.in_ok-ended.ensures.run c.close-room.ensures.found c.close-room.ensures.stands.well_formed
