use Rattle.std.proofs.Common.{◌≡◌, ◌++◌, ◌+◌, [], ◌∷◌, List, length, map, take, sym, ap, subst, ◌∙◌, arith}
use Rattle.std.proofs.lemmas.List.{length-map, map-append, take_more}
use Rattle.sfu_script.specs.declared.ports.PortLine.{PortLine}
use Rattle.sfu_serve.specs.Runs.{Before, job_before}
use Rattle.sfu_program.specs.ServePorts.{AreFresh, AreNamedFrom, befores}
use Rattle.sfu_program.proofs.ServeBacks.{fresh_more, named_more}
use Rattle.sfu_program.proofs.serve.ports.bind_each.Goals as goal

pub loop-line-preserved : goal.loop-line-preserved
loop-line-preserved g c =
    let i = c.loop-line.line-index in
    let all = c.args.lines.now in
    let job = c.in_ok-job.job in
    let inv = c.loop-line.invariant in
    let traffic = g.P.Port.Link.traffic in
    let faults = g.P.Port.Link.faults in
    let one = fresh_more (take i all) (befores traffic faults c.loop-line.jobs.items) _ _ inv.fresh c.in_ok-job.ensures.fresh in
    let named : g.P.Port.Link.name job.link ≡ 0 + length (map (λ j. j.link) c.loop-line.jobs.items) =
    (let is = c.in_ok-job.ensures.name in let count = inv.bound in let many = inv.count in let here = c.loop-line.jobs.ok.0 in let long = length-map c.loop-line.jobs.items (λ j. j.link) in omega arith) in
    let more = subst (λ (lines : List PortLine). AreFresh lines (befores traffic faults c.loop-line.jobs.items ++ job_before job.role (traffic job.link) (faults job.link) ∷ [])) (sym (take_more all i _ (omega arith))) one in
    let jobs : befores traffic faults c.push_reserved.new.self.items ≡ befores traffic faults c.loop-line.jobs.items ++ job_before job.role (traffic job.link) (faults job.link) ∷ [] =
    ap (befores traffic faults) c.push_reserved.ensures.items ∙ map-append (λ j. job_before j.role (traffic j.link) (faults j.link)) c.loop-line.jobs.items (job ∷ []) in
    record {
      count = omega arith;
      capacity = omega arith;
      fresh = subst (λ (js : List Before). AreFresh (take (i + 1) all) js) (sym jobs) more;
      names = subst (AreNamedFrom g.P.Port.Link.name 0) (sym (ap (map (λ j. j.link)) c.push_reserved.ensures.items ∙ map-append (λ j. j.link) c.loop-line.jobs.items (job ∷ [])))
          (named_more g.P.Port.Link.name 0 (map (λ j. j.link) c.loop-line.jobs.items) job.link inv.names named);
      bound = c.in_ok-job.ensures.bound ∙ ap (λ n. n + 1) inv.bound;
      back_count = c.in_ok-job.ensures.back_count ∙ inv.back_count;
      returned = c.in_ok-job.ensures.returned ∙ inv.returned;
      kept = c.in_ok-job.ensures.cause.counts ∙ inv.kept;
      never_falls = let n = c.in_ok-job.ensures.cause.never_falls in let m = inv.never_falls in omega arith;
    }
