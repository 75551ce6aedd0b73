use Rattle.std.proofs.Common.{[], ◌∷◌, map, refl, sym, ap, subst, ◌∙◌, arith, length-append}
use Rattle.std.proofs.lemmas.List.{map-append}
use Rattle.sfu_base.specs.Ports.{after_back}
use Rattle.sfu_program.specs.ServePorts.{NoFault, after_backs}
use Rattle.sfu_program.proofs.ServeBacks.{backs_more, backs_none, calm_more}
use Rattle.sfu_program.proofs.serve.ports.release.Goals as goal

pub loop-job-init : goal.loop-job-init
loop-job-init g c = record {
  can = tt;
  finite = tt;
  bound = refl;
  back_count = omega arith;
  returned = backs_none (g.P.Ports.returned c.args.ports.now);
  calm = λ none. refl;
  never_falls = omega arith;
}

pub loop-job-preserved : goal.loop-job-preserved
loop-job-preserved g c =
    let inv = c.loop-job.invariant in
    let past = c.loop-job.yielded in
    let job = c.in-Some.job in
    let links = map-append (λ j. j.link) past (job ∷ []) in
    let returned = g.P.Ports.returned c.args.ports.now in
    record {
      can = tt;
      finite = tt;
      bound = c.back.ensures.bound ∙ inv.bound;
      back_count = let n = c.back.ensures.back_count in let m = inv.back_count in let k = length-append past (job ∷ []) in omega arith;
      returned = c.back.ensures.returned ∙ (ap (after_back job.link) inv.returned ∙ (backs_more (map (λ j. j.link) past) job.link returned ∙ ap (λ ls. after_backs ls returned) (sym links)));
      calm = λ none. calm_more g.P.Port.Link.faults (map (λ j. j.link) past) job.link (g.P.Ports.faults c.args.ports.now) (g.P.Ports.faults c.loop-job.ports) (g.P.Ports.faults c.back.new.self) inv.calm c.back.ensures.cause
          (subst (NoFault g.P.Port.Link.faults) links none);
      never_falls = let n = c.back.ensures.cause.never_falls in let m = inv.never_falls in omega arith;
    }
