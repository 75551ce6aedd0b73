use Rattle.std.proofs.Common.{[], ◌∷◌, map, refl, sym, ap, subst, ◌∙◌, arith, length-append}
use Rattle.std.proofs.lemmas.List.{map-append}
use Rattle.sfu_base.specs.Ports.{after_back}
use Rattle.sfu_program.specs.ServePorts.{NoFault, SomeFault, after_backs}
use Rattle.sfu_program.proofs.ServeBacks.{backs_more, backs_none, calm_more, rose_more}
use Rattle.sfu_program.proofs.serve.ports.release_ended.Goals as goal

pub loop-session-init : goal.loop-session-init
loop-session-init g c = record {
  can = tt;
  finite = tt;
  bound = refl;
  back_count = omega arith;
  returned = backs_none (g.P.Ports.returned c.args.ports.now);
  never_falls = omega arith;
  calm = λ none. refl;
  rose = λ none. absurd none;
}

pub loop-session-preserved : goal.loop-session-preserved
loop-session-preserved g c =
    let inv = c.loop-session.invariant in
    let past = c.loop-session.yielded in
    let session = c.in-Some.session in
    let links = map-append (λ e. e.link) past (session ∷ []) in
    let returned = g.P.Ports.returned c.args.ports.now in
    record {
      can = tt;
      finite = tt;
      bound = c.back.ensures.bound ∙ inv.bound;
      back_count = let n = c.back.ensures.back_count in let m = inv.back_count in let k = length-append past (session ∷ []) in omega arith;
      returned = c.back.ensures.returned ∙ (ap (after_back session.link) inv.returned ∙ (backs_more (map (λ e. e.link) past) session.link returned ∙ ap (λ ls. after_backs ls returned) (sym links)));
      never_falls = let n = c.back.ensures.cause.never_falls in let m = inv.never_falls in omega arith;
      calm = λ none. calm_more g.P.Port.Link.faults (map (λ e. e.link) past) session.link (g.P.Ports.faults c.args.ports.now) (g.P.Ports.faults c.loop-session.ports) (g.P.Ports.faults c.back.new.self) inv.calm c.back.ensures.cause
          (subst (NoFault g.P.Port.Link.faults) links none);
      rose = λ some. rose_more g.P.Port.Link.faults (map (λ e. e.link) past) session.link (g.P.Ports.faults c.args.ports.now) (g.P.Ports.faults c.loop-session.ports) (g.P.Ports.faults c.back.new.self) inv.never_falls inv.rose c.back.ensures.cause
          (subst (SomeFault g.P.Port.Link.faults) links some);
    }
