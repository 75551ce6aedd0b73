use Rattle.std.proofs.Common.{◌∙◌, ◌∷◌, [], ap, arith, length, length-append}
use Rattle.turn_lock.specs.Known.{another, counted}
use Rattle.sfu_together.specs.Acting.{counting}
use Rattle.sfu_together.proofs.Seating.{all_ready, no_jobs, one_job}
use Rattle.sfu_together.proofs.cast.cast.Goals as goal

pub loop-actor-init : goal.loop-actor-init
loop-actor-init c =
    let none = c.new-jobs.ensures.items in
    record {
      seat = ap (counting c.args.seat.now) c.requires.alone;
      fits = c.requires.fits;
      jobs = no_jobs c.args.seat.now c.new-jobs.result.items none;
      count = (let k = ap length none in omega arith);
    }

pub loop-actor-preserved : goal.loop-actor-preserved
loop-actor-preserved c =
    let i = c.loop-actor.invariant in
    let old = c.split-own.ensures.old in
    let new = c.split-own.ensures.new in
    let fits = c.split-own.ensures.fits in
    record {
      seat = old ∙ ap counted i.seat;
      fits = fits.0;
      jobs = one_job c.args.seat.now c.loop-actor.jobs.items c.put_last.new.list.items (record { seat = c.split-own.result; actor = c.loop-actor.actor }) i.jobs c.in_ok-put_last.ensures (new ∙ ap another i.seat) fits.1 i.count;
      count = (let k = ap length c.in_ok-put_last.ensures in let l = length-append c.loop-actor.jobs.items (record { seat = c.split-own.result; actor = c.loop-actor.actor } ∷ []) in let h = i.count in omega arith);
    }

pub returns-clause-ready : goal.returns-clause-ready
returns-clause-ready c =
    let i = c.loop-actor.invariant in
    all_ready c.args.seat.now c.loop-actor.jobs.items c.args.turns.now i.jobs (let k = i.count in omega arith) c.requires.lock c.requires.first
