use Rattle.std.proofs.Common.{◌≡◌, ◌∙◌, sym, length, map, Ok}
use Rattle.sfu_together.specs.Acting.{AreDone}
use Rattle.sfu_together.proofs.Seating.{all_came, if_ok}
use Rattle.sfu_together.proofs.cast.play.Goals as goal

pub returns-clause-done : goal.returns-clause-done
returns-clause-done g c =
    let long : length c.in-Ok.ended.items ≡ length c.in_ok-jobs.jobs.items = sym c.in-Ok.ended.ok.0 ∙ (c.in-Ok.ensures.len ∙ c.in_ok-jobs.jobs.ok.0) in
    if_ok (λ dones. map Ok dones.items ≡ c.in-Ok.ended.items) (λ dones. AreDone c.args.seat.now c.args.script.now.actors dones.items) c.all_done.result
    (λ dones ok. all_came c.args.seat.now c.args.script.now.actors c.in_ok-jobs.jobs.items dones.items c.in-Ok.ended.items c.in_ok-jobs.ensures.jobs ok long
    (λ i d low. let gave = (c.in-Ok.ensures.each i d low).1 in (gave.job, gave.job_read, gave.call.met)))
    c.all_done.ensures
