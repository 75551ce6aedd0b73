use Rattle.std.proofs.Common.{◌≡◌, ◌-◌, ◌<◌, ◌∙◌, sym, ap, length, arith, rules, List}
use mathlib.Core.Option.{some}
use lib.ListN.{get_elem?}
use Rattle.sfu_base.specs.declared.call.Call.{Call}
use Rattle.sfu_together.proofs.Seating.{part_at}
use Rattle.sfu_together.proofs.cast.perform.Goals as goal

pub returns : goal.returns
returns g c =
    let low : c.from.result - 1 < length c.args.script.now.actors = search rules in
    let from : c.from.result ≡ c.args.job.actor = c.from.ensures in
    let some_actor = c.requires.ready.some in
    let same : c.index-script-from.result ≡ c.calls-calls.result.now = c.index-script-from.is ∙ sym c.calls-calls.ensures in
    let here : get_elem? c.args.script.now.actors (c.from.result - 1) ≡ some c.index-script-from.result = part_at c.args.script.now.actors (c.from.result - 1) c.index-script-from.result low c.index-script-from.is in
    record {
      index = c.from.result - 1;
      actor = omega arith;
      calls = c.calls-calls.result.now;
      are = here ∙ ap (λ (x : List Call). some x) same;
      acts = c.in_ok-kept.ensures.acts;
      fits = c.in_ok-kept.ensures.fits;
    }
