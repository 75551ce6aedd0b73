use Rattle.std.specs.Prelude.{IsTrue}
use Rattle.std.proofs.Common.{◌∙◌, subst, ◌<◌, ◌+◌, None, get_or, drop, length, arith}
use Rattle.std.proofs.lemmas.List.{drop_more}
use Rattle.simulcast.proofs.LegsInTurn.{pump_goes_on, pump_stops}
use Rattle.simulcast.proofs.draining.drain_legs.Goals as goal

pub loop-leg-preserved : goal.loop-leg-preserved
loop-leg-preserved g c =
    let within : c.loop-leg.leg-index < length c.args.legs.now = omega arith in
    let counts = c.in-Ok.ensures.few in
    record {
      way = λ s there.
          let on = c.loop-leg.invariant.way s there in
          pump_goes_on g.R.Recorder.noted c.loop-leg.room c.drain_leg.new.room c.loop-leg.bundle c.drain_leg.new.bundle (drop c.loop-leg.leg-index c.args.legs.now) c.args.legs.now
          (drop (c.loop-leg.leg-index + 1) c.args.legs.now) (get_or c.args.legs.now c.loop-leg.leg-index None) c.loop-leg.taken s on
          (drop_more c.args.legs.now c.loop-leg.leg-index None within) c.in-Ok.count (c.in-Ok.ensures.pumps on.now on.there);
      few = (let before = c.loop-leg.invariant.few in omega arith);
      recorder = c.in-Ok.ensures.recorder ∙ c.loop-leg.invariant.recorder;
      grew = (let before = c.loop-leg.invariant.grew in let more = c.in-Ok.ensures.grew in omega arith);
      by = (let before = c.loop-leg.invariant.by in let more = c.in-Ok.ensures.by in omega arith);
    }

pub returns-in-Err-clause-pumps : goal.returns-in-Err-clause-pumps
returns-in-Err-clause-pumps g c s there =
    let within : c.loop-leg.leg-index < length c.args.legs.now = omega arith in
    let on = c.loop-leg.invariant.way s there in
    pump_stops g.R.Recorder.noted c.loop-leg.room c.drain_leg.new.room c.loop-leg.bundle c.drain_leg.new.bundle (drop c.loop-leg.leg-index c.args.legs.now) c.args.legs.now
    (drop (c.loop-leg.leg-index + 1) c.args.legs.now) (get_or c.args.legs.now c.loop-leg.leg-index None) c.loop-leg.taken s on
    (drop_more c.args.legs.now c.loop-leg.leg-index None within) (c.in-Err.ensures.pumps on.now on.there)

pub returns-in-Err-clause-memory : goal.returns-in-Err-clause-memory
returns-in-Err-clause-memory g c = λ e. subst IsTrue c.loop-leg.invariant.recorder (c.in-Err.ensures.memory e)

pub returns-in-Err-clause-recorder : goal.returns-in-Err-clause-recorder
returns-in-Err-clause-recorder g c = c.in-Err.ensures.recorder ∙ c.loop-leg.invariant.recorder

pub returns-clause-recorder : goal.returns-clause-recorder
returns-clause-recorder g c = c.loop-leg.invariant.recorder
