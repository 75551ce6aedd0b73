use Rattle.std.proofs.Common.{[]}
use Rattle.sfu_base.specs.Answer.{is_starved}
use Rattle.sfu_base.specs.declared.call.Call.TheVariants as call
use Rattle.cascade.proofs.Staging.{not_starved, stands_after, tick_staged}
use Rattle.cascade.proofs.stream_trial.stage.Stage.tick.Goals as goal

pub returns : goal.returns
returns c past s =
    let fed = not_starved (is_starved c.tick.result) (call.Tick 1 c.args.moment) (λ free. free) c.tick.ensures.memory in
    tick_staged c.args.self.now c.tick.new.self c.take_all.new.room c.take_all-2.new.room c.take_all-3.new.room c.take_all.new.self c.take_all-2.new.self
    c.take_all-3.new.self c.take_all-3.new.scratch c.args.moment past
    (stands_after c.args.self.now.room c.tick.new.self (call.Tick 1 c.args.moment) c.tick.result [] [] past (c.tick.ensures.serves [] []) fed s.room_is)
    c.take_all.ensures.emptied c.take_all-2.ensures.emptied c.take_all-3.ensures.emptied s
