use Rattle.std.proofs.Common.{◌≡◌, ℕ, List, [], sym, subst, ◌∙◌}
use Rattle.sfu_base.specs.Answer.{is_starved}
use Rattle.sfu_base.specs.declared.call.Call.{Call}
use Rattle.sfu_base.specs.declared.call.Call.TheVariants as call
use Rattle.room_core.specs.Given.{given_to}
use Rattle.cascade.specs.Calls.{and_call}
use Rattle.cascade.specs.Standing.{WasFed}
use Rattle.cascade.proofs.Standing.{given_tick, not_starved, stands_after}
use Rattle.cascade.proofs.two_rooms.TwoRooms.tick_second.Goals as goal

-- neither tick returns a packet
given_ticks : (n moment : ℕ) (past : List Call) → given_to n (and_call (and_call past (call.Tick 1 moment)) (call.Tick 2 moment)) ≡ given_to n past
given_ticks n moment past = given_tick n 2 moment (and_call past (call.Tick 1 moment)) ∙ given_tick n 1 moment past

pub returns : goal.returns
returns c both s =
    let fed1 = not_starved (is_starved c.tick.result) (call.Tick 1 c.args.moment) (λ free. free) c.tick.ensures.memory in
    let fed2 = not_starved (is_starved c.tick-2.result) (call.Tick 2 c.args.moment) (λ free. free) c.tick-2.ensures.memory in
    let s1 = stands_after c.args.self.now.second c.tick.new.self (call.Tick 1 c.args.moment) c.tick.result [] [] both.second (c.tick.ensures.serves [] []) fed1 s.second in
    record {
      first = s.first;
      second = stands_after c.tick.new.self c.tick-2.new.self (call.Tick 2 c.args.moment) c.tick-2.result [] [] (and_call both.second (call.Tick 1 c.args.moment)) (c.tick-2.ensures.serves [] []) fed2 s1;
      one = subst (WasFed c.args.self.now.one) (sym (given_ticks 1 c.args.moment both.second)) s.one;
      two = subst (WasFed c.args.self.now.two) (sym (given_ticks 2 c.args.moment both.second)) s.two;
      three = subst (WasFed c.args.self.now.three) (sym (given_ticks 3 c.args.moment both.second)) s.three;
    }
