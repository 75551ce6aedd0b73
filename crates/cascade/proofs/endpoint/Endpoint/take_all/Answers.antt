use Rattle.std.proofs.Common.{◌≡◌, ◌<◌, ◌≤◌, ℕ, Bool, List, arith, subst}
use Rattle.sfu_base.specs.declared.call.Call.{Call}
use Rattle.cascade.specs.Staged.{TakesQueued}
use Rattle.cascade.specs.Standing.{StandsAfter, TakesNone, TakesOne}
use Rattle.cascade.specs.Trial.{takes}
use Rattle.cascade.proofs.Staging.{TakesSome, takes_begin, takes_end, takes_on, takes_over}
use Rattle.cascade.proofs.Standing.{TookAll, begins_taking, ends_taking, goes_on_taking, over_taking}
use Rattle.cascade.proofs.endpoint.Endpoint.take_all.Goals as goal

pub takes-init : goal.takes-init
takes-init c = (λ past a. begins_taking c.args.room.now c.args.self.now c.args.subscriber past a, λ past a. takes_begin c.args.room.now c.args.self.now c.args.subscriber past a)

pub returns-then-not-take_one : goal.returns-then-not-take_one
returns-then-not-take_one c =
    let none : (now : List Call) → StandsAfter c.takes.room now → TakesNone c.takes.self c.take_one.new.self c.take_one.new.room c.args.subscriber now
    = λ now s. subst (λ (b : Bool). TakesOne b c.takes.self c.take_one.new.self c.take_one.new.room c.args.subscriber now) c.if-not-take_one.true (c.take_one.ensures.takes now s) in
    let low : c.takes._count < 513 = omega arith in
    let all : (past : List Call) → StandsAfter c.args.room.now past → TookAll c.take_one.new.room c.args.self.now c.take_one.new.self c.args.subscriber past
    = λ past a. ends_taking c.takes._count c.takes.room c.take_one.new.room c.args.self.now c.takes.self c.take_one.new.self c.args.subscriber past low (c.takes.invariant.0 past a) none in
    record {
      room = λ past a. (all past a).room_is;
      fed = λ past a was. (all past a).fed was;
      emptied = λ past a.
          let some = c.takes.invariant.1 past a in
          takes_end c.takes._count c.takes.room c.take_one.new.room c.takes.self c.take_one.new.self c.args.subscriber past some
          (subst (λ (b : Bool). TakesQueued b c.take_one.new.room c.take_one.new.self c.args.subscriber (takes c.takes._count c.args.subscriber past)) c.if-not-take_one.true
          (c.take_one.ensures.queued (takes c.takes._count c.args.subscriber past) some.after));
    }

pub takes-preserved : goal.takes-preserved
takes-preserved c =
    let low : c.takes._count < 513 = omega arith in (
      λ past a. goes_on_taking c.takes._count c.takes.room c.take_one.new.room c.args.self.now c.takes.self c.take_one.new.self c.args.subscriber past low (c.takes.invariant.0 past a)
          (λ now s. subst (λ (b : Bool). TakesOne b c.takes.self c.take_one.new.self c.take_one.new.room c.args.subscriber now) c.if-not-take_one.false (c.take_one.ensures.takes now s)),
      λ past a.
          let some = c.takes.invariant.1 past a in
          takes_on c.takes._count c.takes.room c.take_one.new.room c.takes.self c.take_one.new.self c.args.subscriber past some
          (subst (λ (b : Bool). TakesQueued b c.take_one.new.room c.take_one.new.self c.args.subscriber (takes c.takes._count c.args.subscriber past)) c.if-not-take_one.false
          (c.take_one.ensures.queued (takes c.takes._count c.args.subscriber past) some.after)),
    )

pub returns : goal.returns
returns c =
    let over : 513 ≤ c.takes._count = omega arith in
    let all : (past : List Call) → StandsAfter c.args.room.now past → TookAll c.takes.room c.args.self.now c.takes.self c.args.subscriber past
    = λ past a. over_taking c.takes._count c.takes.room c.args.self.now c.takes.self c.args.subscriber past over (c.takes.invariant.0 past a) in
    let is : c.takes._count ≡ 513 = omega arith in
    record {
      room = λ past a. (all past a).room_is;
      fed = λ past a was. (all past a).fed was;
      emptied = λ past a. absurd (takes_over c.args.room.now c.takes.room c.args.self.now c.takes.self c.args.subscriber past a
          (subst (λ (k : ℕ). TakesSome k c.takes.room c.takes.self c.args.subscriber past) is (c.takes.invariant.1 past a)));
    }
