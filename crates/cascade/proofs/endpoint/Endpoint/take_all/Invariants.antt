use Rattle.std.proofs.Common.{List}
use Rattle.sfu_base.specs.declared.call.Call.{Call}
use Rattle.cascade.specs.Staged.{IsFedAfter}
use Rattle.cascade.specs.Standing.{StandsAfter}
use Rattle.cascade.proofs.Staging.{TakesSome}
use Rattle.cascade.proofs.Standing.{HasTaken}
use Rattle.cascade.proofs.endpoint.Endpoint.take_all.Given as goal

abbrev pub invariant-takes : goal.invariant-takes
invariant-takes l =
    ((past : List Call) → StandsAfter l.initial.room past → HasTaken l._count l.room l.initial.self l.self l.subscriber past)
    × ((past : List Call) → IsFedAfter l.initial.room l.initial.self l.subscriber past → TakesSome l._count l.room l.self l.subscriber past)
