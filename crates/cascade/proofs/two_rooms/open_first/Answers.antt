use Rattle.std.proofs.Common.{List, [], refl}
use Rattle.sfu_base.specs.declared.call.Call.{Call}
use Rattle.sfu_base.specs.declared.call.Call.TheVariants as call
use Rattle.sfu_base.specs.declared.call.Kind.TheVariants.{Layered}
use Rattle.cascade.specs.Calls.{and_call, wish_for}
use Rattle.cascade.specs.Standing.{StandsAfter}
use Rattle.cascade.proofs.Opening.{joins}
use Rattle.cascade.proofs.Standing.{stands_after}
use Rattle.cascade.proofs.two_rooms.open_first.Goals as goal

pub returns : goal.returns
returns c =
    let p1 : List Call = and_call [] (call.Publish 1 (Layered 4) 0x11111111 50) in
    let p2 : List Call = and_call p1 (call.Join 1 1 0x22222222 0 (wish_for 1 1)) in
    let s0 : StandsAfter c.new-room.result [] = record { history = []; stands = c.new-room.ensures.stands; are = refl } in
    let s1 = stands_after c.new-room.result c.publish.new.self (call.Publish 1 (Layered 4) 0x11111111 50) c.publish.result [] [] [] (c.publish.ensures.serves [] []) c.in_ok-found.ensures s0 in
    let s2 = joins c.publish.new.self c.join.new.self 1 1 0x22222222 1 1 c.wish.result c.join.result p1 c.wish.ensures (c.join.ensures.serves [] []) c.in_ok-found-2.ensures s1 in
    joins c.join.new.self c.join-2.new.self 2 1 0x22222223 1 1 c.wish-2.result c.join-2.result p2 c.wish-2.ensures (c.join-2.ensures.serves [] []) c.in_ok-found-3.ensures s2
