use Rattle.std.proofs.Common.{List, [], refl}
use Rattle.sfu_base.specs.declared.call.Call.{Call}
use Rattle.sfu_base.specs.declared.call.Call.TheVariants as call
use Rattle.sfu_base.specs.declared.call.Kind.TheVariants.{Layered, Plain}
use Rattle.cascade.specs.Calls.{and_call, wish_for}
use Rattle.cascade.specs.Standing.{StandsAfter}
use Rattle.cascade.proofs.Opening.{joins}
use Rattle.cascade.proofs.Standing.{stands_after}
use Rattle.cascade.proofs.two_rooms.open_second.Goals as goal

pub returns : goal.returns
returns c =
    let p1 : List Call = and_call [] (call.Publish 1 (Layered 4) 0x22222222 50) in
    let p2 : List Call = and_call p1 (call.Publish 2 Plain 0x22222223 50) in
    let p3 : List Call = and_call p2 (call.Join 1 1 0x33333333 0 (wish_for 1 1)) in
    let p4 : List Call = and_call p3 (call.Join 2 1 0x33333334 0 (wish_for 0 0)) in
    let s0 : StandsAfter c.new-room.result [] = record { history = []; stands = c.new-room.ensures.stands; are = refl } in
    let s1 = stands_after c.new-room.result c.publish.new.self (call.Publish 1 (Layered 4) 0x22222222 50) c.publish.result [] [] [] (c.publish.ensures.serves [] []) c.in_ok-found.ensures s0 in
    let s2 = stands_after c.publish.new.self c.publish-2.new.self (call.Publish 2 Plain 0x22222223 50) c.publish-2.result [] [] p1 (c.publish-2.ensures.serves [] []) c.in_ok-found-2.ensures s1 in
    let s3 = joins c.publish-2.new.self c.join.new.self 1 1 0x33333333 1 1 c.wish.result c.join.result p2 c.wish.ensures (c.join.ensures.serves [] []) c.in_ok-found-3.ensures s2 in
    let s4 = joins c.join.new.self c.join-2.new.self 2 1 0x33333334 0 0 c.wish-2.result c.join-2.result p3 c.wish-2.ensures (c.join-2.ensures.serves [] []) c.in_ok-found-4.ensures s3 in
    joins c.join-2.new.self c.join-3.new.self 3 2 0x33333335 0 0 c.wish-3.result c.join-3.result p4 c.wish-3.ensures (c.join-3.ensures.serves [] []) c.in_ok-found-5.ensures s4
