use Rattle.std.proofs.Common.{ℕ, List, [], refl, subst}
use Rattle.sfu_base.specs.declared.call.Call.{Call}
use Rattle.sfu_base.specs.declared.call.Call.TheVariants as call
use Rattle.sfu_base.specs.declared.call.Kind.TheVariants.{Layered}
use Rattle.sfu_base.specs.declared.call.Reply.{Reply}
use Rattle.sfu_base.specs.declared.frame.Wish.{Wish}
use Rattle.sfu_base.specs.Answer.{is_starved}
use Rattle.std.proofs.Common.{◌≡◌, false}
use Rattle.room_core.specs.declared.recorder.KeepNone.{KeepNone}
use Rattle.room_core.specs.declared.room.Room.{Room}
use Rattle.room_core.specs.Serves.{Serves}
use Rattle.cascade.specs.Standing.{StandsAfter, unrecorded}
use Rattle.cascade.specs.Calls.{and_call, wish_for}
use Rattle.cascade.proofs.Staging.{stands_after}
use Rattle.cascade.proofs.stream_trial.stage.open.Goals as goal

joins : (old new : Room KeepNone) (n ssrc spatial temporal : ℕ) (wish : Wish) (r : Reply) (past : List Call) → wish ≡ wish_for spatial temporal
    → Serves unrecorded old new 0 (call.Join n 1 ssrc 0 wish) r [] [] → is_starved r ≡ false → StandsAfter old past
    → StandsAfter new (and_call past (call.Join n 1 ssrc 0 (wish_for spatial temporal)))
joins old new n ssrc spatial temporal wish r past is serves fed s =
    subst (λ (w : Wish). StandsAfter new (and_call past (call.Join n 1 ssrc 0 w))) is (stands_after old new (call.Join n 1 ssrc 0 wish) r [] [] past serves fed s)

pub returns : goal.returns
returns c =
    let p1 : List Call = and_call [] (call.Publish 1 (Layered 4) 0x11111111 50) in
    let p2 : List Call = and_call p1 (call.Join 1 1 0x22222222 0 (wish_for 1 1)) in
    let p3 : List Call = and_call p2 (call.Join 2 1 0x22222223 0 (wish_for 1 0)) in
    let s0 : StandsAfter c.new-room.result [] = record { history = []; stands = c.new-room.ensures.stands; are = refl } in
    let s1 = stands_after c.new-room.result c.publish.new.self (call.Publish 1 (Layered 4) 0x11111111 50) c.publish.result [] [] [] (c.publish.ensures.serves [] []) c.in_ok-found.ensures s0 in
    let s2 = joins c.publish.new.self c.join.new.self 1 0x22222222 1 1 c.wish.result c.join.result p1 c.wish.ensures (c.join.ensures.serves [] []) c.in_ok-found-2.ensures s1 in
    let s3 = joins c.join.new.self c.join-2.new.self 2 0x22222223 1 0 c.wish-2.result c.join-2.result p2 c.wish-2.ensures (c.join-2.ensures.serves [] []) c.in_ok-found-3.ensures s2 in
    joins c.join-2.new.self c.join-3.new.self 3 0x22222224 0 0 c.wish-3.result c.join-3.result p3 c.wish-3.ensures (c.join-3.ensures.serves [] []) c.in_ok-found-4.ensures s3
