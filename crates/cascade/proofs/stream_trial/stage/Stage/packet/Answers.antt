use Rattle.std.proofs.Common.{[]}
use Rattle.sfu_base.specs.Answer.{is_starved}
use Rattle.sfu_base.specs.declared.call.Call.TheVariants as call
use Rattle.cascade.proofs.Staging.{not_starved, packet_staged, stands_after}
use Rattle.cascade.proofs.stream_trial.stage.Stage.packet.Goals as goal

pub returns : goal.returns
returns c past s =
    let fed = not_starved (is_starved c.packet.result) (call.Packet 1 c.args.moment c.args.bytes.now) (λ free. free) c.packet.ensures.memory in
    packet_staged c.args.self.now c.packet.new.self c.args.moment c.args.bytes.now past
    (stands_after c.args.self.now.room c.packet.new.self (call.Packet 1 c.args.moment c.args.bytes.now) c.packet.result [] [] past (c.packet.ensures.serves [] []) fed s.room_is) s
