use Rattle.sfu_base.specs.Links.{datagram}
use Rattle.room_sessions.specs.Either.{either_left}
use Rattle.room_sessions.proofs.Beginning.{nothing_sent}
use Rattle.room_sessions.proofs.either.EitherSession.hear.Goals as goal

pub unreachable-requires : goal.unreachable-requires
unreachable-requires c =
    let r = c.received in
    nothing_sent c.args.self.now 0 c.args.moment (datagram c.args.came c.args.scratch.now.packet) (either_left r.new.self 0) r.new.scratch.packet r.result (c.requires 1) c.in_default.is (r.ensures 0)
