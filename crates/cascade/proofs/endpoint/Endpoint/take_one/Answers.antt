use Rattle.std.proofs.Common.{ℕ, List, [], ◌∷◌, ◌++◌, subst}
use Rattle.sfu_base.specs.Answer.{is_starved}
use Rattle.sfu_base.specs.declared.call.Call.TheVariants as call
use Rattle.cascade.specs.Standing.{WasFed}
use Rattle.cascade.proofs.Staging.{found_none, found_one}
use Rattle.cascade.proofs.Standing.{not_starved, takes_next, takes_none}
use Rattle.cascade.proofs.endpoint.Endpoint.take_one.Goals as goal

pub returns-in-Packet : goal.returns-in-Packet
returns-in-Packet c =
    let feeds : (taken : List (List ℕ)) → WasFed c.args.self.now taken → WasFed c.feed.new.self (taken ++ c.take.new.scratch.packet ∷ [])
    = λ taken was. subst (λ (bytes : List ℕ). WasFed c.feed.new.self (taken ++ bytes ∷ [])) c.bytes.ensures.bytes (c.feed.ensures taken was) in
    record {
      takes = λ past a. takes_next c.args.room.now c.take.new.self c.args.self.now c.feed.new.self c.args.subscriber c.take.new.scratch.packet c.take.new.scratch.names past
          c.in-Packet.ensures.serves a feeds;
      queued = λ past a. found_one c.args.room.now c.take.new.self c.args.self.now c.feed.new.self c.args.subscriber c.take.new.scratch.packet c.take.new.scratch.names past
          c.in-Packet.ensures.serves a feeds;
    }

pub returns-in_default : goal.returns-in_default
returns-in_default c =
    let fed = not_starved (is_starved c.take.result) (call.Take c.args.subscriber) (λ free. free) c.take.ensures.memory in
    record {
      takes = λ past a. takes_none c.args.room.now c.take.new.self c.args.self.now c.args.subscriber c.take.result c.take.new.scratch.packet c.take.new.scratch.names past
          c.take.ensures.serves fed c.in_default.not-Packet a;
      queued = λ past a. found_none c.args.room.now c.take.new.self c.args.self.now c.args.subscriber c.take.result c.take.new.scratch.packet c.take.new.scratch.names past
          c.take.ensures.serves fed c.in_default.not-Packet a;
    }
