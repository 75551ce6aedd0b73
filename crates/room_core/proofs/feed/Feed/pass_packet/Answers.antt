use Rattle.std.proofs.Common.{◌∙◌, ◌∷◌, [], ap, Bool, arith, refl, ℕ}
use Rattle.rtp_packet.proofs.Faultless.{header_there}
use Rattle.out_ring.specs.Ring.{pushed}
use Rattle.room_core.proofs.Feeding.{packet_is_left_out, packet_passes}
use Rattle.room_core.proofs.Sharing.{is_shared, more_shared}
use Rattle.room_core.proofs.feed.Feed.pass_packet.Goals as goal

pub returns-then-queued-lt-MOST_QUEUED : goal.returns-then-queued-lt-MOST_QUEUED
returns-then-queued-lt-MOST_QUEUED c = record {
  shared = more_shared c.args.cache.now.shared.items c.queue.new.self.shared.items (c.args.packet.now ∷ []) 0 c.args.packet.now c.requires.shared refl c.queue.ensures.shared;
  follows = packet_passes c.args.self.now c.queue.new.ring c.args.packet.now (header_there c.args.packet.now c.requires.reads)
      (let lt = c.if-queued-lt-MOST_QUEUED.true in omega (arith, lt, c.queued.ensures.queued))
      (c.queue.ensures.pushed ∙ ap (λ (m : Bool). pushed c.args.packet.now m c.args.self.now.ring) c.own_marker.ensures);
}

pub returns-else-queued-lt-MOST_QUEUED : goal.returns-else-queued-lt-MOST_QUEUED
returns-else-queued-lt-MOST_QUEUED c = record {
  shared = c.requires.shared;
  follows = packet_is_left_out c.args.self.now _ c.args.packet.now (let ge = c.if-queued-lt-MOST_QUEUED.false in omega (arith, ge, c.queued.ensures.queued))
      (ap (λ (n : ℕ). record c.args.self.now.counts { left_out = n }) c.count_one.ensures);
}

pub queue-requires-clause-same : goal.queue-requires-clause-same
queue-requires-clause-same c = is_shared c.args.cache.now.shared.items (c.args.packet.now ∷ []) 0 c.args.packet.now c.requires.shared refl
