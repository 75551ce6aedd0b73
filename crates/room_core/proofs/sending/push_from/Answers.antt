use Rattle.std.proofs.Common.{◌+◌, ℕ, Bool, ◌∙◌, refl, ◌&&◌, ◌||◌, ap, arith, eqb}
use Rattle.rtp_packet.specs.Fields.{marker_of}
use Rattle.rtp_packet.proofs.Faultless.{header_there}
use Rattle.out_ring.specs.Ring.{pushed}
use Rattle.room_core.proofs.Pushing.{push_begins, push_ends, push_next, push_capacity}
use Rattle.room_core.proofs.Sharing.{frame_goes_on, is_shared, shared_grows}
use Rattle.room_core.proofs.sending.push_from.Goals as goal

pub loop-place-init : goal.loop-place-init
loop-place-init c = record { above = omega arith; so_far = push_begins c.args.from c.args.is_top c.args.track.now.packets c.args.ring.now; of_frame = c.requires.of_frame; mask = refl; grown = omega arith }

pub queue-requires-clause-capacity : goal.queue-requires-clause-capacity
queue-requires-clause-capacity c =
    push_capacity c.args.track.now.packets c.args.is_top c.args.from c.loop-place.place c.loop-place.ring c.args.ring.now c.loop-place.invariant.above
    (let lt = c.loop-place-test.true in omega (arith, lt, c.requires.count)) c.requires.capacity c.loop-place.invariant.so_far

pub queue-requires-clause-same : goal.queue-requires-clause-same
queue-requires-clause-same c =
    is_shared c.loop-place.cache.shared.items c.args.track.now.packets c.loop-place.place c.packet-packet.result.now c.loop-place.invariant.of_frame.shared c.packet-packet.ensures.at

pub loop-place-preserved : goal.loop-place-preserved
loop-place-preserved c = record {
  above = omega (arith, c.loop-place.invariant.above);
  so_far = push_next c.packet-packet.result.now c.args.track.now.packets c.args.is_top c.args.from c.loop-place.place c.loop-place.ring c.queue.new.ring c.args.ring.now
      (header_there c.packet-packet.result.now c.packet-packet.ensures.reads) c.loop-place.invariant.above c.packet-packet.ensures.at c.loop-place.invariant.so_far
      (c.queue.ensures.pushed ∙ ap (λ (m : Bool). pushed c.packet-packet.result.now m c.loop-place.ring) (c.sent_marker-marker.ensures
      ∙ ap (λ (n : ℕ). (c.args.is_top && eqb (c.loop-place.place + 1) n || marker_of c.packet-packet.result.now)) c.requires.count));
  of_frame = frame_goes_on c.args.track.now.layers c.args.track.now.packets c.loop-place.cache c.queue.new.self c.loop-place.place c.packet-packet.result.now c.loop-place.invariant.of_frame
      c.packet-packet.ensures.at c.queue.ensures.shared c.queue.ensures.mask c.queue.ensures.packet;
  mask = c.queue.ensures.mask ∙ c.loop-place.invariant.mask;
  grown = omega (
    arith,
    c.loop-place.invariant.grown,
    shared_grows c.loop-place.place c.packet-packet.result.now c.loop-place.cache.shared.items c.queue.new.self.shared.items c.queue.ensures.shared,
  );
}

pub returns : goal.returns
returns c = record {
  pushed = push_ends c.args.track.now.packets c.args.is_top c.args.from c.loop-place.place c.loop-place.ring c.args.ring.now
      (let ge = c.loop-place-test.false in omega (arith, ge, c.requires.count)) c.loop-place.invariant.so_far;
  of_frame = c.loop-place.invariant.of_frame;
  mask = c.loop-place.invariant.mask;
  grown = c.loop-place.invariant.grown;
}
