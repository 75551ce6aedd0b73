use Rattle.std.proofs.Common.{◌∙◌, ◌&&◌, ◌||◌, ◌∷◌, [], ℕ, Bool, ap, eqb}
use Rattle.rtp_packet.specs.Fields.{marker_of}
use Rattle.packet_format.specs.Packets.{packet_of}
use Rattle.room_core.specs.Follows.{pushed_all, remasked_by}
use Rattle.room_core.proofs.Pushing.{keeps_first, keeps_one, push_first_ends}
use Rattle.room_core.proofs.Sharing.{is_shared, more_shared}
use Rattle.room_core.proofs.sending.push_remasked.Goals as goal

pub push_first-requires-clause-cached : goal.push_first-requires-clause-cached
push_first-requires-clause-cached c =
    keeps_one c.args.track.now.layers c.args.track.now.packets c.packet-packet.result.now c.args.cache.now c.packet-packet.ensures.at c.requires.of_frame.cached

pub push_first-requires-clause-same : goal.push_first-requires-clause-same
push_first-requires-clause-same c =
    is_shared c.args.cache.now.shared.items c.args.track.now.packets 0 c.packet-packet.result.now c.requires.of_frame.shared c.packet-packet.ensures.at

pub push_from-requires-clause-of_frame : goal.push_from-requires-clause-of_frame
push_from-requires-clause-of_frame c = record {
  cached = keeps_first c.args.track.now.layers c.args.track.now.packets c.packet-packet.result.now c.push_first.new.cache c.packet-packet.ensures.at c.push_first.ensures.cached;
  shared = more_shared c.args.cache.now.shared.items c.push_first.new.cache.shared.items c.args.track.now.packets 0 c.packet-packet.result.now c.requires.of_frame.shared
      c.packet-packet.ensures.at c.push_first.ensures.shared;
}

pub returns-clause-pushed : goal.returns-clause-pushed
returns-clause-pushed c =
    let bytes = c.packet-packet.result.now in
    push_first_ends c.args.track.now.layers c.args.mask c.args.is_top c.args.track.now.packets bytes c.args.ring.now c.push_first.new.ring c.push_from.new.ring
    c.packet-packet.ensures.at
    (c.push_first.ensures.pushed ∙ ap (λ (m : Bool). pushed_all (remasked_by c.args.track.now.layers c.args.mask (record (packet_of bytes) { marker = m } ∷ [])) c.args.ring.now)
    (c.sent_marker-marker.ensures ∙ ap (λ (n : ℕ). (c.args.is_top && eqb n 1 || marker_of bytes)) c.count-count.ensures.count))
    c.push_from.ensures.pushed
