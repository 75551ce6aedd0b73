use Rattle.std.proofs.Common.{◌∙◌, List, [], ◌∷◌, ap, sym}
use Rattle.std.specs.Option.{option_copied}
use Rattle.rtp_packet.proofs.Faultless.{header_there}
use Rattle.forwarding_model.specs.forwarding.Timeline.{Packet}
use Rattle.packet_format.specs.Packets.{packet_of}
use Rattle.room_core.specs.Follows.{pushed_all}
use Rattle.room_core.proofs.Pushing.{keeps_by, keeps_on, none_remasked}
use Rattle.room_core.proofs.Rings.{pushed_is}
use Rattle.room_core.proofs.Sharing.{cached_stays}
use Rattle.room_core.proofs.sending.push_first.Goals as goal

pub push_masked_packet-requires-clause-cached : goal.push_masked_packet-requires-clause-cached
push_masked_packet-requires-clause-cached c =
    keeps_by c.args.track.now.layers c.in-Some.id (option_copied c.force.result) c.args.packet.now c.share.new.self c.in-Some.ensures c.force.ensures.kept
    (cached_stays c.args.track.now.layers (c.args.packet.now ∷ []) c.args.cache.now c.share.new.self c.share.ensures.mask c.share.ensures.packet c.requires.cached)

pub returns-in-Some-clause-cached : goal.returns-in-Some-clause-cached
returns-in-Some-clause-cached c =
    keeps_on c.args.track.now.layers c.in-Some.id (option_copied c.force.result) c.args.packet.now c.push_masked_packet.new.cache c.in-Some.ensures c.force.ensures.kept c.push_masked_packet.ensures.cached

pub returns-in-None-clause-pushed : goal.returns-in-None-clause-pushed
returns-in-None-clause-pushed c =
    let one : List Packet = record (packet_of c.args.packet.now) { marker = c.args.marker } ∷ [] in
    c.queue.ensures.pushed ∙ pushed_is c.args.packet.now c.args.marker c.args.ring.now (header_there c.args.packet.now c.requires.reads)
    ∙ ap (λ (ps : List Packet). pushed_all ps c.args.ring.now) (sym (none_remasked c.args.track.now.layers c.args.mask one c.in-None.ensures))
