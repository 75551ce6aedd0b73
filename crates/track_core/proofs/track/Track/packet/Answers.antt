use Rattle.track_core.specs.Pieces.{IsTaken}
use Rattle.track_core.proofs.TakenPackets.{get_all}
use Rattle.track_core.proofs.track.Track.packet.Goals as goal

pub returns-clause-reads : goal.returns-clause-reads
returns-clause-reads c = (get_all IsTaken c.args.self.now.packets c.args.place c.packet_at.result.now c.lemma_are_taken.ensures c.packet_at.ensures).reads

pub returns-clause-fits : goal.returns-clause-fits
returns-clause-fits c = (get_all IsTaken c.args.self.now.packets c.args.place c.packet_at.result.now c.lemma_are_taken.ensures c.packet_at.ensures).few
