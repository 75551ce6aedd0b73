use Rattle.std.proofs.Common.{◌≡◌, ◌≤◌, ◌∙◌, None, List, ℕ, ap, length, subst, sym}
use Rattle.std.specs.Option.{option_copied}
use Rattle.rtp_packet.specs.Faults.{first_fault}
use Rattle.out_ring.specs.Ring.{pushed}
use Rattle.room_core.proofs.Pushing.{remasking_fits, remasking_pushed, remasking_reads}
use Rattle.room_core.proofs.sending.push_masked_packet.Goals as goal

pub queue_remasked-requires-clause-reads : goal.queue_remasked-requires-clause-reads
queue_remasked-requires-clause-reads c =
    subst (λ (b : List ℕ). first_fault b ≡ None) (sym c.remask.ensures.packet)
    (remasking_reads c.args.id c.args.mask (option_copied c.args.force) c.args.packet.now c.requires.reads)

pub queue_remasked-requires-clause-fits : goal.queue_remasked-requires-clause-fits
queue_remasked-requires-clause-fits c =
    subst (λ (b : List ℕ). length b ≤ 1536) (sym c.remask.ensures.packet)
    (remasking_fits c.args.id c.args.mask (option_copied c.args.force) c.args.packet.now c.requires.fits)

pub returns-clause-pushed : goal.returns-clause-pushed
returns-clause-pushed c =
    remasking_pushed c.args.id c.args.mask (option_copied c.args.force) c.args.packet.now c.args.marker c.args.ring.now c.queue_remasked.new.ring c.requires.reads
    (c.queue_remasked.ensures.pushed ∙ ap (λ (b : List ℕ). pushed b c.args.marker c.args.ring.now) c.remask.ensures.packet)
