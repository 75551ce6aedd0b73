use Rattle.std.proofs.Common.{ap, ◌∙◌}
use Rattle.stream_maker.specs.declared.counts.Counts.{Counts}
use Rattle.stream_maker.specs.Stream.{Stream}
use Rattle.cascade.specs.Trial.{received, summary_of, trial_calls, trial_text}
use Rattle.cascade.proofs.TrialEvents.{play_begins, play_ends, plays_packet, plays_tick}
use Rattle.cascade.proofs.stream_trial.play.Goals as goal

pub events-init : goal.events-init
events-init c =
    play_begins c.in_ok-stage.stage c.new-maker.result.left c.new-maker.result.counts (record { frames = c.args.frames; start = c.args.start; loss = c.args.loss })
    c.new-maker.ensures.left c.in_ok-stage.ensures

pub events-preserved-in-Packet : goal.events-preserved-in-Packet
events-preserved-in-Packet c =
    plays_packet c.events.stage c.packet.new.self c.events.maker c.next_event.new.self (record { frames = c.args.frames; start = c.args.start; loss = c.args.loss })
    c.in-Packet.moment c.events.packet c.next_event.new.out c.in-Packet.ensures c.events.invariant c.packet.ensures

pub events-preserved : goal.events-preserved
events-preserved c =
    plays_tick c.events.stage c.tick.new.self c.events.maker c.next_event.new.self (record { frames = c.args.frames; start = c.args.start; loss = c.args.loss })
    c.in-Tick.moment c.events.packet c.next_event.new.out c.in-Tick.ensures c.events.invariant c.tick.ensures

pub returns : goal.returns
unfolding trial_text summary_of
returns c =
    let s : Stream = record { frames = c.args.frames; start = c.args.start; loss = c.args.loss } in
    let h = play_ends c.events.stage c.events.maker c.next_event.new.self s c.events.packet c.next_event.new.out c.in-End.ensures c.events.invariant in
    c.in_ok-text.ensures (received 1 (trial_calls s)) (received 2 (trial_calls s)) (received 3 (trial_calls s)) h.staged.first h.staged.second h.staged.third ∙ ap (λ (k : Counts). summary_of k (trial_calls s)) (c.counts.ensures ∙ h.counts_are)
