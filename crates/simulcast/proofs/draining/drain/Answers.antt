use Rattle.std.proofs.Common.{◌∙◌, refl, sym, subst, arith}
use Rattle.std.specs.Prelude.{IsTrue}
use Rattle.sfu_base.specs.declared.call.Call.TheVariants as call
use Rattle.std.proofs.lemmas.Bool.{leb-false, leb-true}
use Rattle.simulcast.proofs.OneTake.{begins, ends_dry, ends_full, ends_starved, goes_on}
use Rattle.simulcast.proofs.Starving.{starved_by}
use Rattle.simulcast.proofs.draining.drain.Goals as goal

pub loop-count-init : goal.loop-count-init
loop-count-init g c = record { way = begins g.R.Recorder.noted c.args.room.now c.args.bundle.now c.args.leg c.args.subscriber; grew = omega arith; recorder = refl; by = omega arith }

pub returns-then-is_full-clause-drains : goal.returns-then-is_full-clause-drains
returns-then-is_full-clause-drains g c s there leg =
    ends_full g.R.Recorder.noted c.loop-count.room c.loop-count.room c.loop-count.bundle c.loop-count.bundle c.args.leg c.args.subscriber c.loop-count.count s
    (c.loop-count.invariant.way s there leg) (leb-true 512 _ (sym c.if-is_full.ensures))

pub returns-then-is_starved-clause-drains : goal.returns-then-is_starved-clause-drains
returns-then-is_starved-clause-drains g c s there leg =
    ends_starved g.R.Recorder.noted c.loop-count.room c.take-reply.new.self c.loop-count.bundle c.loop-count.bundle c.args.leg c.args.subscriber c.loop-count.count s
    (c.loop-count.invariant.way s there leg) c.take-reply.new.scratch.packet c.take-reply.new.scratch.names c.take-reply.result c.take-reply.ensures.serves (sym c.if-is_starved.ensures)

pub returns-then-not-is_packet-clause-drains : goal.returns-then-not-is_packet-clause-drains
returns-then-not-is_packet-clause-drains g c s there leg =
    ends_dry g.R.Recorder.noted c.loop-count.room c.take-reply.new.self c.loop-count.bundle c.loop-count.bundle c.args.leg c.args.subscriber c.loop-count.count s
    (c.loop-count.invariant.way s there leg) c.take-reply.new.scratch.packet c.take-reply.new.scratch.names c.take-reply.result c.take-reply.ensures.serves (sym c.if-is_starved.ensures)
    (leb-false 512 _ (sym c.if-is_full.ensures)) (c.if-not-is_packet.ensures.none refl)

pub loop-count-preserved : goal.loop-count-preserved
loop-count-preserved g c = record {
  way = λ s there leg.
      goes_on g.R.Recorder.noted c.loop-count.room c.take-reply.new.self c.loop-count.bundle c.take_in.new.self c.args.leg c.args.subscriber c.loop-count.count s
      (c.loop-count.invariant.way s there leg) c.take-reply.new.scratch.packet c.take-reply.new.scratch.names c.take-reply.result c.take-reply.ensures.serves (sym c.if-is_starved.ensures)
      (c.if-not-is_packet.ensures.packet refl) (leb-false 512 _ (sym c.if-is_full.ensures)) c.take_in.ensures.taken;
  recorder = c.take-reply.ensures.recorder ∙ c.loop-count.invariant.recorder;
  grew = (let h = c.take_in.ensures.grew in let k = c.loop-count.invariant.grew in omega arith);
  by = (let h = c.take_in.ensures.by in let k = c.loop-count.invariant.by in omega arith);
}

pub returns-then-is_full-clause-recorder : goal.returns-then-is_full-clause-recorder
returns-then-is_full-clause-recorder g c = c.loop-count.invariant.recorder

pub returns-then-is_starved-clause-memory : goal.returns-then-is_starved-clause-memory
returns-then-is_starved-clause-memory g c = λ e.
    subst IsTrue c.loop-count.invariant.recorder
    (starved_by g.R.Recorder.may_refuse c.loop-count.room (call.Take c.args.subscriber) c.take-reply.result (λ h. h) c.take-reply.ensures.memory (sym c.if-is_starved.ensures))

pub returns-then-is_starved-clause-recorder : goal.returns-then-is_starved-clause-recorder
returns-then-is_starved-clause-recorder g c = c.take-reply.ensures.recorder ∙ c.loop-count.invariant.recorder

pub returns-then-not-is_packet-clause-recorder : goal.returns-then-not-is_packet-clause-recorder
returns-then-not-is_packet-clause-recorder g c = c.take-reply.ensures.recorder ∙ c.loop-count.invariant.recorder

pub returns-clause-recorder : goal.returns-clause-recorder
returns-clause-recorder g c = c.loop-count.invariant.recorder

pub take_in-requires : goal.take_in-requires
take_in-requires g c =
    let sendable = c.take-reply.ensures.sendable (c.if-not-is_packet.ensures.packet refl) in
    record { capacity = leb-false 512 _ (sym c.if-is_full.ensures); reads = sendable.reads; fits = sendable.fits }
