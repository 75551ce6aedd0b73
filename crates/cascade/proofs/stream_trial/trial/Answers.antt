use Rattle.std.proofs.Common.{◌≡◌, inl, inr, ℕ, List, refl, subst, ◌∙◌, arith, Ok, Err}
use Rattle.std.proofs.KnownBytes.{Appends-nil}
use Rattle.std.specs.Io.KnownBytes.{Appends}
use Rattle.sfu_driver.specs.declared.halt.Halt.TheVariants.{Starved}
use Rattle.sfu_driver.specs.declared.halt.Interruption.TheVariants.{Halted, SinkFault}
use Rattle.sfu_driver.specs.Drive.{WritesPart}
use Rattle.sfu_driver.proofs.Answering.{first_fault_by}
use Rattle.cascade.proofs.EveryTrial.{trial_given, trial_joined, trial_pleases}
use Rattle.cascade.proofs.stream_trial.trial.Goals as goal

pub returns-in_default : goal.returns-in_default
returns-in_default g c = record {
  done = λ e. absurd (let no : 6 ≡ 0 = e in omega arith);
  sink = λ e. absurd (let no : 6 ≡ 4 = e in omega arith);
  unwritten = λ e. absurd (let no : 6 ≡ 4 = e in omega arith);
  memory = λ e. Appends-nil (g.K.Sink.written c.args.sink.now);
  only = inr (inr refl);
  first_fault = first_fault_by 0 0 (g.K.Sink.faults c.args.sink.now) (g.K.Sink.faults c.args.sink.now) (Err (Halted Starved)) (record { reading = refl; writing = refl });
  joined = trial_joined (record { frames = c.args.frames; start = c.args.start; loss = c.args.loss });
  given = trial_given (record { frames = c.args.frames; start = c.args.start; loss = c.args.loss });
  pleased = trial_pleases (record { frames = c.args.frames; start = c.args.start; loss = c.args.loss });
}

pub returns-in-Ok-write_all : goal.returns-in-Ok-write_all
returns-in-Ok-write_all g c = record {
  done = λ e. subst (λ (t : List ℕ). Appends (g.K.Sink.written c.args.sink.now) (g.K.Sink.written c.write_all.new.sink) t) (c.as_bytes.ensures.value ∙ c.in-Ok.ensures) c.in-Ok-write_all.ensures.ok;
  sink = λ e. absurd (let no : 0 ≡ 4 = e in omega arith);
  unwritten = λ e. absurd (let no : 0 ≡ 4 = e in omega arith);
  memory = λ e. absurd (let no : 0 ≡ 6 = e in omega arith);
  only = inl refl;
  first_fault = first_fault_by 0 0 (g.K.Sink.faults c.args.sink.now) (g.K.Sink.faults c.write_all.new.sink) (Ok tt) (record { reading = refl; writing = c.in-Ok-write_all.ensures.counts });
  joined = trial_joined (record { frames = c.args.frames; start = c.args.start; loss = c.args.loss });
  given = trial_given (record { frames = c.args.frames; start = c.args.start; loss = c.args.loss });
  pleased = trial_pleases (record { frames = c.args.frames; start = c.args.start; loss = c.args.loss });
}

pub returns : goal.returns
returns g c = record {
  done = λ e. absurd (let no : 4 ≡ 0 = e in omega arith);
  sink = λ e. c.in-Err.ensures.rose;
  unwritten = λ e. subst (λ (t : List ℕ). WritesPart (g.K.Sink.written c.args.sink.now) (g.K.Sink.written c.write_all.new.sink) t) (c.as_bytes.ensures.value ∙ c.in-Ok.ensures) c.in-Err.ensures.part;
  memory = λ e. absurd (let no : 4 ≡ 6 = e in omega arith);
  only = inr (inl refl);
  first_fault = first_fault_by 0 0 (g.K.Sink.faults c.args.sink.now) (g.K.Sink.faults c.write_all.new.sink) (Err SinkFault) (record { reading = refl; writing = c.in-Err.ensures.counts });
  joined = trial_joined (record { frames = c.args.frames; start = c.args.start; loss = c.args.loss });
  given = trial_given (record { frames = c.args.frames; start = c.args.start; loss = c.args.loss });
  pleased = trial_pleases (record { frames = c.args.frames; start = c.args.start; loss = c.args.loss });
}
