use Rattle.std.proofs.Common.{ℕ, inl, inr, map, refl, subst}
use Rattle.std.specs.Prelude.{codes}
use Rattle.std.specs.String.{string_bytes}
use Rattle.sfu_driver.specs.Statuses.{number_of}
use Rattle.sfu_driver.specs.Exchange.{exchange_by}
use Rattle.stream_maker.specs.Stream.{Stream}
use Rattle.sfu_commands.specs.declared.words.Command.{Command}
use Rattle.sfu_commands.specs.declared.words.Command.TheVariants.{Cascade, Check, Convert, Help, Record, Run, Simulcast, Trial}
use Rattle.sfu_commands.specs.Check.{Checks, IsCheck}
use Rattle.sfu_commands.specs.Record.{IsRecord, Records}
use Rattle.cascade.specs.Command.{ShowsCascade}
use Rattle.cascade.specs.Trial.{ShowsTrial}
use Rattle.sfu_commands.specs.Words.{Says}
use Rattle.sfu_commands.proofs.IdWords.{one_id}
use Rattle.sfu_commands.proofs.StreamNumbers.{same_stream}
use Rattle.sfu_driver.proofs.Answering.{at_two, with_reads}
use Rattle.sfu_program.proofs.Completing.{summary_inside, unit_inside, usage_inside}
use Rattle.sfu_program.proofs.alone.follow.Goals as goal

pub returns-in-None-clause-run : goal.returns-in-None-clause-run
returns-in-None-clause-run g c = λ is. absurd (c.in-None.ensures (Run, is))

pub returns-in-None-clause-headline : goal.returns-in-None-clause-headline
returns-in-None-clause-headline g c = λ is. absurd (c.in-None.ensures (Run, is))

pub returns-in-None-clause-convert : goal.returns-in-None-clause-convert
returns-in-None-clause-convert g c = λ is. absurd (c.in-None.ensures (Convert, is))

pub returns-in-None-clause-simulcast : goal.returns-in-None-clause-simulcast
returns-in-None-clause-simulcast g c = λ is. absurd (c.in-None.ensures (Simulcast, is))

pub returns-in-None-clause-bundles : goal.returns-in-None-clause-bundles
returns-in-None-clause-bundles g c = λ is. absurd (c.in-None.ensures (Simulcast, is))

pub returns-in-None-clause-help : goal.returns-in-None-clause-help
returns-in-None-clause-help g c = λ is. absurd (c.in-None.ensures (Help, is))

pub returns-in-Some-Check-clause-check : goal.returns-in-Some-Check-clause-check
returns-in-Some-Check-clause-check g c = λ id is.
    let read : IsCheck (map string_bytes c.args.words.now) c.in-Some-Check.id = subst (λ (command : Command). Says (map string_bytes c.args.words.now) command) c.in-Some-Check.field-0-is c.in-Some-Check.ensures in
    rw c.number-in-Some-Check.ensures (subst
    (λ (id : ℕ). Checks id (exchange_by (g.S.Source.left c.args.source.now) (g.S.Source.left c.check.new.source) (g.K.Sink.written c.args.sink.now) (g.K.Sink.written c.check.new.sink) (g.S.Source.faults c.args.source.now) (g.S.Source.faults c.check.new.source)
    (g.K.Sink.faults c.args.sink.now) (g.K.Sink.faults c.check.new.sink)) (number_of c.check.result))
    (one_id (codes "check") (map string_bytes c.args.words.now) c.in-Some-Check.id id read is) c.check.ensures.checks)

pub returns-in-None-clause-check : goal.returns-in-None-clause-check
returns-in-None-clause-check g c = λ id is. absurd (c.in-None.ensures (Check id, is))

pub returns-in-Some-Trial-clause-trial : goal.returns-in-Some-Trial-clause-trial
returns-in-Some-Trial-clause-trial g c s is = record {
  unread = refl;
  shows = rw c.number-in-Some-Trial.ensures (subst
      (λ (t : Stream). ShowsTrial t (g.K.Sink.written c.args.sink.now) (g.K.Sink.written c.trial.new.sink) (g.K.Sink.faults c.args.sink.now) (g.K.Sink.faults c.trial.new.sink) (number_of c.trial.result))
      (same_stream (codes "trial") (map string_bytes c.args.words.now) (record { frames = c.in-Some-Trial.frames; start = c.in-Some-Trial.start; loss = c.in-Some-Trial.loss }) s
      (subst (λ (k : Command). Says (map string_bytes c.args.words.now) k) c.in-Some-Trial.field-0-is c.in-Some-Trial.ensures) is)
      c.trial.ensures);
}

pub returns-in-None-clause-trial : goal.returns-in-None-clause-trial
returns-in-None-clause-trial g c s is = absurd (c.in-None.ensures (Trial s.frames s.start s.loss, is))

pub returns-in-Some-Cascade-clause-cascade : goal.returns-in-Some-Cascade-clause-cascade
returns-in-Some-Cascade-clause-cascade g c s is = record {
  unread = refl;
  shows = rw c.number-in-Some-Cascade.ensures (subst
      (λ (t : Stream). ShowsCascade t (g.K.Sink.written c.args.sink.now) (g.K.Sink.written c.cascade.new.sink) (g.K.Sink.faults c.args.sink.now) (g.K.Sink.faults c.cascade.new.sink) (number_of c.cascade.result))
      (same_stream (codes "cascade") (map string_bytes c.args.words.now) (record { frames = c.in-Some-Cascade.frames; start = c.in-Some-Cascade.start; loss = c.in-Some-Cascade.loss }) s
      (subst (λ (k : Command). Says (map string_bytes c.args.words.now) k) c.in-Some-Cascade.field-0-is c.in-Some-Cascade.ensures) is)
      c.cascade.ensures);
}

pub returns-in-None-clause-cascade : goal.returns-in-None-clause-cascade
returns-in-None-clause-cascade g c s is = absurd (c.in-None.ensures (Cascade s.frames s.start s.loss, is))

pub returns-in-Some-Record-clause-record : goal.returns-in-Some-Record-clause-record
returns-in-Some-Record-clause-record g c = λ id is.
    let read : IsRecord (map string_bytes c.args.words.now) c.in-Some-Record.id = subst (λ (command : Command). Says (map string_bytes c.args.words.now) command) c.in-Some-Record.field-0-is c.in-Some-Record.ensures in
    rw c.number-in-Some-Record.ensures (subst
    (λ (id : ℕ). Records id (exchange_by (g.S.Source.left c.args.source.now) (g.S.Source.left c.record.new.source) (g.K.Sink.written c.args.sink.now) (g.K.Sink.written c.record.new.sink) (g.S.Source.faults c.args.source.now) (g.S.Source.faults c.record.new.source)
    (g.K.Sink.faults c.args.sink.now) (g.K.Sink.faults c.record.new.sink)) (number_of c.record.result))
    (one_id (codes "record") (map string_bytes c.args.words.now) c.in-Some-Record.id id read is) c.record.ensures.records)

pub returns-in-None-clause-record : goal.returns-in-None-clause-record
returns-in-None-clause-record g c = λ id is. absurd (c.in-None.ensures (Record id, is))

pub returns-in-Some-Run-clause-inside : goal.returns-in-Some-Run-clause-inside
returns-in-Some-Run-clause-inside g c = λ calm quiet. rw c.number.ensures (unit_inside _ _ _ _ _ _ _ _ _ _ _ c.run.ensures.runs calm quiet)

pub returns-in-Some-Convert-clause-inside : goal.returns-in-Some-Convert-clause-inside
returns-in-Some-Convert-clause-inside g c = λ calm quiet. rw c.number-in-Some-Convert.ensures (unit_inside _ _ _ _ _ _ _ _ _ _ _ c.convert.ensures.converts calm quiet)

pub returns-in-Some-Simulcast-clause-inside : goal.returns-in-Some-Simulcast-clause-inside
returns-in-Some-Simulcast-clause-inside g c = λ calm quiet. rw c.number-in-Some-Simulcast.ensures (unit_inside _ _ _ _ _ _ _ _ _ _ _ c.run_with_bundles.ensures.simulcasts calm quiet)

pub returns-in-Some-Help-clause-inside : goal.returns-in-Some-Help-clause-inside
returns-in-Some-Help-clause-inside g c = λ calm quiet. rw c.number-in-Some-Help.ensures (usage_inside _ _ _ _ _ c.help.ensures quiet)

pub returns-in-Some-Check-clause-inside : goal.returns-in-Some-Check-clause-inside
returns-in-Some-Check-clause-inside g c = λ calm quiet. rw c.number-in-Some-Check.ensures (unit_inside _ _ _ _ _ _ _ _ _ _ _ c.check.ensures.checks calm quiet)

pub returns-in-Some-Record-clause-inside : goal.returns-in-Some-Record-clause-inside
returns-in-Some-Record-clause-inside g c = λ calm quiet. rw c.number-in-Some-Record.ensures (unit_inside _ _ _ _ _ _ _ _ _ _ _ c.record.ensures.records calm quiet)

pub returns-in-Some-Trial-clause-inside : goal.returns-in-Some-Trial-clause-inside
returns-in-Some-Trial-clause-inside g c = λ calm quiet. rw c.number-in-Some-Trial.ensures (summary_inside _ _ _ (c.trial.ensures.only) (c.trial.ensures.sink) quiet)

pub returns-in-Some-Cascade-clause-inside : goal.returns-in-Some-Cascade-clause-inside
returns-in-Some-Cascade-clause-inside g c = λ calm quiet. rw c.number-in-Some-Cascade.ensures (summary_inside _ _ _ (c.cascade.ensures.only) (c.cascade.ensures.sink) quiet)

pub returns-in-None-clause-inside : goal.returns-in-None-clause-inside
returns-in-None-clause-inside g c = λ calm quiet. rw c.number-in-None.ensures (inr (inl c.refuse.ensures.status))

-- ---- the first fault

pub returns-in-Some-Run-clause-first_fault : goal.returns-in-Some-Run-clause-first_fault
returns-in-Some-Run-clause-first_fault g c = rw c.number.ensures c.run.ensures.runs.every.first_fault

pub returns-in-Some-Convert-clause-first_fault : goal.returns-in-Some-Convert-clause-first_fault
returns-in-Some-Convert-clause-first_fault g c = rw c.number-in-Some-Convert.ensures c.convert.ensures.converts.every.first_fault

pub returns-in-Some-Simulcast-clause-first_fault : goal.returns-in-Some-Simulcast-clause-first_fault
returns-in-Some-Simulcast-clause-first_fault g c = rw c.number-in-Some-Simulcast.ensures c.run_with_bundles.ensures.simulcasts.every.first_fault

pub returns-in-Some-Help-clause-first_fault : goal.returns-in-Some-Help-clause-first_fault
returns-in-Some-Help-clause-first_fault g c = rw c.number-in-Some-Help.ensures (with_reads _ _ _ _ _ refl c.help.ensures.first_fault)

pub returns-in-Some-Check-clause-first_fault : goal.returns-in-Some-Check-clause-first_fault
returns-in-Some-Check-clause-first_fault g c = rw c.number-in-Some-Check.ensures c.check.ensures.checks.every.first_fault

pub returns-in-Some-Record-clause-first_fault : goal.returns-in-Some-Record-clause-first_fault
returns-in-Some-Record-clause-first_fault g c = rw c.number-in-Some-Record.ensures c.record.ensures.records.every.first_fault

pub returns-in-Some-Trial-clause-first_fault : goal.returns-in-Some-Trial-clause-first_fault
returns-in-Some-Trial-clause-first_fault g c = rw c.number-in-Some-Trial.ensures (with_reads _ _ _ _ _ refl c.trial.ensures.first_fault)

pub returns-in-Some-Cascade-clause-first_fault : goal.returns-in-Some-Cascade-clause-first_fault
returns-in-Some-Cascade-clause-first_fault g c = rw c.number-in-Some-Cascade.ensures (with_reads _ _ _ _ _ refl c.cascade.ensures.first_fault)

pub returns-in-None-clause-first_fault : goal.returns-in-None-clause-first_fault
returns-in-None-clause-first_fault g c = rw c.number-in-None.ensures (rw c.refuse.ensures.status (at_two _ _ _ c.refuse.ensures.once))
