use Rattle.std.proofs.Common.{ℕ, inl, inr, map, refl, subst, sym, ◌∙◌}
use Rattle.std.specs.String.{string_bytes}
use Rattle.sfu_driver.specs.Statuses.{number_of}
use Rattle.sfu_driver.specs.Exchange.{exchange_by}
use Rattle.sfu_program.specs.Serve.{Serves}
use Rattle.sfu_program.specs.ServePorts.{seen_ports}
use Rattle.std.proofs.lemmas.Bool.{false≢true}
use Rattle.sfu_program.proofs.TogetherForms.{is_status, not_cascade, not_check, not_convert, not_help, not_record, not_run, not_simulcast, not_trial, not_two}
use Rattle.sfu_program.specs.Forms.{IsServing}
use Rattle.sfu_program.proofs.Completing.{serve_finishes, serve_inside, summary_shows, unit_finishes, unit_inside, usage_shows}
use Rattle.sfu_program.proofs.ServeForms as serve
use Rattle.sfu_program.proofs.sfu.sfu.Goals as goal

pub returns-then-are_together-clause-run : goal.returns-then-are_together-clause-run
returns-then-are_together-clause-run g c = λ is. absurd (not_run _ (c.if-are_together.ensures.0 refl) is)

pub returns-then-are_together-clause-headline : goal.returns-then-are_together-clause-headline
returns-then-are_together-clause-headline g c = λ is. absurd (not_run _ (c.if-are_together.ensures.0 refl) is)

pub returns-then-are_together-clause-check : goal.returns-then-are_together-clause-check
returns-then-are_together-clause-check g c = λ id is. absurd (not_check _ id (c.if-are_together.ensures.0 refl) is)

pub returns-then-are_together-clause-record : goal.returns-then-are_together-clause-record
returns-then-are_together-clause-record g c = λ id is. absurd (not_record _ id (c.if-are_together.ensures.0 refl) is)

pub returns-then-are_together-clause-convert : goal.returns-then-are_together-clause-convert
returns-then-are_together-clause-convert g c = λ is. absurd (not_convert _ (c.if-are_together.ensures.0 refl) is)

pub returns-then-are_together-clause-simulcast : goal.returns-then-are_together-clause-simulcast
returns-then-are_together-clause-simulcast g c = λ is. absurd (not_simulcast _ (c.if-are_together.ensures.0 refl) is)

pub returns-then-are_together-clause-bundles : goal.returns-then-are_together-clause-bundles
returns-then-are_together-clause-bundles g c = λ is. absurd (not_simulcast _ (c.if-are_together.ensures.0 refl) is)

pub returns-then-are_together-clause-help : goal.returns-then-are_together-clause-help
returns-then-are_together-clause-help g c = λ is. absurd (not_help _ (c.if-are_together.ensures.0 refl) is)

pub returns-then-are_together-clause-trial : goal.returns-then-are_together-clause-trial
returns-then-are_together-clause-trial g c = λ s is. absurd (not_trial _ s (c.if-are_together.ensures.0 refl) is)

pub returns-then-are_together-clause-cascade : goal.returns-then-are_together-clause-cascade
returns-then-are_together-clause-cascade g c = λ s is. absurd (not_cascade _ s (c.if-are_together.ensures.0 refl) is)

pub returns-then-are_together-clause-together : goal.returns-then-are_together-clause-together
returns-then-are_together-clause-together g c = λ is. rw c.number.ensures c.play_script.ensures

pub returns-then-are_together-clause-serve : goal.returns-then-are_together-clause-serve
returns-then-are_together-clause-serve g c = λ turns is. absurd (serve.not_together _ (turns, is) (c.if-are_together.ensures.0 refl))

pub returns-then-are_together-clause-other : goal.returns-then-are_together-clause-other
returns-then-are_together-clause-other g c = λ none. absurd (none (inr (inl (c.if-are_together.ensures.0 refl))))

pub returns-then-are_together-clause-form : goal.returns-then-are_together-clause-form
returns-then-are_together-clause-form g c = (λ e. absurd (not_two _ c.play_script.ensures.only (sym c.number.ensures ∙ e)), λ none. absurd (none (inr (inl (c.if-are_together.ensures.0 refl)))))

pub returns-then-are_together-clause-only : goal.returns-then-are_together-clause-only
returns-then-are_together-clause-only g c = rw c.number.ensures (inl (is_status _ c.play_script.ensures.only))

pub returns-in-Some-clause-run : goal.returns-in-Some-clause-run
returns-in-Some-clause-run g c = λ is. absurd (serve.not_run _ (_, c.in-Some.ensures) is)

pub returns-in-Some-clause-headline : goal.returns-in-Some-clause-headline
returns-in-Some-clause-headline g c = λ is. absurd (serve.not_run _ (_, c.in-Some.ensures) is)

pub returns-in-Some-clause-check : goal.returns-in-Some-clause-check
returns-in-Some-clause-check g c = λ id is. absurd (serve.not_check _ id (_, c.in-Some.ensures) is)

pub returns-in-Some-clause-record : goal.returns-in-Some-clause-record
returns-in-Some-clause-record g c = λ id is. absurd (serve.not_record _ id (_, c.in-Some.ensures) is)

pub returns-in-Some-clause-convert : goal.returns-in-Some-clause-convert
returns-in-Some-clause-convert g c = λ is. absurd (serve.not_convert _ (_, c.in-Some.ensures) is)

pub returns-in-Some-clause-simulcast : goal.returns-in-Some-clause-simulcast
returns-in-Some-clause-simulcast g c = λ is. absurd (serve.not_simulcast _ (_, c.in-Some.ensures) is)

pub returns-in-Some-clause-bundles : goal.returns-in-Some-clause-bundles
returns-in-Some-clause-bundles g c = λ is. absurd (serve.not_simulcast _ (_, c.in-Some.ensures) is)

pub returns-in-Some-clause-help : goal.returns-in-Some-clause-help
returns-in-Some-clause-help g c = λ is. absurd (serve.not_help _ (_, c.in-Some.ensures) is)

pub returns-in-Some-clause-trial : goal.returns-in-Some-clause-trial
returns-in-Some-clause-trial g c = λ s is. absurd (serve.not_trial _ s (_, c.in-Some.ensures) is)

pub returns-in-Some-clause-cascade : goal.returns-in-Some-clause-cascade
returns-in-Some-clause-cascade g c = λ s is. absurd (serve.not_cascade _ s (_, c.in-Some.ensures) is)

pub returns-in-Some-clause-other : goal.returns-in-Some-clause-other
returns-in-Some-clause-other g c = λ none. absurd (none (inr (inr (_, c.in-Some.ensures))))

pub returns-in-Some-clause-serve : goal.returns-in-Some-clause-serve
returns-in-Some-clause-serve g c = λ turns is.
    rw c.number-in-Some.ensures (subst (λ (n : ℕ). Serves g.P.Port.Link.traffic g.P.Port.Link.faults g.P.Port.Link.name n (exchange_by (g.S.Source.left c.args.source.now) (g.S.Source.left c.serve.new.source)
    (g.K.Sink.written c.args.sink.now) (g.K.Sink.written c.serve.new.sink) (g.S.Source.faults c.args.source.now) (g.S.Source.faults c.serve.new.source)
    (g.K.Sink.faults c.args.sink.now) (g.K.Sink.faults c.serve.new.sink))
    (seen_ports (g.P.Ports.bound c.args.ports.now) (g.P.Ports.back_count c.args.ports.now) (g.P.Ports.returned c.args.ports.now) (g.P.Ports.faults c.args.ports.now))
    (seen_ports (g.P.Ports.bound c.serve.new.ports) (g.P.Ports.back_count c.serve.new.ports) (g.P.Ports.returned c.serve.new.ports) (g.P.Ports.faults c.serve.new.ports)) (number_of c.serve.result))
    (serve.one_number _ c.in-Some.turns turns c.in-Some.ensures is) c.serve.ensures)

pub returns-in-Some-clause-form : goal.returns-in-Some-clause-form
returns-in-Some-clause-form g c = (λ e. absurd (serve.not_two _ c.serve.ensures.only (sym c.number-in-Some.ensures ∙ e)), λ none. absurd (none (inr (inr (_, c.in-Some.ensures)))))

pub returns-in-Some-clause-only : goal.returns-in-Some-clause-only
returns-in-Some-clause-only g c = rw c.number-in-Some.ensures (serve.is_end _ c.serve.ensures.only)

pub returns-clause-together : goal.returns-clause-together
returns-clause-together g c = λ t. absurd (false≢true (c.if-are_together.ensures.1 t))

pub returns-clause-other : goal.returns-clause-other
returns-clause-other g c = λ none. c.sfu_alone.ensures.other (λ is. none (inl is))

pub returns-then-are_together-clause-complete : goal.returns-then-are_together-clause-complete
returns-then-are_together-clause-complete g c = λ none.
    let is = c.if-are_together.ensures.0 refl in
    let plays = c.play_script.ensures in
    record {
      run = λ r. absurd (not_run _ is r);
      convert = λ r. absurd (not_convert _ is r);
      simulcast = λ r. absurd (not_simulcast _ is r);
      check = λ id r. absurd (not_check _ id is r);
      recorded = λ id r. absurd (not_record _ id is r);
      together = λ _. rw c.number.ensures (plays.history, unit_finishes _ _ _ _ _ _ _ _ _ _ _ plays.statuses none.reads none.writes, λ zero. plays.played (inl zero));
      serve = λ turns r. absurd (serve.not_together _ (turns, r) is);
      trial = λ s r. absurd (not_trial _ s is r);
      cascade = λ s r. absurd (not_cascade _ s is r);
      help = λ r. absurd (not_help _ is r);
    }

pub returns-then-are_together-clause-inside : goal.returns-then-are_together-clause-inside
returns-then-are_together-clause-inside g c = λ none. rw c.number.ensures (unit_inside _ _ _ _ _ _ _ _ _ _ _ c.play_script.ensures.statuses none.reads none.writes)

pub returns-in-Some-clause-complete : goal.returns-in-Some-clause-complete
returns-in-Some-clause-complete g c = λ none.
    let is : IsServing (map string_bytes c.args.words.now) = (_, c.in-Some.ensures) in
    record {
      run = λ r. absurd (serve.not_run _ is r);
      convert = λ r. absurd (serve.not_convert _ is r);
      simulcast = λ r. absurd (serve.not_simulcast _ is r);
      check = λ id r. absurd (serve.not_check _ id is r);
      recorded = λ id r. absurd (serve.not_record _ id is r);
      together = λ r. absurd (serve.not_together _ is r);
      serve = λ turns r. rw c.number-in-Some.ensures (serve_finishes _ _ _ _ _ _ _ _ none c.serve.ensures);
      trial = λ s r. absurd (serve.not_trial _ s is r);
      cascade = λ s r. absurd (serve.not_cascade _ s is r);
      help = λ r. absurd (serve.not_help _ is r);
    }

pub returns-in-Some-clause-inside : goal.returns-in-Some-clause-inside
returns-in-Some-clause-inside g c = λ none. rw c.number-in-Some.ensures (serve_inside _ _ _ _ _ _ _ _ none c.serve.ensures)

pub returns-clause-complete : goal.returns-clause-complete
returns-clause-complete g c = λ none.
    let alone = c.sfu_alone.ensures in
    record {
      run = λ r. unit_finishes _ _ _ _ _ _ _ _ _ _ _ (alone.run r) none.reads none.writes;
      convert = λ r. unit_finishes _ _ _ _ _ _ _ _ _ _ _ (alone.convert r) none.reads none.writes;
      simulcast = λ r. unit_finishes _ _ _ _ _ _ _ _ _ _ _ (alone.simulcast r) none.reads none.writes;
      check = λ id r. unit_finishes _ _ _ _ _ _ _ _ _ _ _ (alone.check id r) none.reads none.writes;
      recorded = λ id r. unit_finishes _ _ _ _ _ _ _ _ _ _ _ (alone.record id r) none.reads none.writes;
      together = λ r. absurd (false≢true (c.if-are_together.ensures.1 r));
      serve = λ turns r. absurd (c.in_default.ensures turns r);
      trial = λ s r. let shows = (alone.trial s r).shows in summary_shows _ _ _ _ _ _ shows.only shows.sink shows.done none.writes;
      cascade = λ s r. let shows = (alone.cascade s r).shows in summary_shows _ _ _ _ _ _ shows.only shows.sink shows.done none.writes;
      help = λ r. usage_shows _ _ _ _ _ (alone.help r).shows none.writes;
    }

pub returns-clause-inside : goal.returns-clause-inside
returns-clause-inside g c = λ none. c.sfu_alone.ensures.inside none.reads none.writes

-- ---- the first fault

pub returns-then-are_together-clause-first_fault : goal.returns-then-are_together-clause-first_fault
returns-then-are_together-clause-first_fault g c = record { exchange = rw c.number.ensures c.play_script.ensures.statuses.every.first_fault; ports = λ _. refl }

pub returns-in-Some-clause-first_fault : goal.returns-in-Some-clause-first_fault
returns-in-Some-clause-first_fault g c = record { exchange = rw c.number-in-Some.ensures c.serve.ensures.first_fault; ports = rw c.number-in-Some.ensures c.serve.ensures.calm }

pub returns-clause-first_fault : goal.returns-clause-first_fault
returns-clause-first_fault g c = record { exchange = c.sfu_alone.ensures.first_fault; ports = λ _. refl }
