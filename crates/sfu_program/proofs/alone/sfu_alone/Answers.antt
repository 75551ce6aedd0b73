use Rattle.sfu_program.proofs.Completing.{summary_shows, unit_finishes, usage_shows}
use Rattle.sfu_program.proofs.ServeForms as serve
use Rattle.sfu_program.proofs.TogetherForms.{not_form}
use Rattle.sfu_program.proofs.alone.sfu_alone.Goals as goal

pub returns-clause-complete : goal.returns-clause-complete
returns-clause-complete g c = λ form reads writes.
    let does = c.follow.ensures in
    record {
      run = λ is. unit_finishes _ _ _ _ _ _ _ _ _ _ _ (does.run is) reads writes;
      convert = λ is. unit_finishes _ _ _ _ _ _ _ _ _ _ _ (does.convert is) reads writes;
      simulcast = λ is. unit_finishes _ _ _ _ _ _ _ _ _ _ _ (does.simulcast is) reads writes;
      check = λ id is. unit_finishes _ _ _ _ _ _ _ _ _ _ _ (does.check id is) reads writes;
      recorded = λ id is. unit_finishes _ _ _ _ _ _ _ _ _ _ _ (does.record id is) reads writes;
      together = λ is. absurd (not_form _ is form);
      serve = λ turns is. absurd (serve.not_form _ (turns, is) form);
      trial = λ s is. let shows = (does.trial s is).shows in summary_shows _ _ _ _ _ _ shows.only shows.sink shows.done writes;
      cascade = λ s is. let shows = (does.cascade s is).shows in summary_shows _ _ _ _ _ _ shows.only shows.sink shows.done writes;
      help = λ is. usage_shows _ _ _ _ _ (does.help is).shows writes;
    }
