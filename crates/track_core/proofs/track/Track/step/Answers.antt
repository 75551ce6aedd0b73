use Rattle.std.proofs.Common.{◌∙◌, ap, subst, sym}
use Rattle.sfu_base.specs.declared.frame.FrameMeaning.{FrameMeaning}
use Rattle.track_core.specs.Track.{IsMadeValid, with_meaning}
use Rattle.track_core.proofs.WithMeaning.{idle_with_meaning, packet_with_meaning}
use Rattle.track_core.proofs.track.Track.step.Goals as goal

pub returns-clause-idle : goal.returns-clause-idle
returns-clause-idle c = (
  λ none. c.advance-advance.ensures.idle.0 (idle_with_meaning c.meaning.result.now c.advance-advance.result (sym c.with_meaning.ensures ∙ none)),
  λ empty. c.with_meaning.ensures ∙ ap (with_meaning c.meaning.result.now) (c.advance-advance.ensures.idle.1 empty),
)

pub returns-clause-made : goal.returns-clause-made
returns-clause-made c events worked stands =
    c.with_meaning.ensures ∙ ap (λ (m : FrameMeaning). with_meaning m c.advance-advance.result) c.meaning.ensures ∙ c.advance-advance.ensures.made events worked stands

pub returns-clause-one : goal.returns-clause-one
returns-clause-one c packet = c.advance-advance.ensures.one (packet_with_meaning c.meaning.result.now c.advance-advance.result (sym c.with_meaning.ensures ∙ packet))

pub returns-clause-valid : goal.returns-clause-valid
returns-clause-valid c =
    subst IsMadeValid (sym (c.with_meaning.ensures ∙ ap (λ (m : FrameMeaning). with_meaning m c.advance-advance.result) c.meaning.ensures)) c.advance-advance.ensures.valid
