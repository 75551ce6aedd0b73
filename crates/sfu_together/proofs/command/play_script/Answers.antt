use Rattle.std.proofs.Common.{◌∙◌, ◌≡◌, ap, length, subst, List, ℕ}
use Rattle.std.specs.Io.KnownBytes.{Appends}
use Rattle.std.specs.List.{flat_map}
use Rattle.sfu_driver.specs.Drive.{WritesPart}
use Rattle.script_texts.specs.Entries.{entry_text}
use Rattle.sfu_together.specs.Together.{journal_text}
use Rattle.sfu_together.proofs.Bytes.{all_written}
use Rattle.sfu_together.proofs.Statuses.{plays_none, plays_part, plays_starved, plays_whole}
use Rattle.sfu_together.proofs.command.play_script.Goals as goal

pub returns-in-Err : goal.returns-in-Err
returns-in-Err g c = plays_none _ _ _ _ _ _ _ _ _ c.in-Err.ensures.err

pub returns-in_default : goal.returns-in_default
returns-in_default g c = plays_starved _ _ _ _ _ _ _ _ c.in-Ok.script c.in-Ok.ensures.ok

pub text_of-requires : goal.text_of-requires
text_of-requires g c = all_written c.in-Ok.script c.in-Ok-run_together.journal (ap length c.in-Ok.ensures.ok.parts.acts) c.in-Ok.ensures.ok.lines c.in-Ok-run_together.ensures

pub returns-in_default-text_of : goal.returns-in_default-text_of
returns-in_default-text_of g c = plays_starved _ _ _ _ _ _ _ _ c.in-Ok.script c.in-Ok.ensures.ok

pub returns-in-Ok-write_all : goal.returns-in-Ok-write_all
returns-in-Ok-write_all g c =
    let is = c.in-Ok-run_together.ensures in
    let text : c.bytes.result.now ≡ journal_text is.history = c.bytes.ensures ∙ (c.in-Ok-text_of.ensures ∙ ap (flat_map entry_text) is.reported) in
    plays_whole _ _ _ _ _ _ _ _ c.in-Ok.script c.in-Ok.ensures.ok _ _ is.history is.made is.headline
    (subst (λ (t : List ℕ). Appends (g.K.Sink.written c.read_actors.new.sink) (g.K.Sink.written c.write_all.new.sink) t) text c.in-Ok-write_all.ensures.ok)
    c.in-Ok-write_all.ensures.counts

pub returns : goal.returns
returns g c =
    let is = c.in-Ok-run_together.ensures in
    let text : c.bytes.result.now ≡ journal_text is.history = c.bytes.ensures ∙ (c.in-Ok-text_of.ensures ∙ ap (flat_map entry_text) is.reported) in
    plays_part _ _ _ _ _ _ _ _ c.in-Ok.script c.in-Ok.ensures.ok _ _ is.history is.made is.headline
    (subst (λ (t : List ℕ). WritesPart (g.K.Sink.written c.read_actors.new.sink) (g.K.Sink.written c.write_all.new.sink) t) text c.in-Err-write_all.ensures.part)
    c.in-Err-write_all.ensures.counts
