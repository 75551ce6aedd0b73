use Rattle.std.proofs.Common.{◌≡◌, take}
use Rattle.std.specs.List.{flat_map}
use Rattle.script_texts.specs.Entries.{entry_text}
use Rattle.port_config.proofs.actors.writing.text_of.Given as goal

abbrev pub invariant-loop-entry : goal.invariant-loop-entry
invariant-loop-entry l = l.text ≡ flat_map entry_text (take l.entry-index l.entry-items)
