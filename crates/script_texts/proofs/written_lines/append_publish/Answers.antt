use Rattle.script_texts.proofs.written_lines.append_publish.Goals as goal

pub returns-in-Layered-clause-ok : goal.returns-in-Layered-clause-ok
returns-in-Layered-clause-ok c =
    rw (c.in-Layered.is, ← c.from.ensures, ← c.from-2.ensures, ← c.from-in-Layered.ensures) c.append_pieces-in-Layered.ensures.ok
