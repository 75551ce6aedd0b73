use Rattle.script_texts.proofs.complaints.append_complaint.Goals as goal

pub returns-in-OtherSource-clause-ok : goal.returns-in-OtherSource-clause-ok
returns-in-OtherSource-clause-ok c = rw (c.in-OtherSource.is, ← c.from.ensures) c.append_pieces-in-OtherSource.ensures.ok

pub returns-in-MissingReference-clause-ok : goal.returns-in-MissingReference-clause-ok
returns-in-MissingReference-clause-ok c =
    rw (c.in-MissingReference.is, ← c.from.ensures, ← c.from-in-MissingReference.ensures, ← c.from-in-MissingReference-2.ensures)
    c.append_pieces-in-MissingReference.ensures.ok
