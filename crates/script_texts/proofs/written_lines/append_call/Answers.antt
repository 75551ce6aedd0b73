use Rattle.script_texts.proofs.written_lines.append_call.Goals as goal

pub returns-in-Unpublish-clause-ok : goal.returns-in-Unpublish-clause-ok
returns-in-Unpublish-clause-ok c = rw c.in-Unpublish.is c.append_numbered.ensures.ok

pub returns-in-Packet-clause-ok : goal.returns-in-Packet-clause-ok
returns-in-Packet-clause-ok c = rw c.in-Packet.is c.append_packet.ensures.ok
