use Rattle.script_records.proofs.writer.append_call.Goals as goal

pub returns-in-Packet-clause-ok : goal.returns-in-Packet-clause-ok
returns-in-Packet-clause-ok c = rw (c.in-Packet.is, ← c.bytes.ensures.bytes) c.append_packet.ensures.ok

pub returns-in-Tick-clause-ok : goal.returns-in-Tick-clause-ok
returns-in-Tick-clause-ok c = rw c.in-Tick.is c.append-in-Tick.ensures.ok

pub returns-in-Join-clause-ok : goal.returns-in-Join-clause-ok
returns-in-Join-clause-ok c = rw c.in-Join.is c.append_join.ensures.ok

pub returns-in-Why-clause-ok : goal.returns-in-Why-clause-ok
returns-in-Why-clause-ok c = rw c.in-Why.is c.append-in-Why.ensures.ok
