use Rattle.std.proofs.Common.{refl}
use Rattle.sfu_serve.proofs.Stepping.{emits, emits_none, emits_not}
use Rattle.sfu_serve.proofs.driver.send_output.Goals as goal

pub returns-in-Nothing : goal.returns-in-Nothing
returns-in-Nothing g c = record {
  sent = λ whole rest seat fits goes.
      emits_none c.args.output c.args.packet.now seat (g.L.Link.traffic c.args.link.now) (g.L.Link.faults c.args.link.now) whole rest c.in-Nothing.is fits goes;
  unsent = tt;
  name = refl;
}

pub returns-in-Packet : goal.returns-in-Packet
returns-in-Packet g c = record {
  sent = emits c.send.result c.args.output c.args.packet.now (g.L.Link.traffic c.args.link.now) (g.L.Link.traffic c.send.new.self) (g.L.Link.faults c.args.link.now) (g.L.Link.faults c.send.new.self) c.in-Packet.is c.send.ensures.traffic c.send.ensures.cause;
  unsent = emits_not c.send.result c.args.output c.args.packet.now (g.L.Link.traffic c.args.link.now) (g.L.Link.traffic c.send.new.self) (g.L.Link.faults c.args.link.now) (g.L.Link.faults c.send.new.self) c.in-Packet.is c.send.ensures.traffic c.send.ensures.cause;
  name = c.send.ensures.name;
}
