use Rattle.std.proofs.Common.{◌≡◌, ℕ, List, ap, sym, subst, ◌∙◌}
use Rattle.std.specs.Io.KnownBytes.{Appends}
use Rattle.sfu_program.specs.ServeOpening.{first_text}
use Rattle.sfu_program.specs.ServePorts.{seen_ports}
use Rattle.sfu_driver.proofs.Counting.{kept_first}
use Rattle.sfu_program.proofs.ServeActing.{acts_behind, ok_of}
use Rattle.sfu_program.proofs.serve.acting.act.Goals as goal
use Rattle.sfu_driver.specs.Statuses.{number_of}

pub returns-clause-acts : goal.returns-clause-acts
returns-clause-acts g c =
    let text : c.bytes.result.now ≡ first_text c.args.served.now.calls = c.bytes.ensures ∙ (c.in-Ok.ensures.text ∙ ap first_text c.calls.ensures) in
    acts_behind g.P.Port.Link.traffic g.P.Port.Link.faults g.P.Port.Link.name c.args.limit c.args.served.now.calls c.args.served.now.ports.items
    (g.K.Sink.written c.args.sink.now) (g.K.Sink.written c.write_all.new.sink) (g.K.Sink.written c.serve_ports.new.sink)
    (g.K.Sink.faults c.args.sink.now) (g.K.Sink.faults c.write_all.new.sink) (g.K.Sink.faults c.serve_ports.new.sink)
    (seen_ports (g.P.Ports.bound c.args.ports.now) (g.P.Ports.back_count c.args.ports.now) (g.P.Ports.returned c.args.ports.now) (g.P.Ports.faults c.args.ports.now))
    (seen_ports (g.P.Ports.bound c.serve_ports.new.ports) (g.P.Ports.back_count c.serve_ports.new.ports) (g.P.Ports.returned c.serve_ports.new.ports) (g.P.Ports.faults c.serve_ports.new.ports))
    (number_of c.serve_ports.result)
    (kept_first c.write_all.result (g.K.Sink.faults c.args.sink.now) (g.K.Sink.faults c.write_all.new.sink) (sym (sym c.is_err.ensures.value ∙ c.if-is_err.false)) c.write_all.ensures.counts)
    (subst (λ (xs : List ℕ). Appends (g.K.Sink.written c.args.sink.now) (g.K.Sink.written c.write_all.new.sink) xs) text (ok_of c.write_all.result (sym c.is_err.ensures.value ∙ c.if-is_err.false) c.write_all.ensures.ok))
    c.serve_ports.ensures.ends
