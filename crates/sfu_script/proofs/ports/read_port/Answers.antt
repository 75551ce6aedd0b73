use Rattle.sfu_script.specs.Ports.{IsPortLine, port_of}
use Rattle.sfu_script.specs.declared.ports.PortLine.{PortLine}
use Rattle.sfu_script.proofs.Outcomes.{read_is, none_is}
use Rattle.sfu_script.proofs.PortLaws.{port_found, port_again}
use Rattle.sfu_script.proofs.ports.read_port.Goals as goal

pub returns-clause-ok : goal.returns-clause-ok
returns-clause-ok c =
    read_is (λ (said : PortLine). IsPortLine said c.args.line.now) c.port.result (port_of c.args.line.now) (λ said e. port_found c.args.line.now said e) c.port.ensures

pub returns-clause-err : goal.returns-clause-err
returns-clause-err c =
    none_is (λ (said : PortLine). IsPortLine said c.args.line.now) c.port.result (port_of c.args.line.now) (λ said h. port_again c.args.line.now said h) c.port.ensures
