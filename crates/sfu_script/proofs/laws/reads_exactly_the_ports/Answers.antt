use Rattle.sfu_script.proofs.PortLaws.{port_found, port_again}
use Rattle.sfu_script.proofs.laws.reads_exactly_the_ports.Goals as goal

pub returns : goal.returns
returns c = λ port line. (port_found line port, port_again line port)
