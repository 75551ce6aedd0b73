use Rattle.strict_receiver.proofs.Accepting.{header_same}
use Rattle.strict_receiver.proofs.Distances.{near_from}
use Rattle.strict_receiver.proofs.joining.start_of.Goals as goal

pub invariant_of-result : goal.invariant_of-result
invariant_of-result c = record { few = c.requires.few; near = near_from c.args.first.now.ref_count c.args.first.now.refs c.requires.near }

pub returns : goal.returns
returns c force = header_same force c.args.first.now c.begins_epoch.result (c.begins_epoch.ensures force)
