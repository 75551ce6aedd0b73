use Rattle.std.proofs.Common.{ap}
use Rattle.forwarding_model.specs.Receiver.{FrameHeader}
use Rattle.strict_receiver.proofs.joining.begun.Goals as goal

pub returns : goal.returns
returns c force continues = ap (λ (h : FrameHeader). record { header = h; packets = 1; carries = c.args.carries }) (c.start_of.ensures force)
