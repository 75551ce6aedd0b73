use Rattle.std.proofs.Common.{Bool, List, ap, subst, ◌∙◌}
use Rattle.dd_bits.specs.Bits.{bits_of}
use Rattle.dd_bits.specs.Writer.{Puts}
use Rattle.dd_bits.proofs.Values.{bits_of-mod}
use Rattle.dd_descriptor.proofs.remasking.put_mask.Goals as goal

pub returns : goal.returns
returns c =
    subst (λ (bits : List Bool). Puts c.put.result c.args.out.now c.put.new.self bits)
    (ap (bits_of c.args.targets) c.lowest.ensures ∙ bits_of-mod c.args.targets c.args.mask) c.put.ensures.put
