use Rattle.std.proofs.Common.{arith, sym, ◌∙◌}
use Rattle.ref_window.proofs.Held.{near_held, far_held, first_held}
use Rattle.ref_window.proofs.words.move_on.Goals as goal

pub returns-then-number-greatest-le-SPAN : goal.returns-then-number-greatest-le-SPAN
returns-then-number-greatest-le-SPAN c =
    near_held c.args.greatest c.args.number c.args.words.now c.clear_bits.new.words c.set_bit.new.words c.requires (omega arith)
    c.clear_bits.ensures c.set_bit.ensures

pub returns-else-number-greatest-le-SPAN : goal.returns-else-number-greatest-le-SPAN
returns-else-number-greatest-le-SPAN c =
    first_held c.args.number c.clear_all.new.words c.clear_all.ensures
    ∙ sym (far_held c.args.greatest c.args.number c.args.words.now (omega arith))
