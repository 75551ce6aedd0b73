use Rattle.std.proofs.Common.{sym, arith, ◌∙◌}
use Rattle.std.proofs.lemmas.List.{take_rest, drop-drop}
use Rattle.dd_bits.specs.Bits.{bits_of_bytes}
use Rattle.dd_bits.specs.Reader.{bits_left}
use Rattle.dd_bits.proofs.Bytes.{length-bits_left, value_in_byte, drop_byte}
use Rattle.dd_bits.proofs.reader.BitReader.take_in_byte.Goals as goal
use Rattle.dd_bits.proofs.reader.BitReader.take_in_byte.Goals.{then-behind-eq0, else-behind-eq0}

pub unreachable-requires : goal.unreachable-requires
unreachable-requires c = omega (arith, length-bits_left c.args.self.now)

pub returns-clause-number : goal.returns-clause-number
unfolding bits_left
returns-clause-number c = c.digits_at.ensures.value ∙ sym (value_in_byte c.args.self.now.used c.args.count c.args.self.now.rest.now c.requires.in_byte (omega arith))

pub returns-clause-rest : goal.returns-clause-rest
unfolding bits_left
returns-clause-rest c =
    elim c.if-behind-eq0.branch [
      | then-behind-eq0 w ↦ rw (w.self-is, take_rest) (sym (drop_byte c.args.self.now.used c.args.count c.args.self.now.rest.now (omega arith) (omega arith)))
      | else-behind-eq0 w ↦ rw w.self-is (sym (drop-drop c.args.count c.args.self.now.used (bits_of_bytes c.args.self.now.rest.now)))
    ]
