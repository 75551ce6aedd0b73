use Rattle.std.proofs.Common.{List, ℕ, sym, arith, subst}
use Rattle.sfu_script.specs.Fields.{AreWithin}
use Rattle.script_records.proofs.Numbers.{numbers_are_within, all_read}
use Rattle.script_records.proofs.fields.read_numbers.Goals as goal

pub returns-clause-within : goal.returns-clause-within
returns-clause-within g c =
    subst (λ (numbers : List ℕ). AreWithin c.args.fields.now numbers)
    (sym (all_read c.args.fields.now c.loop-i.numbers c.loop-i.rest.now _ c.loop-i.i (omega arith) c.loop-i.invariant.whole c.loop-i.invariant.reads))
    (numbers_are_within c.args.fields.now c.args.bytes.now (λ i. omega (arith, c.type_inv.bytes i)))
