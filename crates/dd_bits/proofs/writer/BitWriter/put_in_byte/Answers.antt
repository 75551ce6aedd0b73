use Rattle.std.proofs.Common.{◌≡◌, ◌+◌, ◌-◌, ◌<◌, length, arith, ◌∙◌}
use Rattle.std.proofs.lemmas.List.{get_or-set_same}
use Rattle.dd_bits.specs.Writer.{written}
use Rattle.dd_bits.proofs.Bytes.{length-written, put_whole, put_part}
use Rattle.dd_bits.proofs.NumberLemmas.{with_digits-small}
use Rattle.dd_bits.proofs.writer.BitWriter.put_in_byte.Goals as goal

pub byte_with-requires-clause-small : goal.byte_with-requires-clause-small
byte_with-requires-clause-small c = rw c.with_digits-pending.ensures (with_digits-small c.args.self.now.pending c.args.self.now.used c.args.count c.args.value c.args.self.now.small c.requires.small)

pub bounds-self-self : goal.bounds-self-self
bounds-self-self c = omega (arith, length-written c.args.self.now)

pub invariant_of-self-clause-within : goal.invariant_of-self-clause-within
invariant_of-self-clause-within c = omega (arith, length-written c.args.self.now)

pub invariant_of-self-else-used-eq8-clause-within : goal.invariant_of-self-else-used-eq8-clause-within
invariant_of-self-else-used-eq8-clause-within c = omega (arith, length-written c.args.self.now)

pub invariant_of-self-else-used-eq8-clause-small : goal.invariant_of-self-else-used-eq8-clause-small
invariant_of-self-else-used-eq8-clause-small c =
    rw c.with_digits-pending.ensures (with_digits-small c.args.self.now.pending c.args.self.now.used c.args.count c.args.value c.args.self.now.small c.requires.small)

pub invariant_of-self-else-used-eq8-clause-shown : goal.invariant_of-self-else-used-eq8-clause-shown
invariant_of-self-else-used-eq8-clause-shown c =
    λ some. let within : c.args.self.now.len < length c.args.self.now.bytes = omega (arith, length-written c.args.self.now, c.args.self.now.whole) in
    get_or-set_same c.args.self.now.bytes c.args.self.now.len _ 0 within ∙ c.byte_with.ensures

pub returns-then-used-eq8 : goal.returns-then-used-eq8
unfolding written
returns-then-used-eq8 c =
    let none : 8 - (c.args.self.now.used + c.args.count) ≡ 0 = omega arith in
    let whole = rw none at c.byte_with.ensures in
    put_whole c.args.self.now.bytes c.args.self.now.len c.args.self.now.used c.args.count c.args.self.now.pending c.args.value _ (omega (arith, length-written c.args.self.now, c.args.self.now.whole)) c.requires.small c.if-used-eq8.true
    (omega (arith, whole, c.with_digits-pending.ensures))

pub returns-else-used-eq8 : goal.returns-else-used-eq8
unfolding written
returns-else-used-eq8 c =
    rw c.with_digits-pending.ensures (put_part c.args.self.now.bytes c.args.self.now.len c.args.self.now.used c.args.count c.args.self.now.pending c.args.value _ c.requires.small)
