use Rattle.std.proofs.Common.{ℕ, ◌<◌, slice_index_or, arith}
use Rattle.dd_descriptor.proofs.Fields.{head_cut, head_of_front}
use Rattle.dd_descriptor.proofs.reading.fields.head.Goals as goal

pub returns-in_default-clause-read : goal.returns-in_default-clause-read
returns-in_default-clause-read c = head_cut c.args.bytes.now c.in_default.len_below

pub returns-in-len3-up-clause-read : goal.returns-in-len3-up-clause-read
returns-in-len3-up-clause-read c =
    let small : (i : ℕ) → slice_index_or c.args.bytes.now i 0 < 256 = λ i. omega (arith, c.type_inv.bytes i) in
    rw c.new.ensures (head_of_front c.args.bytes.now c.in-len3-up.len_at_least (small 0) (small 1) (small 2))
