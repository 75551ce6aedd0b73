use Rattle.std.proofs.Common.{Result, Ok, refl, ap, arith}
use Rattle.dd_bits.specs.declared.reader.Short.{Short}
use Rattle.dd_descriptor.specs.declared.descriptor.Edges.{Edges}
use Rattle.dd_descriptor.proofs.FirstBytes.{front_short, front_long, front_begins, front_of, front_fault}
use Rattle.dd_descriptor.proofs.front.edges.Goals as goal

pub returns-in-Ok-clause-short : goal.returns-in-Ok-clause-short
returns-in-Ok-clause-short c =
    let long = front_long c.args.bytes.now _ c.in-Ok.ensures.read in
    (λ yes. absurd cc, λ few. absurd (omega (arith, long, few)))

pub returns-in-Ok-clause-front : goal.returns-in-Ok-clause-front
returns-in-Ok-clause-front c = front_begins c.args.bytes.now _ c.in-Ok.ensures.read

pub returns-in-Ok-clause-read : goal.returns-in-Ok-clause-read
returns-in-Ok-clause-read c force content read = ap given (front_of c.args.bytes.now force content _ c.in-Ok.ensures.read read)
  where
    given : Edges → Result Edges Short
    given e = Ok e

pub returns-in-Err-clause-short : goal.returns-in-Err-clause-short
returns-in-Err-clause-short c = (λ yes. front_short c.args.bytes.now c.in-Err.field-0 c.in-Err.ensures.read, λ few. refl)

pub returns-in-Err-clause-read : goal.returns-in-Err-clause-read
returns-in-Err-clause-read c force content read = front_fault c.args.bytes.now force content c.in-Err.field-0 c.in-Err.ensures.read read
