-- The first three bytes of a descriptor.
use Rattle.std.proofs.Common.{◌≡◌, ℕ, ◌+◌, ◌≤◌, ◌<◌, Bool, List, ◌++◌, length, drop, take, Option, Result, Ok, Err, sym, ap, ◌∙◌, refl, eqb, inl, inr, arith}
use Rattle.std.proofs.lemmas.List.{length-append, length-drop}
use Rattle.std.proofs.lemmas.Bool.{cases_lt}
use Rattle.dd_bits.specs.Bits.{bits_of, bits_of_bytes, value}
use Rattle.dd_bits.specs.Sequences.{or_fault}
use Rattle.dd_bits.proofs.Bytes.{length-bits_of_bytes}
use Rattle.dd_bits.proofs.NumberLemmas.{fixed_some}
use Rattle.dd_bits.proofs.Values.{length-bits_of}
use Rattle.dd_bits.proofs.SequenceLaws.{bind_is, bind_then, ok_is}
use Rattle.dd_structure.specs.TemplateStructure.{TemplateStructure}
use Rattle.dd_descriptor.specs.declared.descriptor.Edges.{Edges}
use Rattle.dd_descriptor.specs.declared.fault.DdFault.{DdFault}
use Rattle.dd_descriptor.specs.declared.fault.DdFault.TheVariants as faults
use Rattle.dd_descriptor.specs.declared.parts.Head.{Head}
use Rattle.dd_descriptor.specs.Content.{Content}
use Rattle.dd_descriptor.specs.Edges.{edges_of, BeginsWith}
use Rattle.dd_descriptor.specs.Reading.{number_at, flag_at, head_at, flags_in, carried_at, held_body_at, descriptor_at}
use Rattle.dd_descriptor.specs.Spelling.{flag_bits}
use Rattle.dd_descriptor.proofs.Found.{head_found}
use Rattle.dd_descriptor.proofs.LaidFound.{head_laid, content_from, length-flag_bits}

-- ---- if there are enough bits

-- something is read that takes n of the bits
pub record Reads {A : Type 0} (n : ℕ) (bits : List Bool) (r : Result (A × List Bool) DdFault) : Type 0 where
  pub found : A × List Bool
  pub is : r ≡ Ok found
  pub left : length found.1 + n ≡ length bits

pub number_reads : (n : ℕ) (bits : List Bool) → n ≤ length bits → Reads n bits (number_at n bits)
number_reads n bits enough = record {
  found = (value (take n bits), drop n bits);
  is = ap (or_fault faults.Short) (fixed_some n bits enough);
  left = omega (arith, length-drop n bits);
}

flag_reads : (bits : List Bool) → 1 ≤ length bits → Reads 1 bits (flag_at bits)
unfolding flag_at
flag_reads bits enough =
    let n = number_reads 1 bits enough in
    record { found = (eqb n.found.0 1, n.found.1); is = bind_is (number_at 1 bits) _ _ _ n.is refl; left = n.left }

head_reads : (bits : List Bool) → 24 ≤ length bits → (x : Head × List Bool) × (head_at bits ≡ Ok x)
unfolding head_at
head_reads bits enough =
    let start = flag_reads bits (omega (arith, enough)) in
    let last = flag_reads start.found.1 (omega (arith, enough, start.left)) in
    let template = number_reads 6 last.found.1 (omega (arith, enough, start.left, last.left)) in
    let number = number_reads 16 template.found.1 (omega (arith, enough, start.left, last.left, template.left)) in (
      (record { start = start.found.0; end = last.found.0; template = template.found.0; number = number.found.0 }, number.found.1),
      bind_is (flag_at bits) _ _ _ start.is (
          bind_is (flag_at start.found.1) _ _ _ last.is (
          bind_is (number_at 6 last.found.1) _ _ _ template.is (
          bind_is (number_at 16 template.found.1) _ _ _ number.is refl))),
    )

pub never : {A B E : Type 0} (r : Result A E) (x : A) (e : E) → r ≡ Ok x → r ≡ Err e → B
never r x e given fault = absurd cc

pub front_short : (bytes : List ℕ) (e : DdFault) → head_at (bits_of_bytes bytes) ≡ Err e → length bytes < 3
front_short bytes e fault =
    elim (cases_lt (length bytes) 3) [
      | inl lt ↦ lt
      | inr le ↦ let h = head_reads (bits_of_bytes bytes) (omega (arith, length-bits_of_bytes bytes, le)) in never (head_at (bits_of_bytes bytes)) h.0 e h.1 fault
    ]

-- ---- what is read

pub front_long : (bytes : List ℕ) (x : Head × List Bool) → head_at (bits_of_bytes bytes) ≡ Ok x → 3 ≤ length bytes
front_long bytes x e =
    let rest2 = bits_of 16 x.0.number ++ x.1 in
    let rest3 = bits_of 6 x.0.template ++ rest2 in
    let rest4 = flag_bits x.0.end ++ rest3 in
    omega (
      arith,
      ap length (head_laid (bits_of_bytes bytes) x e),
      length-bits_of_bytes bytes,
      length-append (flag_bits x.0.start) rest4,
      length-append (flag_bits x.0.end) rest3,
      length-append (bits_of 6 x.0.template) rest2,
      length-append (bits_of 16 x.0.number) x.1,
      length-flag_bits x.0.start,
      length-flag_bits x.0.end,
      length-bits_of 6 x.0.template,
      length-bits_of 16 x.0.number,
    )

abbrev pub edges_in : Head → Edges
edges_in h = record { start = h.start; end = h.end; number = h.number }

pub front_begins : (bytes : List ℕ) (x : Head × List Bool) → head_at (bits_of_bytes bytes) ≡ Ok x → BeginsWith bytes (edges_in x.0)
front_begins bytes x e = record { template = x.0.template; behind = x.1; small = (head_found (bits_of_bytes bytes) x e).0; bits = head_laid (bits_of_bytes bytes) x e }

-- ---- in a descriptor that can be read

pub front_of : (bytes : List ℕ) (force : Option TemplateStructure) (c : Content) (x : Head × List Bool) → head_at (bits_of_bytes bytes) ≡ Ok x → descriptor_at bytes force ≡ Ok c → edges_in x.0 ≡ edges_of c
unfolding descriptor_at
front_of bytes force c x e e0 =
    bind_then (head_at (bits_of_bytes bytes)) _ c e0 (λ head eh e1.
    bind_then (flags_in (length bytes) head.1) _ c e1 (λ flags ef e2.
    bind_then (carried_at flags.0.structure flags.1) _ c e2 (λ carried ec e3.
    bind_then (held_body_at head.0.template flags.0 carried.0 force carried.1) _ c e3 (λ body eb e4.
    ap (λ (y : Head × List Bool). edges_in y.0) (ok_is {E = DdFault} x head (sym e ∙ eh)) ∙ ap edges_of (ok_is {E = DdFault} (content_from head.0 flags.0 carried.0 body.0) c e4)))))

pub front_fault : {A : Type 0} (bytes : List ℕ) (force : Option TemplateStructure) (c : Content) (e : DdFault) → head_at (bits_of_bytes bytes) ≡ Err e → descriptor_at bytes force ≡ Ok c → A
unfolding descriptor_at
front_fault bytes force c e fault e0 = bind_then (head_at (bits_of_bytes bytes)) _ c e0 (λ head eh e1. never (head_at (bits_of_bytes bytes)) head e eh fault)
