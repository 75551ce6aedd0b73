-- What a command reads from its source and writes to its sink, as far as contracts see it. Own rule.
use Rattle.std.specs.Prelude.{ℕ, List, Option}

-- The bytes left in the source, the bytes written to the sink, and the count of faults of each, before a command and (with a prime) after it.
pub record Exchange : Type 0 where
  pub left : Option (List ℕ)
  pub left' : Option (List ℕ)
  pub written : Option (List ℕ)
  pub written' : Option (List ℕ)
  pub reads : ℕ
  pub reads' : ℕ
  pub writes : ℕ
  pub writes' : ℕ

abbrev pub exchange_by : (left left' written written' : Option (List ℕ)) (reads reads' writes writes' : ℕ) → Exchange
exchange_by left left' written written' reads reads' writes writes' =
    record { left = left; left' = left'; written = written; written' = written'; reads = reads; reads' = reads'; writes = writes; writes' = writes' }

-- the exchange of a source and a sink, by their bytes and counts of faults
abbrev pub exchange_of : {S K : Type 0} → (S → Option (List ℕ)) → (S → ℕ) → (K → Option (List ℕ)) → (K → ℕ) → S → S → K → K → Exchange
exchange_of left reads written writes source source' sink sink' =
    exchange_by (left source) (left source') (written sink) (written sink') (reads source) (reads source') (writes sink) (writes sink')
