use Rattle.av1_payload.proofs.Grammar.{payload_faultless, payload_flags, payload_elements, one_reading}
use Rattle.av1_payload.proofs.laws.a_payload_has_one_reading.Goals as goal

pub returns-clause-faultless : goal.returns-clause-faultless
returns-clause-faultless c = payload_faultless

pub returns-clause-flags : goal.returns-clause-flags
returns-clause-flags c = payload_flags

pub returns-clause-elements : goal.returns-clause-elements
returns-clause-elements c = payload_elements

pub returns-clause-one : goal.returns-clause-one
returns-clause-one c = one_reading
