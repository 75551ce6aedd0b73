use Rattle.obu_element.proofs.Headers.{no_fault, one_header, same_fields}
use Rattle.obu_element.proofs.laws.a_header_has_one_reading.Goals as goal

pub returns-clause-no_fault : goal.returns-clause-no_fault
returns-clause-no_fault c = no_fault

pub returns-clause-fields : goal.returns-clause-fields
returns-clause-fields c = same_fields

pub returns-clause-one : goal.returns-clause-one
returns-clause-one c = one_header
