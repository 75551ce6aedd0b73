use Rattle.command_laws.proofs.RecordedLaws.{none_ends_with_8, taken_calm}
use Rattle.command_laws.proofs.laws.taken_packets_arent_complained_of.Goals as goal

pub returns : goal.returns
returns c = record { complaint = taken_calm; status = none_ends_with_8 }
