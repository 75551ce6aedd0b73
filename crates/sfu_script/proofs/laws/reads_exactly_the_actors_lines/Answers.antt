use Rattle.sfu_script.proofs.ActorLaws.{actor_call_found, actor_call_again}
use Rattle.sfu_script.proofs.laws.reads_exactly_the_actors_lines.Goals as goal

pub returns : goal.returns
returns c = λ actor call line. (actor_call_found line actor call, actor_call_again line actor call)
