use Rattle.std.proofs.Common.{ℕ}
use Rattle.sfu_base.specs.declared.call.Call.{Call}
use Rattle.sfu_script.specs.ActorLines.{IsActorLine, actor_call_of}
use Rattle.sfu_script.proofs.ActorLaws.{actor_call_found, actor_call_again}
use Rattle.sfu_script.proofs.Outcomes.{read_is, none_is}
use Rattle.sfu_script.proofs.actor_line.read_actor_line.Goals as goal

pub returns-clause-ok : goal.returns-clause-ok
returns-clause-ok c =
    read_is (λ (said : ℕ × Call). IsActorLine said.0 said.1 c.args.line.now) c.actor_call.result (actor_call_of c.args.line.now)
    (λ said e. actor_call_found c.args.line.now said.0 said.1 e) c.actor_call.ensures

pub returns-clause-err : goal.returns-clause-err
returns-clause-err c =
    none_is (λ (said : ℕ × Call). IsActorLine said.0 said.1 c.args.line.now) c.actor_call.result (actor_call_of c.args.line.now)
    (λ said h. actor_call_again c.args.line.now said.0 said.1 h) c.actor_call.ensures
