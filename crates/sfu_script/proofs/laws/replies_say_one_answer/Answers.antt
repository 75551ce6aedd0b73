use Rattle.sfu_script.proofs.ReplyLaws.{one_answer}
use Rattle.sfu_script.proofs.laws.replies_say_one_answer.Goals as goal

pub returns : goal.returns
returns c = one_answer
