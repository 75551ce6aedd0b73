use Rattle.std.proofs.Common.{◌≡◌, rules}
use Rattle.sfu_commands.proofs.IdWords.{found, no_number, no_zero}
use Rattle.sfu_commands.proofs.id_words.read_id.Goals as goal

pub returns-in-Err : goal.returns-in-Err
returns-in-Err c = no_number c.args.name.now c.args.word.now c.args.id.now c.as_bytes.result.now c.as_bytes.ensures.value c.in-Err.ensures.value

pub returns-then-number-eq0 : goal.returns-then-number-eq0
returns-then-number-eq0 c =
    no_zero c.args.name.now c.args.word.now c.args.id.now c.as_bytes.result.now c.as_bytes.ensures.value c.in-Ok.numbers c.in-Ok.ensures.value c.if-number-eq0.true

pub returns : goal.returns
returns c =
    let said : c.args.word.now ≡ c.args.name.now = search rules in
    found c.args.name.now c.args.word.now c.args.id.now c.as_bytes.result.now c.as_bytes.ensures.value c.in-Ok.numbers c.in-Ok.ensures.value c.try_from.result c.ok.result said
    c.if-number-eq0.false c.try_from.ensures c.ok.ensures.value
