use Rattle.std.proofs.Common.{map, ap}
use Rattle.std.specs.String.{string_bytes}
use Rattle.sfu_commands.proofs.StreamNumbers.{four_items, reads_four}
use Rattle.sfu_commands.proofs.words.read_words.Goals as goal

pub returns-in-len4 : goal.returns-in-len4
returns-in-len4 c =
    let is = four_items c.args.words.now c.name-item.result c.frames-item.result c.start-item.result c.loss-item.result
    c.in-len4.len_at_least c.in-len4.len_below c.name-item.is c.frames-item.is c.start-item.is c.loss-item.is in
    reads_four (map string_bytes c.args.words.now) c.as_str-in-len4.result.now c.as_str-in-len4-2.result.now c.as_str-in-len4-3.result.now c.as_str-in-len4-4.result.now
    c.read_four.result
    (rw (c.as_str-in-len4.ensures.value, c.as_str-in-len4-2.ensures.value, c.as_str-in-len4-3.ensures.value, c.as_str-in-len4-4.ensures.value) (ap (map string_bytes) is))
    c.read_four.ensures
