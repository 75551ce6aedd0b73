use Rattle.std.proofs.Common.{List, ℕ, ◌++◌, ◌+◌, ◌*◌, ap, drop, ◌∙◌, arith}
use Rattle.std.proofs.lemmas.List.{length-drop, take_rest}
use Rattle.rtp_packet.specs.Fields.{csrc_count}
use Rattle.packet_format.proofs.Filled.{packet_filled}
use Rattle.packet_format.proofs.remasking.fill_packet.Goals as goal

pub returns-clause-ok : goal.returns-clause-ok
returns-clause-ok c =
    let packet = c.args.packet.now in
    let start = 12 + 4 * csrc_count packet + c.args.old in
    packet_filled packet c.args.extension.now c.append-2.new.self c.args.old c.requires.there c.requires.behind
    (omega (arith, c.if-front-extension-gt-MOST.false, length-drop start packet))
    (c.append-2.ensures ∙ ap (λ (x : List ℕ). c.append.new.self ++ x) (take_rest packet start) ∙ ap (λ (x : List ℕ). x ++ drop start packet) (c.append.ensures ∙ ap (λ (x : List ℕ). x ++ c.args.extension.now) c.fill.ensures))
