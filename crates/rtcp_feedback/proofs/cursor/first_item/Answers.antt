use Rattle.std.proofs.Common.{◌≡◌, ◌∙◌, ◌-◌, ◌≤◌, ℕ, List, length, take, drop, sym, arith, length-drop, length-take}
use Rattle.rtcp_feedback.proofs.Cutting.{no_feedback}
use Rattle.rtcp_feedback.proofs.Marks.{item_there, no_item, only_packets}
use Rattle.rtcp_feedback.proofs.Placing.{next_pair}
use Rattle.rtcp_feedback.specs.declared.cursor.Cursor.{Cursor}
use Rattle.rtcp_feedback.proofs.cursor.first_item.Goals as goal

pub loop-seq-preserved-then-pairs-ge-PAIR : goal.loop-seq-preserved-then-pairs-ge-PAIR
loop-seq-preserved-then-pairs-ge-PAIR c =
    let at : Cursor = c.loop-seq.at in
    let bytes : List ℕ = c.args.bytes.now in
    let stands = c.loop-seq.invariant.stands in
    let begins = stands.begins in
    let ends = stands.ends in
    let short = length-take (at.end - at.pairs) (drop at.pairs bytes) in
    let left = length-drop at.pairs bytes in
    let long : 4 ≤ at.end - at.pairs = omega (arith, c.if-pairs-ge-PAIR.true, short, left, begins, ends) in
    record {
      left = next_pair at.media _ _ bytes (drop at.packets bytes) at.pairs at.end c.in_default.ensures long c.first_pair-at.ensures ∙ c.loop-seq.invariant.left;
      stands = record { begins = omega (arith, long); ends = ends; packets = stands.packets; faultless = stands.faultless };
    }

pub returns-then-at-bytes-clause-item : goal.returns-then-at-bytes-clause-item
returns-then-at-bytes-clause-item c =
    let at : Cursor = c.loop-seq.at in
    let bytes : List ℕ = c.args.bytes.now in
    let short = length-drop at.packets bytes in
    let none : length (drop at.packets bytes) ≡ 0 = omega (arith, short, c.if-at-bytes.true) in
    sym c.loop-seq.invariant.left
    ∙ (only_packets at.media _ (take (at.end - at.pairs) (drop at.pairs bytes)) (drop at.packets bytes) c.in_default.ensures (omega (arith, c.if-pairs-ge-PAIR.false))
    ∙ no_feedback (drop at.packets bytes) none)

pub returns-in-Some-item-clause-item : goal.returns-in-Some-item-clause-item
returns-in-Some-item-clause-item c =
    let at : Cursor = c.loop-seq.at in
    let bytes : List ℕ = c.args.bytes.now in
    sym c.loop-seq.invariant.left
    ∙ (only_packets at.media _ (take (at.end - at.pairs) (drop at.pairs bytes)) (drop at.packets bytes) c.in_default.ensures (omega (arith, c.if-pairs-ge-PAIR.false))
    ∙ item_there _ c.in-Some-item.item _ _ c.in-Some-item.is c.enter_packet-item.ensures.item)

pub loop-seq-preserved : goal.loop-seq-preserved
loop-seq-preserved c =
    let at : Cursor = c.loop-seq.at in
    let bytes : List ℕ = c.args.bytes.now in
    record {
      left =
          sym (no_item _ _ _ c.in_default-item.is c.enter_packet-item.ensures.item)
          ∙ (sym (only_packets at.media _ (take (at.end - at.pairs) (drop at.pairs bytes)) (drop at.packets bytes) c.in_default.ensures (omega (arith, c.if-pairs-ge-PAIR.false)))
          ∙ c.loop-seq.invariant.left);
      stands = c.enter_packet-item.ensures.within;
    }
