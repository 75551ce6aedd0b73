use Rattle.std.proofs.Common.{◌≡◌, ◌∙◌, ◌+◌, ◌-◌, ◌<◌, ◌≤◌, ◌∷◌, ◌++◌, [], ℕ, List, length, take, drop, ap, sym, subst, arith, length-drop}
use Rattle.std.specs.Prelude.{None}
use Rattle.std.proofs.lemmas.List.{take_rest}
use Rattle.rtcp_feedback.specs.declared.feedback.Feedback.{Feedback}
use Rattle.rtcp_feedback.specs.declared.feedback.Feedback.TheVariants.{Pli}
use Rattle.rtcp_feedback.specs.declared.packet.Body.{Body}
use Rattle.rtcp_feedback.specs.Faults.{fault_among, packet_fault, packets_in}
use Rattle.rtcp_feedback.specs.Names.{names_in}
use Rattle.rtcp_feedback.specs.Reading.{feedback_of, nacks}
use Rattle.rtcp_feedback.specs.Seen.{PairsStand, body_feedback}
use Rattle.rtcp_feedback.proofs.Cutting.{none_here}
use Rattle.rtcp_feedback.proofs.Placing.{faultless_at, no_pairs_at, pairs_at, rest_some, with_behind}
use Rattle.rtcp_feedback.proofs.cursor.enter_packet.Goals as goal

pub split_packet-requires : goal.split_packet-requires
split_packet-requires c =
    subst (λ (l : List ℕ). packet_fault l ≡ None) (sym (take_rest c.args.bytes.now c.args.start))
    (none_here (drop c.args.start c.args.bytes.now) (rest_some c.args.bytes.now c.args.start c.requires.some) c.requires.faultless)

pub returns-in-Nack-clause-item : goal.returns-in-Nack-clause-item
returns-in-Nack-clause-item c =
    let bytes : List ℕ = c.args.bytes.now in
    let p : ℕ = c.args.start in
    let behind : List ℕ = c.split_packet.result.1.now in
    let slice : List ℕ = take (length bytes - p) (drop p bytes) in
    let stand = subst (λ (b : Body). PairsStand b slice) c.in-Nack.is c.split_packet.ensures.pairs in
    with_behind bytes p behind c.requires.some c.split_packet.ensures.behind (nacks c.in-Nack.media (names_in c.in-Nack.pairs.now)) (ap body_feedback (sym c.in-Nack.is) ∙ c.split_packet.ensures.feedback)
    ∙ (ap (λ (l : List ℕ). nacks c.in-Nack.media (names_in l) ++ feedback_of (drop (length bytes - length behind) bytes)) (sym (pairs_at bytes c.in-Nack.pairs.now p stand.0)) ∙ sym (c.cursor_at.ensures.left bytes))

pub returns-in-Nack-clause-within : goal.returns-in-Nack-clause-within
returns-in-Nack-clause-within c =
    let bytes : List ℕ = c.args.bytes.now in
    let p : ℕ = c.args.start in
    let some : p < length bytes = c.requires.some in
    let behind : List ℕ = c.split_packet.result.1.now in
    let slice : List ℕ = take (length bytes - p) (drop p bytes) in
    let stand = subst (λ (b : Body). PairsStand b slice) c.in-Nack.is c.split_packet.ensures.pairs in
    let within : 12 + length c.in-Nack.pairs.now ≤ length slice = stand.1 in
    let long : length slice ≡ length bytes - p = ap length (take_rest bytes p) ∙ length-drop p bytes in
    let place = c.cursor_at.ensures.fields in
    let first = place.0 in
    let end = place.1 in
    let next = place.2 in
    record {
      begins = omega (arith, first, end);
      ends = omega (arith, end, within, long, some);
      packets = omega (arith, next);
      faultless = ap (λ (n : ℕ). fault_among (packets_in (drop n bytes))) next ∙ faultless_at bytes p behind some c.split_packet.ensures.behind c.requires.faultless;
    }

pub returns-in-Pli-clause-item : goal.returns-in-Pli-clause-item
returns-in-Pli-clause-item c =
    let bytes : List ℕ = c.args.bytes.now in
    let p : ℕ = c.args.start in
    let behind : List ℕ = c.split_packet.result.1.now in
    let next : ℕ = length bytes - length behind in
    with_behind bytes p behind c.requires.some c.split_packet.ensures.behind (Pli c.in-Pli.media ∷ []) (ap body_feedback (sym c.in-Pli.is) ∙ c.split_packet.ensures.feedback)
    ∙ ap (λ (l : List Feedback). Pli c.in-Pli.media ∷ l) (sym (no_pairs_at c.in-Pli.media next bytes (drop next bytes)) ∙ sym (c.cursor_at-in-Pli.ensures.left bytes))

pub returns-in-Pli-clause-within : goal.returns-in-Pli-clause-within
returns-in-Pli-clause-within c =
    let bytes : List ℕ = c.args.bytes.now in
    let behind : List ℕ = c.split_packet.result.1.now in
    let place = c.cursor_at-in-Pli.ensures.fields in
    let first = place.0 in
    let end = place.1 in
    let next = place.2 in
    record {
      begins = omega (arith, first, end);
      ends = omega (arith, end);
      packets = omega (arith, next);
      faultless = ap (λ (n : ℕ). fault_among (packets_in (drop n bytes))) next ∙ faultless_at bytes c.args.start behind c.requires.some c.split_packet.ensures.behind c.requires.faultless;
    }

pub returns-in-Other-clause-item : goal.returns-in-Other-clause-item
returns-in-Other-clause-item c =
    let bytes : List ℕ = c.args.bytes.now in
    let p : ℕ = c.args.start in
    let behind : List ℕ = c.split_packet.result.1.now in
    let next : ℕ = length bytes - length behind in
    with_behind bytes p behind c.requires.some c.split_packet.ensures.behind [] (ap body_feedback (sym c.in-Other.is) ∙ c.split_packet.ensures.feedback)
    ∙ (sym (no_pairs_at 0 next bytes (drop next bytes)) ∙ sym (c.cursor_at-in-Other.ensures.left bytes))

pub returns-in-Other-clause-within : goal.returns-in-Other-clause-within
returns-in-Other-clause-within c =
    let bytes : List ℕ = c.args.bytes.now in
    let behind : List ℕ = c.split_packet.result.1.now in
    let place = c.cursor_at-in-Other.ensures.fields in
    let first = place.0 in
    let end = place.1 in
    let next = place.2 in
    record {
      begins = omega (arith, first, end);
      ends = omega (arith, end);
      packets = omega (arith, next);
      faultless = ap (λ (n : ℕ). fault_among (packets_in (drop n bytes))) next ∙ faultless_at bytes c.args.start behind c.requires.some c.split_packet.ensures.behind c.requires.faultless;
    }
