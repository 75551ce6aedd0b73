-- A strict receiver counts the frames of packets that are accepted by the definition in words.
use Rattle.std.proofs.Common.{◌≡◌, ◌⊎◌, inl, inr, ◌+◌, ◌%◌, ℕ, arith, false, List, [], ◌∷◌, ◌++◌, refl, sym, subst, ap, ◌∙◌, map, length}
use Rattle.std.specs.List.{AllByRecursion}
use Rattle.std.specs.declared.option.Option.{Option}
use Rattle.std.specs.declared.option.Option.TheVariants.{None, Some}
use Rattle.forwarding_model.specs.forwarding.Timeline.{Packet}
use Rattle.forwarding_model.specs.forwarding.Outgoing.{AreConsecutive}
use Rattle.forwarding_model.specs.frames.Reading.{Format}
use Rattle.forwarding_model.specs.frames.Cuts.{Part, LastAloneEnds, Join, JoinSoFar, IsUnfinishedCut}
use Rattle.forwarding_model.specs.frames.Frames.{ReadPacket, packet_of}
use Rattle.forwarding_model.specs.Receiver.{Received, OpenFrame, Receiver, accepted, ends_frame, frames_accepted, header_of, judge, new_reception, structure_after}
use Rattle.forwarding_model.specs.Receiver.Judged.{Complete}
use Rattle.forwarding_model.specs.Receiver.Receiver.{Waiting, Receiving, Complaining}
use Rattle.forwarding_laws.specs.receiver.Accepted.{ReceivedFrame, packets_of, structure_in, IsReceived, AreReceived, AreReadAs, AreAccepted}
use Rattle.forwarding_laws.proofs.Receiving.{with_frame_ended, with_frame_open}
use Rattle.forwarding_laws.proofs.StrictReceiver.{receive_on}
use Rattle.forwarding_laws.proofs.AcceptedPackets.{AreNext, IsAt, IsBetween, accepted_at, after_part, first_taken, frames_taken, judged_frame, next_taken, numbers_of_first, take_packet, take_packets}

-- how many frames end, without checks of source and number
abbrev ended : {S : Type 0} → Format S → Receiver S → List Packet → ℕ
ended format r [] = 0
ended format r (p ∷ ps) = ends_frame (take_packet format r p) + ended format (take_packet format r p) ps

ended-append : {S : Type 0} (format : Format S) (r : Receiver S) (xs ys : List Packet)
    → ended format r (xs ++ ys) ≡ ended format r xs + ended format (take_packets format r xs) ys
ended-append format r [] ys = omega arith
ended-append format r (x ∷ xs) ys = let e = ended-append format (take_packet format r x) xs ys in omega arith

ended_in_order : {S : Type 0} (format : Format S) (ssrc : ℕ) (before : Packet) (r : Receiver S) (ps : List Packet) → IsAt ssrc before.sequence_number r
    → AllByRecursion (λ q. q.ssrc ≡ ssrc) ps → AreConsecutive (before ∷ ps) → frames_accepted format r (map Some ps) ≡ ended format r ps
ended_in_order format ssrc before r [] at sources numbers = refl
ended_in_order format ssrc before Waiting (p ∷ ps) at sources numbers = absurd at
ended_in_order format ssrc before (Complaining complaint) (p ∷ ps) at sources numbers =
    ap (λ n. 0 + n) (ended_in_order format ssrc p (Complaining complaint) ps tt sources.1 numbers.1)
ended_in_order format ssrc before (Receiving r) (p ∷ ps) at sources numbers =
    ap (λ x. ends_frame x + frames_accepted format x (map Some ps))
    (receive_on format r p (sources.0 ∙ sym at.0) (numbers.0 ∙ ap (λ n. (n + 1) % 65536) (sym at.1)))
    ∙ ap (λ n. ends_frame (accepted format r p) + n)
    (ended_in_order format ssrc p (accepted format r p) ps
    (subst (λ s. IsAt s p.sequence_number (accepted format r p)) at.0 (accepted_at format r p)) sources.1 numbers.1)

-- the part and those after it end one frame
one_ended : {S : Type 0} (format : Format S) (ssrc last : ℕ) (force : Option S) (before : Option OpenFrame) (received k : Received)
    (frame : OpenFrame) (part : Part (ReadPacket S)) (more : List (Part (ReadPacket S)))
    → AreNext format force frame more → LastAloneEnds (part ∷ more) → Join frame.carries more → judge received frame.header ≡ Complete k
    → ends_frame (after_part ssrc last force before received frame part)
    + ended format (after_part ssrc last force before received frame part) (map packet_of more)
    ≡ 1
one_ended format ssrc last force before received k frame part [] are ends joins complete =
    ap (λ x. ends_frame x + 0)
    (with_frame_ended (record { ssrc = ssrc; sequence_number = last; structure = force; frame = before; received = received }) frame part.end k
    ends joins complete)
one_ended {S} format ssrc last force before received k frame part (next ∷ more) are ends joins complete =
    ap (λ x. ends_frame x + ended format x (map packet_of (next ∷ more)))
    (with_frame_open (record { ssrc = ssrc; sequence_number = last; structure = force; frame = before; received = received }) frame part.end ends.0)
    ∙ ap (λ x. 0 + (ends_frame x + ended format x (map packet_of more)))
    (next_taken format ssrc last force frame received next are.read.0 are.starts.0 are.number.0 joins.0 (let few = are.few in omega arith))
    ∙ (let rest =
    one_ended format ssrc (packet_of next).sequence_number force (Some frame) received k
    (record { header = frame.header; packets = frame.packets + 1; carries = next.carries }) next more
    (record { few = (let few = are.few in omega arith); starts = are.starts.1; number = are.number.1; read = are.read.1 })
    ends.1 joins.1 complete in omega arith)

none_ended : {S : Type 0} (format : Format S) (ssrc last : ℕ) (force : Option S) (before : Option OpenFrame) (received : Received)
    (frame : OpenFrame) (part : Part (ReadPacket S)) (more : List (Part (ReadPacket S)))
    → AreNext format force frame more → AllByRecursion (λ p. p.end ≡ false) (part ∷ more) → JoinSoFar frame.carries more
    → ends_frame (after_part ssrc last force before received frame part)
    + ended format (after_part ssrc last force before received frame part) (map packet_of more)
    ≡ 0
none_ended format ssrc last force before received frame part [] are ends joins =
    ap (λ x. ends_frame x + 0)
    (with_frame_open (record { ssrc = ssrc; sequence_number = last; structure = force; frame = before; received = received }) frame part.end ends.0)
none_ended {S} format ssrc last force before received frame part (next ∷ more) are ends joins =
    ap (λ x. ends_frame x + ended format x (map packet_of (next ∷ more)))
    (with_frame_open (record { ssrc = ssrc; sequence_number = last; structure = force; frame = before; received = received }) frame part.end ends.0)
    ∙ ap (λ x. 0 + (ends_frame x + ended format x (map packet_of more)))
    (next_taken format ssrc last force frame received next are.read.0 are.starts.0 are.number.0 joins.0 (let few = are.few in omega arith))
    ∙ (let rest =
    none_ended format ssrc (packet_of next).sequence_number force (Some frame) received
    (record { header = frame.header; packets = frame.packets + 1; carries = next.carries }) next more
    (record { few = (let few = are.few in omega arith); starts = are.starts.1; number = are.number.1; read = are.read.1 })
    ends.1 joins.1 in omega arith)

frame_ended : {S : Type 0} (format : Format S) (ssrc : ℕ) (past : List (ReceivedFrame S)) (x : ReceivedFrame S) (r : Receiver S) → IsBetween ssrc past r
    → IsReceived format past x → ended format r (map packet_of (x.first ∷ x.more)) ≡ 1
frame_ended {S} format ssrc past x r at is =
    let judged = judged_frame format past x at.1 at.3 is in
    ap (λ y. ended format y (map packet_of (x.first ∷ x.more))) at.2
    ∙ ap (λ y. ends_frame y + ended format y (map packet_of x.more))
    (first_taken format ssrc at.0 (structure_in past) at.1 x.first is.first is.whole.starts.0 is.whole.joins.0)
    ∙ one_ended format ssrc (packet_of x.first).sequence_number (structure_in (x ∷ past)) None at.1 judged.0
    (record { header = header_of x.first.brings.descriptor; packets = 1; carries = x.first.carries }) x.first x.more
    (record {
      few = (let few = is.whole.few in omega arith);
      starts = is.whole.starts.1;
      number = numbers_of_first format (structure_in past) x.first x.more is.first is.whole.number;
      read = is.more;
    })
    is.whole.ends is.whole.joins.1 judged.1

frames_ended : {S : Type 0} (format : Format S) (ssrc : ℕ) (frames : List (ReceivedFrame S)) → AreReceived format frames
    → ended format (Receiving (new_reception ssrc)) (packets_of frames) ≡ length frames
frames_ended format ssrc [] are = refl
frames_ended {S} format ssrc (x ∷ past) are =
    ended-append format (Receiving (new_reception ssrc)) (packets_of past) (map packet_of (x.first ∷ x.more))
    ∙ (let older = frames_ended format ssrc past are.1 in
    let one =
    frame_ended format ssrc past x (take_packets format (Receiving (new_reception ssrc)) (packets_of past)) (frames_taken format ssrc past are.1) are.0 in
    omega arith)

rest_ended : {S : Type 0} (format : Format S) (ssrc : ℕ) (frames : List (ReceivedFrame S)) (rest : List (Part (ReadPacket S))) (r : Receiver S)
    → IsBetween ssrc frames r → AreReadAs format (structure_in frames) rest → (rest ≡ []) ⊎ IsUnfinishedCut rest
    → ended format r (map packet_of rest) ≡ 0
rest_ended format ssrc frames [] r at read begun = refl
rest_ended format ssrc frames (first ∷ more) r at read (inl none) = absurd (cc)
rest_ended {S} format ssrc frames (first ∷ more) r at read (inr cut) =
    ap (λ y. ended format y (map packet_of (first ∷ more))) at.2
    ∙ ap (λ y. ends_frame y + ended format y (map packet_of more))
    (first_taken format ssrc at.0 (structure_in frames) at.1 first read.0 cut.starts.0 cut.joins.0)
    ∙ none_ended format ssrc (packet_of first).sequence_number (structure_after (structure_in frames) first.brings.descriptor) None at.1
    (record { header = header_of first.brings.descriptor; packets = 1; carries = first.carries }) first more
    (record {
      few = (let few = cut.few in omega arith);
      starts = cut.starts.1;
      number = numbers_of_first format (structure_in frames) first more read.0 cut.number;
      read = read.1;
    })
    cut.ends cut.joins.1

-- no packets make no frames
none_of_none : {S : Type 0} (frames : List (ReceivedFrame S)) (rest : List (Part (ReadPacket S))) → [] ≡ packets_of frames ++ map packet_of rest → 0 ≡ length frames
none_of_none [] rest e = refl
none_of_none (x ∷ past) rest e = go (packets_of past) e
  where
    go : (xs : List Packet) → [] ≡ (xs ++ map packet_of (x.first ∷ x.more)) ++ map packet_of rest → 0 ≡ length (x ∷ past)
    go [] e = absurd (cc)
    go (y ∷ ys) e = absurd (cc)

pub frames_are_counted : {S : Type 0} (format : Format S) (packets : List Packet) (a : AreAccepted format packets)
    → frames_accepted format Waiting (map Some packets) ≡ length a.frames
frames_are_counted format [] a = none_of_none a.frames a.rest a.laid
frames_are_counted {S} format (p ∷ ps) a =
    ap (λ n. ends_frame (accepted format (new_reception p.ssrc) p) + n)
    (ended_in_order format p.ssrc p (accepted format (new_reception p.ssrc) p) ps (accepted_at format (new_reception p.ssrc) p) a.source a.numbers)
    ∙ ap (ended format (Receiving (new_reception p.ssrc))) a.laid
    ∙ ended-append format (Receiving (new_reception p.ssrc)) (packets_of a.frames) (map packet_of a.rest)
    ∙ (let all = frames_ended format p.ssrc a.frames a.received in
    let rest =
    rest_ended format p.ssrc a.frames a.rest (take_packets format (Receiving (new_reception p.ssrc)) (packets_of a.frames))
    (frames_taken format p.ssrc a.frames a.received) a.read a.begun in
    omega arith)
