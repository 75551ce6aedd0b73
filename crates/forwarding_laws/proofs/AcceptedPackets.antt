-- A strict receiver has no complaint about packets that are accepted by the definition in words.
use Rattle.std.proofs.Common.{◌≡◌, ◌⊎◌, inl, inr, ◌+◌, ◌%◌, ◌<◌, ◌≤◌, ℕ, arith, Bool, true, false, List, [], ◌∷◌, ◌++◌, refl, sym, subst, ap, ◌∙◌, cond, true≢false, ◌&&◌, map, not, length}
use Rattle.std.specs.Prelude.{pos, ◌==◌, nat_lt}
use Rattle.std.specs.Bool.{beq}
use Rattle.std.proofs.lemmas.Bool.{and_parts, eq-eqb, lt-ltb, ltb-true}
use Rattle.std.specs.List.{AllByRecursion}
use Rattle.std.specs.declared.option.Option.{Option}
use Rattle.std.specs.declared.option.Option.TheVariants.{None, Some}
use Rattle.forwarding_model.specs.declared.complaint.Complaint.{Complaint}
use Rattle.wrap_number.specs.Number.{ahead_of, is_above, number_above}
use Rattle.forwarding_model.specs.forwarding.Timeline.{Packet}
use Rattle.forwarding_model.specs.forwarding.Outgoing.{AreConsecutive}
use Rattle.forwarding_model.specs.frames.Reading.{Descriptor, Format, Joins, Payload, Showing, shown}
use Rattle.forwarding_model.specs.frames.Reading.Payload.{Empty, Broken, Elements}
use Rattle.forwarding_model.specs.frames.Reading.Showing.{LacksStructure, Unread, Shows}
use Rattle.forwarding_model.specs.frames.Cuts.{Part, LastAloneEnds, Join, JoinSoFar, IsUnfinishedCut}
use Rattle.forwarding_model.specs.frames.Frames.{ReadPacket, packet_of}
use Rattle.forwarding_model.specs.Receiver.{Received, FrameHeader, Judged, OpenFrame, Reception, Receiver, accepted, after_end, complaint, complaint_of, first_packet, header_of, is_received, judge, judged_at, new_reception, next_packet, nothing_received, placed, structure_after, with_frame, with_part, with_payload, with_showing}
use Rattle.forwarding_model.specs.Receiver.Judged.{Complete, Lacks}
use Rattle.forwarding_model.specs.Receiver.Receiver.{Waiting, Receiving, Complaining}
use Rattle.forwarding_laws.specs.receiver.Accepted.{ReceivedFrame, is_key_frame, references_of, packets_of, structure_in, IsReadAs, IsThere, is_next_to, counting, counted, IsReceived, AreReceived, AreReadAs, AreAccepted}
use Rattle.forwarding_laws.proofs.Members.{each_member, each_weaker, member_any, none_failing}
use Rattle.forwarding_laws.proofs.ReceivedNumbers.{IsReceivedAs, judged_complete}
use Rattle.forwarding_laws.proofs.Receiving.{beq_same, not_key, receive_packets, with_frame_ended, with_frame_open}
use Rattle.forwarding_laws.proofs.StrictReceiver.{complaint-packets, receive_on}

-- ---- packets in order, of one source

-- a packet, without a check of its source or number
abbrev pub take_packet : {S : Type 0} → Format S → Receiver S → Packet → Receiver S
take_packet format Waiting packet = accepted format (new_reception packet.ssrc) packet
take_packet format (Receiving r) packet = accepted format r packet
take_packet format (Complaining complaint) packet = Complaining complaint

abbrev pub take_packets : {S : Type 0} → Format S → Receiver S → List Packet → Receiver S
take_packets format r [] = r
take_packets format r (p ∷ ps) = take_packets format (take_packet format r p) ps

pub take_packets-append : {S : Type 0} (format : Format S) (r : Receiver S) (xs ys : List Packet)
    → take_packets format r (xs ++ ys) ≡ take_packets format (take_packets format r xs) ys
take_packets-append format r [] ys = refl
take_packets-append format r (x ∷ xs) ys = take_packets-append format (take_packet format r x) xs ys

-- the receiver has a complaint, or has this source and this last number
abbrev pub IsAt : {S : Type 0} → ℕ → ℕ → Receiver S → Type 0
IsAt ssrc last Waiting = ⊥
IsAt ssrc last (Receiving r) = (r.ssrc ≡ ssrc) × (r.sequence_number ≡ last)
IsAt ssrc last (Complaining complaint) = Unit {0}

with_frame_at : {S : Type 0} (r : Reception S) (frame : OpenFrame) (ended : Bool) → IsAt r.ssrc r.sequence_number (with_frame r frame ended)
with_frame_at r frame false = (refl, refl)
with_frame_at {S} r frame true = closed frame.carries
  where
    judged : (j : Judged) → IsAt r.ssrc r.sequence_number (after_end r frame.header.number j)
    judged (Complete k) = (refl, refl)
    judged (Lacks fdiff) = tt

    closed : (b : Bool)
        → IsAt r.ssrc r.sequence_number (cond b (Complaining Complaint.NotWhole) (after_end r frame.header.number (judge r.received frame.header)))
    closed true = tt
    closed false = judged (judge r.received frame.header)

with_part_at : {S : Type 0} (r : Reception S) (begun : Option OpenFrame) (d : Descriptor S) (joins : Joins)
    → IsAt r.ssrc r.sequence_number (with_part r begun d joins)
with_part_at {S} r begun d joins = go begun
  where
    tested : (frame : OpenFrame) (b : Bool) → IsAt r.ssrc r.sequence_number (cond b (with_frame r frame d.end) (Complaining Complaint.NotWhole))
    tested frame true = with_frame_at r frame d.end
    tested frame false = tt

    go : (begun : Option OpenFrame) → IsAt r.ssrc r.sequence_number (with_part r begun d joins)
    go None = tested (first_packet d joins) (d.start && not joins.continues)
    go (Some frame) =
        tested (next_packet frame joins)
        (not d.start && (d.number == frame.header.number && (beq joins.continues frame.carries && nat_lt frame.packets 512)))

pub accepted_at : {S : Type 0} (format : Format S) (r : Reception S) (p : Packet) → IsAt r.ssrc p.sequence_number (accepted format r p)
accepted_at {S} format r p = by_showing (shown format r.structure p.rest)
  where
    here : Reception S
    here = record r { sequence_number = p.sequence_number }

    by_payload : (d : Descriptor S) (payload : Payload) → IsAt r.ssrc p.sequence_number (with_payload here d payload)
    by_payload d Empty = tt
    by_payload d Broken = tt
    by_payload d (Elements joins) = with_part_at (record here { structure = structure_after r.structure d }) r.frame d joins

    by_showing : (showing : Showing S) → IsAt r.ssrc p.sequence_number (with_showing here showing)
    by_showing LacksStructure = tt
    by_showing Unread = tt
    by_showing (Shows d payload) = by_payload d payload

taken_in_order : {S : Type 0} (format : Format S) (ssrc : ℕ) (before : Packet) (r : Receiver S) (ps : List Packet) → IsAt ssrc before.sequence_number r
    → AllByRecursion (λ q. q.ssrc ≡ ssrc) ps → AreConsecutive (before ∷ ps) → receive_packets format r ps ≡ take_packets format r ps
taken_in_order format ssrc before r [] at sources numbers = refl
taken_in_order format ssrc before Waiting (p ∷ ps) at sources numbers = absurd at
taken_in_order format ssrc before (Complaining complaint) (p ∷ ps) at sources numbers =
    taken_in_order format ssrc p (Complaining complaint) ps tt sources.1 numbers.1
taken_in_order format ssrc before (Receiving r) (p ∷ ps) at sources numbers =
    ap (λ x. receive_packets format x ps) (receive_on format r p (sources.0 ∙ sym at.0) (numbers.0 ∙ ap (λ n. (n + 1) % 65536) (sym at.1)))
    ∙ taken_in_order format ssrc p (accepted format r p) ps
    (subst (λ s. IsAt s p.sequence_number (accepted format r p)) at.0 (accepted_at format r p)) sources.1 numbers.1

-- ---- frame numbers

-- the receiver's newest number equals that of the newest frame modulo 65,536, and its numbers have the same distances below it as the frames that count
abbrev Covers : {S : Type 0} → List (ReceivedFrame S) → Received → Type 0
Covers [] received = Unit {0}
Covers (g ∷ past) received =
    (received.newest % 65536 ≡ g.number % 65536)
    × AllByRecursion (λ c. IsReceivedAs received.numbers received.newest g.number c.number) (counted (g ∷ past))

-- the same after the next frame is placed, for the frames that count before that frame
record IsPlacedAs {S : Type 0} (counts : List (ReceivedFrame S)) (n : ℕ) (before : Received) : Type 0 where
  same : before.newest % 65536 ≡ n % 65536
  known : AllByRecursion (λ c. IsReceivedAs before.numbers before.newest n c.number) counts

congruent : (r n : ℕ) → (number_above r n) % 65536 ≡ n % 65536
congruent r n = omega arith

-- a number next to the newest frame's has the same distance above it as its remainder has above the receiver's newest number
ahead : (r g m n : ℕ) → r % 65536 ≡ g % 65536 → n % 65536 ≡ m % 65536 → g < n → n < g + 32768 → g + ahead_of (pos r) m ≡ n
ahead r g m n same numbered low high = omega arith

next_placed : {S : Type 0} (g : ReceivedFrame S) (past : List (ReceivedFrame S)) (received : Received) (m n : ℕ) → Covers (g ∷ past) received
    → n % 65536 ≡ m % 65536 → is_next_to (g ∷ past) n ≡ true
    → (is_above received.newest m ≡ true)
    × IsPlacedAs (counted (g ∷ past)) n (record { newest = number_above received.newest m; numbers = received.numbers })
next_placed {S} g past received m n covers numbered next =
    let p = and_parts (nat_lt g.number n) (nat_lt n (g.number + 32768)) next in
    let low : g.number < n = ltb-true _ _ p.0 in
    let high : n < g.number + 32768 = ltb-true _ _ p.1 in
    let far : g.number + ahead_of (pos received.newest) m ≡ n = ahead received.newest g.number m n covers.0 numbered low high in (
      rw (lt-ltb 0 (ahead_of (pos received.newest) m) (omega arith), lt-ltb (ahead_of (pos received.newest) m) 32768 (omega arith)) refl,
      record {
        same = congruent received.newest m ∙ sym numbered;
        known = each_weaker (λ c. IsReceivedAs received.numbers received.newest g.number c.number)
            (λ c. IsReceivedAs received.numbers (number_above received.newest m) n c.number) (counted (g ∷ past))
            (λ c i. (i.0, i.1, let sum : i.0 + g.number ≡ c.number + received.newest = i.2 in omega arith)) covers.1;
      },
    )

placed_as : {S : Type 0} (frames : List (ReceivedFrame S)) (received : Received) (h : FrameHeader) (n : ℕ) → Covers frames received
    → n % 65536 ≡ h.number % 65536 → IsPlacedAs (counting h.key (is_next_to frames n) (counted frames)) n (placed received h)
placed_as {S} frames received h n covers numbered = go h.key (is_next_to frames n) (is_above received.newest h.number) refl refl
  where
    at : Bool → Received
    at above =
        cond above (record { newest = number_above received.newest h.number; numbers = received.numbers }) (record { newest = h.number; numbers = [] })

    near : (frames : List (ReceivedFrame S)) (above : Bool) → Covers frames received → is_next_to frames n ≡ true
        → is_above received.newest h.number ≡ above → IsPlacedAs (counted frames) n (at above)
    near [] above covers next up = absurd (true≢false (sym next))
    near (g ∷ past) true covers next up = (next_placed g past received h.number n covers numbered next).1
    near (g ∷ past) false covers next up = absurd (true≢false (sym (next_placed g past received h.number n covers numbered next).0 ∙ up))

    go : (key next above : Bool) → is_next_to frames n ≡ next → is_above received.newest h.number ≡ above
        → IsPlacedAs (counting key next (counted frames)) n (cond key (record { newest = h.number; numbers = [] }) (at above))
    go true next above beside up = record { same = sym numbered; known = tt }
    go false false true beside up = record { same = congruent received.newest h.number ∙ sym numbered; known = tt }
    go false false false beside up = record { same = sym numbered; known = tt }
    go false true above beside up = near frames above covers beside up

-- the references of a frame count as received
references_found : {S : Type 0} (counts : List (ReceivedFrame S)) (n : ℕ) (before : Received) (references : List ℕ) → IsPlacedAs counts n before
    → AllByRecursion (IsThere counts n) references
    → judged_at before references ≡ Complete (record { newest = before.newest; numbers = before.newest ∷ before.numbers })
references_found {S} counts n before references h there =
    judged_complete before references (none_failing _ references (each_weaker (IsThere counts n) _ references found there))
  where
    found : (d : ℕ) → IsThere counts n d → is_received before.numbers before.newest d ≡ true
    found d t =
        let i = each_member (λ c. IsReceivedAs before.numbers before.newest n c.number) counts t.0 h.known t.1 in
        let sum : i.0 + n ≡ t.0.number + before.newest = i.2 in
        let at : t.0.number + d ≡ n = t.2 in
        member_any (λ m. (m + d) == before.newest) before.numbers i.0 i.1 (eq-eqb _ _ (omega arith))

-- a frame is judged complete, and counts as received from then on
pub judged_frame : {S : Type 0} (format : Format S) (past : List (ReceivedFrame S)) (x : ReceivedFrame S) (received : Received) → Covers past received
    → IsReceived format past x
    → (k : Received) × (judge received (header_of x.first.brings.descriptor) ≡ Complete k) × Covers (x ∷ past) k
judged_frame {S} format past x received covers is = (
  record { newest = before.newest; numbers = before.newest ∷ before.numbers },
  references_found counts x.number before (references_of x) at is.references,
  (
    at.same,
    (
      (before.newest, inl refl, omega arith),
      each_weaker (λ c. IsReceivedAs before.numbers before.newest x.number c.number)
          (λ c. IsReceivedAs (before.newest ∷ before.numbers) before.newest x.number c.number) counts (λ c i. (i.0, inr i.1, i.2)) at.known,
    ),
  ),
)
  where
    before : Received
    before = placed received (header_of x.first.brings.descriptor)

    counts : List (ReceivedFrame S)
    counts = counting (is_key_frame x) (is_next_to past x.number) (counted past)

    at : IsPlacedAs counts x.number before
    at = placed_as past received (header_of x.first.brings.descriptor) x.number covers (is.numbered ∙ ap (λ n. n % 65536) is.first.number)

-- ---- the packets of one frame

-- a receiver between frames
abbrev pub between : {S : Type 0} → ℕ → ℕ → Option S → Received → Receiver S
between ssrc last force received =
    Receiving (record { ssrc = ssrc; sequence_number = last; structure = force; frame = None; received = received })

-- after the newest part of a frame came
abbrev pub after_part : {S : Type 0} → ℕ → ℕ → Option S → Option OpenFrame → Received → OpenFrame → Part (ReadPacket S) → Receiver S
after_part ssrc last force before received frame part =
    with_frame (record { ssrc = ssrc; sequence_number = last; structure = force; frame = before; received = received }) frame part.end

pub first_taken : {S : Type 0} (format : Format S) (ssrc last : ℕ) (force : Option S) (received : Received) (part : Part (ReadPacket S))
    → IsReadAs format force part → part.start ≡ true → part.continues ≡ false
    → take_packet format (between ssrc last force received) (packet_of part)
    ≡ after_part ssrc (packet_of part).sequence_number (structure_after force part.brings.descriptor) None received
    (record { header = header_of part.brings.descriptor; packets = 1; carries = part.carries }) part
first_taken format ssrc last force received part is starts continues =
    rw (is.reads, sym is.start ∙ starts, continues, sym is.end) refl

pub next_taken : {S : Type 0} (format : Format S) (ssrc last : ℕ) (force : Option S) (frame : OpenFrame) (received : Received) (part : Part (ReadPacket S))
    → IsReadAs format force part → part.start ≡ false → part.number ≡ frame.header.number → part.continues ≡ frame.carries → frame.packets < 512
    → take_packet format
    (Receiving (record { ssrc = ssrc; sequence_number = last; structure = force; frame = Some frame; received = received })) (packet_of part)
    ≡ after_part ssrc (packet_of part).sequence_number force (Some frame) received
    (record { header = frame.header; packets = frame.packets + 1; carries = part.carries }) part
next_taken format ssrc last force frame received part is starts number continues few =
    rw (
      is.reads,
      not_key part.brings.descriptor (sym is.start ∙ starts),
      sym is.start ∙ starts,
      eq-eqb part.brings.descriptor.number frame.header.number (sym is.number ∙ number),
      beq_same part.continues frame.carries continues,
      lt-ltb frame.packets 512 few,
      sym is.end,
    ) refl

-- the parts after the newest, of a frame that has begun
pub record AreNext {S : Type 0} (format : Format S) (force : Option S) (frame : OpenFrame) (more : List (Part (ReadPacket S))) : Type 0 where
  pub few : frame.packets + length more ≤ 512
  pub starts : AllByRecursion (λ p. p.start ≡ false) more
  pub number : AllByRecursion (λ p. p.number ≡ frame.header.number) more
  pub read : AllByRecursion (IsReadAs format force) more

-- the parts up to the last end the frame
ends_taken : {S : Type 0} (format : Format S) (ssrc last : ℕ) (force : Option S) (before : Option OpenFrame) (received k : Received)
    (frame : OpenFrame) (part : Part (ReadPacket S)) (more : List (Part (ReadPacket S)))
    → AreNext format force frame more → LastAloneEnds (part ∷ more) → Join frame.carries more → judge received frame.header ≡ Complete k
    → (newest : ℕ) × (take_packets format (after_part ssrc last force before received frame part) (map packet_of more) ≡ between ssrc newest force k)
ends_taken format ssrc last force before received k frame part [] are ends joins complete = (
  last,
  with_frame_ended (record { ssrc = ssrc; sequence_number = last; structure = force; frame = before; received = received }) frame part.end k ends joins complete,
)
ends_taken {S} format ssrc last force before received k frame part (next ∷ more) are ends joins complete =
    let rest =
    ends_taken format ssrc (packet_of next).sequence_number force (Some frame) received k
    (record { header = frame.header; packets = frame.packets + 1; carries = next.carries }) next more
    (record { few = (let few = are.few in omega arith); starts = are.starts.1; number = are.number.1; read = are.read.1 })
    ends.1 joins.1 complete in (
      rest.0,
      ap (λ x. take_packets format (take_packet format x (packet_of next)) (map packet_of more))
          (with_frame_open (record { ssrc = ssrc; sequence_number = last; structure = force; frame = before; received = received }) frame part.end ends.0)
          ∙ ap (λ x. take_packets format x (map packet_of more))
          (next_taken format ssrc last force frame received next are.read.0 are.starts.0 are.number.0 joins.0 (let few = are.few in omega arith))
          ∙ rest.1,
    )

-- parts of which none ends the frame cause no complaint
none_ends_taken : {S : Type 0} (format : Format S) (ssrc last : ℕ) (force : Option S) (before : Option OpenFrame) (received : Received)
    (frame : OpenFrame) (part : Part (ReadPacket S)) (more : List (Part (ReadPacket S)))
    → AreNext format force frame more → AllByRecursion (λ p. p.end ≡ false) (part ∷ more) → JoinSoFar frame.carries more
    → complaint_of (take_packets format (after_part ssrc last force before received frame part) (map packet_of more)) ≡ None
none_ends_taken format ssrc last force before received frame part [] are ends joins =
    ap complaint_of (with_frame_open (record { ssrc = ssrc; sequence_number = last; structure = force; frame = before; received = received }) frame part.end ends.0)
none_ends_taken {S} format ssrc last force before received frame part (next ∷ more) are ends joins =
    ap (λ x. complaint_of (take_packets format (take_packet format x (packet_of next)) (map packet_of more)))
    (with_frame_open (record { ssrc = ssrc; sequence_number = last; structure = force; frame = before; received = received }) frame part.end ends.0)
    ∙ ap (λ x. complaint_of (take_packets format x (map packet_of more)))
    (next_taken format ssrc last force frame received next are.read.0 are.starts.0 are.number.0 joins.0 (let few = are.few in omega arith))
    ∙ none_ends_taken format ssrc (packet_of next).sequence_number force (Some frame) received
    (record { header = frame.header; packets = frame.packets + 1; carries = next.carries }) next more
    (record { few = (let few = are.few in omega arith); starts = are.starts.1; number = are.number.1; read = are.read.1 })
    ends.1 joins.1

-- ---- frame by frame

-- between frames, with the structure in force and numbers that cover those of the frames
abbrev pub IsBetween : {S : Type 0} → ℕ → List (ReceivedFrame S) → Receiver S → Type 0
IsBetween ssrc frames r = (last : ℕ) × (k : Received) × (r ≡ between ssrc last (structure_in frames) k) × Covers frames k

pub numbers_of_first : {S : Type 0} (format : Format S) (force : Option S) (first : Part (ReadPacket S)) (more : List (Part (ReadPacket S))) → IsReadAs format force first
    → AllByRecursion (λ p. p.number ≡ first.number) more → AllByRecursion (λ p. p.number ≡ first.brings.descriptor.number) more
numbers_of_first format force first more is numbers =
    each_weaker (λ p. p.number ≡ first.number) (λ p. p.number ≡ first.brings.descriptor.number) more (λ p e. e ∙ is.number) numbers

frame_taken : {S : Type 0} (format : Format S) (ssrc : ℕ) (past : List (ReceivedFrame S)) (x : ReceivedFrame S) (r : Receiver S) → IsBetween ssrc past r
    → IsReceived format past x → IsBetween ssrc (x ∷ past) (take_packets format r (map packet_of (x.first ∷ x.more)))
frame_taken {S} format ssrc past x r at is =
    let judged = judged_frame format past x at.1 at.3 is in
    let rest =
    ends_taken format ssrc (packet_of x.first).sequence_number (structure_in (x ∷ past)) None at.1 judged.0
    (record { header = header_of x.first.brings.descriptor; packets = 1; carries = x.first.carries }) x.first x.more
    (record {
      few = (let few = is.whole.few in omega arith);
      starts = is.whole.starts.1;
      number = numbers_of_first format (structure_in past) x.first x.more is.first is.whole.number;
      read = is.more;
    })
    is.whole.ends is.whole.joins.1 judged.1 in (
      rest.0,
      judged.0,
      ap (λ y. take_packets format (take_packet format y (packet_of x.first)) (map packet_of x.more)) at.2
          ∙ ap (λ y. take_packets format y (map packet_of x.more))
          (first_taken format ssrc at.0 (structure_in past) at.1 x.first is.first is.whole.starts.0 is.whole.joins.0)
          ∙ rest.1,
      judged.2,
    )

pub frames_taken : {S : Type 0} (format : Format S) (ssrc : ℕ) (frames : List (ReceivedFrame S)) → AreReceived format frames
    → IsBetween ssrc frames (take_packets format (Receiving (new_reception ssrc)) (packets_of frames))
frames_taken format ssrc [] are = (0, nothing_received, refl, tt)
frames_taken {S} format ssrc (x ∷ past) are =
    subst (IsBetween ssrc (x ∷ past))
    (sym (take_packets-append format (Receiving (new_reception ssrc)) (packets_of past) (map packet_of (x.first ∷ x.more))))
    (frame_taken format ssrc past x (take_packets format (Receiving (new_reception ssrc)) (packets_of past)) (frames_taken format ssrc past are.1) are.0)

-- the first packets of one more frame
rest_taken : {S : Type 0} (format : Format S) (ssrc : ℕ) (frames : List (ReceivedFrame S)) (rest : List (Part (ReadPacket S))) (r : Receiver S)
    → IsBetween ssrc frames r → AreReadAs format (structure_in frames) rest → (rest ≡ []) ⊎ IsUnfinishedCut rest
    → complaint_of (take_packets format r (map packet_of rest)) ≡ None
rest_taken format ssrc frames [] r at read begun = ap complaint_of at.2
rest_taken format ssrc frames (first ∷ more) r at read (inl none) = absurd (cc)
rest_taken {S} format ssrc frames (first ∷ more) r at read (inr cut) =
    ap (λ y. complaint_of (take_packets format (take_packet format y (packet_of first)) (map packet_of more))) at.2
    ∙ ap (λ y. complaint_of (take_packets format y (map packet_of more)))
    (first_taken format ssrc at.0 (structure_in frames) at.1 first read.0 cut.starts.0 cut.joins.0)
    ∙ none_ends_taken format ssrc (packet_of first).sequence_number (structure_after (structure_in frames) first.brings.descriptor) None at.1
    (record { header = header_of first.brings.descriptor; packets = 1; carries = first.carries }) first more
    (record {
      few = (let few = cut.few in omega arith);
      starts = cut.starts.1;
      number = numbers_of_first format (structure_in frames) first more read.0 cut.number;
      read = read.1;
    })
    cut.ends cut.joins.1

pub accepted_is_not_complained_of : {S : Type 0} (format : Format S) (packets : List Packet) → AreAccepted format packets
    → complaint format (map Some packets) ≡ None
accepted_is_not_complained_of format [] a = refl
accepted_is_not_complained_of {S} format (p ∷ ps) a =
    complaint-packets format (p ∷ ps)
    ∙ ap complaint_of (taken_in_order format p.ssrc p (accepted format (new_reception p.ssrc) p) ps (accepted_at format (new_reception p.ssrc) p) a.source a.numbers)
    ∙ ap (λ l. complaint_of (take_packets format (Receiving (new_reception p.ssrc)) l)) a.laid
    ∙ ap complaint_of (take_packets-append format (Receiving (new_reception p.ssrc)) (packets_of a.frames) (map packet_of a.rest))
    ∙ rest_taken format p.ssrc a.frames a.rest (take_packets format (Receiving (new_reception p.ssrc)) (packets_of a.frames))
    (frames_taken format p.ssrc a.frames a.received) a.read a.begun
