-- The packets that a strict receiver without a complaint has received.
use Rattle.std.proofs.Common.{◌≡◌, ◌⊎◌, inl, inr, ◌+◌, ◌-◌, ◌%◌, ◌<◌, ℕ, arith, Bool, true, false, List, [], ◌∷◌, ◌++◌, refl, sym, subst, ap, ◌∙◌, cond, true≢false, ◌&&◌, map, not, length, append_assoc, append-nil}
use Rattle.std.specs.Prelude.{pos, ◌==◌, nat_lt}
use Rattle.std.specs.Bool.{beq}
use Rattle.std.proofs.lemmas.Bool.{and_parts, eqb-true, lt-ltb, ltb-true, not-true}
use Rattle.std.specs.List.{AllByRecursion}
use Rattle.std.specs.declared.option.Option.{Option}
use Rattle.std.specs.declared.option.Option.TheVariants.{None, Some}
use Rattle.forwarding_model.specs.declared.complaint.Complaint.{Complaint}
use Rattle.forwarding_model.specs.Lists.{IsMember, first_failing}
use Rattle.wrap_number.specs.Number.{ahead_of, is_above, number_above}
use Rattle.forwarding_model.specs.forwarding.Timeline.{Packet}
use Rattle.forwarding_model.specs.forwarding.Outgoing.{AreConsecutive}
use Rattle.forwarding_model.specs.frames.Reading.{Descriptor, Format, Joins, Payload, Showing, shown}
use Rattle.forwarding_model.specs.frames.Reading.Payload.{Empty, Broken, Elements}
use Rattle.forwarding_model.specs.frames.Reading.Showing.{LacksStructure, Unread, Shows}
use Rattle.forwarding_model.specs.frames.Cuts.{Part, Mark, Run, begun, continued, extended, is_next, newest_first, parts_of, run_of, IsWholeCut, IsUnfinishedCut}
use Rattle.forwarding_model.specs.frames.Cuts.Mark.{Read}
use Rattle.forwarding_model.specs.frames.Frames.{ReadPacket, packet_of, part_of}
use Rattle.forwarding_model.specs.Receiver.{Received, FrameHeader, Judged, OpenFrame, Reception, Receiver, accepted, after_end, complaint, complaint_of, first_packet, header_of, is_received, judge, judged, new_reception, next_packet, placed, receive_packet, structure_after, with_frame, with_part, with_payload, with_showing}
use Rattle.forwarding_model.specs.Receiver.Judged.{Complete, Lacks}
use Rattle.forwarding_model.specs.Receiver.Receiver.{Waiting, Receiving, Complaining}
use Rattle.forwarding_laws.specs.receiver.Accepted.{ReceivedFrame, is_key_frame, references_of, packets_of, structure_in, IsReadAs, IsThere, is_next_to, counting, counted, NoneIsNextTo, AreReceived, AreReadAs, HaveOneSource, AreAccepted}
use Rattle.forwarding_laws.proofs.Members.{any_member, each_member, each_weaker, failing_none}
use Rattle.forwarding_model.proofs.WholeCuts.{open_run_is_unfinished, IsRunFound, IsRunOf, all-append, join_closed, last_ends, newest_first-append, run_found}
use Rattle.forwarding_laws.proofs.Receiving.{receive_packets, not_key}
use Rattle.forwarding_laws.proofs.StrictReceiver.{complaint-packets}

-- ---- the received numbers are those of the frames since the newest key frame

abbrev IsOneOf : {S : Type 0} → List (ReceivedFrame S) → ℕ → Type 0
IsOneOf frames m = (g : ReceivedFrame _) × IsMember g frames × (g.number ≡ m)

abbrev IsNewest : {S : Type 0} → List (ReceivedFrame S) → ℕ → Type 0
IsNewest [] n = Unit {0}
IsNewest (g ∷ past) n = g.number ≡ n

record StandsFor {S : Type 0} (frames : List (ReceivedFrame S)) (received : Received) : Type 0 where
  numbers : AllByRecursion (IsOneOf (counted frames)) received.numbers
  newest : IsNewest frames received.newest
  none : frames ≡ [] → received.numbers ≡ []

-- the number that a frame gets
record IsPlaced {S : Type 0} (frames : List (ReceivedFrame S)) (h : FrameHeader) (before : Received) : Type 0 where
  numbered : before.newest % 65536 ≡ h.number % 65536
  numbers : AllByRecursion (IsOneOf (counting h.key (is_next_to frames before.newest) (counted frames))) before.numbers
  near : (h.key ≡ true) ⊎ (is_next_to frames before.newest ≡ true) ⊎ NoneIsNextTo frames before.newest

both : (a b : Bool) → a ≡ true → b ≡ true → (a && b) ≡ true
both a b x y = rw (x, y) refl

next_to : {S : Type 0} (g : ReceivedFrame S) (past : List (ReceivedFrame S)) (received : Received) (n : ℕ) → g.number ≡ received.newest → is_above received.newest n ≡ true
    → is_next_to (g ∷ past) (number_above received.newest n) ≡ true
next_to g past received n same up =
    let p = and_parts (nat_lt 0 (ahead_of (pos received.newest) n)) _ up in
    let some : 0 < ahead_of (pos received.newest) n = ltb-true _ _ p.0 in
    let near : ahead_of (pos received.newest) n < 32768 = ltb-true _ _ p.1 in
    let up_to : number_above received.newest n < g.number + 32768 = omega arith in
    let from : g.number < number_above received.newest n = omega arith in
    both _ _ (lt-ltb g.number (number_above received.newest n) from) (lt-ltb (number_above received.newest n) (g.number + 32768) up_to)

-- the remainder of a number 1 to 32,767 above r is read as 1 to 32,767 above r
ahead_by : (r m n : ℕ) → m % 65536 ≡ n % 65536 → r < m → m < r + 32768 → (0 < ahead_of (pos r) n) × (ahead_of (pos r) n < 32768)
ahead_by r m n same low high =
    let d : ahead_of (pos r) n ≡ m - r = omega arith in
    (omega arith, omega arith)

none_next : {S : Type 0} (frames : List (ReceivedFrame S)) (received : Received) (n : ℕ) → IsNewest frames received.newest → is_above received.newest n ≡ false → NoneIsNextTo frames n
none_next [] received n newest up m same = refl
none_next (g ∷ past) received n newest up m same = go (is_next_to (g ∷ past) m) refl
  where
    go : (b : Bool) → is_next_to (g ∷ past) m ≡ b → is_next_to (g ∷ past) m ≡ false
    go false e = e
    go true e =
        let p = and_parts (nat_lt g.number m) (nat_lt m (g.number + 32768)) e in
        let low : g.number < m = ltb-true _ _ p.0 in
        let high : m < g.number + 32768 = ltb-true _ _ p.1 in
        let by = ahead_by received.newest m n same (omega (arith, newest)) (omega (arith, newest)) in
        absurd (true≢false (sym (both _ _ (lt-ltb _ _ by.0) (lt-ltb _ _ by.1)) ∙ up))

congruent : (r n : ℕ) → (number_above r n) % 65536 ≡ n % 65536
congruent r n = omega arith

is_placed : {S : Type 0} (frames : List (ReceivedFrame S)) (received : Received) (h : FrameHeader) → StandsFor frames received → IsPlaced frames h (placed received h)
is_placed {S} frames received h stands = by_key h.key refl
  where
    -- a number above the newest
    above : (frames : List (ReceivedFrame S)) → StandsFor frames received → is_above received.newest h.number ≡ true → h.key ≡ false
        → IsPlaced frames h (record { newest = number_above received.newest h.number; numbers = received.numbers })
    above [] stands up k =
        record {
          numbered = congruent received.newest h.number;
          numbers = subst (AllByRecursion (IsOneOf (counting h.key false []))) (sym (stands.none refl)) tt;
          near = inr (inr (λ m same. refl));
        }
    above (g ∷ past) stands up k =
        let next = next_to g past received h.number stands.newest up in
        record {
          numbered = congruent received.newest h.number;
          numbers = rw (k, next) stands.numbers;
          near = inr (inl next);
        }

    other : h.key ≡ false → (b : Bool) → is_above received.newest h.number ≡ b
        → IsPlaced frames h (cond b (record { newest = number_above received.newest h.number; numbers = received.numbers }) (record { newest = h.number; numbers = [] }))
    other k true up = above frames stands up k
    other k false up = record { numbered = refl; numbers = tt; near = inr (inr (none_next frames received h.number stands.newest up)) }

    by_key : (b : Bool) → h.key ≡ b → IsPlaced frames h (cond b (record { newest = h.number; numbers = [] })
        (cond (is_above received.newest h.number) (record { newest = number_above received.newest h.number; numbers = received.numbers }) (record { newest = h.number; numbers = [] })))
    by_key true k = record { numbered = refl; numbers = tt; near = inl k }
    by_key false k = other k (is_above received.newest h.number) refl

-- a frame that has all references
record IsJudged {S : Type 0} (frames : List (ReceivedFrame S)) (h : FrameHeader) (k : Received) : Type 0 where
  before : Received
  at : IsPlaced frames h before
  is : k ≡ record { newest = before.newest; numbers = before.newest ∷ before.numbers }
  references : AllByRecursion (λ d. is_received before.numbers before.newest d ≡ true) h.references

is_judged : {S : Type 0} (frames : List (ReceivedFrame S)) (received k : Received) (h : FrameHeader) → StandsFor frames received → judge received h ≡ Complete k → IsJudged frames h k
is_judged frames received k h stands e =
    go (first_failing (is_received before.numbers before.newest) h.references) refl e
  where
    before : Received
    before = placed received h

    go : (o : Option ℕ) → first_failing (is_received before.numbers before.newest) h.references ≡ o → judged before o ≡ Complete k → IsJudged frames h k
    go None f j =
        record {
          before = before;
          at = is_placed frames received h stands;
          is = (let same : record { newest = before.newest; numbers = before.newest ∷ before.numbers } ≡ k = cc in sym same);
          references = failing_none (is_received before.numbers before.newest) h.references f;
        }
    go (Some d) f j = absurd (cc)

there : {S : Type 0} (frames : List (ReceivedFrame S)) (h : FrameHeader) (k : Received) → (j : IsJudged frames h k)
    → AllByRecursion (IsThere (counting h.key (is_next_to frames j.before.newest) (counted frames)) j.before.newest) h.references
there {S} frames h k j = each_weaker (λ d. is_received j.before.numbers j.before.newest d ≡ true) (IsThere counts j.before.newest) h.references found j.references
  where
    counts : List (ReceivedFrame S)
    counts = counting h.key (is_next_to frames j.before.newest) (counted frames)

    found : (d : ℕ) → is_received j.before.numbers j.before.newest d ≡ true → IsThere counts j.before.newest d
    found d e =
        let m = any_member (λ m. (m + d) == j.before.newest) j.before.numbers e in
        let g = each_member (IsOneOf counts) j.before.numbers m.0 j.at.numbers m.1 in
        (g.0, g.1, ap (λ n. n + d) g.2 ∙ eqb-true (m.0 + d) j.before.newest m.2)

-- the frame that was judged is among those received
stands_after : {S : Type 0} (frames : List (ReceivedFrame S)) (x : ReceivedFrame S) (h : FrameHeader) (k : Received) → (j : IsJudged frames h k) → x.number ≡ j.before.newest
    → h.key ≡ is_key_frame x → StandsFor (x ∷ frames) k
stands_after {S} frames x h k j number key =
    subst (StandsFor (x ∷ frames)) (sym j.is)
    (record {
      numbers = ((x, inl refl, number), later older j.before.numbers same);
      newest = number;
      none = λ e. absurd (cc);
    })
  where
    older : List (ReceivedFrame S)
    older = counting (is_key_frame x) (is_next_to frames x.number) (counted frames)

    same : AllByRecursion (IsOneOf older) j.before.numbers
    same =
        subst (λ b. AllByRecursion (IsOneOf (counting b (is_next_to frames x.number) (counted frames))) j.before.numbers) key
        (subst (λ n. AllByRecursion (IsOneOf (counting h.key (is_next_to frames n) (counted frames))) j.before.numbers) (sym number) j.at.numbers)

    later : (older : List (ReceivedFrame S)) (numbers : List ℕ) → AllByRecursion (IsOneOf older) numbers → AllByRecursion (IsOneOf (x ∷ older)) numbers
    later older numbers h = each_weaker (IsOneOf older) (IsOneOf (x ∷ older)) numbers (λ m o. (o.0, inr o.1, o.2)) h

-- ---- a frame that has begun

record IsOpen {S : Type 0} (format : Format S) (frames : List (ReceivedFrame S)) (run : Run (ReadPacket S)) (frame : OpenFrame) : Type 0 where
  found : run_of (newest_first (parts_of run)) ≡ Some run
  carries : run.newest.carries ≡ frame.carries
  number : run.first.number ≡ frame.header.number
  packets : length run.more + 1 ≡ frame.packets
  header : frame.header ≡ header_of run.first.brings.descriptor
  read_first : IsReadAs format (structure_in frames) run.first
  read_more : AllByRecursion (IsReadAs format (structure_after (structure_in frames) run.first.brings.descriptor)) run.more

abbrev OpensAs : {S : Type 0} → Format S → List (ReceivedFrame S) → Option (Run (ReadPacket S)) → Option OpenFrame → Type 0
OpensAs format frames None None = Unit {0}
OpensAs format frames None (Some frame) = ⊥
OpensAs format frames (Some run) None = ⊥
OpensAs format frames (Some run) (Some frame) = IsOpen format frames run frame × (run.newest.end ≡ false)

abbrev parts_so_far : {S : Type 0} → Option (Run (ReadPacket S)) → List (Part (ReadPacket S))
parts_so_far None = []
parts_so_far (Some run) = parts_of run

abbrev structure_while : {S : Type 0} → List (ReceivedFrame S) → Option (Run (ReadPacket S)) → Option S
structure_while frames None = structure_in frames
structure_while frames (Some run) = structure_after (structure_in frames) run.first.brings.descriptor

-- the state of the receiver after the packets so far
record IsContent {S : Type 0} (format : Format S) (so_far : List Packet) (structure : Option S) (frame : Option OpenFrame) (received : Received) : Type 0 where
  frames : List (ReceivedFrame S)
  run : Option (Run (ReadPacket S))
  laid : so_far ≡ packets_of frames ++ map packet_of (parts_so_far run)
  are : AreReceived format frames
  opens : OpensAs format frames run frame
  structure_is : structure ≡ structure_while frames run
  stands : StandsFor frames received

abbrev ContentAfter : {S : Type 0} → Format S → List Packet → ℕ → ℕ → Receiver S → Type 0
ContentAfter format so_far ssrc last Waiting = ⊥
ContentAfter format so_far ssrc last (Receiving r) = (r.ssrc ≡ ssrc) × (r.sequence_number ≡ last) × IsContent format so_far r.structure r.frame r.received
ContentAfter format so_far ssrc last (Complaining c) = Unit {0}

whole_cut : {X : Type 0} (marks : List (Mark X)) (run : Run X) → IsRunOf marks run → run.newest.end ≡ true → run.newest.carries ≡ false → IsWholeCut (parts_of run)
whole_cut marks run h end carries =
    record {
      few = (let few = h.few in omega arith);
      starts = (h.start, h.more_start);
      ends = last_ends (parts_of run) run.newest.end h.ends end;
      number = h.number;
      joins = join_closed false (parts_of run) run.newest.carries h.joins carries;
    }

run_is : {X : Type 0} (marks : List (Mark X)) (run : Run X) → run_of marks ≡ Some run → IsRunOf marks run
run_is marks run e = subst (IsRunFound marks) e (run_found marks)

-- a frame that continues, or ends
grown : {S : Type 0} (format : Format S) (so_far : List Packet) (frames : List (ReceivedFrame S)) (run : Run (ReadPacket S)) (frame : OpenFrame) (r : Reception S)
    → so_far ≡ packets_of frames ++ map packet_of (parts_of run) → AreReceived format frames → IsOpen format frames run frame
    → r.structure ≡ structure_after (structure_in frames) run.first.brings.descriptor → StandsFor frames r.received
    → (ended : Bool) → run.newest.end ≡ ended → ContentAfter format so_far r.ssrc r.sequence_number (with_frame r frame ended)
grown format so_far frames run frame r laid are o structure stands false end =
    (refl, refl, record { frames = frames; run = Some run; laid = laid; are = are; opens = (o, end); structure_is = structure; stands = stands })
grown {S} format so_far frames run frame r laid are o structure stands true end = closed frame.carries refl
  where
    finished : (j : Judged) → judge r.received frame.header ≡ j → run.newest.carries ≡ false → ContentAfter format so_far r.ssrc r.sequence_number (after_end r frame.header.number j)
    finished (Lacks fdiff) e carries = tt
    finished (Complete k) e carries =
        let judged = is_judged frames r.received k frame.header stands e in
        let x : ReceivedFrame S = record { number = judged.before.newest; first = run.first; more = run.more } in
        let refs : frame.header.references ≡ references_of x = ap (λ (h : FrameHeader). h.references) o.header in
        let key : frame.header.key ≡ is_key_frame x = ap (λ (h : FrameHeader). h.key) o.header in (
          refl,
          refl,
          record {
            frames = x ∷ frames;
            run = None;
            laid = laid ∙ sym (append-nil (packets_of frames ++ map packet_of (parts_of run)));
            are = (
              record {
                first = o.read_first;
                more = o.read_more;
                whole = whole_cut (newest_first (parts_of run)) run (run_is (newest_first (parts_of run)) run o.found) end carries;
                numbered = judged.at.numbered ∙ ap (λ n. n % 65536) (sym o.number);
                placed = subst (λ b. (b ≡ true) ⊎ (is_next_to frames x.number ≡ true) ⊎ NoneIsNextTo frames x.number) key judged.at.near;
                references = subst (AllByRecursion (IsThere (counting (is_key_frame x) (is_next_to frames x.number) (counted frames)) x.number)) refs
                    (subst (λ b. AllByRecursion (IsThere (counting b (is_next_to frames x.number) (counted frames)) x.number) frame.header.references) key
                    (there frames frame.header k judged));
              },
              are,
            );
            opens = tt;
            structure_is = structure;
            stands = stands_after frames x frame.header k judged refl key;
          },
        )

    closed : (b : Bool) → frame.carries ≡ b → ContentAfter format so_far r.ssrc r.sequence_number (with_frame r frame true)
    closed true e = subst (λ b. ContentAfter format so_far r.ssrc r.sequence_number (cond b (Complaining Complaint.NotWhole) (after_end r frame.header.number (judge r.received frame.header)))) (sym e) tt
    closed false e =
        subst (λ b. ContentAfter format so_far r.ssrc r.sequence_number (cond b (Complaining Complaint.NotWhole) (after_end r frame.header.number (judge r.received frame.header)))) (sym e)
        (finished (judge r.received frame.header) refl (o.carries ∙ e))

-- ---- one packet

laid_more : {S : Type 0} (frames : List (ReceivedFrame S)) (parts : List (Part (ReadPacket S))) (so_far : List Packet) (part : Part (ReadPacket S)) (p : Packet)
    → so_far ≡ packets_of frames ++ map packet_of parts → packet_of part ≡ p → so_far ++ p ∷ [] ≡ packets_of frames ++ map packet_of (parts ++ part ∷ [])
laid_more frames parts so_far part p e same =
    ap (λ l. l ++ p ∷ []) e
    ∙ append_assoc (packets_of frames) (map packet_of parts) (p ∷ [])
    ∙ ap (λ l. packets_of frames ++ l) (more parts)
  where
    more : (parts : List (Part (ReadPacket _))) → map packet_of parts ++ p ∷ [] ≡ map packet_of (parts ++ part ∷ [])
    more [] = ap (λ q. q ∷ []) (sym same)
    more (x ∷ xs) = ap (λ l. packet_of x ∷ l) (more xs)

first_run : {X : Type 0} (part : Part X) → part.start ≡ true → part.continues ≡ false
    → run_of (Read part ∷ []) ≡ Some (record { first = part; more = []; newest = part })
first_run part st c = rw (st, c) refl

next_run : {X : Type 0} (run : Run X) (part : Part X) → run_of (newest_first (parts_of run)) ≡ Some run → part.start ≡ false → is_next run part ≡ true
    → run_of (newest_first (parts_of run ++ part ∷ [])) ≡ Some (record { first = run.first; more = run.more ++ part ∷ []; newest = part })
next_run run part found st goes =
    ap run_of (newest_first-append (parts_of run) part)
    ∙ ap (λ o. extended o (Read part)) found
    ∙ ap (λ b. cond b (begun part) (continued (Some run) part)) st
    ∙ ap (λ b. cond b (Some (record { first = run.first; more = run.more ++ part ∷ []; newest = part })) None) goes

longer : {X : Type 0} (xs : List X) (x : X) → length (xs ++ x ∷ []) ≡ length xs + 1
longer [] x = refl
longer (y ∷ ys) x = let e = longer ys x in omega arith

first_content : {S : Type 0} (format : Format S) (so_far : List Packet) (p : Packet) (r : Reception S) (frames : List (ReceivedFrame S)) (d : Descriptor S) (joins : Joins)
    → so_far ≡ packets_of frames ++ [] → AreReceived format frames → StandsFor frames r.received → r.structure ≡ structure_after (structure_in frames) d
    → shown format (structure_in frames) p.rest ≡ Shows d (Elements joins) → d.start ≡ true → joins.continues ≡ false
    → ContentAfter format (so_far ++ p ∷ []) r.ssrc r.sequence_number (with_frame r (first_packet d joins) d.end)
first_content {S} format so_far p r frames d joins laid are stands structure shows st c =
    grown format (so_far ++ p ∷ []) frames run (first_packet d joins) r
    (laid_more frames [] so_far part p laid refl) are
    (record {
      found = first_run part st c;
      carries = refl;
      number = refl;
      packets = refl;
      header = refl;
      read_first = record { reads = shows; start = refl; end = refl; number = refl };
      read_more = tt;
    })
    structure stands d.end refl
  where
    part : Part (ReadPacket S)
    part = part_of d joins p

    run : Run (ReadPacket S)
    run = record { first = part; more = []; newest = part }

next_content : {S : Type 0} (format : Format S) (so_far : List Packet) (p : Packet) (r : Reception S) (frames : List (ReceivedFrame S)) (run : Run (ReadPacket S)) (frame : OpenFrame)
    (d : Descriptor S) (joins : Joins)
    → so_far ≡ packets_of frames ++ map packet_of (parts_of run) → AreReceived format frames → StandsFor frames r.received
    → r.structure ≡ structure_after (structure_in frames) run.first.brings.descriptor → IsOpen format frames run frame → run.newest.end ≡ false
    → shown format r.structure p.rest ≡ Shows d (Elements joins)
    → (not d.start && (d.number == frame.header.number && (beq joins.continues frame.carries && nat_lt frame.packets 512))) ≡ true
    → ContentAfter format (so_far ++ p ∷ []) r.ssrc r.sequence_number (with_frame r (next_packet frame joins) d.end)
next_content {S} format so_far p r frames run frame d joins laid are stands structure o open_end shows test =
    grown format (so_far ++ p ∷ []) frames next (next_packet frame joins) r
    (laid_more frames (parts_of run) so_far part p laid refl) are
    (record {
      found = next_run run part o.found st goes;
      carries = refl;
      number = o.number;
      packets = (let size = longer run.more part in let before : length run.more + 1 ≡ frame.packets = o.packets in omega arith);
      header = o.header;
      read_first = o.read_first;
      read_more = all-append (IsReadAs format (structure_after (structure_in frames) run.first.brings.descriptor)) run.more part o.read_more
          (record { reads = ap (λ force. shown format force p.rest) (sym structure) ∙ shows; start = refl; end = refl; number = refl });
    })
    structure stands d.end refl
  where
    part : Part (ReadPacket S)
    part = part_of d joins p

    next : Run (ReadPacket S)
    next = record { first = run.first; more = run.more ++ part ∷ []; newest = part }

    st : d.start ≡ false
    st = not-true d.start (and_parts (not d.start) _ test).0

    goes : is_next run part ≡ true
    goes =
        let rest = (and_parts (not d.start) _ test).1 in
        ap (λ b. not b && (d.number == run.first.number && (beq joins.continues run.newest.carries && nat_lt (length run.more + 1) 512))) open_end
        ∙ ap (λ n. d.number == n && (beq joins.continues run.newest.carries && nat_lt (length run.more + 1) 512)) o.number
        ∙ ap (λ b. d.number == frame.header.number && (beq joins.continues b && nat_lt (length run.more + 1) 512)) o.carries
        ∙ ap (λ n. d.number == frame.header.number && (beq joins.continues frame.carries && nat_lt n 512)) o.packets
        ∙ rest

part_content : {S : Type 0} (format : Format S) (so_far : List Packet) (p : Packet) (r : Reception S) (structure : Option S) (d : Descriptor S) (joins : Joins)
    → IsContent format so_far structure r.frame r.received → r.structure ≡ structure_after structure d → shown format structure p.rest ≡ Shows d (Elements joins)
    → ContentAfter format (so_far ++ p ∷ []) r.ssrc r.sequence_number (with_part r r.frame d joins)
part_content {S} format so_far p r structure d joins h after shows = go r.frame h.run h.opens h.laid h.structure_is
  where
    begins : structure ≡ structure_in h.frames → so_far ≡ packets_of h.frames ++ [] → (b : Bool) → (d.start && not joins.continues) ≡ b
        → ContentAfter format (so_far ++ p ∷ []) r.ssrc r.sequence_number (cond b (with_frame r (first_packet d joins) d.end) (Complaining Complaint.NotWhole))
    begins same laid false e = tt
    begins same laid true e =
        let a = and_parts d.start (not joins.continues) e in
        first_content format so_far p r h.frames d joins laid h.are h.stands (after ∙ ap (λ o. structure_after o d) same)
        (ap (λ o. shown format o p.rest) (sym same) ∙ shows) a.0 (not-true joins.continues a.1)

    kept : d.start ≡ false → r.structure ≡ structure
    kept st = after ∙ ap (λ b. cond b d.structure structure) (not_key d st)

    goes_on : (run : Run (ReadPacket S)) (frame : OpenFrame) → so_far ≡ packets_of h.frames ++ map packet_of (parts_of run)
        → structure ≡ structure_after (structure_in h.frames) run.first.brings.descriptor
        → IsOpen format h.frames run frame → run.newest.end ≡ false → (b : Bool)
        → (not d.start && (d.number == frame.header.number && (beq joins.continues frame.carries && nat_lt frame.packets 512))) ≡ b
        → ContentAfter format (so_far ++ p ∷ []) r.ssrc r.sequence_number (cond b (with_frame r (next_packet frame joins) d.end) (Complaining Complaint.NotWhole))
    goes_on run frame laid same o end false e = tt
    goes_on run frame laid same o end true e =
        let st : d.start ≡ false = not-true d.start (and_parts (not d.start) _ e).0 in
        next_content format so_far p r h.frames run frame d joins laid h.are h.stands (kept st ∙ same) o end
        (ap (λ o. shown format o p.rest) (kept st) ∙ shows) e

    go : (frame : Option OpenFrame) (run : Option (Run (ReadPacket S))) → OpensAs format h.frames run frame
        → so_far ≡ packets_of h.frames ++ map packet_of (parts_so_far run) → structure ≡ structure_while h.frames run
        → ContentAfter format (so_far ++ p ∷ []) r.ssrc r.sequence_number (with_part r frame d joins)
    go None None o laid same = begins same laid (d.start && not joins.continues) refl
    go None (Some run) o laid same = absurd o
    go (Some frame) None o laid same = absurd o
    go (Some frame) (Some run) o laid same =
        goes_on run frame laid same o.0 o.1 (not d.start && (d.number == frame.header.number && (beq joins.continues frame.carries && nat_lt frame.packets 512))) refl

accepted_content : {S : Type 0} (format : Format S) (so_far : List Packet) (r : Reception S) (p : Packet) → IsContent format so_far r.structure r.frame r.received
    → ContentAfter format (so_far ++ p ∷ []) r.ssrc p.sequence_number (accepted format r p)
accepted_content {S} format so_far r p h = go (shown format r.structure p.rest) refl
  where
    here : Reception S
    here = record r { sequence_number = p.sequence_number }

    go : (showing : Showing S) → shown format r.structure p.rest ≡ showing → ContentAfter format (so_far ++ p ∷ []) r.ssrc p.sequence_number (with_showing here showing)
    go LacksStructure e = tt
    go Unread e = tt
    go (Shows d payload) e = by_payload payload e
      where
        by_payload : (payload : Payload) → shown format r.structure p.rest ≡ Shows d payload → ContentAfter format (so_far ++ p ∷ []) r.ssrc p.sequence_number (with_payload here d payload)
        by_payload Empty e = tt
        by_payload Broken e = tt
        by_payload (Elements joins) e =
            part_content format so_far p (record here { structure = structure_after r.structure d }) r.structure d joins
            (record { frames = h.frames; run = h.run; laid = h.laid; are = h.are; opens = h.opens; structure_is = h.structure_is; stands = h.stands }) refl e

-- ---- sources and numbers

abbrev EndsAt : List Packet → ℕ → Type 0
EndsAt [] n = ⊥
EndsAt (p ∷ []) n = p.sequence_number ≡ n
EndsAt (p ∷ q ∷ ps) n = EndsAt (q ∷ ps) n

consecutive-append : (ps : List Packet) (p : Packet) (n : ℕ) → AreConsecutive ps → EndsAt ps n → p.sequence_number ≡ (n + 1) % 65536
    → AreConsecutive (ps ++ p ∷ []) × EndsAt (ps ++ p ∷ []) p.sequence_number
consecutive-append [] p n c e next = absurd e
consecutive-append (q ∷ []) p n c e next = ((next ∙ ap (λ m. (m + 1) % 65536) (sym e), tt), refl)
consecutive-append (q ∷ r ∷ ps) p n c e next = let rest = consecutive-append (r ∷ ps) p n c.1 e next in ((c.0, rest.0), rest.1)

one_source : (ps : List Packet) (ssrc : ℕ) → AllByRecursion (λ q. q.ssrc ≡ ssrc) ps → HaveOneSource ps
one_source [] ssrc h = tt
one_source (p ∷ ps) ssrc h = each_weaker (λ q. q.ssrc ≡ ssrc) (λ q. q.ssrc ≡ p.ssrc) ps (λ q e. e ∙ sym h.0) h.1

record IsGood {S : Type 0} (format : Format S) (so_far : List Packet) (r : Reception S) : Type 0 where
  sources : AllByRecursion (λ q. q.ssrc ≡ r.ssrc) so_far
  consecutive : AreConsecutive so_far
  ends : EndsAt so_far r.sequence_number
  content : IsContent format so_far r.structure r.frame r.received

abbrev GoodAfter : {S : Type 0} → Format S → List Packet → Receiver S → Type 0
GoodAfter format so_far Waiting = so_far ≡ []
GoodAfter format so_far (Receiving r) = IsGood format so_far r
GoodAfter format so_far (Complaining c) = Unit {0}

good_from : {S : Type 0} (format : Format S) (so_far : List Packet) (ssrc last : ℕ) (r : Receiver S) → AllByRecursion (λ q. q.ssrc ≡ ssrc) so_far → AreConsecutive so_far → EndsAt so_far last
    → ContentAfter format so_far ssrc last r → GoodAfter format so_far r
good_from format so_far ssrc last Waiting sources numbers ends c = absurd c
good_from format so_far ssrc last (Complaining complaint) sources numbers ends c = tt
good_from format so_far ssrc last (Receiving r) sources numbers ends c =
    record {
      sources = subst (λ s. AllByRecursion (λ q. q.ssrc ≡ s) so_far) (sym c.0) sources;
      consecutive = numbers;
      ends = subst (EndsAt so_far) (sym c.1) ends;
      content = c.2;
    }

good_next : {S : Type 0} (format : Format S) (so_far : List Packet) (r : Receiver S) (p : Packet) → GoodAfter format so_far r → GoodAfter format (so_far ++ p ∷ []) (receive_packet format r p)
good_next format so_far (Complaining c) p h = tt
good_next {S} format so_far Waiting p h =
    subst (λ l. GoodAfter format (l ++ p ∷ []) (accepted format (new_reception p.ssrc) p)) (sym h)
    (good_from format (p ∷ []) p.ssrc p.sequence_number (accepted format (new_reception p.ssrc) p) (refl, tt) tt refl
    (accepted_content format [] (new_reception p.ssrc) p
    (record { frames = []; run = None; laid = refl; are = tt; opens = tt; structure_is = refl; stands = record { numbers = tt; newest = tt; none = λ e. refl } })))
good_next {S} format so_far (Receiving r) p h = by_source (p.ssrc == r.ssrc) refl
  where
    by_number : p.ssrc ≡ r.ssrc → (b : Bool) → (p.sequence_number == (r.sequence_number + 1) % 65536) ≡ b
        → GoodAfter format (so_far ++ p ∷ []) (cond b (accepted format r p) (Complaining (Complaint.Sequence r.sequence_number p.sequence_number)))
    by_number same false e = tt
    by_number same true e =
        let c = consecutive-append so_far p r.sequence_number h.consecutive h.ends (eqb-true p.sequence_number ((r.sequence_number + 1) % 65536) e) in
        good_from format (so_far ++ p ∷ []) r.ssrc p.sequence_number (accepted format r p) (all-append (λ q. q.ssrc ≡ r.ssrc) so_far p h.sources same) c.0 c.1
        (accepted_content format so_far r p h.content)

    by_source : (b : Bool) → (p.ssrc == r.ssrc) ≡ b
        → GoodAfter format (so_far ++ p ∷ [])
        (cond b (cond (p.sequence_number == (r.sequence_number + 1) % 65536) (accepted format r p) (Complaining (Complaint.Sequence r.sequence_number p.sequence_number)))
        (Complaining (Complaint.OtherSource r.ssrc p.ssrc)))
    by_source false e = tt
    by_source true e = by_number (eqb-true p.ssrc r.ssrc e) (p.sequence_number == (r.sequence_number + 1) % 65536) refl

good_all : {S : Type 0} (format : Format S) (so_far : List Packet) (r : Receiver S) (ps : List Packet) → GoodAfter format so_far r → GoodAfter format (so_far ++ ps) (receive_packets format r ps)
good_all format so_far r [] h = subst (λ l. GoodAfter format l r) (sym (append-nil so_far)) h
good_all format so_far r (p ∷ ps) h =
    subst (λ l. GoodAfter format l (receive_packets format (receive_packet format r p) ps)) (append_assoc so_far (p ∷ []) ps)
    (good_all format (so_far ++ p ∷ []) (receive_packet format r p) ps (good_next format so_far r p h))

-- ---- what was accepted

begun_parts : {S : Type 0} (format : Format S) (frames : List (ReceivedFrame S)) (run : Option (Run (ReadPacket S))) (frame : Option OpenFrame) → OpensAs format frames run frame
    → (parts_so_far run ≡ []) ⊎ IsUnfinishedCut (parts_so_far run)
begun_parts format frames None frame o = inl refl
begun_parts format frames (Some run) None o = absurd o
begun_parts format frames (Some run) (Some frame) o =
    inr (open_run_is_unfinished (newest_first (parts_of run)) run (run_is (newest_first (parts_of run)) run o.0.found) o.1)

read_parts : {S : Type 0} (format : Format S) (frames : List (ReceivedFrame S)) (run : Option (Run (ReadPacket S))) (frame : Option OpenFrame) → OpensAs format frames run frame
    → AreReadAs format (structure_in frames) (parts_so_far run)
read_parts format frames None frame o = tt
read_parts format frames (Some run) None o = absurd o
read_parts format frames (Some run) (Some frame) o = (o.0.read_first, o.0.read_more)

pub no_complaint_accepts : {S : Type 0} (format : Format S) (packets : List Packet) → complaint format (map Some packets) ≡ None → AreAccepted format packets
no_complaint_accepts {S} format packets h =
    go (receive_packets format Waiting packets) (good_all format [] Waiting packets refl) (sym (complaint-packets format packets) ∙ h)
  where
    go : (r : Receiver S) → GoodAfter format packets r → complaint_of r ≡ None → AreAccepted format packets
    go Waiting g e =
        record {
          frames = [];
          rest = [];
          laid = g;
          received = tt;
          read = tt;
          begun = inl refl;
          source = subst HaveOneSource (sym g) tt;
          numbers = subst AreConsecutive (sym g) tt;
        }
    go (Complaining c) g e = absurd (cc)
    go (Receiving r) g e =
        record {
          frames = g.content.frames;
          rest = parts_so_far g.content.run;
          laid = g.content.laid;
          received = g.content.are;
          read = read_parts format g.content.frames g.content.run r.frame g.content.opens;
          begun = begun_parts format g.content.frames g.content.run r.frame g.content.opens;
          source = one_source packets r.ssrc g.sources;
          numbers = g.consecutive;
        }
