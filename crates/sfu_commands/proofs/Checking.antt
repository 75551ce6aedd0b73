-- What is due for lines of packets, one after another, is the definition's complaint about the packets, or the fault of the first line that
-- isn't a packet, or the counts of accepted packets and frames.
use Rattle.std.proofs.Common.{◌≡◌, ◌⊎◌, ◌≤◌, ◌<◌, inl, inr, ℕ, ◌+◌, min, Bool, true, false, cond, leb, leb-true, List, [], ◌∷◌, ◌++◌, length, map, get_or, refl, sym, ap, ap₂, ◌∙◌, arith, append_assoc, append-nil, Option, Some, None}
use Rattle.std.proofs.Math.Seq.{get_or-append_seam}
use Rattle.std.proofs.lemmas.List.{length-append, length-map, map-append}
use Rattle.forwarding_model.specs.declared.complaint.Complaint.{Complaint}
use Rattle.forwarding_model.specs.forwarding.Timeline.{Packet}
use Rattle.forwarding_model.specs.frames.Reading.{Format}
use Rattle.forwarding_model.specs.Receiver.{OpenFrame, Receiver, complaint_of, ends_frame, frames_accepted, is_content, packets_accepted, receive, receive_all}
use Rattle.forwarding_model.specs.Receiver.Receiver.{Waiting, Receiving, Complaining}
use Rattle.packet_format.specs.Formats.{format_of}
use Rattle.packet_format.specs.Packets.{read_packet}
use Rattle.strict_receiver.specs.Receivers.{Seen, StandsFor, complaint_over, frames_over, greatest_count, packets_over}
use Rattle.strict_receiver.proofs.Complaints.{complaint_stays}
use Rattle.strict_receiver.proofs.Histories.{received_one}
use Rattle.sfu_driver.specs.Exchange.{exchange_by}
use Rattle.sfu_driver.specs.declared.halt.Ending.{Ending}
use Rattle.sfu_driver.specs.declared.halt.Ending.TheVariants as ending
use Rattle.sfu_driver.specs.Drive.{end_by, outside_end}
use Rattle.sfu_driver.specs.Outcome.{End, Outcome, goes_on, takes, then_due}
use Rattle.sfu_driver.specs.Scan.{Scan, More, Whole, NoUnit}
use Rattle.sfu_driver.specs.Lines.{line_scan, line_scan_end}
use Rattle.sfu_driver.specs.Point.{Rule, byte, due, is_outside, judged}
use Rattle.sfu_driver.specs.Input.{Line, due_all, judged_all, judged_lines, lines_of, said}
use Rattle.sfu_driver.specs.Statuses.{Due, due_of, status_of}
use Rattle.sfu_driver.specs.Units.{rule_of}
use Rattle.sfu_driver.proofs.Cutting.{at}
use Rattle.sfu_driver.proofs.LineInputs.{due_is_lines, judged_is_lines}
use Rattle.sfu_script.specs.Reading.{bytes_of}
use Rattle.sfu_script.specs.Skipped.{is_skipped}
use Rattle.script_texts.specs.WholeLines.{fault_line}
use Rattle.sfu_commands.specs.PacketScript.{NumberedPacket, PacketScript, breaks_at, numbered, packets_in, packets_of, with_packet, with_packet_line}
use Rattle.sfu_commands.specs.Check.{Checks, HasReceived, IsCheckStatus, Reception, bytes_in, check_due, check_end, check_part, checked, complaint_line, counted, due_for_packets, first_end, first_refused, judged_as, ok_line, receives, unless_ended, with_one}

-- ---- accepted packets

module _ {S : Type 0} (format : Format S) where
  complaining_still : (c : Complaint) (more : List (Option Packet)) → receive_all format (Complaining c) more ≡ Complaining c
  complaining_still c [] = refl
  complaining_still c (None ∷ more) = complaining_still c more
  complaining_still c (Some packet ∷ more) = complaining_still c more

  -- all packets before the first one with a complaint are accepted, and no others
  place_from : (m : Receiver S) (xs ys : List (Option Packet)) (y : Option Packet) → complaint_of (receive_all format m xs) ≡ None
      → is_content (receive format (receive_all format m xs) y) ≡ false → packets_accepted format m (xs ++ y ∷ ys) ≡ length xs
  place_from m [] ys y calm bad = ap (λ (b : Bool). cond b (packets_accepted format (receive format m y) ys + 1) 0) bad
  place_from m (x ∷ xs) ys y calm bad = go (receive format m x) calm bad (λ q. place_from q xs ys y)
    where
      go : (q : Receiver S) → complaint_of (receive_all format q xs) ≡ None → is_content (receive format (receive_all format q xs) y) ≡ false
          → ((q : Receiver S) → complaint_of (receive_all format q xs) ≡ None → is_content (receive format (receive_all format q xs) y) ≡ false
          → packets_accepted format q (xs ++ y ∷ ys) ≡ length xs)
          → cond (is_content q) (packets_accepted format q (xs ++ y ∷ ys) + 1) 0 ≡ length (x ∷ xs)
      go Waiting calm bad rec = let e = rec Waiting calm bad in omega arith
      go (Receiving r) calm bad rec = let e = rec (Receiving r) calm bad in omega arith
      go (Complaining c) calm bad rec = let no : Some c ≡ None = sym (ap complaint_of (complaining_still c xs)) ∙ calm in absurd cc

  -- at most all packets are accepted, and at most one frame for each packet
  packets_few : (m : Receiver S) (came : List (Option Packet)) → packets_accepted format m came ≤ length came
  packets_few m [] = omega arith
  packets_few m (x ∷ more) = go (is_content (receive format m x)) (packets_few (receive format m x) more)
    where
      go : (b : Bool) → packets_accepted format (receive format m x) more ≤ length more
          → cond b (packets_accepted format (receive format m x) more + 1) 0 ≤ length (x ∷ more)
      go true few = omega arith
      go false few = omega arith

  one_frame : (m : Receiver S) → ends_frame m ≤ 1
  one_frame Waiting = omega arith
  one_frame (Receiving r) = go r.frame refl
    where
      go : (frame : Option OpenFrame) → r.frame ≡ frame → ends_frame (Receiving r) ≤ 1
      go None e = let one : ends_frame (Receiving r) ≡ 1 = rw e refl in omega arith
      go (Some one) e = let none : ends_frame (Receiving r) ≡ 0 = rw e refl in omega arith
  one_frame (Complaining c) = omega arith

  frames_few : (m : Receiver S) (came : List (Option Packet)) → frames_accepted format m came ≤ length came
  frames_few m [] = omega arith
  frames_few m (x ∷ more) = omega (arith, frames_few (receive format m x) more, one_frame (receive format m x))

-- ---- over bytes

not_content : {S : Type 0} (m : Receiver S) (c : Complaint) → complaint_of m ≡ Some c → is_content m ≡ false
not_content Waiting c e = absurd cc
not_content (Receiving r) c e = absurd cc
not_content (Complaining d) c e = refl

place_over : (id : ℕ) (xs ys : List (List ℕ)) (y : List ℕ) (c : Complaint) → complaint_over id xs ≡ None → complaint_over id (xs ++ y ∷ []) ≡ Some c
    → packets_over id (xs ++ y ∷ ys) ≡ length xs
place_over id xs ys y c calm bad =
    let format = format_of id in
    ap (packets_accepted format Waiting) (map-append read_packet xs (y ∷ ys))
    ∙ place_from format Waiting (map read_packet xs) (map read_packet ys) (read_packet y) calm
    (not_content (receive format (receive_all format Waiting (map read_packet xs)) (read_packet y)) c (ap complaint_of (sym (received_one id xs y)) ∙ bad))
    ∙ length-map xs read_packet

packets_most : (id : ℕ) (xs : List (List ℕ)) → packets_over id xs ≤ length xs
packets_most id xs = omega (arith, packets_few (format_of id) Waiting (map read_packet xs), length-map xs read_packet)

frames_most : (id : ℕ) (xs : List (List ℕ)) → frames_over id xs ≤ length xs
frames_most id xs = omega (arith, frames_few (format_of id) Waiting (map read_packet xs), length-map xs read_packet)

-- ---- the reason why a script ends the command

abbrev after : List NumberedPacket → PacketScript → PacketScript
after past script = record { packets = past ++ script.packets; fault = script.fault }

bytes_more : (past others : List NumberedPacket) → bytes_in (past ++ others) ≡ bytes_in past ++ bytes_in others
bytes_more past others = map-append (λ (p : NumberedPacket). p.bytes) past others

-- there is a complaint about the next packet
module _ (id : ℕ) (past : List NumberedPacket) (n : ℕ) (bytes : List ℕ) (others : List NumberedPacket) (c : Complaint)
    (calm : complaint_over id (bytes_in past) ≡ None) (bad : complaint_over id (bytes_in past ++ bytes ∷ []) ≡ Some c) where
  complained : complaint_over id (bytes_in (past ++ numbered n bytes ∷ others)) ≡ Some c
  complained =
      ap (complaint_over id) (bytes_more past (numbered n bytes ∷ others) ∙ sym (append_assoc (bytes_in past) (bytes ∷ []) (bytes_in others)))
      ∙ complaint_stays id (bytes_in past ++ bytes ∷ []) (bytes_in others) c bad

  at_place : packets_over id (bytes_in (past ++ numbered n bytes ∷ others)) ≡ length (map (λ (p : NumberedPacket). p.number) past)
  at_place =
      ap (packets_over id) (bytes_more past (numbered n bytes ∷ others))
      ∙ place_over id (bytes_in past) (bytes_in others) bytes c calm bad
      ∙ length-map past (λ (p : NumberedPacket). p.bytes)
      ∙ sym (length-map past (λ (p : NumberedPacket). p.number))

  at_line : first_refused id (past ++ numbered n bytes ∷ others) ≡ n
  at_line =
      ap₂ (λ (numbers : List ℕ) (place : ℕ). get_or numbers place 0) (map-append (λ (p : NumberedPacket). p.number) past (numbered n bytes ∷ others)) at_place
      ∙ get_or-append_seam (map (λ (p : NumberedPacket). p.number) past) n (map (λ (p : NumberedPacket). p.number) others) 0

  refused_next : (fault : Option ℕ) → check_end id (record { packets = past ++ numbered n bytes ∷ others; fault = fault }) ≡ Some (end_by ending.Complaint (complaint_line n c))
  refused_next fault = ap₂ (λ (o : Option Complaint) (line : ℕ). first_end o line fault) complained at_line

-- there is no complaint about the packets that came
calm_end : (id : ℕ) (past : List NumberedPacket) (fault : Option ℕ) → complaint_over id (bytes_in past) ≡ None
    → check_end id (record { packets = past ++ []; fault = fault }) ≡ outside_end fault_line fault
calm_end id past fault calm =
    ap (λ (o : Option Complaint). first_end o (first_refused id (past ++ [])) fault) (ap (λ (packets : List NumberedPacket). complaint_over id (bytes_in packets)) (append-nil past) ∙ calm)

-- ---- lines

-- the verdicts on the lines of packets
abbrev pub check_rule : Rule Reception
check_rule = rule_of line_scan line_scan_end checked fault_line counted

abbrev received : ℕ → List NumberedPacket → Reception
received id past = record { id = id; packets = bytes_in past }

module _ (id n : ℕ) (F : PacketScript → Due) (P : List NumberedPacket → Type 0) (next : Reception → Outcome Reception) (others : PacketScript)
    (early : (script : PacketScript) (end : End) → check_end id script ≡ Some end → F script ≡ record { text = []; end = Some end })
    (rest : (later : List NumberedPacket) → complaint_over id (bytes_in later) ≡ None → P later → due_of (next (received id later)) ≡ F (after later others))
    (past : List NumberedPacket) (calm : complaint_over id (bytes_in past) ≡ None) (now : P past)
    (one : leb n 4294967295 ≡ true → (bytes : List ℕ) → P (past ++ numbered n bytes ∷ [])) where
  broken : record { text = []; end = Some (end_by ending.Outside (fault_line n)) } ≡ F (after past (breaks_at n))
  broken = sym (early (after past (breaks_at n)) (end_by ending.Outside (fault_line n)) (calm_end id past (Some n) calm))

  by_complaint : (bytes : List ℕ) (o : Option Complaint) → leb n 4294967295 ≡ true → complaint_over id (bytes_in past ++ bytes ∷ []) ≡ o
      → due_of (then_due (judged_as o n (with_one (received id past) bytes)) next) ≡ F (after past (with_packet (Some bytes) n others))
  by_complaint bytes None few is =
      let later = past ++ numbered n bytes ∷ [] in
      let same : bytes_in later ≡ bytes_in past ++ bytes ∷ [] = bytes_more past (numbered n bytes ∷ []) in
      ap (λ (packets : List (List ℕ)). due_of (next (record { id = id; packets = packets }))) (sym same)
      ∙ rest later (ap (complaint_over id) same ∙ is) (one few bytes)
      ∙ ap (λ (packets : List NumberedPacket). F (record { packets = packets; fault = others.fault })) (append_assoc past (numbered n bytes ∷ []) others.packets)
  by_complaint bytes (Some c) few is =
      sym (early (after past (with_packet (Some bytes) n others)) (end_by ending.Complaint (complaint_line n c)) (refused_next id past n bytes others.packets c calm is others.fault))

  by_test : (few skipped : Bool) (packet : Option (List ℕ)) → leb n 4294967295 ≡ few
      → due_of (then_due (cond few (cond skipped (goes_on (received id past)) (receives packet n (received id past))) (is_outside (fault_line n))) next)
      ≡ F (after past (cond few (cond skipped others (with_packet packet n others)) (breaks_at n)))
  by_test true true packet e = rest past calm now
  by_test true false None e = broken
  by_test true false (Some bytes) e = by_complaint bytes (complaint_over id (bytes_in past ++ bytes ∷ [])) e refl
  by_test false skipped packet e = broken

  by_line : (seen : Scan) → due_of (then_due (judged check_rule (received id past) n seen) next) ≡ F (after past (with_packet_line seen n others))
  by_line More = rest past calm now
  by_line NoUnit = broken
  by_line (Whole text) = by_test (leb n 4294967295) (is_skipped text) (bytes_of text) refl

-- ---- all lines

-- there are at most as many packets as lines
pub record IsFew (n : ℕ) (past : List NumberedPacket) : Type 0 where
  pub below : length past < n
  pub bounded : length past ≤ 4294967295

due_early : (id : ℕ) (script : PacketScript) (end : End) → check_end id script ≡ Some end → due_for_packets id script ≡ record { text = []; end = Some end }
due_early id script end is =
    ap (λ (e : Option End). unless_ended e (ok_line (packets_over id (bytes_in script.packets)) (frames_over id (bytes_in script.packets)))) is

abbrev part_for : ℕ → PacketScript → Due
part_for id script = record { text = []; end = check_end id script }

part_early : (id : ℕ) (script : PacketScript) (end : End) → check_end id script ≡ Some end → part_for id script ≡ record { text = []; end = Some end }
part_early id script end is = ap (λ (e : Option End). record { text = []; end = e }) is

due_closed : (id : ℕ) (past : List NumberedPacket) → complaint_over id (bytes_in past) ≡ None → length past ≤ 4294967295
    → record { text = counted (received id past); end = None } ≡ due_for_packets id (after past (record { packets = []; fault = None }))
due_closed id past calm few =
    ap₂ (λ (p f : ℕ). unless_ended None (ok_line p f)) packets_all frames_all
    ∙ sym (ap₂ (λ (e : Option End) (packets : List NumberedPacket). unless_ended e (ok_line (packets_over id (bytes_in packets)) (frames_over id (bytes_in packets)))) (calm_end id past None calm) (append-nil past))
  where
    packets_all : min (packets_over id (bytes_in past)) greatest_count ≡ packets_over id (bytes_in past)
    packets_all = omega (arith, packets_most id (bytes_in past), length-map past (λ (p : NumberedPacket). p.bytes))

    frames_all : min (frames_over id (bytes_in past)) greatest_count ≡ frames_over id (bytes_in past)
    frames_all = omega (arith, frames_most id (bytes_in past), length-map past (λ (p : NumberedPacket). p.bytes))

still_few : (n : ℕ) (past : List NumberedPacket) → IsFew n past → IsFew (n + 1) past
still_few n past few = let a = few.below in record { below = omega arith; bounded = few.bounded }

one_more : (n : ℕ) (past : List NumberedPacket) → IsFew n past → leb n 4294967295 ≡ true → (bytes : List ℕ) → IsFew (n + 1) (past ++ numbered n bytes ∷ [])
one_more n past few small bytes =
    let a = few.below in
    let b = length-append past (numbered n bytes ∷ []) in
    let c : n ≤ 4294967295 = leb-true n 4294967295 small in
    record { below = omega arith; bounded = omega arith }

due_packets : (id : ℕ) (lines : List Line) (n : ℕ) (past : List NumberedPacket) → complaint_over id (bytes_in past) ≡ None → IsFew n past
    → due_of (due_all check_rule (map said lines) n (received id past)) ≡ due_for_packets id (after past (packets_of lines n))
due_packets id [] n past calm few = due_closed id past calm few.bounded
due_packets id (line ∷ lines) n past calm few =
    by_line id n (due_for_packets id) (IsFew (n + 1)) (λ later. due_all check_rule (map said lines) (n + 1) later) (packets_of lines (n + 1)) (due_early id)
    (λ later calm few. due_packets id lines (n + 1) later calm few) past calm (still_few n past few) (one_more n past few) (said line)

judged_packets : (id : ℕ) (lines : List Line) (n : ℕ) (past : List NumberedPacket) → complaint_over id (bytes_in past) ≡ None
    → due_of (judged_all check_rule (map said lines) n (received id past)) ≡ part_for id (after past (packets_of lines n))
judged_packets id [] n past calm = sym (ap (λ (e : Option End). record { text = []; end = e }) (calm_end id past None calm))
judged_packets id (line ∷ lines) n past calm =
    by_line id n (part_for id) (λ _. Unit {0}) (λ later. judged_all check_rule (map said lines) (n + 1) later) (packets_of lines (n + 1)) (part_early id)
    (λ later calm few. judged_packets id lines (n + 1) later calm) past calm tt (λ small bytes. tt) (said line)

pub check_is_due : (id : ℕ) (bytes : List ℕ) → due_of (due check_rule (at (received id []) 1 []) bytes) ≡ check_due id bytes
check_is_due id bytes =
    ap due_of (due_is_lines checked fault_line counted (received id []) 1 [] bytes refl (omega arith))
    ∙ due_packets id (lines_of bytes) 1 [] refl (record { below = omega arith; bounded = omega arith })

pub check_is_part : (id : ℕ) (bytes : List ℕ) → due_of (takes (byte check_rule) (at (received id []) 1 []) bytes) ≡ check_part id bytes
check_is_part id bytes =
    judged_is_lines checked fault_line counted (received id []) 1 [] bytes refl (omega arith) ∙ judged_packets id (judged_lines (lines_of bytes)) 1 [] refl

-- ---- a packet

-- a packet that a receiver has no complaint about
module _ (now new : Seen) (reception : Reception) (number : ℕ) (line packet : List ℕ) (has : HasReceived now reception) (id : new.id ≡ now.id)
    (stands : (history : List (List ℕ)) → StandsFor now history → StandsFor new (history ++ packet ∷ []))
    (answer : (history : List (List ℕ)) → StandsFor now history → None ≡ complaint_over now.id (history ++ packet ∷ [])) where
  pub has_one : HasReceived new (with_one reception packet)
  has_one = record { id = id ∙ has.id; stands = stands reception.packets has.stands }

  pub goes_with_one : is_skipped line ≡ false → bytes_of line ≡ Some packet → checked reception number line ≡ goes_on (with_one reception packet)
  goes_with_one told said =
      ap₂ (λ (skipped : Bool) (p : Option (List ℕ)). cond skipped (goes_on reception) (receives p number reception)) told said
      ∙ ap (λ (o : Option Complaint). judged_as o number (with_one reception packet))
      (ap (λ (n : ℕ). complaint_over n (reception.packets ++ packet ∷ [])) (sym has.id) ∙ sym (answer reception.packets has.stands))

-- ---- statuses

abbrev why_in : Ending → Option End → Ending
why_in other None = other
why_in other (Some end) = end.why

-- no text that is due for a check is about an OBU
no_obu : (o : Option Complaint) (refused : ℕ) (fault : Option ℕ) (text : List ℕ) (end : End) → (unless_ended (first_end o refused fault) text).end ≡ Some end → end.why ≡ ending.Obu → ⊥
no_obu (Some c) refused fault text end e is = let why : ending.Complaint ≡ ending.Obu = ap (why_in ending.Complaint) e ∙ is in cc
no_obu None refused None text end e is = cc
no_obu None refused (Some n) text end e is = let why : ending.Outside ≡ ending.Obu = ap (why_in ending.Outside) e ∙ is in cc

pub check_only : (id : ℕ) (left left' w w' : Option (List ℕ)) (g g' f f' status : ℕ) → Checks id (exchange_by left left' w w' g g' f f') status → IsCheckStatus status
check_only id left left' w w' g g' f f' status checks = by_status checks.only
  where
    by_why : (bytes : List ℕ) (end : End) → (check_due id bytes).end ≡ Some end → (why : Ending) → end.why ≡ why → status ≡ status_of why → IsCheckStatus status
    by_why bytes end e ending.Outside same is = inr (inr (inr (inl is)))
    by_why bytes end e ending.Complaint same is = inr (inr (inr (inr (inr is))))
    by_why bytes end e ending.Obu same is =
        let script = packets_in bytes in
        absurd (no_obu (complaint_over id (bytes_in script.packets)) (first_refused id script.packets) script.fault
        (ok_line (packets_over id (bytes_in script.packets)) (frames_over id (bytes_in script.packets))) end e same)

    by_status : (status ≡ 0) ⊎ (status ≡ 3) ⊎ (status ≡ 4) ⊎ (status ≡ 6) ⊎ ((bytes : List ℕ) × (end : End) × ((check_due id bytes).end ≡ Some end) × (status ≡ status_of end.why)) → IsCheckStatus status
    by_status (inl is) = inl is
    by_status (inr (inl is)) = inr (inl is)
    by_status (inr (inr (inl is))) = inr (inr (inl is))
    by_status (inr (inr (inr (inl is)))) = inr (inr (inr (inr (inl is))))
    by_status (inr (inr (inr (inr x)))) = by_why x.0 x.1 x.2 (x.1).why refl x.3
