-- The frames of packets of at most 2,048 bytes make units of less than 2^32 bytes.
use Rattle.std.proofs.Common.{◌≡◌, ℕ, ◌+◌, ◌%◌, ◌^◌, ◌<◌, ◌≤◌, ◌==◌, ◌&&◌, Bool, true, false, cond, not, nat_lt, List, [], ◌∷◌, ◌++◌, length, Option, Some, None, refl, arith}
use Rattle.std.specs.Prelude.{nat_le}
use Rattle.std.specs.Bool.{beq}
use Rattle.std.specs.Option.{option_map}
use Rattle.std.specs.List.{AllByRecursion}
use Rattle.std.proofs.lemmas.Grind.{common_steps}
use Rattle.std.proofs.lemmas.List.{length_push, length-append}
use Rattle.sfu_base.specs.declared.call.RtpFault.{RtpFault}
use Rattle.forwarding_model.specs.declared.complaint.Complaint.TheVariants as complaint
use Rattle.forwarding_model.specs.forwarding.Timeline.{Packet}
use Rattle.forwarding_model.specs.frames.Reading.{Descriptor, DescriptorReading, Joins, Payload, Showing, obeys_structure, shown_by}
use Rattle.forwarding_model.specs.frames.Reading.DescriptorReading.{NeedsStructure, Faulty, Reads}
use Rattle.forwarding_model.specs.frames.Reading.Payload.{Empty as NoBytes, Broken, Elements}
use Rattle.forwarding_model.specs.frames.Reading.Showing.{Unread, Shows}
use Rattle.forwarding_model.specs.Receiver.{Judged, OpenFrame, Reception, Receiver, accepted, after_end, first_packet, judge, new_reception, next_packet, receive, receive_packet, structure_after, unread, with_frame, with_part, with_payload, with_showing}
use Rattle.forwarding_model.specs.Receiver.Judged.{Complete, Lacks}
use Rattle.forwarding_model.specs.Receiver.Receiver.{Waiting, Receiving, Complaining}
use Rattle.dd_structure.specs.TemplateStructure.{TemplateStructure}
use Rattle.rtp_packet.specs.Faults.{first_fault}
use Rattle.packet_format.specs.Formats.{format_of}
use Rattle.packet_format.specs.Packets.{packet_of, read_packet, without_fault}
use Rattle.ivf_recorder.specs.Elements.{elements_over}
use Rattle.ivf_recorder.specs.Frames.{AreShort, Gathered, WholeFrame, before_fault, contents_of, contents_over, first_timestamp, gather, gather_all, gathered_over, nothing_gathered}
use Rattle.ivf_recorder.specs.Obus.{Obu, all_bytes, obus_in}
use Rattle.ivf_recorder.specs.Units.{RecordedFrame, TemporalUnit, begins, grown, joins, most_unit, next_time, units_from, units_of}
use Rattle.ivf_recorder.proofs.Sizes.{frame_weighs}

-- ---- how many packets a frame has

-- before a packet, if the unfinished frame has this many packets
abbrev OpenHas : Option OpenFrame → ℕ → Type 0
OpenHas None n = n ≡ 0
OpenHas (Some frame) n = (n ≡ frame.packets) × (n ≤ 512)

abbrev Has : Receiver TemplateStructure → ℕ → Type 0
Has Waiting n = n ≡ 0
Has (Receiving r) n = OpenHas r.frame n
Has (Complaining c) n = Unit {0}

-- after a packet, if its frame has this many packets then, whether it is open or has ended
abbrev OpenGot : Option OpenFrame → ℕ → Type 0
OpenGot None n = n ≤ 512
OpenGot (Some frame) n = (n ≡ frame.packets) × (n ≤ 512)

abbrev Got : Receiver TemplateStructure → ℕ → Type 0
Got Waiting n = ⊥
Got (Receiving r) n = OpenGot r.frame n
Got (Complaining c) n = Unit {0}

got_end : (r : Reception TemplateStructure) (number n : ℕ) (j : Judged) → n ≤ 512 → Got (after_end r number j) n
got_end r number n (Complete received) few = few
got_end r number n (Lacks fdiff) few = tt

got_frame : (r : Reception TemplateStructure) (f : OpenFrame) (end : Bool) (n : ℕ) → n ≡ f.packets → n ≤ 512 → Got (with_frame r f end) n
got_frame r f false n is few = (is, few)
got_frame r f true n is few = go f.carries
  where
    go : (b : Bool) → Got (cond {A = Receiver TemplateStructure} b (Complaining complaint.NotWhole) (after_end r f.header.number (judge r.received f.header))) n
    go true = tt
    go false = got_end r f.header.number n (judge r.received f.header) few

got_if : (b : Bool) (then : Receiver TemplateStructure) (n : ℕ) → (b ≡ true → Got then n) → Got (cond {A = Receiver TemplateStructure} b then (Complaining complaint.NotWhole)) n
got_if true then n h = h refl
got_if false then n h = tt

last_true : (a b c d : Bool) → (a && (b && (c && d))) ≡ true → d ≡ true
last_true a b c true e = refl
last_true true true true false e = absurd cc
last_true true true false false e = absurd cc
last_true true false c false e = absurd cc
last_true false b c false e = absurd cc

got_part : (r : Reception TemplateStructure) (frame : Option OpenFrame) (d : Descriptor TemplateStructure) (j : Joins) (n : ℕ) → OpenHas frame n → Got (with_part r frame d j) (n + 1)
got_part r None d j n has =
    got_if (d.start && not j.continues) (with_frame r (first_packet d j) d.end) (n + 1) (λ e. got_frame r (first_packet d j) d.end (n + 1) (omega arith) (omega arith))
got_part r (Some frame) d j n has =
    got_if (not d.start && (d.number == frame.header.number && (beq j.continues frame.carries && nat_lt frame.packets 512))) (with_frame r (next_packet frame j) d.end) (n + 1)
    (λ e.
    let t = last_true (not d.start) (d.number == frame.header.number) (beq j.continues frame.carries) (nat_lt frame.packets 512) e in
    let few : frame.packets < 512 = grind (arith, common_steps) in
    let is = has.0 in
    got_frame r (next_packet frame j) d.end (n + 1) (omega arith) (omega arith))

got_payload : (r : Reception TemplateStructure) (d : Descriptor TemplateStructure) (p : Payload) (n : ℕ) → OpenHas r.frame n → Got (with_payload r d p) (n + 1)
got_payload r d NoBytes n has = tt
got_payload r d Broken n has = tt
got_payload r d (Elements j) n has = got_part (record r { structure = structure_after r.structure d }) r.frame d j n has

got_reading : (r : Reception TemplateStructure) (id : ℕ) (force : Option TemplateStructure) (p : Payload) (reading : DescriptorReading TemplateStructure) (n : ℕ) → OpenHas r.frame n
    → Got (with_showing r (shown_by (format_of id) force p reading)) (n + 1)
got_reading r id force p NeedsStructure n has = tt
got_reading r id force p Faulty n has = tt
got_reading r id force p (Reads d) n has = go (obeys_structure (format_of id) force d)
  where
    go : (b : Bool) → Got (with_showing r (cond {A = Showing TemplateStructure} b (Shows d p) Unread)) (n + 1)
    go true = got_payload r d p n has
    go false = tt

module _ (id : ℕ) where
  got_accepted : (r : Reception TemplateStructure) (packet : Packet) (n : ℕ) → OpenHas r.frame n → Got (accepted (format_of id) r packet) (n + 1)
  got_accepted r packet n has =
      got_reading (record r { sequence_number = packet.sequence_number }) id r.structure ((format_of id).payload packet.rest) ((format_of id).descriptor r.structure packet.rest) n has

  got_packet : (m : Receiver TemplateStructure) (packet : Packet) (n : ℕ) → Has m n → Got (receive_packet (format_of id) m packet) (n + 1)
  got_packet Waiting packet n has = got_accepted (new_reception packet.ssrc) packet n has
  got_packet (Complaining c) packet n has = tt
  got_packet (Receiving r) packet n has = go (packet.ssrc == r.ssrc) (packet.sequence_number == (r.sequence_number + 1) % 65536)
    where
      go : (a b : Bool)
          → Got (cond {A = Receiver TemplateStructure} a (cond {A = Receiver TemplateStructure} b (accepted (format_of id) r packet) (Complaining (complaint.Sequence r.sequence_number packet.sequence_number))) (Complaining (complaint.OtherSource r.ssrc packet.ssrc))) (n + 1)
      go true true = got_accepted r packet n has
      go true false = tt
      go false b = tt

  got_unread : (m : Receiver TemplateStructure) (n : ℕ) → Got (unread m) n
  got_unread Waiting n = tt
  got_unread (Receiving r) n = tt
  got_unread (Complaining c) n = tt

  got : (m : Receiver TemplateStructure) (bytes : List ℕ) (n : ℕ) → Has m n → Got (receive (format_of id) m (read_packet bytes)) (n + 1)
  got m bytes n has = go (first_fault bytes)
    where
      go : (fault : Option RtpFault) → Got (receive (format_of id) m (without_fault fault bytes)) (n + 1)
      go None = got_packet m (packet_of bytes) n has
      go (Some fault) = got_unread m (n + 1)

-- ---- frames

record IsShortFrame (frame : WholeFrame) : Type 0 where
  few : length frame.packets ≤ 512
  short : AreShort frame.packets

record IsShort (g : Gathered) : Type 0 where
  frames : AllByRecursion IsShortFrame g.frames
  unfinished : AreShort g.unfinished

frame_pushed : (frames : List WholeFrame) (f : WholeFrame) → AllByRecursion IsShortFrame frames → IsShortFrame f → AllByRecursion IsShortFrame (frames ++ f ∷ [])
frame_pushed [] f all is = (is, tt)
frame_pushed (g ∷ frames) f all is = (all.0, frame_pushed frames f all.1 is)

pub packet_pushed : (packets : List (List ℕ)) (p : List ℕ) → AreShort packets → length p ≤ 2048 → AreShort (packets ++ p ∷ [])
packet_pushed [] p all is = (is, tt)
packet_pushed (q ∷ packets) p all is = (all.0, packet_pushed packets p all.1 is)

-- one more packet
gathered_short : (m : Receiver TemplateStructure) (g : Gathered) (p : List ℕ) → length p ≤ 2048 → IsShort g → Got m (length g.unfinished + 1) → IsShort (gather m g p) × Has m (length (gather m g p).unfinished)
gathered_short Waiting g p le is got = absurd got
gathered_short (Complaining c) g p le is got = (is, tt)
gathered_short (Receiving r) g p le is got = go r.frame refl got
  where
    pushed : length (g.unfinished ++ p ∷ []) ≡ length g.unfinished + 1
    pushed = length_push g.unfinished p

    go : (x : Option OpenFrame) → r.frame ≡ x → OpenGot x (length g.unfinished + 1) → IsShort (gather (Receiving r) g p) × Has (Receiving r) (length (gather (Receiving r) g p).unfinished)
    go None at got =
        let e = pushed in
        rw at (
          record { frames = frame_pushed g.frames (record { packets = g.unfinished ++ p ∷ []; structure = r.structure }) is.frames (record { few = omega arith; short = packet_pushed g.unfinished p is.unfinished le }); unfinished = tt },
          refl,
        )
    go (Some f) at got =
        let e = pushed in
        let same = got.0 in
        let few = got.1 in
        rw at (record { frames = is.frames; unfinished = packet_pushed g.unfinished p is.unfinished le }, (omega arith, omega arith))

all_short : (id : ℕ) (m : Receiver TemplateStructure) (g : Gathered) (history : List (List ℕ)) → AreShort history → IsShort g → Has m (length g.unfinished) → IsShort (gather_all id m g history)
all_short id m g [] short is has = is
all_short id m g (p ∷ more) short is has =
    let next = receive (format_of id) m (read_packet p) in
    let s = gathered_short next g p short.0 is (got id m p (length g.unfinished) has) in
    all_short id next (gather next g p) more short.1 s.0 s.1

-- ---- what is recorded of them

abbrev IsShortContent : RecordedFrame → Type 0
IsShortContent content = length content.bytes ≤ 6291461

contents_short : (frames : List WholeFrame) → AllByRecursion IsShortFrame frames → AllByRecursion IsShortContent (contents_of frames)
contents_short [] all = tt
contents_short (f ∷ frames) all = go (contents_short frames all.1) (obus_in (elements_over f.packets)) refl
  where
    go : AllByRecursion IsShortContent (contents_of frames) → (o : Option (List Obu)) → obus_in (elements_over f.packets) ≡ o
        → AllByRecursion IsShortContent (before_fault (option_map (λ obus. record { timestamp = first_timestamp f.packets; bytes = all_bytes obus }) o) (contents_of frames))
    go rest None e = tt
    go rest (Some obus) e = (frame_weighs f.packets obus all.0.short all.0.few e, rest)

-- ---- units

abbrev IsSmall : TemporalUnit → Type 0
IsSmall unit = length unit.bytes < 2 ^ 32

joined_small : (unit : TemporalUnit) (content : RecordedFrame) → joins unit content ≡ true → length unit.bytes + length content.bytes ≤ most_unit
joined_small unit content e = go (unit.timestamp == content.timestamp) (nat_le (length unit.bytes + length content.bytes) most_unit) refl e
  where
    go : (a b : Bool) → nat_le (length unit.bytes + length content.bytes) most_unit ≡ b → (a && b) ≡ true → length unit.bytes + length content.bytes ≤ most_unit
    go true true is e = grind (arith, common_steps)
    go true false is e = absurd cc
    go false b is e = absurd cc

units_small_from : (unit : TemporalUnit) (contents : List RecordedFrame) → length unit.bytes ≤ most_unit → AllByRecursion IsShortContent contents → AllByRecursion IsSmall (units_from unit contents)
units_small_from unit [] le all = (omega arith, tt)
units_small_from unit (c ∷ more) le all = go (λ u l. units_small_from u more l all.1) (joins unit c) refl
  where
    go : ((u : TemporalUnit) → length u.bytes ≤ most_unit → AllByRecursion IsSmall (units_from u more)) → (b : Bool) → joins unit c ≡ b
        → AllByRecursion IsSmall (cond {A = List TemporalUnit} b (units_from (grown unit c) more) (unit ∷ units_from (begins (next_time unit c) c) more))
    go rest true is =
        let l = joined_small unit c is in
        let a = length-append unit.bytes c.bytes in
        rest (grown unit c) (omega arith)
    go rest false is =
        let short = all.0 in
        (omega arith, rest (begins (next_time unit c) c) (omega arith))

units_small_of : (contents : List RecordedFrame) → AllByRecursion IsShortContent contents → AllByRecursion IsSmall (units_of contents)
units_small_of [] all = tt
units_small_of (c ∷ more) all = let short = all.0 in units_small_from (begins 0 c) more (omega arith) all.1

pub units_small : (id : ℕ) (history : List (List ℕ)) → AreShort history → AllByRecursion IsSmall (units_of (contents_over id history))
units_small id history short =
    let s = all_short id Waiting nothing_gathered history short (record { frames = tt; unfinished = tt }) refl in
    units_small_of (contents_over id history) (contents_short (gathered_over id history).frames s.frames)
