-- Properties of complaints.
use Rattle.std.proofs.Common.{◌≡◌, ℕ, ◌<◌, ◌^◌, Bool, List, map, ◌++◌, ◌∷◌, [], Option, Some, None, refl, ap, ap₂, ◌∙◌}
use Rattle.std.specs.List.{AllByRecursion}
use Rattle.std.proofs.lemmas.List.{map-append}
use Rattle.sfu_base.specs.declared.call.RtpFault.{RtpFault}
use Rattle.forwarding_model.specs.declared.complaint.Complaint.{Complaint}
use Rattle.forwarding_model.specs.forwarding.Timeline.{Packet}
use Rattle.forwarding_model.specs.frames.Reading.{Format}
use Rattle.forwarding_model.specs.Receiver.{Receiver, complaint, complaint_of, receive, receive_all}
use Rattle.forwarding_model.specs.Receiver.Receiver.{Waiting, Receiving, Complaining}
use Rattle.dd_structure.specs.TemplateStructure.{TemplateStructure}
use Rattle.rtp_packet.specs.Faults.{first_fault}
use Rattle.rtp_packet.specs.Rewritten.{rewritten}
use Rattle.rtp_packet.proofs.Faultless.{header_there}
use Rattle.rtp_packet.proofs.Rewriting.{same_fault}
use Rattle.packet_format.specs.Formats.{format_of}
use Rattle.packet_format.specs.Packets.{bytes_of, packet_of, read_packet, readdressed, without_fault}
use Rattle.packet_format.proofs.Packets.{packets_sent}
use Rattle.strict_receiver.specs.Receivers.{IsReceiverOf, Seen, StandsFor, complaint_over}
use Rattle.strict_receiver.specs.Laws.{IsSent}

-- ---- what was fed

same_complaint : (kept m : Receiver TemplateStructure) → IsReceiverOf kept m → complaint_of kept ≡ complaint_of m
same_complaint Waiting Waiting h = refl
same_complaint Waiting (Receiving r) h = absurd h
same_complaint Waiting (Complaining d) h = absurd h
same_complaint (Receiving kept) Waiting h = absurd h
same_complaint (Receiving kept) (Receiving r) h = refl
same_complaint (Receiving kept) (Complaining d) h = absurd h
same_complaint (Complaining c) Waiting h = absurd h
same_complaint (Complaining c) (Receiving r) h = absurd h
same_complaint (Complaining c) (Complaining d) h = ap (λ (x : Complaint). Some x) h

pub complaint_reported : (now : Seen) (history : List (List ℕ)) → StandsFor now history → complaint_of now.receiver ≡ complaint_over now.id history
complaint_reported now history stands = same_complaint now.receiver _ stands.receiver

module _ (format : Format TemplateStructure) where
  after_both : (m : Receiver TemplateStructure) (came more : List (Option Packet)) → receive_all format m (came ++ more) ≡ receive_all format (receive_all format m came) more
  after_both m [] more = refl
  after_both m (x ∷ xs) more = after_both (receive format m x) xs more

  complaining_still : (c : Complaint) (more : List (Option Packet)) → receive_all format (Complaining c) more ≡ Complaining c
  complaining_still c [] = refl
  complaining_still c (None ∷ more) = complaining_still c more
  complaining_still c (Some packet ∷ more) = complaining_still c more

  stays_from : (m : Receiver TemplateStructure) (more : List (Option Packet)) (c : Complaint) → complaint_of m ≡ Some c → complaint_of (receive_all format m more) ≡ Some c
  stays_from Waiting more c e = absurd cc
  stays_from (Receiving r) more c e = absurd cc
  stays_from (Complaining d) more c e = ap complaint_of (complaining_still d more) ∙ e

pub complaint_stays : (id : ℕ) (history more : List (List ℕ)) (c : Complaint) → complaint_over id history ≡ Some c → complaint_over id (history ++ more) ≡ Some c
complaint_stays id history more c e =
    ap (complaint (format_of id)) (map-append read_packet history more)
    ∙ ap complaint_of (after_both (format_of id) Waiting (map read_packet history) (map read_packet more))
    ∙ stays_from (format_of id) (receive_all (format_of id) Waiting (map read_packet history)) (map read_packet more) c e

pub parts_accepted : (id : ℕ) (history more : List (List ℕ)) → complaint_over id (history ++ more) ≡ None → complaint_over id history ≡ None
parts_accepted id history more none = go (complaint_over id history) refl
  where
    go : (o : Option Complaint) → complaint_over id history ≡ o → complaint_over id history ≡ None
    go None e = e
    go (Some c) e = let some = complaint_stays id history more c e in absurd cc

-- ---- what was sent

pub bytes_sent : (sequence ssrc : ℕ) (marker : Bool) (bytes : List ℕ) → first_fault bytes ≡ None → sequence < 2 ^ 16 → ssrc < 2 ^ 32
    → IsSent (readdressed sequence ssrc marker (packet_of bytes))
bytes_sent sequence ssrc marker bytes none small_sequence small_ssrc =
    let long = header_there bytes none in
    let sent = rewritten sequence ssrc marker bytes in
    ap read_packet (packets_sent.elsewhere sequence ssrc marker bytes long)
    ∙ ap (λ (f : Option RtpFault). without_fault f sent) (same_fault bytes sequence ssrc marker long ∙ none)
    ∙ ap (λ (p : Packet). Some p) (packets_sent.again sequence ssrc marker bytes long small_sequence small_ssrc)

read_back : (packets : List Packet) → AllByRecursion IsSent packets → map read_packet (map bytes_of packets) ≡ map Some packets
read_back [] all = refl
read_back (p ∷ ps) all = ap₂ (λ (x : Option Packet) (xs : List (Option Packet)). x ∷ xs) all.0 (read_back ps all.1)

pub sent_judged : (id : ℕ) (packets : List Packet) → AllByRecursion IsSent packets → complaint_over id (map bytes_of packets) ≡ complaint (format_of id) (map Some packets)
sent_judged id packets all = ap (complaint (format_of id)) (read_back packets all)
