-- The end of `record` for packets that a subscriber took.
use Rattle.std.proofs.Common.{◌≡◌, ℕ, Bool, true, false, List, [], ◌∷◌, ◌++◌, map, Option, Some, None, refl, sym, ap, subst, ◌∙◌, append_assoc}
use Rattle.std.specs.Prelude.{IfSome}
use Rattle.forwarding_model.specs.declared.complaint.Complaint.{Complaint}
use Rattle.forwarding_model.specs.Receiver.{complaint}
use Rattle.packet_format.specs.Packets.{read_packet}
use Rattle.strict_receiver.specs.Receivers.{complaint_over}
use Rattle.room_core.specs.Formats.{format_of}
use Rattle.room_core.proofs.Promising.{headline}
use Rattle.ivf_recorder.specs.Frames.{are_sound, fault_by, gathered_over, ivf_over}
use Rattle.sfu_driver.specs.declared.halt.Ending.{Ending}
use Rattle.sfu_driver.specs.declared.halt.Ending.TheVariants as ending
use Rattle.sfu_driver.specs.Drive.{WritesEnd, end_by, outside_end}
use Rattle.sfu_driver.specs.Outcome.{End}
use Rattle.sfu_commands.specs.Check.{bytes_in, unless_ended}
use Rattle.sfu_commands.specs.PacketScript.{NumberedPacket, packets_in}
use Rattle.sfu_commands.specs.Record.{end_from, end_unless, record_due, record_end}
use Rattle.command_laws.specs.Recorded.{TakenPacketsArentComplainedOf, TakenPacketsDontEndWith8}
use Rattle.script_texts.specs.WholeLines.{fault_line}

why_in : Ending → Option End → Ending
why_in other None = other
why_in other (Some end) = end.why

last_end : (line : Option ℕ) (end : End) → outside_end fault_line line ≡ Some end → end.why ≡ ending.Complaint → ⊥
unfolding why_in
last_end None end e is = cc
last_end (Some n) end e is = let why : ending.Outside ≡ ending.Complaint = ap (why_in ending.Outside) e ∙ is in cc

one_end : (sound : Bool) (o : Option Complaint) (n : ℕ) (rest : Option End) (end : End) → o ≡ None → end_unless (fault_by sound o) n rest ≡ Some end
    → end.why ≡ ending.Complaint → (rest ≡ Some end → ⊥) → ⊥
unfolding why_in
one_end sound (Some c) n rest end none e is more = cc
one_end true None n rest end none e is more = more e
one_end false None n rest end none e is more = let why : ending.Obu ≡ ending.Complaint = ap (why_in ending.Obu) e ∙ is in cc

calm_from : (id : ℕ) (came : List (List ℕ)) (packets : List NumberedPacket) (line : Option ℕ)
    → ((front rest : List (List ℕ)) → front ++ rest ≡ bytes_in packets → complaint_over id (came ++ front) ≡ None)
    → (end : End) → end_from id came packets (outside_end fault_line line) ≡ Some end → end.why ≡ ending.Complaint → ⊥
calm_from id came [] line calm end e is = last_end line end e is
calm_from id came (p ∷ packets) line calm end e is =
    one_end (are_sound (gathered_over id (came ++ p.bytes ∷ [])).frames) (complaint_over id (came ++ p.bytes ∷ [])) p.number (end_from id (came ++ p.bytes ∷ []) packets (outside_end fault_line line)) end
    (calm (p.bytes ∷ []) (bytes_in packets) refl) e is
    (λ rest. calm_from id (came ++ p.bytes ∷ []) packets line
    (λ front behind same. ap (complaint_over id) (append_assoc came (p.bytes ∷ []) front) ∙ calm (p.bytes ∷ front) behind (ap (λ (x : List (List ℕ)). p.bytes ∷ x) same)) end rest is)

same_complaint : (id : ℕ) (history : List (List ℕ)) → complaint (format_of id) (map read_packet history) ≡ complaint_over id history
unfolding format_of
same_complaint id history = refl

pub taken_calm : TakenPacketsArentComplainedOf
taken_calm id script sent end e why =
    let receivers = ((headline sent.history sent.well_formed).layered sent.subscriber id sent.joined_is sent.live sent.kind_is).receivers in
    calm_from id [] script.packets script.fault
    (λ front rest same. sym (same_complaint id front)
    ∙ receivers.fronts front (rest ++ sent.queued) (sym (append_assoc front rest sent.queued) ∙ (ap (λ (x : List (List ℕ)). x ++ sent.queued) same ∙ sent.begins))) end e why

-- the end of what is due is that of the script
end_is : (end : Option End) (text : List ℕ) → (unless_ended end text).end ≡ end
end_is None text = refl
end_is (Some end) text = refl

pub none_ends_with_8 : TakenPacketsDontEndWith8
none_ends_with_8 id bytes sent x told records =
    let ended = subst (λ (left : Option (List ℕ)). IfSome left (λ b. (last : List ℕ) × ((record_due id b).end ≡ Some (end_by ending.Complaint last))
    × WritesEnd x.written x.written' x.writes x.writes' (record_due id b).text last)) told (records.ended ending.Complaint refl) in
    taken_calm id (packets_in bytes) sent (end_by ending.Complaint ended.0)
    (sym (end_is (record_end id (packets_in bytes)) (ivf_over id (bytes_in (packets_in bytes).packets))) ∙ ended.1) refl
