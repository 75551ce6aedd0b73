-- How a bundle sends: frame numbers stay, or continue over a change of leg.
use Rattle.std.proofs.Common.{◌≡◌, ◌+◌, ◌%◌, ℕ, arith, Bool, true, false, List, refl, sym, subst, ap, cond}
use Rattle.std.specs.declared.option.Option.TheVariants.{None, Some}
use Rattle.std.specs.declared.option.Option.{Option}
use Rattle.forwarding_model.specs.forwarding.Timeline.{Packet}
use Rattle.forwarding_model.specs.frames.Reading.{Format, Showing, shown}
use Rattle.forwarding_model.specs.frames.Reading.Showing.{LacksStructure, Unread, Shows}
use Rattle.leg_switch.specs.Marks.{Marks, marks_of}
use Rattle.packet_format.specs.Formats.{format_of}
use Rattle.packet_format.specs.Packets.{read_packet}
use Rattle.leg_switch.specs.FrameNumbers.{Numbering, after_forwarded, number_offset_for, number_at, number_place, numbered_at, numbering, passed_renumbered, renumbered, renumbered_at}
use Rattle.leg_switch.specs.Switching.{goes_out, is_active, passed, standing}
use Rattle.leg_switch.proofs.Alike.{moved_showing}
use Rattle.leg_switch.proofs.Pleasing.{IsSending, Moves, Sending}
use Rattle.leg_switch.proofs.Reading.{IsReading}
use Rattle.leg_switch.proofs.Bytes.{bytes_are_read}
use Rattle.leg_switch.proofs.MovedDescriptors.{moves_there, stays_same}

-- ---- frame numbers that stay

abbrev pub plain_sending : Marks → Sending
plain_sending marks = record { offset = λ events. 0; packet = λ past leg bytes. bytes; pushes = passed marks }

module _ {S : Type 0} (format : Format S) (read : List ℕ → Option Packet) (marks : Marks) (reading : IsReading format read marks) where
  -- an offset of 0 moves nothing
  not_moved : (force : Option S) (rest : List ℕ) (x : Showing S) → shown format force rest ≡ x → x ≡ moved_showing 0 x
  not_moved force rest LacksStructure e = refl
  not_moved force rest Unread e = refl
  not_moved force rest (Shows d payload) e =
      let same : d.number ≡ (d.number + 0) % 65536 = omega (arith, reading.small force rest d payload e) in
      ap (λ (n : ℕ). Shows (record d { number = n }) payload) same

  pub is_plain : IsSending format read marks (plain_sending marks)
  is_plain = record {
    none = refl;
    choice = λ leg past. refl;
    keeps = λ leg past. refl;
    take = λ past leg bytes. refl;
    stays = λ past leg bytes e. refl;
    follows = λ past leg bytes e. refl;
    moves = λ past leg bytes p goes reads. record { packet = p; reads = reads; shows = λ force. not_moved force p.rest (shown format force p.rest) refl };
  }

-- ---- frame numbers that continue

abbrev pub renumbered_sending : Marks → ℕ → Sending
renumbered_sending marks id = record {
  offset = λ events. (numbering marks id events).offset;
  packet = λ past leg bytes. renumbered id (after_forwarded id (standing marks past).active (numbering marks id past) leg bytes).last bytes;
  pushes = passed_renumbered marks id;
}

module _ (id : ℕ) where
  -- the active leg keeps its offset
  same_offset : (active : Option ℕ) (n : Numbering) (leg : ℕ) (o : Option ℕ) (bytes : List ℕ) → is_active leg active ≡ true → (numbered_at active n leg o bytes).offset ≡ n.offset
  same_offset active n leg None bytes e = refl
  same_offset active n leg (Some place) bytes e = ap (λ (b : Bool). cond b n.offset (number_offset_for active n.last (number_at place bytes))) e

  follows_on : (b : Bool) (m n : Numbering) → m.offset ≡ n.offset → (cond b m n).offset ≡ n.offset
  follows_on true m n e = e
  follows_on false m n e = refl

  moves_on : (active : Option ℕ) (n : Numbering) (leg : ℕ) (bytes : List ℕ) (p : Packet) → read_packet bytes ≡ Some p → (o : Option ℕ) → number_place id bytes ≡ o
      → Moves (format_of id) (numbered_at active n leg o bytes).offset p (read_packet (renumbered_at o (numbered_at active n leg o bytes).last bytes))
  moves_on active n leg bytes p reads None e = record { packet = p; reads = reads; shows = stays_same id (bytes_are_read id).small n.offset bytes p reads e }
  moves_on active n leg bytes p reads (Some place) e = moves_there id (bytes_are_read id).small (numbered_at active n leg (Some place) bytes).offset place bytes p reads e

  pub is_renumbered : IsSending (format_of id) read_packet (marks_of id) (renumbered_sending (marks_of id) id)
  is_renumbered = record {
    none = refl;
    choice = λ leg past. refl;
    keeps = λ leg past. refl;
    take = λ past leg bytes. refl;
    stays = λ past leg bytes e.
        ap (λ (b : Bool). (cond b (after_forwarded id (standing (marks_of id) past).active (numbering (marks_of id) id past) leg bytes) (numbering (marks_of id) id past)).offset) e;
    follows = λ past leg bytes e.
        follows_on (goes_out (marks_of id) (standing (marks_of id) past) leg bytes) (after_forwarded id (standing (marks_of id) past).active (numbering (marks_of id) id past) leg bytes) (numbering (marks_of id) id past)
        (same_offset (standing (marks_of id) past).active (numbering (marks_of id) id past) leg (number_place id bytes) bytes e);
    moves = λ past leg bytes p goes reads.
        subst (λ (b : Bool). Moves (format_of id) (cond b (after_forwarded id (standing (marks_of id) past).active (numbering (marks_of id) id past) leg bytes) (numbering (marks_of id) id past)).offset p
        (read_packet (renumbered id (after_forwarded id (standing (marks_of id) past).active (numbering (marks_of id) id past) leg bytes).last bytes))) (sym goes)
        (moves_on (standing (marks_of id) past).active (numbering (marks_of id) id past) leg bytes p reads (number_place id bytes) refl);
  }
