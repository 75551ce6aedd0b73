-- A packet whose timestamp is overwritten is the restamped packet. It has the same faults, and the same parts except one.
use Rattle.std.proofs.Common.{◌≡◌, ◌<◌, ◌≤◌, ℕ, ◌+◌, ◌*◌, ◌%◌, ◌^◌, List, [], ◌∷◌, ◌++◌, length, take, drop, slice_index, refl, sym, ap, ◌∙◌, arith}
use Rattle.std.proofs.lemmas.List.{drop-drop}
use Rattle.byteorder.specs.Endian.{big_bytes}
use Rattle.rtp_packet.specs.Fields.{is_extended, is_padded, behind_csrcs, behind_extension, profile_in, block_in, payload_in}
use Rattle.rtp_packet.specs.Faults.{first_fault}
use Rattle.rtp_packet.specs.Packet.{Packet, IsPacket, packet_of}
use Rattle.rtp_packet.specs.Restamped.{restamped, at_timestamp}
use Rattle.rtp_packet.proofs.Taken.{four_back, same_packet}

-- four bytes written from place 4 on
pub written_over : (old new field : List ℕ) (timestamp : ℕ) → field ≡ big_bytes 4 timestamp
    → new ≡ take 4 old ++ field ++ drop (4 + length field) old → new ≡ restamped timestamp old
unfolding restamped
written_over old new field timestamp ef en = en ∙ ap (λ (x : List ℕ). take 4 old ++ x ++ drop (4 + length x) old) ef

-- the bytes after the CSRC list stay
same_behind : (bytes : List ℕ) (t : ℕ) → 12 ≤ length bytes → behind_csrcs (restamped t bytes) ≡ behind_csrcs bytes
unfolding restamped
same_behind (a ∷ b ∷ c ∷ d ∷ e ∷ f ∷ g ∷ h ∷ i ∷ j ∷ k ∷ l ∷ rest) t long =
    let old : List ℕ = a ∷ b ∷ c ∷ d ∷ e ∷ f ∷ g ∷ h ∷ i ∷ j ∷ k ∷ l ∷ rest in
    sym (drop-drop (4 * (a % 16)) 12 (restamped t old)) ∙ drop-drop (4 * (a % 16)) 12 old
same_behind bytes t long = absurd (omega arith)

same_first : (bytes : List ℕ) (t : ℕ) → 12 ≤ length bytes → slice_index (restamped t bytes) 0 ≡ slice_index bytes 0
unfolding restamped
same_first (a ∷ b ∷ c ∷ d ∷ e ∷ f ∷ g ∷ h ∷ i ∷ j ∷ k ∷ l ∷ rest) t long = refl
same_first bytes t long = absurd (omega arith)

pub same_length : (bytes : List ℕ) (t : ℕ) → 12 ≤ length bytes → length (restamped t bytes) ≡ length bytes
unfolding restamped
same_length (a ∷ b ∷ c ∷ d ∷ e ∷ f ∷ g ∷ h ∷ i ∷ j ∷ k ∷ l ∷ rest) t long = refl
same_length bytes t long = absurd (omega arith)

-- the faults depend on the length, the first byte and the bytes after the CSRC list
pub same_fault : (bytes : List ℕ) (t : ℕ) → 12 ≤ length bytes → first_fault (restamped t bytes) ≡ first_fault bytes
unfolding first_fault
same_fault bytes t long =
    let behind = same_behind bytes t long in
    let first = same_first bytes t long in
    let whole = same_length bytes t long in
    rw (behind, first, whole) refl

pub same_parts : (bytes : List ℕ) (t : ℕ) (p : Packet) → t < 2 ^ 32 → IsPacket bytes p → IsPacket (restamped t bytes) (at_timestamp t p)
unfolding restamped
same_parts bytes t p ht is = record {
  csrc_words = is.csrc_words;
  csrcs = is.csrcs;
  block_words = is.block_words;
  filler = is.filler;
  laid = ap (restamped t) is.laid;
  fits = record {
    payload_type = is.fits.payload_type;
    sequence = is.fits.sequence;
    timestamp = ht;
    ssrc = is.fits.ssrc;
    profile = is.fits.profile;
    no_block = is.fits.no_block;
  };
  few_csrcs = is.few_csrcs;
  whole_csrcs = is.whole_csrcs;
  few_words = is.few_words;
  whole_block = is.whole_block;
  short_filler = is.short_filler;
}

pub same_fields : (bytes : List ℕ) (t : ℕ) → 12 ≤ length bytes → t < 2 ^ 32 → packet_of (restamped t bytes) ≡ at_timestamp t (packet_of bytes)
unfolding restamped
same_fields (a ∷ b ∷ c ∷ d ∷ e ∷ f ∷ g ∷ h ∷ i ∷ j ∷ k ∷ l ∷ rest) t long ht =
    let old : List ℕ = a ∷ b ∷ c ∷ d ∷ e ∷ f ∷ g ∷ h ∷ i ∷ j ∷ k ∷ l ∷ rest in
    let behind = same_behind old t long in
    same_packet (at_timestamp t (packet_of old)) (packet_of (restamped t old))
    refl refl refl (four_back t [] ht) refl
    (ap (profile_in (is_extended old)) behind) (ap (block_in (is_extended old)) behind)
    (ap (λ (x : List ℕ). payload_in (is_padded old) (behind_extension (is_extended old) x)) behind)
same_fields bytes t long ht = absurd (omega arith)
