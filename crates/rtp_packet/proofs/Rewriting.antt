-- A packet whose bytes are overwritten in two places is the rewritten packet. It has the same faults, and the same parts except three.
use Rattle.std.proofs.Common.{◌≡◌, ◌<◌, ◌≤◌, ℕ, suc, ◌+◌, ◌*◌, ◌%◌, ◌^◌, Bool, true, false, List, [], ◌∷◌, ◌++◌, length, take, drop, slice_index, refl, sym, ap, ◌∙◌, arith}
use Rattle.std.proofs.lemmas.List.{drop-drop}
use Rattle.byteorder.specs.Endian.{big_bytes}
use Rattle.rtp_packet.specs.Fields.{payload_type_of, behind_csrcs}
use Rattle.rtp_packet.specs.Faults.{first_fault}
use Rattle.rtp_packet.specs.Packet.{Packet, IsPacket, second_byte}
use Rattle.rtp_packet.specs.Rewritten.{rewritten, readdressed}

-- three bytes written from place 1 on and four from place 8 on
pub overwritten : (old mid new field source : List ℕ) (second sequence ssrc : ℕ) (marker : Bool) → 12 ≤ length old
    → field ≡ big_bytes 2 sequence → source ≡ big_bytes 4 ssrc → second ≡ second_byte marker (payload_type_of old)
    → mid ≡ take 1 old ++ second ∷ (field ++ []) ++ drop (1 + suc (length (field ++ []))) old
    → new ≡ take 8 mid ++ source ++ drop (8 + length source) mid
    → new ≡ rewritten sequence ssrc marker old
unfolding rewritten
overwritten (a ∷ b ∷ c ∷ d ∷ e ∷ f ∷ g ∷ h ∷ i ∷ j ∷ k ∷ l ∷ rest) mid new field source second sequence ssrc marker long ef es e2 em en =
    let old : List ℕ = a ∷ b ∷ c ∷ d ∷ e ∷ f ∷ g ∷ h ∷ i ∷ j ∷ k ∷ l ∷ rest in
    let after_first = em
    ∙ ap (λ (x : List ℕ). take 1 old ++ second ∷ (x ++ []) ++ drop (1 + suc (length (x ++ []))) old) ef
    ∙ ap (λ (x : ℕ). a ∷ x ∷ (big_bytes 2 sequence ++ e ∷ f ∷ g ∷ h ∷ i ∷ j ∷ k ∷ l ∷ rest)) e2 in
    en ∙ ap (λ (x : List ℕ). take 8 mid ++ x ++ drop (8 + length x) mid) es
    ∙ ap (λ (x : List ℕ). take 8 x ++ big_bytes 4 ssrc ++ drop 12 x) after_first
overwritten old mid new field source second sequence ssrc marker long ef es e2 em en = absurd (omega arith)

-- the bytes after the CSRC list stay
pub same_behind : (bytes : List ℕ) (s r : ℕ) (m : Bool) → 12 ≤ length bytes → behind_csrcs (rewritten s r m bytes) ≡ behind_csrcs bytes
unfolding rewritten
same_behind (a ∷ b ∷ c ∷ d ∷ e ∷ f ∷ g ∷ h ∷ i ∷ j ∷ k ∷ l ∷ rest) s r m long =
    let old : List ℕ = a ∷ b ∷ c ∷ d ∷ e ∷ f ∷ g ∷ h ∷ i ∷ j ∷ k ∷ l ∷ rest in
    sym (drop-drop (4 * (a % 16)) 12 (rewritten s r m old)) ∙ drop-drop (4 * (a % 16)) 12 old
same_behind bytes s r m long = absurd (omega arith)

same_first : (bytes : List ℕ) (s r : ℕ) (m : Bool) → 12 ≤ length bytes → slice_index (rewritten s r m bytes) 0 ≡ slice_index bytes 0
unfolding rewritten
same_first (a ∷ b ∷ c ∷ d ∷ e ∷ f ∷ g ∷ h ∷ i ∷ j ∷ k ∷ l ∷ rest) s r m long = refl
same_first bytes s r m long = absurd (omega arith)

pub same_length : (bytes : List ℕ) (s r : ℕ) (m : Bool) → 12 ≤ length bytes → length (rewritten s r m bytes) ≡ length bytes
unfolding rewritten
same_length (a ∷ b ∷ c ∷ d ∷ e ∷ f ∷ g ∷ h ∷ i ∷ j ∷ k ∷ l ∷ rest) s r m long = refl
same_length bytes s r m long = absurd (omega arith)

-- the faults depend on the length, the first byte and the bytes after the CSRC list
pub same_fault : (bytes : List ℕ) (s r : ℕ) (m : Bool) → 12 ≤ length bytes → first_fault (rewritten s r m bytes) ≡ first_fault bytes
unfolding first_fault
same_fault bytes s r m long =
    let behind = same_behind bytes s r m long in
    let first = same_first bytes s r m long in
    let whole = same_length bytes s r m long in
    rw (behind, first, whole) refl

-- the low seven bits of the second byte
low_bits : (m : Bool) (n : ℕ) → n < 128 → second_byte m n % 128 ≡ n
low_bits true n h = omega arith
low_bits false n h = omega arith

pub same_parts : (bytes : List ℕ) (s r : ℕ) (m : Bool) (p : Packet) → s < 2 ^ 16 → r < 2 ^ 32 → IsPacket bytes p → IsPacket (rewritten s r m bytes) (readdressed s r m p)
unfolding rewritten
same_parts bytes s r m p hs hr is = record {
  csrc_words = is.csrc_words;
  csrcs = is.csrcs;
  block_words = is.block_words;
  filler = is.filler;
  laid = ap (rewritten s r m) is.laid ∙ rw (low_bits p.marker p.payload_type is.fits.payload_type) refl;
  fits = record {
    payload_type = is.fits.payload_type;
    sequence = hs;
    timestamp = is.fits.timestamp;
    ssrc = hr;
    profile = is.fits.profile;
    no_block = is.fits.no_block;
  };
  few_csrcs = is.few_csrcs;
  whole_csrcs = is.whole_csrcs;
  few_words = is.few_words;
  whole_block = is.whole_block;
  short_filler = is.short_filler;
}
