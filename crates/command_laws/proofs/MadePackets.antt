-- Reading the packets of a stream.
use Rattle.std.proofs.Common.{◌≡◌, ◌+◌, ◌-◌, ◌*◌, ◌/◌, ◌%◌, ◌^◌, ◌<◌, ◌&&◌, not, ℕ, arith, Bool, true, false, cond, eqb, true≢false, List, [], ◌∷◌, ◌++◌, append_assoc, drop, replicate, refl, sym, ap, ◌∙◌, Some, None, Result, Ok}
use Rattle.std.proofs.lemmas.Bool.{eqb-true}
use Rattle.byteorder.specs.Endian.{big_bytes}
use Rattle.sfu_base.specs.Bytes.{bit}
use Rattle.dd_bits.specs.Bits.{bits_of, bits_of_bytes}
use Rattle.dd_bits.proofs.Values.{bits_of-join, bits_of-mod, bits_of-split}
use Rattle.dd_descriptor.specs.declared.fault.DdFault.{DdFault}
use Rattle.dd_descriptor.specs.declared.parts.Head.{Head}
use Rattle.dd_descriptor.specs.Content.{Content}
use Rattle.dd_descriptor.specs.Reading.{head_at}
use Rattle.dd_descriptor.specs.Spelling.{flag_bits, head_bits}
use Rattle.dd_descriptor.proofs.Again.{head_again}
use Rattle.packet_format.specs.Formats.{element_of}
use Rattle.rtp_extension.specs.Reading.{one_byte_from, two_byte_from}
use Rattle.rtp_packet.specs.Fields.{marker_of, sequence_of, ssrc_of}
use Rattle.rtp_packet.specs.Faults.{first_fault}
use Rattle.rtp_packet.proofs.Taken.{two_back}
use Rattle.stream_maker.specs.declared.place.Place.{Place}
use Rattle.stream_maker.specs.Bytes.{ends_frame, extension, header, long_extension, packet_bytes, payload, short_extension, starts_frame, starts_key_frame, template_of}
use Rattle.stream_maker.specs.Packets.{is_key_unit, is_upper, unit_of}
use Rattle.command_laws.specs.MadePackets.{SaysPlace}

-- ---- the first three bytes of a descriptor

two_flags : (s e : Bool) → bits_of 2 (2 * bit s + bit e) ≡ flag_bits s ++ flag_bits e
unfolding bits_of
two_flags true true = refl
two_flags true false = refl
two_flags false true = refl
two_flags false false = refl

first_byte : (s e : Bool) (t : ℕ) → t < 64 → bits_of 8 (128 * bit s + 64 * bit e + t) ≡ (flag_bits s ++ flag_bits e) ++ bits_of 6 t
first_byte s e t small =
    let same : 128 * bit s + 64 * bit e + t ≡ (2 * bit s + bit e) * 2 ^ 6 + t = omega arith in
    ap (bits_of 8) same ∙ bits_of-join 2 6 (2 * bit s + bit e) t small ∙ ap (λ (l : List Bool). l ++ bits_of 6 t) (two_flags s e)

two_bytes : (n : ℕ) (rest : List ℕ) → bits_of_bytes (big_bytes 2 n ++ rest) ≡ bits_of 16 n ++ bits_of_bytes rest
unfolding bits_of_bytes
two_bytes n rest =
    ap (λ (l : List Bool). l ++ (bits_of 8 (n % 256) ++ bits_of_bytes rest)) (bits_of-mod 8 (n / 256 ^ 1))
    ∙ ap (λ (l : List Bool). bits_of 8 (n / 256 ^ 1) ++ (l ++ bits_of_bytes rest)) (bits_of-mod 8 n)
    ∙ sym (append_assoc (bits_of 8 (n / 256 ^ 1)) (bits_of 8 n) (bits_of_bytes rest))
    ∙ ap (λ (l : List Bool). l ++ bits_of_bytes rest) (sym (bits_of-split 8 8 n))

head_reads : (s e : Bool) (t n : ℕ) (behind : List ℕ) → t < 64 → n < 2 ^ 16
    → head_at (bits_of_bytes ((128 * bit s + 64 * bit e + t) ∷ (big_bytes 2 n ++ behind)))
    ≡ Ok (record { start = s; end = e; template = t; number = n }, bits_of_bytes behind)
unfolding bits_of_bytes
head_reads s e t n behind small fits =
    let rest : List Bool = bits_of_bytes behind in
    let c : Content = record {
      start = s;
      end = e;
      template = t;
      number = n;
      structure = None;
      mask = None;
      custom = record { dtis = false; fdiffs = false; chains = false };
      frame = record { layer = record { spatial = 0; temporal = 0 }; indications = []; distances = []; links = [] };
    } in
    let regrouped : ((flag_bits s ++ flag_bits e) ++ bits_of 6 t) ++ (bits_of 16 n ++ rest) ≡ head_bits c ++ rest = simp append_assoc in
    ap head_at (
    ap (λ (l : List Bool). l ++ bits_of_bytes (big_bytes 2 n ++ behind)) (first_byte s e t small)
    ∙ ap (λ (l : List Bool). ((flag_bits s ++ flag_bits e) ++ bits_of 6 t) ++ l) (two_bytes n behind)
    ∙ regrouped)
    ∙ head_again c rest small fits

-- ---- whole packets, whatever values their fields have

-- the second byte, the sequence number and the timestamp; the header extension; and the first two bytes of the payload
abbrev laid : (m s t : ℕ) (block : List ℕ) (h e : ℕ) → List ℕ
laid m s t block h e =
    144 ∷ m ∷ [] ++ big_bytes 2 s ++ big_bytes 4 t ++ 17 ∷ 17 ∷ 17 ∷ 17 ∷ [] ++ block ++ h ∷ e ∷ replicate 199 0

laid_sequence : (m s t : ℕ) (block : List ℕ) (h e : ℕ) → s < 2 ^ 16 → sequence_of (laid m s t block h e) ≡ s
laid_sequence m s t block h e fits = two_back s (drop 4 (laid m s t block h e)) fits

laid_ssrc : (m s t : ℕ) (block : List ℕ) (h e : ℕ) → ssrc_of (laid m s t block h e) ≡ 0x11111111
laid_ssrc m s t block h e = refl

laid_marker : (b : Bool) (s t : ℕ) (block : List ℕ) (h e : ℕ) → marker_of (laid (128 * bit b + 96) s t block h e) ≡ b
laid_marker true s t block h e = refl
laid_marker false s t block h e = refl

-- one element in the one-byte form
abbrev short_block : (d n : ℕ) → List ℕ
short_block d n = 0xBE ∷ 0xDE ∷ 0 ∷ 1 ∷ 0x42 ∷ d ∷ [] ++ big_bytes 2 n

short_faultless : (m s t d n h e : ℕ) → first_fault (laid m s t (short_block d n) h e) ≡ None
unfolding first_fault
short_faultless m s t d n h e = refl

short_element : (m s t d n h e : ℕ) → element_of 4 (laid m s t (short_block d n) h e) ≡ Some (d ∷ (big_bytes 2 n ++ []))
unfolding one_byte_from
short_element m s t d n h e = refl

-- one element in the two-byte form, with a structure
abbrev structure_bytes : List ℕ
structure_bytes =
    0x80 ∷ 0x03 ∷ 0x18 ∷ 0x7F ∷ 0xAF ∷ 0xAC ∷ 0x4A ∷ 0x0A ∷ 0x04 ∷ 0x04 ∷ 0xD1 ∷ 0x41 ∷ 0x09 ∷ 0xA1 ∷ 0x15 ∷ 0x80 ∷ 0x08 ∷ 0x64 ∷ 0x22 ∷ 0x22 ∷ 0x26
    ∷ 0x40 ∷ []

abbrev long_block : (n : ℕ) → List ℕ
long_block n = 0x10 ∷ 0 ∷ 0 ∷ 7 ∷ 4 ∷ 25 ∷ 0x80 ∷ [] ++ big_bytes 2 n ++ (structure_bytes ++ 0 ∷ [])

long_faultless : (m s t n h e : ℕ) → first_fault (laid m s t (long_block n) h e) ≡ None
unfolding first_fault
long_faultless m s t n h e = refl

long_element : (m s t n h e : ℕ) → element_of 4 (laid m s t (long_block n) h e) ≡ Some (0x80 ∷ (big_bytes 2 n ++ structure_bytes))
unfolding two_byte_from
long_element m s t n h e = refl

-- ---- the packets of a stream

abbrev marked : Place → Bool
marked p = is_upper p.frame && ends_frame p

abbrev number_of : Place → ℕ
number_of p = p.sequence % 2 ^ 16

abbrev clock_of : Place → ℕ
clock_of p = 3000 * unit_of p.frame % 2 ^ 32

abbrev flags_of : Place → ℕ
flags_of p = 128 * bit (not (starts_frame p)) + 64 * bit (not (ends_frame p)) + 16 + 8 * bit (starts_key_frame p)

abbrev first_of_element : Place → ℕ
first_of_element p = cond (starts_frame p) 0x30 0

small : (n : ℕ) → n % 2 ^ 16 < 2 ^ 16
small n = omega arith

few_templates : (upper key : Bool) (unit : ℕ) → 3 * bit upper + cond key 0 (1 + unit % 2) < 64
few_templates true true unit = omega arith
few_templates true false unit = omega arith
few_templates false true unit = omega arith
few_templates false false unit = omega arith

short_says : (p : Place) → SaysPlace p (header p ++ short_extension p ++ payload p)
unfolding header short_extension payload
short_says p =
    let m : ℕ = 128 * bit (marked p) + 96 in
    let d : ℕ = 128 * bit (starts_frame p) + 64 * bit (ends_frame p) + template_of p.frame in
    let n : ℕ = p.frame % 2 ^ 16 in
    record {
      is_rtp = short_faultless m (number_of p) (clock_of p) d n (flags_of p) (first_of_element p);
      sequence = laid_sequence m (number_of p) (clock_of p) (short_block d n) (flags_of p) (first_of_element p) (small p.sequence);
      ssrc = laid_ssrc m (number_of p) (clock_of p) (short_block d n) (flags_of p) (first_of_element p);
      marker = laid_marker (marked p) (number_of p) (clock_of p) (short_block d n) (flags_of p) (first_of_element p);
      descriptor = d ∷ (big_bytes 2 n ++ []);
      element = short_element m (number_of p) (clock_of p) d n (flags_of p) (first_of_element p);
      behind = bits_of_bytes [];
      head = head_reads (starts_frame p) (ends_frame p) (template_of p.frame) n [] (few_templates (is_upper p.frame) (is_key_unit p.frame) (unit_of p.frame)) (small p.frame);
    }

both : (a b : Bool) → (a && b) ≡ true → (a ≡ true) × (b ≡ true)
both true true e = (refl, refl)
both true false e = absurd (true≢false (sym e))
both false b e = absurd (true≢false (sym e))

not_so : (b : Bool) → not b ≡ true → b ≡ false
not_so false e = refl
not_so true e = absurd (true≢false (sym e))

-- the first packet of a frame of three is the first and not the last
no_end : (part : ℕ) (upper key : Bool) → eqb part 0 ≡ true → upper ≡ false → key ≡ true → eqb part (cond upper 2 (cond key 3 1) - 1) ≡ false
no_end part upper key first lower is_key =
    ap (λ (k : ℕ). eqb k (cond upper 2 (cond key 3 1) - 1)) (eqb-true part 0 first)
    ∙ ap (λ (b : Bool). eqb 0 (cond b 2 (cond key 3 1) - 1)) lower
    ∙ ap (λ (b : Bool). eqb 0 (cond b 3 1 - 1)) is_key

first_template : (upper key : Bool) (unit : ℕ) → upper ≡ false → key ≡ true → 3 * bit upper + cond key 0 (1 + unit % 2) ≡ 0
first_template upper key unit lower is_key =
    ap (λ (b : Bool). 3 * bit b + cond key 0 (1 + unit % 2)) lower ∙ ap (λ (b : Bool). 0 + cond b 0 (1 + unit % 2)) is_key

abbrev head_said : (s e : Bool) (t n : ℕ) (behind : List Bool) → Result (Head × List Bool) DdFault
head_said s e t n behind = Ok (record { start = s; end = e; template = t; number = n }, behind)

long_says : (p : Place) → starts_key_frame p ≡ true → SaysPlace p (header p ++ long_extension p.frame ++ payload p)
unfolding header long_extension payload
long_says p key =
    let m : ℕ = 128 * bit (marked p) + 96 in
    let n : ℕ = p.frame % 2 ^ 16 in
    let parts = both (starts_frame p && is_key_unit p.frame) (not (is_upper p.frame)) key in
    let first = both (starts_frame p) (is_key_unit p.frame) parts.0 in
    let lower = not_so (is_upper p.frame) parts.1 in
    let ends : ends_frame p ≡ false = no_end p.part (is_upper p.frame) (is_key_unit p.frame) first.0 lower first.1 in
    let template : template_of p.frame ≡ 0 = first_template (is_upper p.frame) (is_key_unit p.frame) (unit_of p.frame) lower first.1 in
    let rest : List Bool = bits_of_bytes structure_bytes in
    record {
      is_rtp = long_faultless m (number_of p) (clock_of p) n (flags_of p) (first_of_element p);
      sequence = laid_sequence m (number_of p) (clock_of p) (long_block n) (flags_of p) (first_of_element p) (small p.sequence);
      ssrc = laid_ssrc m (number_of p) (clock_of p) (long_block n) (flags_of p) (first_of_element p);
      marker = laid_marker (marked p) (number_of p) (clock_of p) (long_block n) (flags_of p) (first_of_element p);
      descriptor = 0x80 ∷ (big_bytes 2 n ++ structure_bytes);
      element = long_element m (number_of p) (clock_of p) n (flags_of p) (first_of_element p);
      behind = rest;
      head =
          head_reads true false 0 n structure_bytes (omega arith) (small p.frame)
          ∙ ap (λ (b : Bool). head_said b false 0 n rest) (sym first.0)
          ∙ ap (λ (b : Bool). head_said (starts_frame p) b 0 n rest) (sym ends)
          ∙ ap (λ (t : ℕ). head_said (starts_frame p) (ends_frame p) t n rest) (sym template);
    }

pub made_says : (p : Place) → SaysPlace p (packet_bytes p)
unfolding packet_bytes extension
made_says p = go (starts_key_frame p) refl
  where
    go : (b : Bool) → starts_key_frame p ≡ b → SaysPlace p (header p ++ cond b (long_extension p.frame) (short_extension p) ++ payload p)
    go true e = long_says p e
    go false e = short_says p
