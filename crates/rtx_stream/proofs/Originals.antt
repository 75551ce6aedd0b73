-- A wrapped packet is recovered, and each form is unique. The contents of packets come from the laws of reading, as a premise.
use Rattle.std.proofs.Common.{◌≡◌, ◌<◌, ◌≤◌, ℕ, ◌/◌, ◌%◌, ◌^◌, Bool, false, List, ◌∷◌, ◌++◌, length, drop, Option, None, refl, sym, ap, subst, ◌∙◌, arith}
use Rattle.std.proofs.lemmas.Bool.{le-ltb}
use Rattle.byteorder.specs.Endian.{big_bytes, big_number}
use Rattle.sfu_base.specs.Bytes.{AreBytes}
use Rattle.rtp_packet.specs.Faults.{first_fault}
use Rattle.rtp_packet.specs.Fields.{is_padded, payload_type_of, sequence_of, ssrc_of, payload_of}
use Rattle.rtp_packet.specs.Packet.{IsPacket, Packet, Fits, packet_of}
use Rattle.rtx_stream.specs.Bare.{IsBare, bare_bytes}
use Rattle.rtx_stream.specs.Faults.{unwrap_fault, fault_with}
use Rattle.rtx_stream.specs.Retransmission.{IsOriginal, IsRetransmission, retransmitted, stream_of, with_address, with_payload}
use Rattle.rtx_stream.specs.declared.retransmission.Rtx.{Rtx}
use Rattle.rtx_stream.proofs.LaidOut.{bare_packet, bare_is_unpadded, same_bare, unpadded_is_bare}

-- the contents of a packet are those of its fields
abbrev pub SaysFields : Type 0
SaysFields = (bytes : List ℕ) (p : Packet) → IsPacket bytes p → packet_of bytes ≡ p

one : SaysFields → (bytes : List ℕ) (p q : Packet) → IsPacket bytes p → IsPacket bytes q → p ≡ q
one fields bytes p q is_p is_q = sym (fields bytes p is_p) ∙ fields bytes q is_q

-- two packets with the same contents, part by part
same_packet : (p q : Packet) → p.marker ≡ q.marker → p.payload_type ≡ q.payload_type → p.sequence ≡ q.sequence → p.timestamp ≡ q.timestamp
    → p.ssrc ≡ q.ssrc → p.profile ≡ q.profile → p.block ≡ q.block → p.payload ≡ q.payload → p ≡ q
same_packet p q a b c d e f g h =
    let packed : (m : Bool) (t s u v : ℕ) (o : Option ℕ) (x y : List ℕ) → Packet = λ m t s u v o x y. record {
      marker = m;
      payload_type = t;
      sequence = s;
      timestamp = u;
      ssrc = v;
      profile = o;
      block = x;
      payload = y;
    } in
    let same : packed p.marker p.payload_type p.sequence p.timestamp p.ssrc p.profile p.block p.payload
    ≡ packed q.marker q.payload_type q.sequence q.timestamp q.ssrc q.profile q.block q.payload = rw (a, b, c, d, e, f, g, h) refl in
    same

-- the two bytes of a sequence number before a payload
two_back : (n : ℕ) (rest : List ℕ) → n < 2 ^ 16 → big_number 2 (big_bytes 2 n ++ rest) ≡ n
two_back n rest h = omega arith

two_again : (xs : List ℕ) → AreBytes xs → 2 ≤ length xs → big_bytes 2 (big_number 2 xs) ++ drop 2 xs ≡ xs
two_again (x ∷ y ∷ zs) fits long =
    let n = big_number 2 (x ∷ y ∷ zs) in
    let high : n / 256 % 256 ≡ x = omega (arith, fits 0, fits 1) in
    let low : n % 256 ≡ y = omega (arith, fits 0, fits 1) in
    rw (high, low) refl
two_again xs fits long = absurd (omega arith)

pub retransmission_is_packet : (original bytes : List ℕ) (s : ℕ) (r : Rtx) (w : IsRetransmission original s r bytes)
    → IsPacket bytes (retransmitted s r w.said)
retransmission_is_packet original bytes s r w =
    subst (λ (x : List ℕ). IsPacket x (retransmitted s r w.said)) (sym w.laid)
    (bare_packet original w.said (retransmitted s r w.said) w.packet refl refl w.fits)

pub retransmission_says : SaysFields → (original bytes : List ℕ) (s : ℕ) (r : Rtx) → IsRetransmission original s r bytes
    → (p : Packet) → IsPacket original p → IsPacket bytes (retransmitted s r p)
retransmission_says fields original bytes s r w p is =
    subst (λ (x : Packet). IsPacket bytes (retransmitted s r x)) (one fields original w.said p w.packet is)
    (retransmission_is_packet original bytes s r w)

pub one_retransmission : SaysFields → (original bytes others : List ℕ) (s : ℕ) (r : Rtx) → IsRetransmission original s r bytes
    → IsRetransmission original s r others → bytes ≡ others
one_retransmission fields original bytes others s r w v =
    let e = one fields original w.said v.said w.packet v.packet in
    w.laid ∙ same_bare original original w.said v.said (retransmitted s r w.said) (retransmitted s r v.said) w.packet v.packet refl e
    (ap (retransmitted s r) e) ∙ sym v.laid

pub one_bare : SaysFields → (packet bare other : List ℕ) → IsBare packet bare → IsBare packet other → bare ≡ other
one_bare fields packet bare other b o =
    let e = one fields packet b.said o.said b.packet o.packet in
    b.laid ∙ same_bare packet packet b.said o.said b.said o.said b.packet o.packet refl e e ∙ sym o.laid

pub bare_where_unpadded : (packet bare : List ℕ) → is_padded packet ≡ false → IsBare packet bare → bare ≡ packet
bare_where_unpadded packet bare unpadded b = b.laid ∙ sym (unpadded_is_bare packet b.said b.packet unpadded)

pub no_unwrap_fault : SaysFields → (none : (bytes : List ℕ) (p : Packet) → IsPacket bytes p → first_fault bytes ≡ None)
    → (original bytes : List ℕ) (s : ℕ) (r : Rtx) → IsRetransmission original s r bytes → unwrap_fault bytes ≡ None
no_unwrap_fault fields none original bytes s r w =
    let is = retransmission_is_packet original bytes s r w in
    let payload : payload_of bytes ≡ big_bytes 2 w.said.sequence ++ w.said.payload = ap (λ (x : Packet). x.payload) (fields bytes (retransmitted s r w.said) is) in
    ap (λ (x : Option _). fault_with x (payload_of bytes)) (none bytes (retransmitted s r w.said) is)
    ∙ ap (fault_with None) payload
    ∙ rw (le-ltb (length (big_bytes 2 w.said.sequence ++ w.said.payload)) 2 (omega arith)) refl

-- the original that the bytes carry
abbrev pub carried : ℕ → ℕ → Packet → Packet
carried ssrc payload_type p = with_payload (drop 2 p.payload) (with_address payload_type (big_number 2 p.payload) ssrc p)

pub original_found : SaysFields → (bytes : List ℕ) (p : Packet) (is : IsPacket bytes p) (ssrc payload_type : ℕ) (original : List ℕ)
    → AreBytes p.payload → 2 ≤ length p.payload → Fits (carried ssrc payload_type p)
    → original ≡ bare_bytes is.csrc_words is.csrcs is.block_words (carried ssrc payload_type p) → IsOriginal bytes ssrc payload_type original
original_found fields bytes p is ssrc payload_type original bytes_fit long fits laid =
    let q = carried ssrc payload_type p in
    let of_bytes = fields bytes p is in
    let is_q = bare_packet bytes p q is refl refl fits in
    let of_q = fields (bare_bytes is.csrc_words is.csrcs is.block_words q) q is_q in
    let again : p ≡ retransmitted (sequence_of bytes) (stream_of bytes) q =
    same_packet p (retransmitted (sequence_of bytes) (stream_of bytes) q) refl (sym (ap (λ (x : Packet). x.payload_type) of_bytes))
    (sym (ap (λ (x : Packet). x.sequence) of_bytes)) refl (sym (ap (λ (x : Packet). x.ssrc) of_bytes)) refl refl
    (sym (two_again p.payload bytes_fit long)) in
    subst (IsOriginal bytes ssrc payload_type) (sym laid) (record {
      unpadded = bare_is_unpadded is.csrc_words is.block_words is.csrcs q is.few_csrcs;
      source = ap (λ (x : Packet). x.ssrc) of_q;
      type = ap (λ (x : Packet). x.payload_type) of_q;
      bare = bare_bytes is.csrc_words is.csrcs is.block_words p;
      is_bare = record { said = p; packet = is; laid = refl };
      wrapped = record {
        said = q;
        packet = is_q;
        fits = subst Fits again is.fits;
        laid = ap (bare_bytes is.csrc_words is.csrcs is.block_words) again;
      };
    })

pub original_back : SaysFields → (bytes : List ℕ) (p : Packet) (is : IsPacket bytes p) (ssrc payload_type : ℕ) (original : List ℕ)
    → original ≡ bare_bytes is.csrc_words is.csrcs is.block_words (carried ssrc payload_type p)
    → (packet : List ℕ) (s : ℕ) (r : Rtx) → IsRetransmission packet s r bytes → ssrc_of packet ≡ ssrc → payload_type_of packet ≡ payload_type
    → IsBare packet original
original_back fields bytes p is ssrc payload_type original laid packet s r w source type =
    let o = w.said in
    let is_b = bare_packet packet o (retransmitted s r o) w.packet refl refl w.fits in
    let says : p ≡ retransmitted s r o =
    sym (fields bytes p is) ∙ ap packet_of w.laid
    ∙ fields (bare_bytes w.packet.csrc_words w.packet.csrcs w.packet.block_words (retransmitted s r o)) (retransmitted s r o) is_b in
    let of_packet = fields packet o w.packet in
    let back : carried ssrc payload_type p ≡ o =
    same_packet (carried ssrc payload_type p) o (ap (λ (x : Packet). x.marker) says)
    (sym type ∙ ap (λ (x : Packet). x.payload_type) of_packet)
    (ap (λ (x : Packet). big_number 2 x.payload) says ∙ two_back o.sequence o.payload w.packet.fits.sequence)
    (ap (λ (x : Packet). x.timestamp) says)
    (sym source ∙ ap (λ (x : Packet). x.ssrc) of_packet)
    (ap (λ (x : Packet). x.profile) says) (ap (λ (x : Packet). x.block) says)
    (ap (λ (x : Packet). drop 2 x.payload) says) in
    record {
      said = o;
      packet = w.packet;
      laid = laid ∙ same_bare bytes (bare_bytes w.packet.csrc_words w.packet.csrcs w.packet.block_words (retransmitted s r o))
          p (retransmitted s r o) (carried ssrc payload_type p) o is is_b w.laid says back;
    }

pub one_original : SaysFields → (bytes original other : List ℕ) (ssrc payload_type : ℕ) → IsOriginal bytes ssrc payload_type original
    → IsOriginal bytes ssrc payload_type other → original ≡ other
one_original fields bytes original other ssrc payload_type i j =
    let s = sequence_of bytes in
    let r = stream_of bytes in
    let a = i.wrapped.said in
    let b = j.wrapped.said in
    let at_a = i.wrapped.packet in
    let at_b = j.wrapped.packet in
    let laid_a = bare_bytes at_a.csrc_words at_a.csrcs at_a.block_words (retransmitted s r a) in
    let laid_b = bare_bytes at_b.csrc_words at_b.csrcs at_b.block_words (retransmitted s r b) in
    let is_a = bare_packet original a (retransmitted s r a) at_a refl refl i.wrapped.fits in
    let is_b = bare_packet other b (retransmitted s r b) at_b refl refl j.wrapped.fits in
    let same : laid_a ≡ laid_b = sym i.wrapped.laid ∙ one_bare fields bytes i.bare j.bare i.is_bare j.is_bare ∙ j.wrapped.laid in
    let says : retransmitted s r a ≡ retransmitted s r b =
    sym (fields laid_a (retransmitted s r a) is_a) ∙ ap packet_of same ∙ fields laid_b (retransmitted s r b) is_b in
    let of_a = fields original a at_a in
    let of_b = fields other b at_b in
    let equal : a ≡ b =
    same_packet a b (ap (λ (x : Packet). x.marker) says)
    (sym (ap (λ (x : Packet). x.payload_type) of_a) ∙ i.type ∙ sym j.type ∙ ap (λ (x : Packet). x.payload_type) of_b)
    (sym (two_back a.sequence a.payload at_a.fits.sequence) ∙ ap (λ (x : Packet). big_number 2 x.payload) says ∙ two_back b.sequence b.payload at_b.fits.sequence)
    (ap (λ (x : Packet). x.timestamp) says)
    (sym (ap (λ (x : Packet). x.ssrc) of_a) ∙ i.source ∙ sym j.source ∙ ap (λ (x : Packet). x.ssrc) of_b)
    (ap (λ (x : Packet). x.profile) says) (ap (λ (x : Packet). x.block) says)
    (ap (λ (x : Packet). drop 2 x.payload) says) in
    unpadded_is_bare original a at_a i.unpadded
    ∙ same_bare laid_a laid_b (retransmitted s r a) (retransmitted s r b) a b is_a is_b same says equal
    ∙ sym (unpadded_is_bare other b at_b j.unpadded)
