-- A descriptor with another frame number is read as the same descriptor, except for the number.
use Rattle.std.proofs.Common.{◌≡◌, ◌<◌, ◌≤◌, ◌+◌, ◌*◌, ◌/◌, ◌%◌, ◌^◌, ℕ, Bool, true, false, cond, List, [], ◌∷◌, ◌++◌, length, take, drop, Result, Ok, Err, refl, sym, ap, ap₂, subst, ◌∙◌, arith, append_assoc, length-append}
use Rattle.std.proofs.lemmas.List.{drop_at, take_at}
use Rattle.std.specs.declared.option.Option.{Option}
use Rattle.std.specs.Prelude.{option_map}
use Rattle.std.specs.declared.option.Option.TheVariants.{None, Some}
use Rattle.byteorder.specs.Endian.{big_bytes, big_number}
use Rattle.sfu_base.specs.Bytes.{AreBytes}
use Rattle.forwarding_model.specs.forwarding.Timeline.{Packet}
use Rattle.forwarding_model.specs.frames.Reading.{Descriptor, DescriptorReading, Payload, Showing, obeys_structure, shown, shown_by}
use Rattle.forwarding_model.specs.frames.Reading.DescriptorReading.{NeedsStructure, Faulty, Reads}
use Rattle.forwarding_model.specs.frames.Reading.Showing.{LacksStructure, Unread, Shows}
use Rattle.rtp_packet.specs.Fields.{payload_of}
use Rattle.dd_bits.specs.Bits.{bits_of, bits_of_bytes, value}
use Rattle.dd_bits.specs.Sequences.{◌>>=◌}
use Rattle.dd_bits.proofs.SequenceLaws.{bind_is}
use Rattle.dd_bits.proofs.Values.{bits_of-join, bits_of-mod, bits_of-split, length-bits_of, value-bits_of, value-lt}
use Rattle.dd_structure.specs.TemplateStructure.{TemplateStructure}
use Rattle.dd_descriptor.specs.declared.descriptor.Edges.{Edges}
use Rattle.dd_descriptor.specs.declared.fault.DdFault.{DdFault}
use Rattle.dd_descriptor.specs.declared.fault.DdFault.TheVariants as faults
use Rattle.dd_descriptor.specs.declared.parts.Head.{Head}
use Rattle.dd_descriptor.specs.Content.{Content}
use Rattle.dd_descriptor.specs.Reading.{carried_at, custom_of, descriptor_at, flag_at, flags_in, head_at, held_body_at, number_at as bits_at}
use Rattle.dd_descriptor.specs.Spelling.{flag_bits}
use Rattle.dd_descriptor.proofs.Again.{flag_again, number_again}
use Rattle.dd_descriptor.proofs.FirstBytes.{front_fault, front_long, front_of, front_short}
use Rattle.dd_descriptor.proofs.Found.{head_found}
use Rattle.dd_descriptor.proofs.LaidFound.{head_laid, length-flag_bits}
use Rattle.packet_format.specs.Formats.{descriptor_in, element_of, format_of, payload_in, reading_of}
use Rattle.packet_format.specs.Packets.{packet_of, read_packet, without_fault}
use Rattle.packet_format.proofs.Formats.{is_read}
use Rattle.packet_format.proofs.Packets.{rests_same}
use Rattle.leg_switch.specs.FrameNumbers.{number_at, number_place, with_number}
use Rattle.leg_switch.proofs.Alike.{moved_showing}
use Rattle.leg_switch.proofs.Bytes.{read_as, rest_element, was_read}
use Rattle.leg_switch.proofs.Pleasing.{Moves}
use Rattle.leg_switch.proofs.Renumbering.{no_place, renumbering}

-- ---- the bits of the first three bytes

abbrev eight : Head → List Bool
eight h = flag_bits h.start ++ (flag_bits h.end ++ bits_of 6 h.template)

length-eight : (h : Head) → length (eight h) ≡ 8
length-eight h =
    omega (
      arith,
      length-append (flag_bits h.start) (flag_bits h.end ++ bits_of 6 h.template),
      length-append (flag_bits h.end) (bits_of 6 h.template),
      length-flag_bits h.start,
      length-flag_bits h.end,
      length-bits_of 6 h.template,
    )

grouped : (h : Head) (rest : List Bool) → flag_bits h.start ++ (flag_bits h.end ++ (bits_of 6 h.template ++ rest)) ≡ eight h ++ rest
grouped h rest = simp append_assoc

-- equal lists that are concatenated from parts of the same lengths have the same parts
same_front : (n : ℕ) (a b c d : List Bool) → length a ≡ n → length c ≡ n → a ++ b ≡ c ++ d → a ≡ c
same_front n a b c d la lc e = sym (take_at a b n la) ∙ ap (take n) e ∙ take_at c d n lc

same_back : (n : ℕ) (a b c d : List Bool) → length a ≡ n → length c ≡ n → a ++ b ≡ c ++ d → b ≡ d
same_back n a b c d la lc e = sym (drop_at a b n la) ∙ ap (drop n) e ∙ drop_at c d n lc

-- the bits of a number in two bytes
pub two_bytes : (n : ℕ) (rest : List ℕ) → bits_of_bytes (big_bytes 2 n ++ rest) ≡ bits_of 16 n ++ bits_of_bytes rest
unfolding bits_of_bytes
two_bytes n rest =
    let high : bits_of 8 (n / 256 ^ 1 % 256) ≡ bits_of 8 (n / 2 ^ 8) = bits_of-mod 8 (n / 256 ^ 1) in
    let low : bits_of 8 (n % 256) ≡ bits_of 8 n = bits_of-mod 8 n in
    let joined : bits_of 16 n ≡ bits_of 8 (n / 2 ^ 8) ++ bits_of 8 n = bits_of-split 8 8 n in
    ap₂ (λ (a b : List Bool). a ++ (b ++ bits_of_bytes rest)) high low
    ∙ sym (append_assoc (bits_of 8 (n / 2 ^ 8)) (bits_of 8 n) (bits_of_bytes rest))
    ∙ ap (λ (a : List Bool). a ++ bits_of_bytes rest) (sym joined)

one_byte : (b : ℕ) (rest : List ℕ) → bits_of_bytes (b ∷ rest) ≡ bits_of 8 b ++ bits_of_bytes rest
unfolding bits_of_bytes
one_byte b rest = refl

-- the head that is read from three or more bytes
record IsHead (first high low : ℕ) (rest : List ℕ) (x : Head × List Bool) : Type 0 where
  front : bits_of 8 first ≡ eight x.0
  number : bits_of 8 high ++ bits_of 8 low ≡ bits_of 16 x.0.number
  behind : bits_of_bytes rest ≡ x.1
  small : x.0.template < 2 ^ 6
  fits : x.0.number < 2 ^ 16

is_head : (first high low : ℕ) (rest : List ℕ) (x : Head × List Bool) → head_at (bits_of_bytes (first ∷ high ∷ low ∷ rest)) ≡ Ok x → IsHead first high low rest x
is_head first high low rest x e =
    let number = bits_of 16 x.0.number in
    let two : List Bool = bits_of 8 high ++ bits_of 8 low in
    let bits : bits_of_bytes (first ∷ high ∷ low ∷ rest) ≡ bits_of 8 first ++ (two ++ bits_of_bytes rest) =
    one_byte first (high ∷ low ∷ rest)
    ∙ ap (λ (l : List Bool). bits_of 8 first ++ l) (one_byte high (low ∷ rest) ∙ ap (λ (l : List Bool). bits_of 8 high ++ l) (one_byte low rest)
    ∙ sym (append_assoc (bits_of 8 high) (bits_of 8 low) (bits_of_bytes rest))) in
    let all : bits_of 8 first ++ (two ++ bits_of_bytes rest) ≡ eight x.0 ++ (number ++ x.1) =
    sym bits ∙ head_laid (bits_of_bytes (first ∷ high ∷ low ∷ rest)) x e ∙ grouped x.0 (number ++ x.1) in
    let behind = same_back 8 (bits_of 8 first) (two ++ bits_of_bytes rest) (eight x.0) (number ++ x.1) (length-bits_of 8 first) (length-eight x.0) all in
    let len : length two ≡ 16 = omega (arith, length-append (bits_of 8 high) (bits_of 8 low), length-bits_of 8 high, length-bits_of 8 low) in
    let small = head_found (bits_of_bytes (first ∷ high ∷ low ∷ rest)) x e in
    record {
      front = same_front 8 (bits_of 8 first) (two ++ bits_of_bytes rest) (eight x.0) (number ++ x.1) (length-bits_of 8 first) (length-eight x.0) all;
      number = same_front 16 two (bits_of_bytes rest) number x.1 len (length-bits_of 16 x.0.number) behind;
      behind = same_back 16 two (bits_of_bytes rest) number x.1 len (length-bits_of 16 x.0.number) behind;
      small = small.0;
      fits = small.1;
    }

-- the head with another number
abbrev with_head : ℕ → Head × List Bool → Head × List Bool
with_head n x = (record { start = x.0.start; end = x.0.end; template = x.0.template; number = n }, x.1)

new_head : (n first high low : ℕ) (rest : List ℕ) (x : Head × List Bool) → n < 2 ^ 16 → IsHead first high low rest x → head_at (bits_of_bytes (first ∷ (big_bytes 2 n ++ rest))) ≡ Ok (with_head n x)
unfolding head_at
new_head n first high low rest x small h =
    let bits : bits_of_bytes (first ∷ (big_bytes 2 n ++ rest)) ≡ flag_bits x.0.start ++ (flag_bits x.0.end ++ (bits_of 6 x.0.template ++ (bits_of 16 n ++ x.1))) =
    one_byte first (big_bytes 2 n ++ rest)
    ∙ ap₂ (λ (a b : List Bool). a ++ b) h.front (two_bytes n rest ∙ ap (λ (l : List Bool). bits_of 16 n ++ l) h.behind)
    ∙ sym (grouped x.0 (bits_of 16 n ++ x.1)) in
    rw bits (
    bind_is (flag_at _) _ _ _ (flag_again x.0.start _) (
    bind_is (flag_at _) _ _ _ (flag_again x.0.end _) (
    bind_is (bits_at 6 _) _ _ _ (number_again 6 x.0.template _ h.small) (
    bind_is (bits_at 16 _) _ _ _ (number_again 16 n _ small) refl))))

-- ---- the descriptor

abbrev numbered_content : ℕ → Result Content DdFault → Result Content DdFault
numbered_content n (Ok c) = Ok (record c { number = n })
numbered_content n (Err e) = Err e

bind_numbered : {A : Type 0} (n : ℕ) (r : Result A DdFault) (f g : A → Result Content DdFault) → ((a : A) → f a ≡ numbered_content n (g a)) → (r >>= f) ≡ numbered_content n (r >>= g)
bind_numbered n (Ok a) f g h = h a
bind_numbered n (Err e) f g h = refl

-- the bits after the head
abbrev behind_head : ℕ → Option TemplateStructure → Head × List Bool → Result Content DdFault
behind_head len force head = do
  flags ← flags_in len head.1
  carried ← carried_at flags.0.structure flags.1
  body ← held_body_at head.0.template flags.0 carried.0 force carried.1
  Ok (record {
    start = head.0.start;
    end = head.0.end;
    template = head.0.template;
    number = head.0.number;
    structure = carried.0;
    mask = body.0.0;
    custom = custom_of flags.0;
    frame = body.0.1;
  })

same_behind : (n len : ℕ) (force : Option TemplateStructure) (x : Head × List Bool) → behind_head len force (with_head n x) ≡ numbered_content n (behind_head len force x)
same_behind n len force x =
    bind_numbered n (flags_in len x.1) _ _ (λ flags.
    bind_numbered n (carried_at flags.0.structure flags.1) _ _ (λ carried.
    bind_numbered n (held_body_at x.0.template flags.0 carried.0 force carried.1) _ _ (λ body. refl)))

descriptor_is : (bytes : List ℕ) (force : Option TemplateStructure) (x : Head × List Bool) → head_at (bits_of_bytes bytes) ≡ Ok x → descriptor_at bytes force ≡ behind_head (length bytes) force x
unfolding descriptor_at
descriptor_is bytes force x e = bind_is (head_at (bits_of_bytes bytes)) _ x _ e refl

new_descriptor : (n first high low : ℕ) (rest : List ℕ) (force : Option TemplateStructure) → n < 2 ^ 16
    → descriptor_at (first ∷ (big_bytes 2 n ++ rest)) force ≡ numbered_content n (descriptor_at (first ∷ high ∷ low ∷ rest) force)
new_descriptor n first high low rest force small = by (head_at (bits_of_bytes (first ∷ high ∷ low ∷ rest))) refl
  where
    by : (r : Result (Head × List Bool) DdFault) → head_at (bits_of_bytes (first ∷ high ∷ low ∷ rest)) ≡ r
        → descriptor_at (first ∷ (big_bytes 2 n ++ rest)) force ≡ numbered_content n (descriptor_at (first ∷ high ∷ low ∷ rest) force)
    by (Err fault) e = absurd (omega (arith, front_short (first ∷ high ∷ low ∷ rest) fault e))
    by (Ok x) e =
        descriptor_is (first ∷ (big_bytes 2 n ++ rest)) force (with_head n x) (new_head n first high low rest x small (is_head first high low rest x e))
        ∙ same_behind n (length (first ∷ high ∷ low ∷ rest)) force x
        ∙ ap (numbered_content n) (sym (descriptor_is (first ∷ high ∷ low ∷ rest) force x e))

-- ---- what is shown

abbrev numbered_descriptor : ℕ → Descriptor TemplateStructure → Descriptor TemplateStructure
numbered_descriptor n d = record d { number = n }

abbrev numbered_reading : ℕ → DescriptorReading TemplateStructure → DescriptorReading TemplateStructure
numbered_reading n NeedsStructure = NeedsStructure
numbered_reading n Faulty = Faulty
numbered_reading n (Reads d) = Reads (numbered_descriptor n d)

abbrev numbered_showing : ℕ → Showing TemplateStructure → Showing TemplateStructure
numbered_showing n LacksStructure = LacksStructure
numbered_showing n Unread = Unread
numbered_showing n (Shows d payload) = Shows (numbered_descriptor n d) payload

reading_numbered : (n : ℕ) (r : Result Content DdFault) → reading_of (numbered_content n r) ≡ numbered_reading n (reading_of r)
reading_numbered n (Ok c) = refl
reading_numbered n (Err faults.Short) = refl
reading_numbered n (Err faults.NoStructure) = refl
reading_numbered n (Err (faults.Template index count)) = refl
reading_numbered n (Err faults.References) = refl
reading_numbered n (Err (faults.Bad fault)) = refl

shown_numbered : (id n : ℕ) (force : Option TemplateStructure) (payload : Payload) (r : DescriptorReading TemplateStructure)
    → shown_by (format_of id) force payload (numbered_reading n r) ≡ numbered_showing n (shown_by (format_of id) force payload r)
shown_numbered id n force payload NeedsStructure = refl
shown_numbered id n force payload Faulty = refl
shown_numbered id n force payload (Reads d) = by (obeys_structure (format_of id) force d)
  where
    by : (b : Bool) → cond b (Shows (numbered_descriptor n d) payload) Unread ≡ numbered_showing n (cond b (Shows d payload) Unread)
    by true = refl
    by false = refl

-- ---- the packet

-- the number that is read is the one at the place
read_number : (id : ℕ) (force : Option TemplateStructure) (rest value : List ℕ) (first high low : ℕ) (d : Descriptor TemplateStructure) → element_of id rest ≡ Some (first ∷ high ∷ low ∷ value)
    → (format_of id).descriptor force rest ≡ Reads d → bits_of 16 d.number ≡ bits_of 8 high ++ bits_of 8 low
read_number id force rest value first high low d element reads =
    let r = is_read id force rest d reads in
    let same : first ∷ high ∷ low ∷ value ≡ r.bytes = (let both : Some (first ∷ high ∷ low ∷ value) ≡ Some r.bytes = sym element ∙ r.found in cc) in
    let here : descriptor_at (first ∷ high ∷ low ∷ value) force ≡ Ok r.content = ap (λ (b : List ℕ). descriptor_at b force) same ∙ r.reads in
    by r.content (ap (λ (x : Descriptor TemplateStructure). x.number) r.is) here (head_at (bits_of_bytes (first ∷ high ∷ low ∷ value))) refl
  where
    by : (c : Content) → c.number ≡ d.number → descriptor_at (first ∷ high ∷ low ∷ value) force ≡ Ok c → (h : Result (Head × List Bool) DdFault) → head_at (bits_of_bytes (first ∷ high ∷ low ∷ value)) ≡ h
        → bits_of 16 d.number ≡ bits_of 8 high ++ bits_of 8 low
    by c is here (Err fault) e = front_fault (first ∷ high ∷ low ∷ value) force c fault e here
    by c is here (Ok x) e =
        let number : x.0.number ≡ d.number = ap (λ (b : Edges). b.number) (front_of (first ∷ high ∷ low ∷ value) force c x e here) ∙ is in
        ap (bits_of 16) (sym number) ∙ sym (is_head first high low value x e).number

number_of_bits : (p high low : ℕ) (bytes more : List ℕ) (k : ℕ) → drop p bytes ≡ high ∷ low ∷ more → bits_of 16 k ≡ bits_of 8 high ++ bits_of 8 low → k < 65536 → number_at p bytes ≡ k
number_of_bits p high low bytes more k at bits small =
    let two : List Bool = bits_of 8 high ++ bits_of 8 low in
    let len : length two ≡ 16 = omega (arith, length-append (bits_of 8 high) (bits_of 8 low), length-bits_of 8 high, length-bits_of 8 low) in
    let all : bits_of_bytes (high ∷ low ∷ more) ≡ two ++ bits_of_bytes more =
    one_byte high (low ∷ more) ∙ ap (λ (l : List Bool). bits_of 8 high ++ l) (one_byte low more) ∙ sym (append_assoc (bits_of 8 high) (bits_of 8 low) (bits_of_bytes more)) in
    ap (λ (l : List ℕ). value (take 16 (bits_of_bytes l))) at
    ∙ ap (λ (l : List Bool). value (take 16 l)) all
    ∙ ap value (take_at two (bits_of_bytes more) 16 len)
    ∙ ap value (sym bits)
    ∙ value-bits_of 16 k
    ∙ (let same : k % 2 ^ 16 ≡ k = omega (arith, small) in same)

-- the number that two bytes are read as
pub two_read : (bytes : List ℕ) → AreBytes bytes → 2 ≤ length bytes → big_number 2 bytes ≡ value (take 16 (bits_of_bytes bytes))
two_read (high ∷ low ∷ more) are long =
    let h = are 0 in
    let l = are 1 in
    let number : big_number 2 (high ∷ low ∷ more) ≡ high * 2 ^ 8 + low = omega arith in
    let bits : bits_of 16 (high * 2 ^ 8 + low) ≡ bits_of 8 high ++ bits_of 8 low = bits_of-join 8 8 high low (omega (arith, l)) in
    number ∙ sym (number_of_bits 0 high low (high ∷ low ∷ more) more (high * 2 ^ 8 + low) refl bits (omega (arith, h, l)))
two_read (high ∷ []) are long = absurd (omega (arith, long))
two_read [] are long = absurd (omega (arith, long))

-- it has 16 bits
pub number_small : (p high low : ℕ) (bytes more : List ℕ) → drop p bytes ≡ high ∷ low ∷ more → number_at p bytes < 65536
number_small p high low bytes more at =
    let two : List Bool = bits_of 8 high ++ bits_of 8 low in
    let len : length two ≡ 16 = omega (arith, length-append (bits_of 8 high) (bits_of 8 low), length-bits_of 8 high, length-bits_of 8 low) in
    let all : bits_of_bytes (high ∷ low ∷ more) ≡ two ++ bits_of_bytes more =
    one_byte high (low ∷ more) ∙ ap (λ (l : List Bool). bits_of 8 high ++ l) (one_byte low more) ∙ sym (append_assoc (bits_of 8 high) (bits_of 8 low) (bits_of_bytes more)) in
    let is : number_at p bytes ≡ value two =
    ap (λ (l : List ℕ). value (take 16 (bits_of_bytes l))) at ∙ ap (λ (l : List Bool). value (take 16 l)) all ∙ ap value (take_at two (bits_of_bytes more) 16 len) in
    let small : value two < 2 ^ 16 = subst (λ (n : ℕ). value two < 2 ^ n) len (value-lt two) in
    subst (λ (n : ℕ). n < 65536) (sym is) small

module _ (id : ℕ) (small : (force : Option TemplateStructure) (rest : List ℕ) (d : Descriptor TemplateStructure) (payload : Payload) → shown (format_of id) force rest ≡ Shows d payload → d.number < 65536) where
  -- a packet that shows a descriptor has the descriptor's frame number
  pub number_shown : (bytes : List ℕ) (p : Packet) (force : Option TemplateStructure) (d : Descriptor TemplateStructure) (payload : Payload) → read_packet bytes ≡ Some p
      → shown (format_of id) force p.rest ≡ Shows d payload → (o : Option ℕ) → number_place id bytes ≡ o → option_map (λ place. number_at place bytes) o ≡ Some d.number
  number_shown bytes p force d payload reads e None none =
      let was = was_read (format_of id) force d payload ((format_of id).payload p.rest) ((format_of id).descriptor force p.rest) e in
      let r = is_read id force p.rest d was.reads in
      let few = no_place id bytes r.bytes none (sym (rest_element id bytes p (read_as bytes p reads)) ∙ r.found) in
      absurd (long r.bytes r.content r.reads few (head_at (bits_of_bytes r.bytes)) refl)
    where
      long : (v : List ℕ) (c : Content) → descriptor_at v force ≡ Ok c → length v < 3 → (h : Result (Head × List Bool) DdFault) → head_at (bits_of_bytes v) ≡ h → ⊥
      long v c here few (Err fault) e = front_fault v force c fault e here
      long v c here few (Ok x) e = omega (arith, few, front_long v x e)
  number_shown bytes p force d payload reads e (Some place) at =
      let is = read_as bytes p reads in
      let was = was_read (format_of id) force d payload ((format_of id).payload p.rest) ((format_of id).descriptor force p.rest) e in
      let r = renumbering id 0 place bytes is.reads at in
      let element : element_of id p.rest ≡ Some (r.first ∷ r.high ∷ r.low ∷ r.rest) = rest_element id bytes p is ∙ r.element in
      ap (λ (k : ℕ). Some k)
      (number_of_bits place r.high r.low bytes r.more d.number r.at (read_number id force p.rest r.rest r.first r.high r.low d element was.reads) (small force p.rest d payload e))

  -- a packet without a frame number shows none
  pub stays_same : (o : ℕ) (bytes : List ℕ) (p : Packet) → read_packet bytes ≡ Some p → number_place id bytes ≡ None → (force : Option TemplateStructure)
      → shown (format_of id) force p.rest ≡ moved_showing o (shown (format_of id) force p.rest)
  stays_same o bytes p reads none force = by (shown (format_of id) force p.rest) refl
    where
      by : (x : Showing TemplateStructure) → shown (format_of id) force p.rest ≡ x → x ≡ moved_showing o x
      by LacksStructure e = refl
      by Unread e = refl
      by (Shows d payload) e =
          let shown_none : None ≡ Some d.number = number_shown bytes p force d payload reads e None none in
          absurd (let is : None ≡ Some d.number = shown_none in cc)

  -- a packet with another frame number shows the same, except for the number
  pub moves_there : (o place : ℕ) (bytes : List ℕ) (p : Packet) → read_packet bytes ≡ Some p → number_place id bytes ≡ Some place
      → Moves (format_of id) o p (read_packet (with_number place ((number_at place bytes + o) % 65536) bytes))
  moves_there o place bytes p reads at =
      let is = read_as bytes p reads in
      let n : ℕ = (number_at place bytes + o) % 65536 in
      let r = renumbering id n place bytes is.reads at in
      let new : List ℕ = with_number place n bytes in
      let new_is = read_as new (packet_of new) (ap (λ (f : Option _). without_fault f new) r.reads) in
      let element_old : element_of id p.rest ≡ Some (r.first ∷ r.high ∷ r.low ∷ r.rest) = rest_element id bytes p is ∙ r.element in
      let element_new : element_of id (packet_of new).rest ≡ Some (r.first ∷ (big_bytes 2 n ++ r.rest)) = rest_element id new (packet_of new) new_is ∙ r.new_element in
      record {
        packet = packet_of new;
        reads = ap (λ (f : Option _). without_fault f new) r.reads;
        shows = λ force.
            let descriptor : (format_of id).descriptor force (packet_of new).rest ≡ numbered_reading n ((format_of id).descriptor force p.rest) =
            ap (descriptor_in force) element_new ∙ ap reading_of (new_descriptor n r.first r.high r.low r.rest force (omega arith))
            ∙ reading_numbered n (descriptor_at (r.first ∷ r.high ∷ r.low ∷ r.rest) force) ∙ ap (λ (e : Option (List ℕ)). numbered_reading n (descriptor_in force e)) (sym element_old) in
            let payload : (format_of id).payload (packet_of new).rest ≡ (format_of id).payload p.rest = same_payload bytes new p is.is is.long new_is.long r.payload in
            ap₂ (shown_by (format_of id) force) payload descriptor
            ∙ shown_numbered id n force ((format_of id).payload p.rest) ((format_of id).descriptor force p.rest)
            ∙ as_moved force r.first r.high r.low r.rest r.more element_old r.at (shown (format_of id) force p.rest) refl;
      }
    where
      same_payload : (bytes new : List ℕ) (p : Packet) → p ≡ packet_of bytes → 12 ≤ length bytes → 12 ≤ length new → payload_of new ≡ payload_of bytes
          → (format_of id).payload (packet_of new).rest ≡ (format_of id).payload p.rest
      same_payload bytes new p is long long_new same =
          ap payload_in (rests_same.payload new long_new ∙ same ∙ sym (rests_same.payload bytes long))
          ∙ ap (λ (x : Packet). (format_of id).payload x.rest) (sym is)

      as_moved : (force : Option TemplateStructure) (first high low : ℕ) (rest more : List ℕ) → element_of id p.rest ≡ Some (first ∷ high ∷ low ∷ rest) → drop place bytes ≡ high ∷ low ∷ more
          → (x : Showing TemplateStructure) → shown (format_of id) force p.rest ≡ x → numbered_showing ((number_at place bytes + o) % 65536) x ≡ moved_showing o x
      as_moved force first high low rest more element at LacksStructure e = refl
      as_moved force first high low rest more element at Unread e = refl
      as_moved force first high low rest more element at (Shows d payload) e =
          let was = was_read (format_of id) force d payload ((format_of id).payload p.rest) ((format_of id).descriptor force p.rest) e in
          let number : number_at place bytes ≡ d.number =
          number_of_bits place high low bytes more d.number at (read_number id force p.rest rest first high low d element was.reads) (small force p.rest d payload e) in
          ap (λ (k : ℕ). Shows (numbered_descriptor ((k + o) % 65536) d) payload) number
