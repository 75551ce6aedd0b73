-- Frame numbers that continue: the number of a forwarded packet, the numbers over a change of leg, and that nothing else differs.
use Rattle.std.proofs.Common.{◌≡◌, ◌<◌, ◌≤◌, ◌+◌, ◌-◌, ◌*◌, ◌/◌, ◌%◌, ◌^◌, ◌==◌, ◌&&◌, ◌||◌, ℕ, Bool, true, false, cond, eqb, List, [], ◌∷◌, ◌++◌, length, map, take, drop, slice_index, Result, Ok, Err, refl, sym, ap, subst, ◌∙◌, arith, true≢false}
use Rattle.std.specs.Prelude.{nat_le, option_map}
use Rattle.std.proofs.lemmas.Bool.{and_parts, leb-true}
use Rattle.std.proofs.lemmas.List.{drop-drop, length-append, map-append, take_at}
use Rattle.std.specs.declared.option.Option.{Option}
use Rattle.std.specs.declared.option.Option.TheVariants.{None, Some}
use Rattle.byteorder.specs.Endian.{big_bytes}
use Rattle.rtp_packet.specs.Faults.{first_fault}
use Rattle.rtp_packet.specs.Fields.{behind_csrcs, block_in, is_extended, profile_in}
use Rattle.rtp_packet.specs.Restamped.{restamped}
use Rattle.rtp_packet.specs.Rewritten.{rewritten}
use Rattle.rtp_packet.proofs.Faultless.{header_there}
use Rattle.dd_bits.specs.Bits.{bits_of, bits_of_bytes, value}
use Rattle.dd_bits.proofs.Values.{length-bits_of, value-bits_of}
use Rattle.dd_descriptor.specs.declared.fault.DdFault.{DdFault}
use Rattle.dd_descriptor.specs.declared.parts.Head.{Head}
use Rattle.dd_descriptor.specs.Content.{Content}
use Rattle.dd_descriptor.specs.Reading.{descriptor_at, head_at}
use Rattle.dd_descriptor.proofs.FirstBytes.{front_fault, front_long}
use Rattle.packet_format.specs.Formats.{descriptor_in, element_of, reading_of}
use Rattle.out_ring.specs.Ring.{Pushed, Sent, sent}
use Rattle.out_ring.specs.History.{numbered}
use Rattle.out_ring.proofs.Numbers.{numbered-append}
use Rattle.leg_switch.specs.Marks.{ends_frame, has_end_bit, is_key_reading, marks_of, starts_key}
use Rattle.leg_switch.specs.Switching.{LegEvent, Standing, after_sent, goes_out, is_active, may_change, outgoing, passed, stamped, standing, timestamp_at}
use Rattle.leg_switch.specs.Switching.LegEvent.{Chose, Took}
use Rattle.leg_switch.specs.FrameNumbers.{Numbering, after, after_forwarded, frame_number_of, number_at, number_offset_for, number_place, numbered_at, numbering, outgoing_renumbered, passed_renumbered, place_by, renumbered, renumbered_at, with_number}
use Rattle.leg_switch.specs.Laws.{AreRtp, DifferInNumbers, GoesOn}
use Rattle.leg_switch.proofs.Looking.{fault_key}
use Rattle.leg_switch.proofs.MovedDescriptors.{number_small, two_bytes}
use Rattle.leg_switch.proofs.Places.{drop_new, drop_push, long_at, with_push}
use Rattle.leg_switch.proofs.Renumbering.{no_place, renumbering}

-- ---- a packet as it is sent

abbrev sent_as : (n ssrc timestamp : ℕ) → List ℕ → List ℕ
sent_as n ssrc timestamp bytes = (sent n ssrc (stamped timestamp bytes)).bytes

-- of the first twelve bytes, the number of CSRCs and the extension flag stay the same, and so do all bytes after them
record IsSentAs (n ssrc timestamp : ℕ) (bytes : List ℕ) : Type 0 where
  place : (id : ℕ) → number_place id (sent_as n ssrc timestamp bytes) ≡ number_place id bytes
  behind : (q : ℕ) → drop (12 + q) (sent_as n ssrc timestamp bytes) ≡ drop (12 + q) bytes
  renumbers : (q k : ℕ) → sent_as n ssrc timestamp (with_number (12 + q) k bytes) ≡ with_number (12 + q) k (sent_as n ssrc timestamp bytes)

is_sent_as : (n ssrc timestamp : ℕ) (bytes : List ℕ) → 12 ≤ length bytes → IsSentAs n ssrc timestamp bytes
unfolding rewritten restamped number_place
is_sent_as n ssrc timestamp (a ∷ b ∷ c ∷ d ∷ e ∷ f ∷ g ∷ h ∷ i ∷ j ∷ k ∷ l ∷ rest) long =
    let old : List ℕ = a ∷ b ∷ c ∷ d ∷ e ∷ f ∷ g ∷ h ∷ i ∷ j ∷ k ∷ l ∷ rest in
    let front : List ℕ = a ∷ b ∷ c ∷ d ∷ e ∷ f ∷ g ∷ h ∷ i ∷ j ∷ k ∷ l ∷ [] in
    let new : List ℕ = sent_as n ssrc timestamp old in
    let csrcs : behind_csrcs new ≡ behind_csrcs old = sym (drop-drop (4 * (a % 16)) 12 new) ∙ drop-drop (4 * (a % 16)) 12 old in
    record {
      place = λ id. ap (λ (x : List ℕ). after (16 + 4 * (a % 16)) (place_by id (profile_in (is_extended old) x) (block_in (is_extended old) x))) csrcs;
      behind = λ q. drop_push (take 12 new) q rest ∙ sym (drop_push front q rest);
      renumbers = λ q m. ap (sent_as n ssrc timestamp) (with_push m front q rest) ∙ sym (with_push m (take 12 new) q rest);
    }
is_sent_as n ssrc timestamp bytes long = absurd (omega (arith, long))

-- 16 bits
value_new : (k : ℕ) (rest : List ℕ) → k < 65536 → value (take 16 (bits_of_bytes (big_bytes 2 k ++ rest))) ≡ k
value_new k rest small =
    ap (λ (l : _). value (take 16 l)) (two_bytes k rest)
    ∙ ap value (take_at (bits_of 16 k) (bits_of_bytes rest) 16 (length-bits_of 16 k))
    ∙ value-bits_of 16 k
    ∙ (let same : k % 2 ^ 16 ≡ k = omega (arith, small) in same)

-- a forwarded packet has the number that it got
sent_number : (id n ssrc timestamp k p : ℕ) (bytes : List ℕ) → first_fault bytes ≡ None → number_place id bytes ≡ Some p → k < 65536
    → frame_number_of id (sent_as n ssrc timestamp (with_number p k bytes)) ≡ Some k
sent_number id n ssrc timestamp k p bytes none at small =
    let r = renumbering id k p bytes none at in
    let new = with_number p k bytes in
    let s = is_sent_as n ssrc timestamp new (header_there new r.reads) in
    let far = r.far in
    let place : number_place id (sent_as n ssrc timestamp new) ≡ Some p = s.place id ∙ r.new_place in
    let found : drop p (sent_as n ssrc timestamp new) ≡ big_bytes 2 k ++ drop (p + 2) bytes = by_place r.far s ∙ drop_new k p bytes (long_at p r.high r.low bytes r.more r.at) in
    ap (option_map (λ (q : ℕ). number_at q (sent_as n ssrc timestamp new))) place
    ∙ ap (λ (l : List ℕ). Some (value (take 16 (bits_of_bytes l)))) found
    ∙ ap Some (value_new k (drop (p + 2) bytes) small)
  where
    by_place : 16 ≤ p → IsSentAs n ssrc timestamp (with_number p k bytes) → drop p (sent_as n ssrc timestamp (with_number p k bytes)) ≡ drop p (with_number p k bytes)
    by_place far s =
        let e : p ≡ 12 + (p - 12) = omega (arith, far) in
        ap (λ (q : ℕ). drop q (sent_as n ssrc timestamp (with_number p k bytes))) e ∙ s.behind (p - 12) ∙ ap (λ (q : ℕ). drop q (with_number p k bytes)) (sym e)

-- ---- the last forwarded packet

-- a packet that ends its frame has a frame number
ends_at : (id : ℕ) (bytes : List ℕ) → ends_frame id bytes ≡ true → (p : ℕ) × (number_place id bytes ≡ Some p)
unfolding ends_frame
ends_at id bytes e = by (number_place id bytes) refl (element_of id bytes) refl e
  where
    by : (o : Option ℕ) → number_place id bytes ≡ o → (v : Option (List ℕ)) → element_of id bytes ≡ v → has_end_bit v ≡ true → (p : ℕ) × (number_place id bytes ≡ Some p)
    by (Some p) is v f e = (p, is)
    by None is None f e = absurd (true≢false (sym e))
    by None is (Some v) f e =
        let long = leb-true 3 (length v) (and_parts (nat_le 3 (length v)) (slice_index v 0 / 64 % 2 == 1) e).0 in
        absurd (omega (arith, long, no_place id bytes v is f))

-- a key start has a frame number too
key_long : (v : List ℕ) (r : Result Content DdFault) → descriptor_at v None ≡ r → is_key_reading (reading_of r) ≡ true → 3 ≤ length v
key_long v (Err e) is key = absurd (true≢false (sym key ∙ fault_key e))
key_long v (Ok c) is key = by (head_at (bits_of_bytes v)) refl
  where
    by : (h : Result (Head × List Bool) DdFault) → head_at (bits_of_bytes v) ≡ h → 3 ≤ length v
    by (Ok x) e = front_long v x e
    by (Err fault) e = front_fault v None c fault e is

key_at : (id : ℕ) (bytes : List ℕ) → starts_key id bytes ≡ true → (p : ℕ) × (number_place id bytes ≡ Some p)
unfolding starts_key
key_at id bytes e = by (number_place id bytes) refl (element_of id bytes) refl e
  where
    by : (o : Option ℕ) → number_place id bytes ≡ o → (v : Option (List ℕ)) → element_of id bytes ≡ v → is_key_reading (descriptor_in None v) ≡ true → (p : ℕ) × (number_place id bytes ≡ Some p)
    by (Some p) is v f e = (p, is)
    by None is None f e = absurd (true≢false (sym e))
    by None is (Some v) f e = absurd (omega (arith, key_long v (descriptor_at v None) refl e, no_place id bytes v is f))

module _ (id : ℕ) where
  abbrev now_standing : List LegEvent → Standing
  now_standing events = standing (marks_of id) events

  abbrev now_numbering : List LegEvent → Numbering
  now_numbering events = numbering (marks_of id) id events

  -- the last of these packets has this number, however it is sent
  record HasLast (pushes : List Pushed) (last : ℕ) : Type 0 where
    front : List Pushed
    packet : Pushed
    is : pushes ≡ front ++ packet ∷ []
    number : (n ssrc : ℕ) → frame_number_of id (sent n ssrc packet).bytes ≡ Some last

  abbrev Tells : Option ℕ → Bool → List Pushed → ℕ → Type 0
  Tells None ended pushes last = true ≡ true
  Tells (Some leg) ended pushes last = ended ≡ true → HasLast pushes last

  small_last : (active : Option ℕ) (n : Numbering) (leg p : ℕ) (bytes : List ℕ) → (numbered_at active n leg (Some p) bytes).last < 65536
  small_last active n leg p bytes = omega arith

  last_sent : (active : Option ℕ) (n : Numbering) (leg timestamp : ℕ) (pushes : List Pushed) (bytes : List ℕ) → first_fault bytes ≡ None → (o : Option ℕ) → number_place id bytes ≡ o
      → ends_frame id bytes ≡ true
      → HasLast (pushes ++ stamped timestamp (renumbered_at o (numbered_at active n leg o bytes).last bytes) ∷ []) (numbered_at active n leg o bytes).last
  last_sent active n leg timestamp pushes bytes none None at ends = absurd (let p = ends_at id bytes ends in let two : None ≡ Some p.0 = sym at ∙ p.1 in cc)
  last_sent active n leg timestamp pushes bytes none (Some p) at ends = record {
    front = pushes;
    packet = stamped timestamp (with_number p (numbered_at active n leg (Some p) bytes).last bytes);
    is = refl;
    number = λ k ssrc. sent_number id k ssrc timestamp (numbered_at active n leg (Some p) bytes).last p bytes none at (small_last active n leg p bytes);
  }

  tells : (events : List LegEvent) → AreRtp events → Tells (now_standing events).active (now_standing events).ended (passed_renumbered (marks_of id) id events) (now_numbering events).last
  tells [] are = refl
  tells (Chose leg ∷ past) are = tells past are
  tells (Took leg bytes ∷ past) are = by (tells past are.1) (goes_out (marks_of id) (now_standing past) leg bytes)
    where
      by : Tells (now_standing past).active (now_standing past).ended (passed_renumbered (marks_of id) id past) (now_numbering past).last → (b : Bool)
          → Tells (cond b (after_sent (marks_of id) (now_standing past) leg bytes) (now_standing past)).active (cond b (after_sent (marks_of id) (now_standing past) leg bytes) (now_standing past)).ended
          (cond b (passed_renumbered (marks_of id) id past ++ stamped (timestamp_at (now_standing past) leg bytes) (renumbered id (after_forwarded id (now_standing past).active (now_numbering past) leg bytes).last bytes) ∷ []) (passed_renumbered (marks_of id) id past))
          (cond b (after_forwarded id (now_standing past).active (now_numbering past) leg bytes) (now_numbering past)).last
      by before false = before
      by before true = λ ends.
          last_sent (now_standing past).active (now_numbering past) leg (timestamp_at (now_standing past) leg bytes) (passed_renumbered (marks_of id) id past) bytes are.0 (number_place id bytes) refl ends

  -- ---- a change of leg

  abbrev sent_of : (first ssrc : ℕ) → List Pushed → List (List ℕ)
  sent_of first ssrc pushes = map (λ (p : Sent). p.bytes) (numbered first ssrc pushes)

  one_more : (first ssrc : ℕ) (pushes : List Pushed) (p : Pushed) → sent_of first ssrc (pushes ++ p ∷ []) ≡ sent_of first ssrc pushes ++ (sent ((first + length pushes) % 65536) ssrc p).bytes ∷ []
  one_more first ssrc pushes p =
      ap (map (λ (p : Sent). p.bytes)) (numbered-append first ssrc pushes (p ∷ []))
      ∙ map-append (λ (p : Sent). p.bytes) (numbered first ssrc pushes) (sent ((first + length pushes) % 65536) ssrc p ∷ [])

  new_number : (active leg : ℕ) (n : Numbering) (own : ℕ) → eqb active leg ≡ false → own < 65536
      → (own + cond (eqb active leg) n.offset (number_offset_for (Some active) n.last own)) % 65536 ≡ (n.last + 1) % 65536
  new_number active leg n own other small =
      ap (λ (b : Bool). (own + cond b n.offset (number_offset_for (Some active) n.last own)) % 65536) other ∙ (let e : (own + (n.last + 1 + (65536 - own)) % 65536) % 65536 ≡ (n.last + 1) % 65536 = omega (arith, small) in e)

  -- the packet that makes the leg active follows the last one
  follows : (active leg timestamp first ssrc : ℕ) (n : Numbering) (pushes : List Pushed) (bytes : List ℕ) → first_fault bytes ≡ None → eqb active leg ≡ false → HasLast pushes n.last
      → (o : Option ℕ) → number_place id bytes ≡ o → (p : ℕ) × (o ≡ Some p)
      → GoesOn id (sent_of first ssrc pushes) (sent_of first ssrc (pushes ++ stamped timestamp (renumbered_at o (numbered_at (Some active) n leg o bytes).last bytes) ∷ []))
  follows active leg timestamp first ssrc n pushes bytes none other last None at some = absurd (let e : None ≡ Some some.0 = some.1 in cc)
  follows active leg timestamp first ssrc n pushes bytes none other last (Some p) at some =
      let r = renumbering id 0 p bytes none at in
      let own : number_at p bytes < 65536 = number_small p r.high r.low bytes r.more r.at in
      let k : ℕ = (numbered_at (Some active) n leg (Some p) bytes).last in
      let next : k ≡ (n.last + 1) % 65536 = new_number active leg n (number_at p bytes) other own in
      let seq : ℕ = (first + length pushes) % 65536 in
      record {
        front = sent_of first ssrc last.front;
        last = (sent ((first + length last.front) % 65536) ssrc last.packet).bytes;
        key = sent_as seq ssrc timestamp (with_number p k bytes);
        number = n.last;
        before_is = ap (sent_of first ssrc) last.is ∙ one_more first ssrc last.front last.packet;
        now_is = one_more first ssrc pushes (stamped timestamp (with_number p k bytes));
        last_number = last.number ((first + length last.front) % 65536) ssrc;
        key_number = sent_number id seq ssrc timestamp k p bytes none at (small_last (Some active) n leg p bytes) ∙ ap Some next;
      }

  changing : (o : Option ℕ) (ended key : Bool) (leg active : ℕ) (c : Bool) → o ≡ Some active → is_active leg (Some active) ≡ false → (is_active leg o || (c && (may_change o ended && key))) ≡ true
      → (ended ≡ true) × (key ≡ true)
  changing None ended key leg active c is other e = absurd cc
  changing (Some k) ended key leg active c is other e =
      let same : k ≡ active = cc in
      let test : eqb k leg ≡ false = ap (λ (n : ℕ). eqb n leg) same ∙ other in
      let rest : (c && (ended && key)) ≡ true = ap (λ (b : Bool). b || (c && (ended && key))) (sym test) ∙ e in
      and_parts ended key (and_parts c (ended && key) rest).1

  pub goes_on : (first ssrc : ℕ) (past : List LegEvent) (leg active : ℕ) (bytes : List ℕ) → AreRtp (Took leg bytes ∷ past)
      → (now_standing past).active ≡ Some active → is_active leg (Some active) ≡ false → goes_out (marks_of id) (now_standing past) leg bytes ≡ true
      → GoesOn id (outgoing_renumbered (marks_of id) id first ssrc past) (outgoing_renumbered (marks_of id) id first ssrc (Took leg bytes ∷ past))
  goes_on first ssrc past leg active bytes are is other goes =
      let changes = changing (now_standing past).active (now_standing past).ended (starts_key id bytes) leg active (s_chosen (now_standing past) leg) is other goes in
      let last = has_last (now_standing past).active is (tells past are.1) changes.0 in
      subst (λ (b : Bool). GoesOn id (sent_of first ssrc (passed_renumbered (marks_of id) id past))
      (sent_of first ssrc (cond b (passed_renumbered (marks_of id) id past
      ++ stamped (timestamp_at (now_standing past) leg bytes) (renumbered id (after_forwarded id (now_standing past).active (now_numbering past) leg bytes).last bytes) ∷ []) (passed_renumbered (marks_of id) id past))))
      (sym goes)
      (subst (λ (o : Option ℕ). GoesOn id (sent_of first ssrc (passed_renumbered (marks_of id) id past))
      (sent_of first ssrc (passed_renumbered (marks_of id) id past ++ stamped (timestamp_at (now_standing past) leg bytes) (renumbered id (after_forwarded id o (now_numbering past) leg bytes).last bytes) ∷ []))) (sym is)
      (follows active leg (timestamp_at (now_standing past) leg bytes) first ssrc (now_numbering past) (passed_renumbered (marks_of id) id past) bytes are.0 other last (number_place id bytes) refl (key_at id bytes changes.1)))
    where
      s_chosen : Standing → ℕ → Bool
      s_chosen s leg = s.chosen == leg

      has_last : (o : Option ℕ) → o ≡ Some active → Tells o (now_standing past).ended (passed_renumbered (marks_of id) id past) (now_numbering past).last → (now_standing past).ended ≡ true
          → HasLast (passed_renumbered (marks_of id) id past) (now_numbering past).last
      has_last None is t e = absurd cc
      has_last (Some k) is t e = t e

  -- ---- nothing else differs

  differ_more : (xs ys : List (List ℕ)) (x y : List ℕ) → DifferInNumbers id xs ys → (number : ℕ) × (y ≡ renumbered id number x) → DifferInNumbers id (xs ++ x ∷ []) (ys ++ y ∷ [])
  differ_more [] [] x y all one = (one, tt)
  differ_more [] (b ∷ ys) x y all one = absurd all
  differ_more (a ∷ xs) [] x y all one = absurd all
  differ_more (a ∷ xs) (b ∷ ys) x y all one = (all.0, differ_more xs ys x y all.1 one)

  -- a packet that is renumbered and sent is the packet that is sent, renumbered
  renumbers_sent : (n ssrc timestamp k : ℕ) (bytes : List ℕ) → first_fault bytes ≡ None → sent_as n ssrc timestamp (renumbered id k bytes) ≡ renumbered id k (sent_as n ssrc timestamp bytes)
  renumbers_sent n ssrc timestamp k bytes none = by (number_place id bytes) refl
    where
      s : IsSentAs n ssrc timestamp bytes
      s = is_sent_as n ssrc timestamp bytes (header_there bytes none)

      by : (o : Option ℕ) → number_place id bytes ≡ o → sent_as n ssrc timestamp (renumbered_at o k bytes) ≡ renumbered id k (sent_as n ssrc timestamp bytes)
      by None at = sym (ap (λ (o : Option ℕ). renumbered_at o k (sent_as n ssrc timestamp bytes)) (s.place id ∙ at))
      by (Some p) at =
          let far : 16 ≤ p = (renumbering id k p bytes none at).far in
          let e : p ≡ 12 + (p - 12) = omega (arith, far) in
          ap (λ (q : ℕ). sent_as n ssrc timestamp (with_number q k bytes)) e
          ∙ s.renumbers (p - 12) k
          ∙ ap (λ (q : ℕ). with_number q k (sent_as n ssrc timestamp bytes)) (sym e)
          ∙ sym (ap (λ (o : Option ℕ). renumbered_at o k (sent_as n ssrc timestamp bytes)) (s.place id ∙ at))

  record AreAlike (first ssrc : ℕ) (xs ys : List Pushed) : Type 0 where
    same : length xs ≡ length ys
    differ : DifferInNumbers id (sent_of first ssrc xs) (sent_of first ssrc ys)

  one_alike : (first ssrc timestamp k : ℕ) (xs ys : List Pushed) (bytes : List ℕ) → first_fault bytes ≡ None → AreAlike first ssrc xs ys
      → AreAlike first ssrc (xs ++ stamped timestamp bytes ∷ []) (ys ++ stamped timestamp (renumbered id k bytes) ∷ [])
  one_alike first ssrc timestamp k xs ys bytes none h = record {
    same = length-append xs (stamped timestamp bytes ∷ []) ∙ ap (λ (n : ℕ). n + 1) h.same ∙ sym (length-append ys (stamped timestamp (renumbered id k bytes) ∷ []));
    differ =
        subst (λ (l : List (List ℕ)). DifferInNumbers id l (sent_of first ssrc (ys ++ stamped timestamp (renumbered id k bytes) ∷ []))) (sym (one_more first ssrc xs (stamped timestamp bytes)))
        (subst (DifferInNumbers id (sent_of first ssrc xs ++ sent_as ((first + length xs) % 65536) ssrc timestamp bytes ∷ [])) (sym (one_more first ssrc ys (stamped timestamp (renumbered id k bytes))))
        (differ_more (sent_of first ssrc xs) (sent_of first ssrc ys) (sent_as ((first + length xs) % 65536) ssrc timestamp bytes) (sent_as ((first + length ys) % 65536) ssrc timestamp (renumbered id k bytes)) h.differ
        (k, ap (λ (n : ℕ). sent_as ((first + n) % 65536) ssrc timestamp (renumbered id k bytes)) (sym h.same) ∙ renumbers_sent ((first + length xs) % 65536) ssrc timestamp k bytes none)));
  }

  alike : (first ssrc : ℕ) (events : List LegEvent) → AreRtp events → AreAlike first ssrc (passed (marks_of id) events) (passed_renumbered (marks_of id) id events)
  alike first ssrc [] are = record { same = refl; differ = tt }
  alike first ssrc (Chose leg ∷ past) are = alike first ssrc past are
  alike first ssrc (Took leg bytes ∷ past) are = by (alike first ssrc past are.1) (goes_out (marks_of id) (now_standing past) leg bytes)
    where
      by : AreAlike first ssrc (passed (marks_of id) past) (passed_renumbered (marks_of id) id past) → (b : Bool) → AreAlike first ssrc (cond b (passed (marks_of id) past ++ stamped (timestamp_at (now_standing past) leg bytes) bytes ∷ []) (passed (marks_of id) past))
          (cond b (passed_renumbered (marks_of id) id past ++ stamped (timestamp_at (now_standing past) leg bytes) (renumbered id (after_forwarded id (now_standing past).active (now_numbering past) leg bytes).last bytes) ∷ []) (passed_renumbered (marks_of id) id past))
      by before false = before
      by before true =
          one_alike first ssrc (timestamp_at (now_standing past) leg bytes) (after_forwarded id (now_standing past).active (now_numbering past) leg bytes).last
          (passed (marks_of id) past) (passed_renumbered (marks_of id) id past) bytes are.0 before

  pub only_numbers : (first ssrc : ℕ) (events : List LegEvent) → AreRtp events → DifferInNumbers id (outgoing (marks_of id) first ssrc events) (outgoing_renumbered (marks_of id) id first ssrc events)
  only_numbers first ssrc events are = (alike first ssrc events are).differ
