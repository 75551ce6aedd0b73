-- A receiver between frames accepts the packets of a whole frame, numbered in order.
use Rattle.std.proofs.Common.{◌≡◌, ◌⊎◌, inl, inr, ◌+◌, ◌%◌, ◌<◌, ℕ, suc, arith, Bool, true, false, List, [], ◌∷◌, ◌++◌, refl, sym, subst, ap, ◌∙◌, cond, true≢false, ◌&&◌, map, length}
use Rattle.std.specs.Bool.{beq}
use Rattle.std.proofs.lemmas.Bool.{eq-eqb, lt-ltb}
use Rattle.std.specs.declared.option.Option.TheVariants.{None, Some}
use Rattle.sfu_base.specs.declared.frame.FrameMeaning.{FrameMeaning}
use Rattle.forwarding_model.specs.forwarding.Targets.{references}
use Rattle.forwarding_model.specs.forwarding.Timeline.{Packet, rest_of}
use Rattle.forwarding_model.specs.forwarding.Outgoing.{numbered}
use Rattle.forwarding_model.specs.frames.Reading.{Descriptor, Format, Joins, has_structure, is_key_start}
use Rattle.forwarding_model.specs.Receiver.{Received, judge, OpenFrame, Reception, Receiver, header_of, after_end, with_frame, first_packet, next_packet, with_part, structure_after, with_showing, accepted, receive_packet, receive_all}
use Rattle.forwarding_model.specs.Receiver.Judged.{Complete}
use Rattle.forwarding_model.specs.Receiver.Receiver.{Receiving}
use Rattle.forwarding_laws.specs.frames.WholeFrames.{Continues, AreContinuations, IsFirst, AreWhole}
use Rattle.forwarding_laws.proofs.ReceivedNumbers.{header}

-- packets that can all be read as RTP
abbrev pub receive_packets : {S : Type 0} → Format S → Receiver S → List Packet → Receiver S
receive_packets format r [] = r
receive_packets format r (p ∷ ps) = receive_packets format (receive_packet format r p) ps

pub receive_all-packets : {S : Type 0} (format : Format S) (r : Receiver S) (ps : List Packet) → receive_all format r (map Some ps) ≡ receive_packets format r ps
receive_all-packets format r [] = refl
receive_all-packets format r (p ∷ ps) = receive_all-packets format (receive_packet format r p) ps

pub receive_packets-append : {S : Type 0} (format : Format S) (r : Receiver S) (xs ys : List Packet)
    → receive_packets format r (xs ++ ys) ≡ receive_packets format (receive_packets format r xs) ys
receive_packets-append format r [] ys = refl
receive_packets-append format r (x ∷ xs) ys = receive_packets-append format (receive_packet format r x) xs ys

-- between frames
abbrev pub between : {S : Type 0} → ℕ → ℕ → S → Received → Receiver S
between ssrc last s received = Receiving (record { ssrc = ssrc; sequence_number = last; structure = Some s; frame = None; received = received })

pub not_key : {S : Type 0} (d : Descriptor S) → d.start ≡ false → is_key_start d ≡ false
not_key d e = rw e (go (has_structure d.structure))
  where
    go : (b : Bool) → (b && false) ≡ false
    go true = refl
    go false = refl

pub beq_same : (a b : Bool) → a ≡ b → beq a b ≡ true
beq_same true b e = rw (← e) refl
beq_same false b e = rw (← e) refl

-- one packet that continues a frame
step_rest : {S : Type 0} (ssrc last n : ℕ) (s : S) (b : OpenFrame) (received : Received) (x : List ℕ) (marker : Bool) (format : Format S) (d : Descriptor S) (joins : Joins)
    → n % 65536 ≡ (last + 1) % 65536 → Continues format s b.header.number b.carries x d joins → b.packets < 512
    → receive_packet format (Receiving (record { ssrc = ssrc; sequence_number = last; structure = Some s; frame = Some b; received = received }))
    (record { sequence_number = n % 65536; ssrc = ssrc; marker = marker; rest = x })
    ≡ with_frame (record { ssrc = ssrc; sequence_number = n % 65536; structure = Some s; frame = Some b; received = received }) (next_packet b joins) d.end
step_rest ssrc last n s b received x marker format d joins seq c count =
    rw (
      eq-eqb ssrc ssrc refl,
      eq-eqb (n % 65536) ((last + 1) % 65536) seq,
      c.reads,
      not_key d c.start,
      c.start,
      eq-eqb d.number b.header.number c.numbered,
      beq_same joins.continues b.carries c.continues,
      lt-ltb b.packets 512 count,
    ) refl

-- the state after the remaining packets of a frame
abbrev pub IsThrough : {S : Type 0} → ℕ → ℕ → S → Received → Receiver S → Type 0
IsThrough ssrc next s received r = (last : ℕ) × ((last + 1) % 65536 ≡ next % 65536) × (r ≡ between ssrc last s received)

pub with_frame_ended : {S : Type 0} (r : Reception S) (b : OpenFrame) (ended : Bool) (k : Received) → ended ≡ true → b.carries ≡ false
    → judge r.received b.header ≡ Complete k → with_frame r b ended ≡ Receiving (record r { frame = None; received = k })
with_frame_ended r b ended k last carries e = rw last (rw carries (ap (after_end r b.header.number) e))

pub with_frame_open : {S : Type 0} (r : Reception S) (b : OpenFrame) (ended : Bool) → ended ≡ false → with_frame r b ended ≡ Receiving (record r { frame = Some b })
with_frame_open r b ended last = rw last refl

rest_through : {S : Type 0} (format : Format S) (s : S) (ssrc : ℕ) (received k : Received) (ps : List Packet) (n last : ℕ) (b : OpenFrame)
    → (last + 1) % 65536 ≡ n % 65536 → AreContinuations format s b.header.number b.carries b.packets (map rest_of ps)
    → judge received b.header ≡ Complete k
    → IsThrough ssrc (n + length ps) s k
    (receive_packets format (Receiving (record { ssrc = ssrc; sequence_number = last; structure = Some s; frame = Some b; received = received })) (numbered n ssrc ps))
rest_through format s ssrc received k [] n last b seq rest e = absurd rest
rest_through {S} format s ssrc received k (p ∷ ps) n last b seq rest e =
    go rest.4 (λ more. rest_through format s ssrc received k ps (n + 1) (n % 65536) (next_packet b rest.1) (omega arith) more e)
  where
    d : Descriptor S
    d = rest.0

    joins : Joins
    joins = rest.1

    before : Reception S
    before = record { ssrc = ssrc; sequence_number = n % 65536; structure = Some s; frame = Some b; received = received }

    first : receive_packet format (Receiving (record { ssrc = ssrc; sequence_number = last; structure = Some s; frame = Some b; received = received }))
        (record { sequence_number = n % 65536; ssrc = ssrc; marker = p.marker; rest = p.rest })
        ≡ with_frame before (next_packet b joins) d.end
    first = step_rest ssrc last n s b received p.rest p.marker format d joins (sym seq) rest.2 rest.3

    ending : (ps : List Packet) → map rest_of ps ≡ [] → d.end ≡ true → joins.carries ≡ false
        → IsThrough ssrc (n + suc (length ps)) s k (receive_packets format (with_frame before (next_packet b joins) d.end) (numbered (n + 1) ssrc ps))
    ending [] none last carries = (n % 65536, omega arith, with_frame_ended before (next_packet b joins) d.end k last carries e)
    ending (q ∷ qs) none last carries = absurd (grind arith)

    go : ((d.end ≡ true) × (joins.carries ≡ false) × (map rest_of ps ≡ []))
        ⊎ ((d.end ≡ false) × AreContinuations format s b.header.number joins.carries (b.packets + 1) (map rest_of ps))
        → (AreContinuations format s b.header.number joins.carries (b.packets + 1) (map rest_of ps)
        → IsThrough ssrc ((n + 1) + length ps) s k
        (receive_packets format (Receiving (record { ssrc = ssrc; sequence_number = n % 65536; structure = Some s; frame = Some (next_packet b joins); received = received })) (numbered (n + 1) ssrc ps)))
        → IsThrough ssrc (n + suc (length ps)) s k
        (receive_packets format (receive_packet format (Receiving (record { ssrc = ssrc; sequence_number = last; structure = Some s; frame = Some b; received = received }))
        (record { sequence_number = n % 65536; ssrc = ssrc; marker = p.marker; rest = p.rest })) (numbered (n + 1) ssrc ps))
    go (inl f) rec = rw first (ending ps f.2 f.0 f.1)
    go (inr f) rec =
        let r = rec f.1 in (
          r.0,
          r.1 ∙ ap (λ x. x % 65536) (let e : (n + 1) + length ps ≡ n + suc (length ps) = omega arith in e),
          ap (λ x. receive_packets format x (numbered (n + 1) ssrc ps)) (first ∙ with_frame_open before (next_packet b joins) d.end f.0) ∙ r.2,
        )

with_part_first : {S : Type 0} (r : Reception S) (d : Descriptor S) (joins : Joins) → d.start ≡ true → joins.continues ≡ false
    → with_part r None d joins ≡ with_frame r (first_packet d joins) d.end
with_part_first r d joins start continues = rw (start, continues) refl

header_same : (received k : Received) (n : ℕ) (b : Bool) (rs : List ℕ) (f : FrameMeaning) → n ≡ f.number % 65536 → b ≡ f.key → rs ≡ references f
    → judge received (header f) ≡ Complete k → judge received (record { number = n; key = b; references = rs }) ≡ Complete k
header_same received k n b rs f en eb er e = rw (en, eb, er) e

-- the first packet of a frame
step_first : {S : Type 0} (r : Reception S) (s : S) (f : FrameMeaning) (x : List ℕ) (marker : Bool) (format : Format S) (d : Descriptor S) (joins : Joins) (seq ssrc : ℕ)
    → r.frame ≡ None → (f.key ≡ true) ⊎ (r.structure ≡ Some s) → IsFirst format s f x d joins
    → accepted format r (record { sequence_number = seq; ssrc = ssrc; marker = marker; rest = x })
    ≡ with_frame (record { ssrc = r.ssrc; sequence_number = seq; structure = Some s; frame = None; received = r.received }) (first_packet d joins) d.end
step_first r s f x marker format d joins seq ssrc none known first =
    ap (with_showing (record r { sequence_number = seq })) (first.reads r.structure known)
    ∙ ap (λ b. with_part (record { ssrc = r.ssrc; sequence_number = seq; structure = structure_after r.structure d; frame = b; received = r.received }) b d joins) none
    ∙ ap (λ force. with_part (record { ssrc = r.ssrc; sequence_number = seq; structure = force; frame = None; received = r.received }) None d joins) (force (is_key_start d) refl known)
    ∙ with_part_first (record { ssrc = r.ssrc; sequence_number = seq; structure = Some s; frame = None; received = r.received }) d joins first.start first.continues
  where
    force : (b : Bool) → is_key_start d ≡ b → (f.key ≡ true) ⊎ (r.structure ≡ Some s) → cond b d.structure r.structure ≡ Some s
    force true e known = first.structure (sym first.key ∙ e)
    force false e (inl k) = absurd (true≢false (sym k ∙ sym first.key ∙ e))
    force false e (inr k) = k

pub frame_through : {S : Type 0} (format : Format S) (s : S) (f : FrameMeaning) (r : Reception S) (k : Received) (ps : List Packet) (p : Packet) (n : ℕ)
    → r.frame ≡ None → (f.key ≡ true) ⊎ (r.structure ≡ Some s) → AreWhole format s f (map rest_of (p ∷ ps))
    → judge r.received (header f) ≡ Complete k
    → IsThrough r.ssrc (n + suc (length ps)) s k
    (receive_packets format (accepted format r (record { sequence_number = n % 65536; ssrc = r.ssrc; marker = p.marker; rest = p.rest })) (numbered (n + 1) r.ssrc ps))
frame_through {S} format s f r k ps p n none known whole e = go whole.3
  where
    d : Descriptor S
    d = whole.0

    joins : Joins
    joins = whole.1

    first : IsFirst format s f p.rest d joins
    first = whole.2

    before : Reception S
    before = record { ssrc = r.ssrc; sequence_number = n % 65536; structure = Some s; frame = None; received = r.received }

    step : accepted format r (record { sequence_number = n % 65536; ssrc = r.ssrc; marker = p.marker; rest = p.rest }) ≡ with_frame before (first_packet d joins) d.end
    step = step_first r s f p.rest p.marker format d joins (n % 65536) r.ssrc none known first

    complete : judge r.received (header_of d) ≡ Complete k
    complete = header_same r.received k d.number (is_key_start d) (header_of d).references f first.number first.key first.references e

    ending : (ps : List Packet) → map rest_of ps ≡ [] → d.end ≡ true → joins.carries ≡ false
        → IsThrough r.ssrc (n + suc (length ps)) s k (receive_packets format (with_frame before (first_packet d joins) d.end) (numbered (n + 1) r.ssrc ps))
    ending [] no_more last carries = (n % 65536, omega arith, with_frame_ended before (first_packet d joins) d.end k last carries complete)
    ending (q ∷ qs) no_more last carries = absurd (grind arith)

    go : ((d.end ≡ true) × (joins.carries ≡ false) × (map rest_of ps ≡ []))
        ⊎ ((d.end ≡ false) × AreContinuations format s (f.number % 65536) joins.carries 1 (map rest_of ps))
        → IsThrough r.ssrc (n + suc (length ps)) s k
        (receive_packets format (accepted format r (record { sequence_number = n % 65536; ssrc = r.ssrc; marker = p.marker; rest = p.rest })) (numbered (n + 1) r.ssrc ps))
    go (inl t) = rw step (ending ps t.2 t.0 t.1)
    go (inr t) =
        let through = rest_through format s r.ssrc r.received k ps (n + 1) (n % 65536) (first_packet d joins) (omega arith)
        (subst (λ m. AreContinuations format s m joins.carries 1 (map rest_of ps)) (sym first.number) t.1) complete in (
          through.0,
          through.1 ∙ ap (λ x. x % 65536) (let e : (n + 1) + length ps ≡ n + suc (length ps) = omega arith in e),
          ap (λ x. receive_packets format x (numbered (n + 1) r.ssrc ps)) (step ∙ with_frame_open before (first_packet d joins) d.end t.0) ∙ through.2,
        )
