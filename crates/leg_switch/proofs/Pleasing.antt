-- A strict receiver of a bundle's forwarded packets agrees with one of its active leg's packets, except for source, number and frame numbers.
use Rattle.std.proofs.Common.{◌≡◌, ◌⊎◌, inl, inr, ◌+◌, ◌%◌, ◌<◌, ◌^◌, ℕ, arith, Bool, true, false, List, [], ◌∷◌, ◌++◌, refl, sym, subst, ap, ◌∙◌, cond, true≢false, ◌&&◌, ◌||◌, map, length, eqb}
use Rattle.std.specs.Prelude.{◌==◌}
use Rattle.std.proofs.lemmas.Bool.{and_parts, eq-eqb, eqb-true, eqb-false}
use Rattle.std.proofs.lemmas.List.{append-nil, append_assoc, map-append, length-append}
use Rattle.std.specs.declared.option.Option.{Option}
use Rattle.std.specs.declared.option.Option.TheVariants.{None, Some}
use Rattle.forwarding_model.specs.forwarding.Timeline.{Packet}
use Rattle.forwarding_model.specs.frames.Reading.{Format, is_key_start, shown}
use Rattle.forwarding_model.specs.frames.Reading.Payload.{Elements}
use Rattle.forwarding_model.specs.Receiver.{Reception, Receiver, accepted, complaint_of, new_reception, receive, receive_all}
use Rattle.forwarding_model.specs.Receiver.Receiver.{Waiting, Receiving}
use Rattle.out_ring.specs.Ring.{Pushed, Sent, sent}
use Rattle.out_ring.specs.History.{numbered}
use Rattle.out_ring.proofs.Numbers.{numbered-append}
use Rattle.leg_switch.specs.Marks.{Marks}
use Rattle.leg_switch.specs.Switching.{LegEvent, Standing, after_sent, goes_out, is_active, may_change, stamped, standing, taken_from, timestamp_at}
use Rattle.leg_switch.specs.Switching.LegEvent.{Chose, Took}
use Rattle.leg_switch.proofs.Alike.{Agree, GoesOn, IsTaken, begins_anew, goes_on, moved_open, moved_showing, numbered_as, taken_as}
use Rattle.leg_switch.proofs.Reading.{GoesOutAs, IsPacketTaken, IsReading, calm_before, in_order, packet_taken, receive_all-append}

or_parts : (a b : Bool) → (a || b) ≡ true → (a ≡ true) ⊎ ((a ≡ false) × (b ≡ true))
or_parts true b e = inl refl
or_parts false b e = inr (refl, e)

or_false : (a b : Bool) → (a || b) ≡ false → a ≡ false
or_false true b e = absurd (true≢false e)
or_false false b e = refl

-- ---- how a bundle sends

-- the offset of the active leg's frame numbers after these events, a packet before it gets its timestamp, and the forwarded packets
pub record Sending : Type 0 where
  pub offset : List LegEvent → ℕ
  pub packet : List LegEvent → ℕ → List ℕ → List ℕ
  pub pushes : List LegEvent → List Pushed

-- a packet shows the same as p, except that its frame number is moved by this offset
pub record Moves {S : Type 0} (format : Format S) (o : ℕ) (p : Packet) (came : Option Packet) : Type 0 where
  pub packet : Packet
  pub reads : came ≡ Some packet
  pub shows : (force : Option S) → shown format force packet.rest ≡ moved_showing o (shown format force p.rest)

pub record IsSending {S : Type 0} (format : Format S) (read : List ℕ → Option Packet) (marks : Marks) (w : Sending) : Type 0 where
  pub none : w.pushes [] ≡ []
  pub choice : (leg : ℕ) (past : List LegEvent) → w.pushes (Chose leg ∷ past) ≡ w.pushes past
  pub keeps : (leg : ℕ) (past : List LegEvent) → w.offset (Chose leg ∷ past) ≡ w.offset past
  pub take : (past : List LegEvent) (leg : ℕ) (bytes : List ℕ) → w.pushes (Took leg bytes ∷ past)
      ≡ cond (goes_out marks (standing marks past) leg bytes) (w.pushes past ++ stamped (timestamp_at (standing marks past) leg bytes) (w.packet past leg bytes) ∷ []) (w.pushes past)
  pub stays : (past : List LegEvent) (leg : ℕ) (bytes : List ℕ) → goes_out marks (standing marks past) leg bytes ≡ false → w.offset (Took leg bytes ∷ past) ≡ w.offset past
  pub follows : (past : List LegEvent) (leg : ℕ) (bytes : List ℕ) → is_active leg (standing marks past).active ≡ true → w.offset (Took leg bytes ∷ past) ≡ w.offset past
  pub moves : (past : List LegEvent) (leg : ℕ) (bytes : List ℕ) (p : Packet) → goes_out marks (standing marks past) leg bytes ≡ true → read bytes ≡ Some p
      → Moves format (w.offset (Took leg bytes ∷ past)) p (read (w.packet past leg bytes))

module _ {S : Type 0} (format : Format S) (read : List ℕ → Option Packet) (marks : Marks) (reading : IsReading format read marks) (w : Sending) (sending : IsSending format read marks w) (first ssrc : ℕ) (fits : ssrc < 2 ^ 32) (before : ℕ → List (List ℕ)) where
  abbrev pub after_all : List (List ℕ) → Receiver S
  after_all packets = receive_all format Waiting (map read packets)

  abbrev pub leg_after : ℕ → List LegEvent → Receiver S
  leg_after leg events = after_all (before leg ++ taken_from leg events)

  abbrev sent_of : List Pushed → List (List ℕ)
  sent_of pushes = map (λ (p : Sent). p.bytes) (numbered first ssrc pushes)

  one_more : (xs : List (List ℕ)) (x : List ℕ) → after_all (xs ++ x ∷ []) ≡ receive format (after_all xs) (read x)
  one_more xs x = ap (receive_all format Waiting) (map-append read xs (x ∷ [])) ∙ receive_all-append format Waiting (map read xs) (read x ∷ [])

  -- one more taken packet, if the test holds
  leg_more : (b : Bool) (front xs : List (List ℕ)) (x : List ℕ) → b ≡ true → after_all (front ++ cond b (xs ++ x ∷ []) xs) ≡ receive format (after_all (front ++ xs)) (read x)
  leg_more true front xs x e = ap after_all (sym (append_assoc front xs (x ∷ []))) ∙ one_more (front ++ xs) x
  leg_more false front xs x e = absurd (true≢false (sym e))

  leg_calm : (b : Bool) (front xs : List (List ℕ)) (x : List ℕ) → complaint_of (after_all (front ++ cond b (xs ++ x ∷ []) xs)) ≡ None → complaint_of (after_all (front ++ xs)) ≡ None
  leg_calm false front xs x h = h
  leg_calm true front xs x h = calm_before format (after_all (front ++ xs)) (read x) (ap complaint_of (sym (leg_more true front xs x refl)) ∙ h)

  -- ---- the invariant

  -- the receiver of the forwarded packets, which expects the next number, and that of the active leg
  record IsLike (o : ℕ) (ended : Bool) (pushes : List Pushed) (leg : Receiver S) : Type 0 where
    of_leg : Reception S
    of_sends : Reception S
    leg_is : leg ≡ Receiving of_leg
    sends_is : after_all (sent_of pushes) ≡ Receiving of_sends
    agree : Agree o of_leg of_sends
    ssrc_is : of_sends.ssrc ≡ ssrc
    next_is : (of_sends.sequence_number + 1) % 65536 ≡ (first + length pushes) % 65536
    closed : ended ≡ true → of_sends.frame ≡ None

  abbrev Invariant : ℕ → Option ℕ → Bool → List Pushed → (ℕ → Receiver S) → Type 0
  Invariant o None ended pushes legs = after_all (sent_of pushes) ≡ Waiting
  Invariant o (Some leg) ended pushes legs = IsLike o ended pushes (legs leg)

  -- ---- a packet that was taken

  module _ (past : List LegEvent) (leg : ℕ) (bytes : List ℕ) (t : IsPacketTaken format (leg_after leg past) (read bytes)) where
    abbrev s : Standing
    s = standing marks past

    abbrev pushed : List Pushed
    pushed = w.pushes past

    abbrev next : ℕ
    next = first + length (w.pushes past)

    abbrev sends : Receiver S
    sends = after_all (sent_of (w.pushes past))

    abbrev now : ℕ
    now = w.offset (Took leg bytes ∷ past)

    abbrev stamp : Pushed
    stamp = stamped (timestamp_at (standing marks past) leg bytes) (w.packet past leg bytes)

    taken : IsTaken (numbered_as t.before t.packet) t.after (shown format t.before.structure t.packet.rest)
    taken = taken_as format t.before t.after t.packet t.accepts

    ends : marks.end bytes ≡ taken.descriptor.end
    ends = reading.end t.before.structure bytes t.packet taken.descriptor (Elements taken.joins) t.reads taken.shows

    leg_now : leg_after leg (Took leg bytes ∷ past) ≡ Receiving t.after
    leg_now = leg_more (eqb leg leg) (before leg) (taken_from leg past) bytes (eq-eqb leg leg refl) ∙ t.becomes

    abbrev IsLikeNow : Type 0
    IsLikeNow = IsLike now (marks.end bytes) (w.pushes past ++ stamp ∷ []) (leg_after leg (Took leg bytes ∷ past))

    module _ (goes : goes_out marks (standing marks past) leg bytes ≡ true) where
      moving : Moves format now t.packet (read (w.packet past leg bytes))
      moving = sending.moves past leg bytes t.packet goes t.reads

      out : GoesOutAs format (next % 65536) ssrc moving.packet (read (sent (next % 65536) ssrc stamp).bytes)
      out = reading.goes_out (next % 65536) ssrc (timestamp_at (standing marks past) leg bytes) (w.packet past leg bytes) moving.packet (omega arith) fits (omega arith) moving.reads

      out_shows : (force : Option S) → shown format force out.packet.rest ≡ moved_showing now (shown format force t.packet.rest)
      out_shows force = out.shows force ∙ moving.shows force

      sends_now : after_all (sent_of (w.pushes past ++ stamp ∷ [])) ≡ receive format sends (Some out.packet)
      sends_now =
          ap (λ (l : List Sent). after_all (map (λ (p : Sent). p.bytes) l)) (numbered-append first ssrc (w.pushes past) (stamp ∷ []))
          ∙ ap after_all (map-append (λ (p : Sent). p.bytes) (numbered first ssrc (w.pushes past)) (sent (next % 65536) ssrc stamp ∷ []))
          ∙ one_more (sent_of (w.pushes past)) (sent (next % 65536) ssrc stamp).bytes
          ∙ ap (receive format sends) out.reads

      like_now : (q : Reception S) → q.ssrc ≡ ssrc → receive format sends (Some out.packet) ≡ accepted format q out.packet
          → GoesOn now t.after taken.descriptor.end q.ssrc out.packet.sequence_number (accepted format q out.packet) → IsLikeNow
      like_now q source received g = record {
        of_leg = t.after;
        of_sends = g.reception;
        leg_is = leg_now;
        sends_is = sends_now ∙ received ∙ g.is;
        agree = g.agree;
        ssrc_is = g.ssrc_is ∙ source;
        next_is = (let number : g.reception.sequence_number ≡ next % 65536 = g.number_is ∙ out.number_is in
            omega (arith, number, length-append (w.pushes past) (stamp ∷ [])));
        closed = λ e. g.agree.frame_is ∙ ap (moved_open now) (g.closed (sym ends ∙ e));
      }

      -- a packet of the leg that is already active
      active_on : now ≡ w.offset past → IsLike (w.offset past) s.ended pushed (leg_after leg past) → IsLikeNow
      active_on stays h =
          let same : t.before ≡ h.of_leg = t.was h.of_leg h.leg_is in
          like_now h.of_sends h.ssrc_is
          (ap (λ (r : Receiver S). receive format r (Some out.packet)) h.sends_is
          ∙ in_order format h.of_sends out.packet (out.ssrc_is ∙ sym h.ssrc_is) (out.number_is ∙ sym h.next_is))
          (goes_on now format t.before h.of_sends t.after t.packet out.packet
          (subst (λ (o : ℕ). Agree o t.before h.of_sends) (sym stays) (subst (λ (r : Reception S). Agree (w.offset past) r h.of_sends) (sym same) h.agree)) out_shows taken)

      -- another leg becomes active
      anew : (q : Reception S) → marks.key bytes ≡ true → q.ssrc ≡ ssrc → q.frame ≡ None → receive format sends (Some out.packet) ≡ accepted format q out.packet → IsLikeNow
      anew q key source none received =
          let starts : is_key_start taken.descriptor ≡ true =
          sym (reading.key t.before.structure bytes t.packet taken.descriptor (Elements taken.joins) t.reads taken.shows) ∙ key in
          like_now q source received
          (begins_anew now format t.before q t.after t.packet out.packet taken starts none
          (out_shows q.structure ∙ ap (moved_showing now) (reading.anyway t.before.structure q.structure t.packet.rest taken.descriptor (Elements taken.joins) taken.shows starts)))

      on : (o : Option ℕ) → (standing marks past).active ≡ o → (is_active leg o || (s.chosen == leg && (may_change o s.ended && marks.key bytes))) ≡ true
          → Invariant (w.offset past) o s.ended pushed (λ k. leg_after k past) → IsLikeNow
      on None is e h =
          anew (new_reception out.packet.ssrc) (and_parts (s.chosen == leg) (marks.key bytes) e).1 out.ssrc_is refl
          (ap (λ (r : Receiver S). receive format r (Some out.packet)) h)
      on (Some k) is e h = go (or_parts (eqb k leg) (s.chosen == leg && (s.ended && marks.key bytes)) e)
        where
          go : (eqb k leg ≡ true) ⊎ ((eqb k leg ≡ false) × ((s.chosen == leg && (s.ended && marks.key bytes)) ≡ true)) → IsLikeNow
          go (inl same) =
              active_on (sending.follows past leg bytes (ap (is_active leg) is ∙ same))
              (subst (λ (n : ℕ). IsLike (w.offset past) s.ended pushed (leg_after n past)) (eqb-true k leg same) h)
          go (inr other) =
              let changes = and_parts s.ended (marks.key bytes) (and_parts (s.chosen == leg) (s.ended && marks.key bytes) other.1).1 in
              anew h.of_sends changes.1 h.ssrc_is (h.closed changes.0)
              (ap (λ (r : Receiver S). receive format r (Some out.packet)) h.sends_is
              ∙ in_order format h.of_sends out.packet (out.ssrc_is ∙ sym h.ssrc_is) (out.number_is ∙ sym h.next_is))

    -- a packet of a leg that isn't active doesn't change the active leg
    other_leg : (b : Bool) (k : ℕ) → b ≡ false → after_all (before k ++ cond b (taken_from k past ++ bytes ∷ []) (taken_from k past)) ≡ leg_after k past
    other_leg false k e = refl
    other_leg true k e = absurd (true≢false e)

    idle : (o : Option ℕ) → is_active leg o ≡ false → Invariant (w.offset past) o s.ended pushed (λ k. leg_after k past)
        → Invariant (w.offset past) o s.ended pushed (λ k. leg_after k (Took leg bytes ∷ past))
    idle None e h = h
    idle (Some k) e h =
        subst (λ (r : Receiver S). IsLike (w.offset past) s.ended pushed r) (sym (other_leg (eqb leg k) k (apart (eqb leg k) refl))) h
      where
        apart : (b : Bool) → eqb leg k ≡ b → b ≡ false
        apart false same = refl
        apart true same = absurd (eqb-false k leg e (sym (eqb-true leg k same)))

    took : (b : Bool) → goes_out marks s leg bytes ≡ b → Invariant (w.offset past) s.active s.ended pushed (λ k. leg_after k past)
        → Invariant now (cond b (after_sent marks s leg bytes) s).active (cond b (after_sent marks s leg bytes) s).ended
        (cond b (w.pushes past ++ stamp ∷ []) (w.pushes past)) (λ k. leg_after k (Took leg bytes ∷ past))
    took true e h = on e s.active refl e h
    took false e h =
        subst (λ (o : ℕ). Invariant o s.active s.ended pushed (λ k. leg_after k (Took leg bytes ∷ past))) (sym (sending.stays past leg bytes e))
        (idle s.active (or_false (is_active leg s.active) (s.chosen == leg && (may_change s.active s.ended && marks.key bytes)) e) h)

  nothing_sent : (pushes : List Pushed) → pushes ≡ [] → after_all (sent_of pushes) ≡ Waiting
  nothing_sent pushes e = ap (λ (l : List Pushed). after_all (sent_of l)) e

  holds : (events : List LegEvent) → ((leg : ℕ) → complaint_of (leg_after leg events) ≡ None)
      → Invariant (w.offset events) (standing marks events).active (standing marks events).ended (w.pushes events) (λ k. leg_after k events)
  holds [] calm = nothing_sent (w.pushes []) sending.none
  holds (Chose leg ∷ past) calm =
      subst (λ (o : ℕ). Invariant o (standing marks past).active (standing marks past).ended (w.pushes (Chose leg ∷ past)) (λ k. leg_after k past)) (sym (sending.keeps leg past))
      (subst (λ (l : List Pushed). Invariant (w.offset past) (standing marks past).active (standing marks past).ended l (λ k. leg_after k past)) (sym (sending.choice leg past))
      (holds past calm))
  holds (Took leg bytes ∷ past) calm =
      subst (λ (l : List Pushed). Invariant (w.offset (Took leg bytes ∷ past)) (standing marks (Took leg bytes ∷ past)).active (standing marks (Took leg bytes ∷ past)).ended l (λ k. leg_after k (Took leg bytes ∷ past)))
      (sym (sending.take past leg bytes))
      (took past leg bytes
      (packet_taken format (leg_after leg past) (read bytes)
      (ap complaint_of (sym (leg_more (eqb leg leg) (before leg) (taken_from leg past) bytes (eq-eqb leg leg refl))) ∙ calm leg))
      (goes_out marks (standing marks past) leg bytes) refl
      (holds past (λ k. leg_calm (eqb leg k) (before k) (taken_from k past) bytes (calm k))))

  pleased : (n : ℕ) (o : Option ℕ) (ended : Bool) (pushes : List Pushed) (legs : ℕ → Receiver S) → Invariant n o ended pushes legs → complaint_of (after_all (sent_of pushes)) ≡ None
  pleased n None ended pushes legs h = ap complaint_of h
  pleased n (Some k) ended pushes legs h = ap complaint_of h.sends_is

  -- there is no complaint about the forwarded packets
  pub all_pleases : (events : List LegEvent) → ((leg : ℕ) → complaint_of (leg_after leg events) ≡ None) → complaint_of (after_all (sent_of (w.pushes events))) ≡ None
  all_pleases events calm =
      pleased (w.offset events) (standing marks events).active (standing marks events).ended (w.pushes events) (λ k. leg_after k events) (holds events calm)

  front_calm : (xs ys : List (List ℕ)) → complaint_of (after_all (xs ++ ys)) ≡ None → complaint_of (after_all xs) ≡ None
  front_calm xs [] h = ap (λ (l : List (List ℕ)). complaint_of (after_all l)) (sym (append-nil xs)) ∙ h
  front_calm xs (y ∷ ys) h =
      calm_before format (after_all xs) (read y)
      (ap complaint_of (sym (one_more xs y))
      ∙ front_calm (xs ++ y ∷ []) ys (ap (λ (l : List (List ℕ)). complaint_of (after_all l)) (append_assoc xs (y ∷ []) ys) ∙ h))

  -- there is no complaint about any prefix of them
  pub fronts_please : (events : List LegEvent) → ((leg : ℕ) → complaint_of (leg_after leg events) ≡ None)
      → (sends queued : List (List ℕ)) → sends ++ queued ≡ sent_of (w.pushes events) → complaint_of (after_all sends) ≡ None
  fronts_please events calm sends queued e =
      front_calm sends queued (ap (λ (l : List (List ℕ)). complaint_of (after_all l)) e ∙ all_pleases events calm)
