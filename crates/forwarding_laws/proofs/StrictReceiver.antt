-- A strict receiver of the forwarded packets has no complaint.
use Rattle.std.proofs.Common.{◌≡◌, ◌⊎◌, inl, inr, ◌+◌, ◌%◌, ℕ, suc, arith, Bool, true, false, List, [], ◌∷◌, ◌++◌, refl, sym, subst, ap, ◌∙◌, cond, true≢false, map, length, length-append}
use Rattle.std.proofs.lemmas.Bool.{eq-eqb}
use Rattle.std.specs.List.{AllByRecursion, list_any}
use Rattle.std.specs.declared.option.Option.{Option}
use Rattle.std.specs.declared.option.Option.TheVariants.{None, Some}
use Rattle.sfu_base.specs.declared.frame.FrameMeaning.{FrameMeaning}
use Rattle.sfu_base.specs.declared.frame.Wish.{Wish}
use Rattle.forwarding_model.specs.forwarding.Timeline.{Packet, Frame, Event, rest_of, frames_of, meanings_of}
use Rattle.forwarding_model.specs.forwarding.Timeline.Event.{WholeFrame, PlainPacket, WishChange, Take}
use Rattle.forwarding_model.specs.forwarding.Standing.{Standing, is_key, is_epoch, passed_at, candidate_at, passes_at, admitted, standing}
use Rattle.forwarding_model.specs.frames.TrackFrames.{IsOneTrack}
use Rattle.forwarding_model.specs.forwarding.Outgoing.{Sender, Subscriber, forwarded, numbered, outgoing}
use Rattle.forwarding_model.specs.frames.Reading.{Format}
use Rattle.forwarding_model.specs.Receiver.{Received, Judged, judge, nothing_received, Reception, Receiver, accepted, new_reception, receive_packet, complaint, complaint_of}
use Rattle.forwarding_model.specs.Receiver.Judged.{Complete, Lacks}
use Rattle.forwarding_model.specs.Receiver.Receiver.{Waiting, Receiving, Complaining}
use Rattle.forwarding_laws.specs.frames.WholeFrames.{AreWhole, IsSentWhole, IsTrack, IsLayered}
use Rattle.forwarding_laws.proofs.Members.{each_member, each_weaker, any_member}
use Rattle.forwarding_laws.proofs.EpochStructures.{structure_of, epoch_structures}
use Rattle.forwarding_laws.proofs.ReceivedNumbers.{header, judge_next, judge_all, IsComplete}
use Rattle.forwarding_laws.proofs.Sound.{sound, sound_at, passing, all_complete}
use Rattle.forwarding_laws.proofs.Receiving.{receive_packets, receive_all-packets, receive_packets-append, IsThrough, frame_through}

pub numbered-append : (n ssrc : ℕ) (xs ys : List Packet) → numbered n ssrc (xs ++ ys) ≡ numbered n ssrc xs ++ numbered (n + length xs) ssrc ys
numbered-append n ssrc [] ys = ap (λ k. numbered k ssrc ys) (let e : n ≡ n + 0 = omega arith in e)
numbered-append n ssrc (x ∷ xs) ys =
    ap (λ l. record { sequence_number = n % 65536; ssrc = ssrc; marker = x.marker; rest = x.rest } ∷ l)
    (numbered-append (n + 1) ssrc xs ys
    ∙ ap (λ k. numbered (n + 1) ssrc xs ++ numbered k ssrc ys) (let e : (n + 1) + length xs ≡ n + suc (length xs) = omega arith in e))

pub record IsOn {S : Type 0} (structures : ℕ → Option S) (next ssrc : ℕ) (epoch_passed passed : List FrameMeaning) (r : Reception S) : Type 0 where
  pub source : r.ssrc ≡ ssrc
  pub following : (r.sequence_number + 1) % 65536 ≡ next % 65536
  pub idle : r.frame ≡ None
  pub received : judge_all (map header passed) ≡ Complete r.received
  pub in_epoch : AllByRecursion (λ g. r.structure ≡ structures g.epoch) epoch_passed

-- the receiver after the packets so far; the next packet has the number `next`
abbrev pub IsReceiving : {S : Type 0} → (ℕ → Option S) → ℕ → ℕ → List FrameMeaning → List FrameMeaning → Receiver S → Type 0
IsReceiving structures next ssrc epoch_passed passed Waiting = (epoch_passed ≡ []) × (passed ≡ [])
IsReceiving structures next ssrc epoch_passed passed (Receiving r) = IsOn structures next ssrc epoch_passed passed r
IsReceiving structures next ssrc epoch_passed passed (Complaining c) = ⊥

-- the structure in force is that of f's epoch, unless f is a key frame
known_structure : {S : Type 0} (structures : ℕ → Option S) (next ssrc : ℕ) (epoch_passed passed : List FrameMeaning) (r : Reception S) (f : FrameMeaning) (s : S)
    → IsOn structures next ssrc epoch_passed passed r → AllByRecursion (λ g. Some f.epoch ≡ Some g.epoch) epoch_passed → structures f.epoch ≡ Some s
    → (f.key ≡ true) ⊎ (list_any is_key epoch_passed ≡ true) → (f.key ≡ true) ⊎ (r.structure ≡ Some s)
known_structure structures next ssrc epoch_passed passed r f s on one has (inl k) = inl k
known_structure structures next ssrc epoch_passed passed r f s on one has (inr a) =
    let from = any_member is_key epoch_passed a in
    let same : Some f.epoch ≡ Some from.0.epoch = each_member (λ g. Some f.epoch ≡ Some g.epoch) epoch_passed from.0 one from.1 in
    let epochs : from.0.epoch ≡ f.epoch = grind arith in
    inr (each_member (λ g. r.structure ≡ structures g.epoch) epoch_passed from.0 on.in_epoch from.1 ∙ ap structures epochs ∙ has)

key_of_none : (f : FrameMeaning) (epoch_passed : List FrameMeaning) → epoch_passed ≡ [] → (f.key ≡ true) ⊎ (list_any is_key epoch_passed ≡ true) → f.key ≡ true
key_of_none f epoch_passed none (inl k) = k
key_of_none f epoch_passed none (inr a) = absurd (true≢false (sym a ∙ rw none refl))

-- what holds during a frame holds after it
after_frame_on : {S : Type 0} (structures : ℕ → Option S) (next ssrc : ℕ) (epoch_passed passed : List FrameMeaning) (f : FrameMeaning) (s : S) (k : Received) (r : Receiver S)
    → AllByRecursion (λ g. Some f.epoch ≡ Some g.epoch) epoch_passed → structures f.epoch ≡ Some s → judge_all (map header (f ∷ passed)) ≡ Complete k
    → IsThrough ssrc next s k r → IsReceiving structures next ssrc (f ∷ epoch_passed) (f ∷ passed) r
after_frame_on structures next ssrc epoch_passed passed f s k r one has complete through =
    subst (IsReceiving structures next ssrc (f ∷ epoch_passed) (f ∷ passed)) (sym through.2)
    (record {
      source = refl;
      following = through.1;
      idle = refl;
      received = complete;
      in_epoch = (
        sym has,
        each_weaker (λ g. Some f.epoch ≡ Some g.epoch) _ epoch_passed
            (λ g e. let epochs : f.epoch ≡ g.epoch = grind arith in sym has ∙ ap structures epochs) one,
      );
    })

pub receive_on : {S : Type 0} (format : Format S) (r : Reception S) (p : Packet) → p.ssrc ≡ r.ssrc → p.sequence_number ≡ (r.sequence_number + 1) % 65536
    → receive_packet format (Receiving r) p ≡ accepted format r p
receive_on format r p source seq = rw (eq-eqb p.ssrc r.ssrc source, eq-eqb p.sequence_number ((r.sequence_number + 1) % 65536) seq) refl

next_complete : (passed : List FrameMeaning) (f : FrameMeaning) (received k : Received) → judge_all (map header passed) ≡ Complete received
    → judge_all (map header (f ∷ passed)) ≡ Complete k → judge received (header f) ≡ Complete k
next_complete passed f received k before after = sym (ap (λ j. judge_next j (header f)) before) ∙ after

-- a frame that passes is received
frame_received : {S : Type 0} (format : Format S) (structures : ℕ → Option S) (next ssrc : ℕ) (epoch_passed passed : List FrameMeaning) (f : FrameMeaning) (s : S) (k : Received) (r : Receiver S) (qs : List Packet)
    → IsReceiving structures next ssrc epoch_passed passed r → AllByRecursion (λ g. Some f.epoch ≡ Some g.epoch) epoch_passed
    → (f.key ≡ true) ⊎ (list_any is_key epoch_passed ≡ true) → structures f.epoch ≡ Some s → AreWhole format s f (map rest_of qs)
    → judge_all (map header (f ∷ passed)) ≡ Complete k
    → IsReceiving structures (next + length qs) ssrc (f ∷ epoch_passed) (f ∷ passed) (receive_packets format r (numbered next ssrc qs))
frame_received format structures next ssrc epoch_passed passed f s k r [] h one key has whole complete = absurd whole
frame_received format structures next ssrc epoch_passed passed f s k Waiting (p ∷ ps) h one key has whole complete =
    after_frame_on structures (next + suc (length ps)) ssrc epoch_passed passed f s k _ one has complete
    (frame_through format s f (new_reception ssrc) k ps p next refl
    (inl (key_of_none f epoch_passed h.0 key)) whole (next_complete passed f nothing_received k (rw h.1 refl) complete))
frame_received format structures next ssrc epoch_passed passed f s k (Receiving r) (p ∷ ps) h one key has whole complete =
    after_frame_on structures (next + suc (length ps)) ssrc epoch_passed passed f s k _ one has complete
    (subst (λ source. IsThrough source (next + suc (length ps)) s k
    (receive_packets format (receive_packet format (Receiving r) (record { sequence_number = next % 65536; ssrc = source; marker = p.marker; rest = p.rest })) (numbered (next + 1) source ps)))
    h.source
    (subst (λ x. IsThrough r.ssrc (next + suc (length ps)) s k (receive_packets format x (numbered (next + 1) r.ssrc ps)))
    (sym (receive_on format r (record { sequence_number = next % 65536; ssrc = r.ssrc; marker = p.marker; rest = p.rest }) refl (sym h.following)))
    (frame_through format s f r k ps p next h.idle
    (known_structure structures next ssrc epoch_passed passed r f s h one has key) whole (next_complete passed f r.received k h.received complete))))
frame_received format structures next ssrc epoch_passed passed f s k (Complaining c) (p ∷ ps) h one key has whole complete = absurd h

fewer : {S : Type 0} (structures : ℕ → Option S) (next ssrc : ℕ) (s : Standing) (f : FrameMeaning) (r : Receiver S)
    → IsReceiving structures next ssrc s.epoch_passed s.passed r → IsReceiving structures next ssrc (passed_at s f) s.passed r
fewer {S} structures next ssrc s f r h = go (is_epoch s.epoch f.epoch) r h
  where
    go : (b : Bool) (r : Receiver S) → IsReceiving structures next ssrc s.epoch_passed s.passed r → IsReceiving structures next ssrc (cond b s.epoch_passed []) s.passed r
    go true r h = h
    go false Waiting h = (refl, h.1)
    go false (Receiving r) h = record { source = h.source; following = h.following; idle = h.idle; received = h.received; in_epoch = tt }
    go false (Complaining c) h = h

-- a longer list is received like its first part, followed by the rest
received_more : {S : Type 0} (format : Format S) (structures : ℕ → Option S) (first ssrc : ℕ) (epoch_passed passed : List FrameMeaning) (xs ys : List Packet)
    → IsReceiving structures ((first + length xs) + length ys) ssrc epoch_passed passed
    (receive_packets format (receive_packets format Waiting (numbered first ssrc xs)) (numbered (first + length xs) ssrc ys))
    → IsReceiving structures (first + length (xs ++ ys)) ssrc epoch_passed passed (receive_packets format Waiting (numbered first ssrc (xs ++ ys)))
received_more format structures first ssrc epoch_passed passed xs ys h =
    subst (λ n. IsReceiving structures n ssrc epoch_passed passed (receive_packets format Waiting (numbered first ssrc (xs ++ ys))))
    (let e : (first + length xs) + length ys ≡ first + length (xs ++ ys) = omega (arith, length-append xs ys) in e)
    (subst (IsReceiving structures ((first + length xs) + length ys) ssrc epoch_passed passed)
    (sym (ap (receive_packets format Waiting) (numbered-append first ssrc xs ys) ∙ receive_packets-append format Waiting (numbered first ssrc xs) (numbered (first + length xs) ssrc ys)))
    h)

complete_is : (j : Judged) → IsComplete j → (k : Received) × (j ≡ Complete k)
complete_is (Complete k) c = (k, refl)
complete_is (Lacks fdiff) c = absurd c

received_step : {S : Type 0} (send : Sender S) (format : Format S) (structures : ℕ → Option S) (wish : Wish) (first ssrc : ℕ) (past : List (Event S)) (x : Frame S) (b : Bool)
    → IsSentWhole format send x → IsOneTrack (x.meaning ∷ meanings_of past) → structures x.meaning.epoch ≡ Some x.structure
    → passes_at (standing wish past) x.meaning (length x.packets) ≡ b
    → IsReceiving structures (first + length (forwarded send wish past)) ssrc (standing wish past).epoch_passed (standing wish past).passed
    (receive_packets format Waiting (numbered first ssrc (forwarded send wish past)))
    → IsReceiving structures (first + length (cond b (forwarded send wish past ++ send x (candidate_at (standing wish past) x.meaning)) (forwarded send wish past))) ssrc
    (admitted b (standing wish past) x.meaning (length x.packets)).epoch_passed (admitted b (standing wish past) x.meaning (length x.packets)).passed
    (receive_packets format Waiting (numbered first ssrc (cond b (forwarded send wish past ++ send x (candidate_at (standing wish past) x.meaning)) (forwarded send wish past))))
received_step send format structures wish first ssrc past x false sent_whole track has e h =
    fewer structures _ ssrc (standing wish past) x.meaning _ h
received_step send format structures wish first ssrc past x true sent_whole track has e h =
    let s : Standing = standing wish past in
    let f : FrameMeaning = x.meaning in
    let sound_before = sound wish past track.2 in
    let at = sound_at (meanings_of past) s f sound_before in
    let p = passing s f (length x.packets) sound_before.open_key e in
    let sent : List Packet = send x (candidate_at s f) in
    let out : List Packet = forwarded send wish past in
    let complete = complete_is (judge_all (map header (f ∷ s.passed)))
    (subst (λ b. IsComplete (judge_all (map header (admitted b s f (length x.packets)).passed))) e (all_complete wish (WholeFrame x ∷ past) track)) in
    received_more format structures first ssrc (f ∷ passed_at s f) (f ∷ s.passed) out sent
    (frame_received format structures (first + length out) ssrc (passed_at s f) s.passed f x.structure complete.0 _ sent
    (fewer structures _ ssrc s f _ h) at.one_epoch p.has_key has
    (sent_whole (candidate_at s f)) complete.1)

pub received : {S : Type 0} (send : Sender S) (format : Format S) (structures : ℕ → Option S) (wish : Wish) (first ssrc : ℕ) (events : List (Event S))
    → AllByRecursion (IsSentWhole format send) (frames_of events) → IsLayered events → IsOneTrack (meanings_of events)
    → AllByRecursion (λ x. structures x.meaning.epoch ≡ Some x.structure) (frames_of events)
    → IsReceiving structures (first + length (forwarded send wish events)) ssrc (standing wish events).epoch_passed (standing wish events).passed
    (receive_packets format Waiting (numbered first ssrc (forwarded send wish events)))
received send format structures wish first ssrc [] sent_whole layered track has = (refl, refl)
received send format structures wish first ssrc (WholeFrame x ∷ past) sent_whole layered track has =
    received_step send format structures wish first ssrc past x (passes_at (standing wish past) x.meaning (length x.packets)) sent_whole.0 track has.0 refl
    (received send format structures wish first ssrc past sent_whole.1 layered track.2 has.1)
received send format structures wish first ssrc (PlainPacket p ∷ past) sent_whole layered track has = absurd layered
received send format structures wish first ssrc (WishChange w ∷ past) sent_whole layered track has =
    received send format structures wish first ssrc past sent_whole layered track has
received send format structures wish first ssrc (Take ∷ past) sent_whole layered track has =
    received send format structures wish first ssrc past sent_whole layered track has

no_complaint : {S : Type 0} (structures : ℕ → Option S) (next ssrc : ℕ) (epoch_passed passed : List FrameMeaning) (r : Receiver S)
    → IsReceiving structures next ssrc epoch_passed passed r → complaint_of r ≡ None
no_complaint structures next ssrc epoch_passed passed Waiting h = refl
no_complaint structures next ssrc epoch_passed passed (Receiving r) h = refl
no_complaint structures next ssrc epoch_passed passed (Complaining c) h = absurd h

-- a receiver that has no complaint had none before
stays_complaining : {S : Type 0} (format : Format S) (r : Receiver S) (ps : List Packet) → complaint_of (receive_packets format r ps) ≡ None → complaint_of r ≡ None
stays_complaining format r [] h = h
stays_complaining format Waiting (p ∷ ps) h = refl
stays_complaining format (Receiving r) (p ∷ ps) h = refl
stays_complaining format (Complaining c) (p ∷ ps) h = stays_complaining format (Complaining c) ps h

pub complaint-packets : {S : Type 0} (format : Format S) (ps : List Packet) → complaint format (map Some ps) ≡ complaint_of (receive_packets format Waiting ps)
complaint-packets format ps = ap complaint_of (receive_all-packets format Waiting ps)

pub complaint-prefix : {S : Type 0} (format : Format S) (xs ys : List Packet) → complaint format (map Some (xs ++ ys)) ≡ None → complaint format (map Some xs) ≡ None
complaint-prefix format xs ys h =
    complaint-packets format xs
    ∙ stays_complaining format (receive_packets format Waiting xs) ys
    (ap complaint_of (sym (receive_packets-append format Waiting xs ys)) ∙ sym (complaint-packets format (xs ++ ys)) ∙ h)

pub never_complains : {S : Type 0} (format : Format S) (send : Sender S) (subscriber : Subscriber) (events : List (Event S))
    → AllByRecursion (IsSentWhole format send) (frames_of events) → IsLayered events → IsTrack format (frames_of events) → complaint format (map Some (outgoing send subscriber events)) ≡ None
never_complains format send subscriber events sent_whole layered track =
    complaint-packets format (outgoing send subscriber events)
    ∙ no_complaint (structure_of (frames_of events)) _ subscriber.ssrc _ _ _
    (received send format (structure_of (frames_of events)) subscriber.wish subscriber.first subscriber.ssrc events sent_whole layered track.numbers
    (epoch_structures (frames_of events) track.structures))

-- so it has no complaint about any prefix
pub prefix_never_complains : {S : Type 0} (format : Format S) (send : Sender S) (subscriber : Subscriber) (events : List (Event S)) (sent queued : List Packet)
    → AllByRecursion (IsSentWhole format send) (frames_of events) → IsLayered events → IsTrack format (frames_of events) → sent ++ queued ≡ outgoing send subscriber events
    → complaint format (map Some sent) ≡ None
prefix_never_complains format send subscriber events sent queued sent_whole layered track e =
    complaint-prefix format sent queued (ap (λ ps. complaint format (map Some ps)) e ∙ never_complains format send subscriber events sent_whole layered track)
