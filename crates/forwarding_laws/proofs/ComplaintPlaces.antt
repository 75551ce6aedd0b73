-- The place of a complaint is the number of packets before the packet that it is about.
use Rattle.std.proofs.Common.{◌≡◌, ◌+◌, arith, true, List, [], ◌∷◌, ◌++◌, refl, sym, ap, ◌∙◌, cond, length, map}
use Rattle.std.specs.declared.option.Option.{Option}
use Rattle.std.specs.declared.option.Option.TheVariants.{None, Some}
use Rattle.forwarding_model.specs.declared.complaint.Complaint.{Complaint}
use Rattle.forwarding_model.specs.forwarding.Timeline.{Packet}
use Rattle.forwarding_model.specs.frames.Reading.{Format}
use Rattle.forwarding_model.specs.Receiver.{Receiver, complaint, complaint_of, ends_frame, frames_accepted, is_content, packets_accepted, receive, receive_all, unread}
use Rattle.forwarding_model.specs.Receiver.Receiver.{Waiting, Receiving, Complaining}
use Rattle.forwarding_laws.specs.receiver.Accepted.{IsComplaintOf}

-- the first complaint stays
first_stays : {S : Type 0} (format : Format S) (c : Complaint) (came : List (Option Packet)) → receive_all format (Complaining c) came ≡ Complaining c
first_stays format c [] = refl
first_stays format c (None ∷ more) = first_stays format c more
first_stays format c (Some packet ∷ more) = first_stays format c more

none_more : {S : Type 0} (format : Format S) (c : Complaint) (came : List (Option Packet)) → frames_accepted format (Complaining c) came ≡ 0
none_more format c [] = refl
none_more format c (None ∷ more) = ap (λ n. 0 + n) (none_more format c more)
none_more format c (Some packet ∷ more) = ap (λ n. 0 + n) (none_more format c more)

whole_from : {S : Type 0} (format : Format S) (came : List (Option Packet)) (r : Receiver S) → complaint_of (receive_all format r came) ≡ None
    → packets_accepted format r came ≡ length came
whole_from format [] r h = refl
whole_from {S} format (x ∷ more) r h = go (receive format r x) h (whole_from format more)
  where
    go : (r : Receiver S) → complaint_of (receive_all format r more) ≡ None
        → ((r : Receiver S) → complaint_of (receive_all format r more) ≡ None → packets_accepted format r more ≡ length more)
        → cond (is_content r) (packets_accepted format r more + 1) 0 ≡ length (x ∷ more)
    go Waiting h rec = let e = rec Waiting h in omega arith
    go (Receiving k) h rec = let e = rec (Receiving k) h in omega arith
    go (Complaining c) h rec = let no : Some c ≡ None = sym (ap complaint_of (first_stays format c more)) ∙ h in absurd (cc)

pub counts_are_whole : {S : Type 0} (format : Format S) (came : List (Option Packet)) → complaint format came ≡ None
    → packets_accepted format Waiting came ≡ length came
counts_are_whole format came h = whole_from format came Waiting h

packets_from : {S : Type 0} (format : Format S) (came : List (Option Packet)) (r : Receiver S) → complaint_of (receive_all format r came) ≡ None
    → (packets : List Packet) × (came ≡ map Some packets)
packets_from format [] r h = ([], refl)
packets_from {S} format (None ∷ more) r h = absurd (complains r h)
  where
    complains : (r : Receiver S) → complaint_of (receive_all format (unread r) more) ≡ None → ⊥
    complains Waiting h = let no : Some Complaint.Unread ≡ None = sym (ap complaint_of (first_stays format Complaint.Unread more)) ∙ h in absurd (cc)
    complains (Receiving k) h = let no : Some Complaint.Unread ≡ None = sym (ap complaint_of (first_stays format Complaint.Unread more)) ∙ h in absurd (cc)
    complains (Complaining c) h = let no : Some c ≡ None = sym (ap complaint_of (first_stays format c more)) ∙ h in absurd (cc)
packets_from format (Some packet ∷ more) r h =
    let rest = packets_from format more (receive format r (Some packet)) h in
    (packet ∷ rest.0, ap (λ l. Some packet ∷ l) rest.1)

pub no_complaint_is_of_packets : {S : Type 0} (format : Format S) (came : List (Option Packet)) → complaint format came ≡ None
    → (packets : List Packet) × (came ≡ map Some packets)
no_complaint_is_of_packets format came h = packets_from format came Waiting h

-- the complaint of a receiver that had none before these packets
record IsComplaintFrom {S : Type 0} (format : Format S) (r : Receiver S) (came : List (Option Packet)) (c : Complaint) : Type 0 where
  before : List (Option Packet)
  next : Option Packet
  after : List (Option Packet)
  laid : came ≡ before ++ next ∷ after
  place : packets_accepted format r came ≡ length before
  none : complaint_of (receive_all format r before) ≡ None
  frames : frames_accepted format r came ≡ frames_accepted format r before
  ground : complaint_of (receive_all format r (before ++ next ∷ [])) ≡ Some c

place_from : {S : Type 0} (format : Format S) (came : List (Option Packet)) (r : Receiver S) (c : Complaint) → complaint_of r ≡ None
    → complaint_of (receive_all format r came) ≡ Some c → IsComplaintFrom format r came c
place_from format [] r c calm h = let no : None ≡ Some c = sym calm ∙ h in absurd (cc)
place_from {S} format (x ∷ more) r c calm h = go (receive format r x) refl (λ q. place_from format more q c)
  where
    later : (q : Receiver S) → receive format r x ≡ q → is_content q ≡ true → IsComplaintFrom format q more c → IsComplaintFrom format r (x ∷ more) c
    later q at content i =
        record {
          before = x ∷ i.before;
          next = i.next;
          after = i.after;
          laid = ap (λ l. x ∷ l) i.laid;
          place = ap (λ p. cond (is_content p) (packets_accepted format p more + 1) 0) at
              ∙ ap (λ b. cond b (packets_accepted format q more + 1) 0) content
              ∙ (let e = i.place in omega arith);
          none = ap (λ p. complaint_of (receive_all format p i.before)) at ∙ i.none;
          frames = ap (λ p. ends_frame p + frames_accepted format p more) at
              ∙ ap (λ n. ends_frame q + n) i.frames
              ∙ ap (λ p. ends_frame p + frames_accepted format p i.before) (sym at);
          ground = ap (λ p. complaint_of (receive_all format p (i.before ++ i.next ∷ []))) at ∙ i.ground;
        }

    go : (q : Receiver S) → receive format r x ≡ q
        → ((q : Receiver S) → complaint_of q ≡ None → complaint_of (receive_all format q more) ≡ Some c → IsComplaintFrom format q more c)
        → IsComplaintFrom format r (x ∷ more) c
    go Waiting at rec = later Waiting at refl (rec Waiting refl (ap (λ q. complaint_of (receive_all format q more)) (sym at) ∙ h))
    go (Receiving k) at rec =
        later (Receiving k) at refl (rec (Receiving k) refl (ap (λ q. complaint_of (receive_all format q more)) (sym at) ∙ h))
    go (Complaining k) at rec =
        record {
          before = [];
          next = x;
          after = more;
          laid = refl;
          place = ap (λ p. cond (is_content p) (packets_accepted format p more + 1) 0) at;
          none = calm;
          frames = ap (λ p. ends_frame p + frames_accepted format p more) at ∙ ap (λ n. 0 + n) (none_more format k more);
          ground = ap complaint_of at
              ∙ ap complaint_of (sym (first_stays format k more))
              ∙ ap (λ q. complaint_of (receive_all format q more)) (sym at)
              ∙ h;
        }

pub complaints_have_their_place : {S : Type 0} (format : Format S) (came : List (Option Packet)) (c : Complaint) → complaint format came ≡ Some c
    → IsComplaintOf format came c
complaints_have_their_place format came c h =
    let i = place_from format came Waiting c refl h in
    record { before = i.before; next = i.next; after = i.after; laid = i.laid; place = i.place; none = i.none; frames = i.frames; ground = i.ground }
