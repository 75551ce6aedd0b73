-- A history with one more packet.
use Rattle.std.proofs.Common.{◌≡◌, ℕ, ◌+◌, min, Bool, true, false, cond, List, map, ◌++◌, ◌∷◌, [], Option, Some, None, Result, Ok, Err, refl, sym, ap, subst, ◌∙◌, arith}
use Rattle.std.specs.Prelude.{if◌then◌else◌}
use Rattle.std.proofs.lemmas.List.{map-append}
use Rattle.forwarding_model.specs.declared.complaint.Complaint.{Complaint}
use Rattle.forwarding_model.specs.forwarding.Timeline.{Packet}
use Rattle.forwarding_model.specs.frames.Reading.{Format}
use Rattle.forwarding_model.specs.Receiver.{Receiver, complaint_of, ends_frame, frames_accepted, is_content, packets_accepted, receive, receive_all}
use Rattle.forwarding_model.specs.Receiver.Receiver.{Waiting, Receiving, Complaining}
use Rattle.dd_structure.specs.TemplateStructure.{TemplateStructure}
use Rattle.packet_format.specs.Formats.{format_of}
use Rattle.packet_format.specs.Packets.{read_packet}
use Rattle.strict_receiver.specs.declared.receiver.Receiver.TheInside.{Inside}
use Rattle.strict_receiver.specs.declared.state.Stage.{Stage}
use Rattle.strict_receiver.specs.declared.state.Stage.TheVariants as stage
use Rattle.strict_receiver.specs.declared.state.State.{State}
use Rattle.strict_receiver.specs.Receivers.{IsReceiverOf, Seen, StandsFor, complaint_in, complaint_over, frames_over, greatest_count, packets_over}
use Rattle.strict_receiver.specs.Kept.{seen}
use Rattle.strict_receiver.specs.States.{Fed, HasStood, IsStageOf, IsStateOf, answer_of, receiver_in}

-- ---- lists of packets

-- the counts after an accepted packet
abbrev pub content_count : Receiver TemplateStructure → ℕ
content_count m = if is_content m then 1 else 0

module _ (format : Format TemplateStructure) where
  pub receive_more : (m : Receiver TemplateStructure) (came : List (Option Packet)) (x : Option Packet)
      → receive_all format m (came ++ x ∷ []) ≡ receive format (receive_all format m came) x
  receive_more m [] x = refl
  receive_more m (y ∷ more) x = receive_more (receive format m y) more x

  complaining_one : (m : Receiver TemplateStructure) (x : Option Packet) → is_content m ≡ false → is_content (receive format m x) ≡ false
  complaining_one Waiting x e = absurd cc
  complaining_one (Receiving r) x e = absurd cc
  complaining_one (Complaining c) None e = refl
  complaining_one (Complaining c) (Some packet) e = refl

  complaining_all : (m : Receiver TemplateStructure) (came : List (Option Packet)) → is_content m ≡ false → is_content (receive_all format m came) ≡ false
  complaining_all m [] e = e
  complaining_all m (y ∷ more) e = complaining_all (receive format m y) more (complaining_one m y e)

  pub packets_more : (m : Receiver TemplateStructure) (came : List (Option Packet)) (x : Option Packet)
      → packets_accepted format m (came ++ x ∷ []) ≡ packets_accepted format m came + content_count (receive format (receive_all format m came) x)
  packets_more m [] x = go (is_content (receive format m x))
    where
      go : (b : Bool) → cond b (0 + 1) 0 ≡ 0 + cond b 1 0
      go true = refl
      go false = refl
  packets_more m (y ∷ more) x = go (is_content (receive format m y)) refl (packets_more (receive format m y) more x)
    where
      go : (b : Bool) → is_content (receive format m y) ≡ b
          → packets_accepted format (receive format m y) (more ++ x ∷ []) ≡ packets_accepted format (receive format m y) more + content_count (receive format (receive_all format (receive format m y) more) x)
          → cond b (packets_accepted format (receive format m y) (more ++ x ∷ []) + 1) 0
          ≡ cond b (packets_accepted format (receive format m y) more + 1) 0 + content_count (receive format (receive_all format (receive format m y) more) x)
      go true e rest = omega arith
      go false e rest =
          sym (ap (λ (b : Bool). 0 + cond b 1 0)
          (complaining_one (receive_all format (receive format m y) more) x (complaining_all (receive format m y) more e)))

  pub frames_more : (m : Receiver TemplateStructure) (came : List (Option Packet)) (x : Option Packet)
      → frames_accepted format m (came ++ x ∷ []) ≡ frames_accepted format m came + ends_frame (receive format (receive_all format m came) x)
  frames_more m [] x = omega arith
  frames_more m (y ∷ more) x = omega (arith, frames_more (receive format m y) more x)

-- ---- lists of their bytes

module _ (id : ℕ) (history : List (List ℕ)) (bytes : List ℕ) where
  -- the next state of a receiver that represents the history
  abbrev pub next_one : Receiver TemplateStructure
  next_one = receive (format_of id) (receive_all (format_of id) Waiting (map read_packet history)) (read_packet bytes)

  all_but_one : map read_packet (history ++ bytes ∷ []) ≡ map read_packet history ++ read_packet bytes ∷ []
  all_but_one = map-append read_packet history (bytes ∷ [])

  pub received_one : receive_all (format_of id) Waiting (map read_packet (history ++ bytes ∷ [])) ≡ next_one
  received_one =
      ap (receive_all (format_of id) Waiting) all_but_one ∙ receive_more (format_of id) Waiting (map read_packet history) (read_packet bytes)

  pub packets_one : packets_over id (history ++ bytes ∷ []) ≡ packets_over id history + content_count next_one
  packets_one =
      ap (packets_accepted (format_of id) Waiting) all_but_one ∙ packets_more (format_of id) Waiting (map read_packet history) (read_packet bytes)

  pub frames_one : frames_over id (history ++ bytes ∷ []) ≡ frames_over id history + ends_frame next_one
  frames_one =
      ap (frames_accepted (format_of id) Waiting) all_but_one ∙ frames_more (format_of id) Waiting (map read_packet history) (read_packet bytes)

-- ---- what a receiver represents

-- what contracts see represents the same receiver as the parts
pub shown_as : (s : State) (m : Receiver TemplateStructure) → IsStateOf s m → IsReceiverOf (receiver_in s) m
shown_as s m stands = go s.stage m stands
  where
    go : (x : Stage) (m : Receiver TemplateStructure) → IsStageOf x s.frame s.structure s.received m → IsReceiverOf (receiver_in (record s { stage = x })) m
    go stage.Waiting Waiting h = tt
    go stage.Waiting (Receiving r) h = absurd h
    go stage.Waiting (Complaining d) h = absurd h
    go (stage.Receiving last) Waiting h = absurd h
    go (stage.Receiving last) (Receiving r) h = h
    go (stage.Receiving last) (Complaining d) h = absurd h
    go (stage.Complaining c) Waiting h = absurd h
    go (stage.Complaining c) (Receiving r) h = absurd h
    go (stage.Complaining c) (Complaining d) h = h

-- if the parts represent a receiver, it is the one that contracts see
pub stands_as : (s : State) (m : Receiver TemplateStructure) → HasStood s → IsReceiverOf (receiver_in s) m → IsStateOf s m
stands_as s m stood shown = go s.stage m stood.0 stood.1 shown
  where
    go : (x : Stage) (m some : Receiver TemplateStructure) → IsStageOf x s.frame s.structure s.received some → IsReceiverOf (receiver_in (record s { stage = x })) m
        → IsStageOf x s.frame s.structure s.received m
    go stage.Waiting Waiting Waiting stood h = stood
    go stage.Waiting Waiting (Receiving r) stood h = absurd stood
    go stage.Waiting Waiting (Complaining d) stood h = absurd stood
    go stage.Waiting (Receiving r) some stood h = absurd h
    go stage.Waiting (Complaining d) some stood h = absurd h
    go (stage.Receiving last) Waiting some stood h = absurd h
    go (stage.Receiving last) (Receiving r) some stood h = h
    go (stage.Receiving last) (Complaining d) some stood h = absurd h
    go (stage.Complaining c) Waiting some stood h = absurd h
    go (stage.Complaining c) (Receiving r) some stood h = absurd h
    go (stage.Complaining c) (Complaining d) some stood h = h

-- ---- answers

complaint_answered : (o : Option Complaint) → complaint_in (answer_of o) ≡ o
complaint_answered None = refl
complaint_answered (Some c) = refl

pub accepted_count : (next : Receiver TemplateStructure) → Ok tt ≡ answer_of (complaint_of next) → content_count next ≡ 1
accepted_count Waiting e = refl
accepted_count (Receiving r) e = refl
accepted_count (Complaining d) e = absurd cc

pub complained_count : (c : Complaint) (next : Receiver TemplateStructure) → Err c ≡ answer_of (complaint_of next) → content_count next + ends_frame next ≡ 0
complained_count c Waiting e = absurd cc
complained_count c (Receiving r) e = absurd cc
complained_count c (Complaining d) e = refl

-- ---- one packet

module _ (inside : Inside) (now : Seen) (old new : State) (result : Result Unit Complaint) (history : List (List ℕ)) (bytes : List ℕ)
    (view : seen inside ≡ now) (at : old ≡ inside.state.value) (kept : HasStood inside.state.value) (same : new.id ≡ old.id)
    (fed : (m : Receiver TemplateStructure) → IsStateOf old m → Fed new result (receive (format_of old.id) m (read_packet bytes)))
    (stands : StandsFor now history) where
  before : StandsFor (record { id = old.id; receiver = receiver_in old; packets = inside.packets; frames = inside.frames }) history
  before =
      subst (λ (s : State). StandsFor (record { id = s.id; receiver = receiver_in s; packets = inside.packets; frames = inside.frames }) history) (sym at)
      (subst (λ (s : Seen). StandsFor s history) (sym view) stands)

  fed_one : Fed new result (next_one old.id history bytes)
  fed_one =
      let m = receive_all (format_of old.id) Waiting (map read_packet history) in
      fed m (stands_as old m (subst HasStood (sym at) kept) before.receiver)

  pub answered_one : complaint_in result ≡ complaint_over now.id (history ++ bytes ∷ [])
  answered_one =
      ap complaint_in fed_one.answer ∙ complaint_answered (complaint_of (next_one old.id history bytes))
      ∙ sym (ap complaint_of (received_one old.id history bytes))
      ∙ ap (λ (id : ℕ). complaint_over id (history ++ bytes ∷ [])) (ap (λ (s : State). s.id) at ∙ ap (λ (s : Seen). s.id) view)

  counted : (packets frames : ℕ) → packets ≡ min (inside.packets + content_count (next_one old.id history bytes)) greatest_count
      → frames ≡ min (inside.frames + ends_frame (next_one old.id history bytes)) greatest_count
      → StandsFor (record { id = new.id; receiver = receiver_in new; packets = packets; frames = frames }) (history ++ bytes ∷ [])
  counted packets frames is_packets is_frames =
      subst (λ (id : ℕ). StandsFor (record { id = id; receiver = receiver_in new; packets = packets; frames = frames }) (history ++ bytes ∷ [])) (sym same) (record {
        receiver = subst (IsReceiverOf (receiver_in new)) (sym (received_one old.id history bytes)) (shown_as new (next_one old.id history bytes) fed_one.stands);
        packets = (let a = before.packets in let b = packets_one old.id history bytes in omega arith);
        frames = (let a = before.frames in let b = frames_one old.id history bytes in omega arith);
      })

  -- it complained, and counts nothing
  pub complained_one : (c : Complaint) → result ≡ Err c
      → StandsFor (record { id = new.id; receiver = receiver_in new; packets = inside.packets; frames = inside.frames }) (history ++ bytes ∷ [])
  complained_one c is =
      let none = complained_count c (next_one old.id history bytes) (sym is ∙ fed_one.answer) in
      let p = before.packets in
      let f = before.frames in
      counted inside.packets inside.frames (omega arith) (omega arith)

  -- it accepted the packet, and counts it
  pub accepted_one : (ended : Bool) (packets frames : ℕ) → result ≡ Ok tt → ((m : Receiver TemplateStructure) → IsStateOf new m → cond ended 1 0 ≡ ends_frame m)
      → packets ≡ min (inside.packets + 1) greatest_count → frames ≡ min (inside.frames + cond ended 1 0) greatest_count
      → StandsFor (record { id = new.id; receiver = receiver_in new; packets = packets; frames = frames }) (history ++ bytes ∷ [])
  accepted_one ended packets frames is ends is_packets is_frames =
      let one = accepted_count (next_one old.id history bytes) (sym is ∙ fed_one.answer) in
      let end = ends (next_one old.id history bytes) fed_one.stands in
      counted packets frames (omega arith) (omega arith)

  -- a count stays below its greatest
  pub frames_stay : inside.frames ≡ min (inside.frames + 0) greatest_count
  frames_stay = let f = before.frames in omega arith
