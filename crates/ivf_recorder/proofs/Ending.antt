-- What a recorder represents after an accepted packet.
use Rattle.std.proofs.Common.{◌≡◌, ℕ, zero, suc, ◌+◌, Bool, true, false, cond, ◌&&◌, List, [], ◌∷◌, ◌++◌, length, map, get_or, Option, Some, None, refl, sym, ap, ap₂, subst, ◌∙◌, arith}
use Rattle.std.specs.Option.{option_map, is_some}
use Rattle.forwarding_model.specs.Receiver.{OpenFrame as ModelFrame, Reception, Receiver, complaint_of, ends_frame, is_content, receive, receive_all}
use Rattle.forwarding_model.specs.Receiver.Receiver.{Waiting, Receiving, Complaining}
use Rattle.dd_structure.specs.TemplateStructure.{TemplateStructure}
use Rattle.packet_format.specs.Formats.{format_of}
use Rattle.packet_format.specs.Packets.{read_packet}
use Rattle.strict_receiver.specs.Receivers.{IsReceiverOf, complaint_over}
use Rattle.strict_receiver.proofs.Histories.{received_one}
use Rattle.ivf_recorder.specs.declared.fault.RecordFault.TheVariants as fault
use Rattle.ivf_recorder.specs.declared.file.IvfFile.{IvfFile}
use Rattle.ivf_recorder.specs.declared.frame.OpenFrame.{OpenFrame}
use Rattle.ivf_recorder.specs.declared.recording.Recording.{Recording}
use Rattle.ivf_recorder.specs.Added.{Adds, content, timestamp_in}
use Rattle.ivf_recorder.specs.Elements.{no_elements}
use Rattle.ivf_recorder.specs.Files.{HasNewest, IsFileOf}
use Rattle.ivf_recorder.specs.Frames.{Gathered, WholeFrame, are_sound, before_fault, content_of, contents_of, contents_over, fault_by, fault_over, first_timestamp, gather, gathered_over, size_over, structure_of}
use Rattle.ivf_recorder.specs.Laid.{segments_in}
use Rattle.ivf_recorder.specs.Obus.{Obu, all_bytes, obus_in}
use Rattle.ivf_recorder.specs.Recorders.{Holds, IsFed, StandsFor, timestamp_said}
use Rattle.ivf_recorder.specs.Units.{RecordedFrame, TemporalUnit, Size, last_size, size_in, units_of}
use Rattle.ivf_recorder.proofs.Accepted.{accepts, is_receiving}
use Rattle.ivf_recorder.proofs.Gathering.{gathered_one}

-- ---- sizes

abbrev pub size_of : ℕ × ℕ → Size
size_of r = record { width = r.0; height = r.1 }

pub last_size_at : (rs : List (ℕ × ℕ)) (n : ℕ) (d : ℕ × ℕ) → length rs ≡ n + 1 → last_size rs ≡ size_of (get_or rs n d)
last_size_at [] n d e = absurd (omega arith)
last_size_at (r ∷ []) zero d e = refl
last_size_at (r ∷ []) (suc n) d e = absurd (omega arith)
last_size_at (r ∷ q ∷ others) zero d e = absurd (omega arith)
last_size_at (r ∷ q ∷ others) (suc n) d e = last_size_at (q ∷ others) n d (omega arith)

-- ---- lists of frames

sound_more : (frames : List WholeFrame) (frame : WholeFrame) → are_sound frames ≡ true → are_sound (frames ++ frame ∷ []) ≡ is_some (content_of frame)
sound_more [] frame e = go (is_some (content_of frame))
  where
    go : (b : Bool) → (b && true) ≡ b
    go true = refl
    go false = refl
sound_more (f ∷ frames) frame e = go (is_some (content_of f)) e (sound_more frames frame)
  where
    go : (b : Bool) → (b && are_sound frames) ≡ true → (are_sound frames ≡ true → are_sound (frames ++ frame ∷ []) ≡ is_some (content_of frame))
        → (b && are_sound (frames ++ frame ∷ [])) ≡ is_some (content_of frame)
    go true e rest = rest e
    go false e rest = absurd cc

contents_more : (frames : List WholeFrame) (frame : WholeFrame) → are_sound frames ≡ true → contents_of (frames ++ frame ∷ []) ≡ contents_of frames ++ before_fault (content_of frame) []
contents_more [] frame e = refl
contents_more (f ∷ frames) frame e = go (content_of f) e (contents_more frames frame)
  where
    go : (o : Option RecordedFrame) → (is_some o && are_sound frames) ≡ true → (are_sound frames ≡ true → contents_of (frames ++ frame ∷ []) ≡ contents_of frames ++ before_fault (content_of frame) [])
        → before_fault o (contents_of (frames ++ frame ∷ [])) ≡ before_fault o (contents_of frames) ++ before_fault (content_of frame) []
    go None e rest = absurd cc
    go (Some x) e rest = ap (λ (l : List RecordedFrame). x ∷ l) (rest e)

none_recorded : (frames : List WholeFrame) → are_sound frames ≡ true → contents_of frames ≡ [] → frames ≡ []
none_recorded [] e none = refl
none_recorded (f ∷ frames) e none = go (content_of f) e none
  where
    go : (o : Option RecordedFrame) → (is_some o && are_sound frames) ≡ true → before_fault o (contents_of frames) ≡ [] → (f ∷ frames) ≡ []
    go None e none = absurd cc
    go (Some x) e none = absurd cc

structure_more : (f : WholeFrame) (frames : List WholeFrame) (frame : WholeFrame) → structure_of ((f ∷ frames) ++ frame ∷ []) ≡ structure_of (f ∷ frames)
structure_more f frames frame = refl

-- ---- receivers

abbrev pub structure_in : Receiver TemplateStructure → Option TemplateStructure
structure_in Waiting = None
structure_in (Receiving r) = r.structure
structure_in (Complaining c) = None

calm_content : (m : Receiver TemplateStructure) → complaint_of m ≡ None → is_content m ≡ true
calm_content Waiting e = refl
calm_content (Receiving r) e = refl
calm_content (Complaining c) e = absurd cc

pub updated_structure : (kept m : Receiver TemplateStructure) (s : Option TemplateStructure) → IsReceiverOf kept m → is_receiving m ≡ true
    → ((r : Reception TemplateStructure) → kept ≡ Receiving r → s ≡ r.structure) → s ≡ structure_in kept
updated_structure (Receiving k) (Receiving r) s same is updated = updated k refl
updated_structure Waiting (Receiving r) s same is updated = absurd same
updated_structure (Complaining c) (Receiving r) s same is updated = absurd same
updated_structure kept Waiting s same is updated = absurd cc
updated_structure kept (Complaining c) s same is updated = absurd cc

abbrev pub with_open : Gathered → List ℕ → Gathered
with_open g packet = record { frames = g.frames; unfinished = g.unfinished ++ packet ∷ [] }

abbrev pub whole : Gathered → List ℕ → Option TemplateStructure → WholeFrame
whole g packet structure = record { packets = g.unfinished ++ packet ∷ []; structure = structure }

abbrev pub with_whole : Gathered → List ℕ → Option TemplateStructure → Gathered
with_whole g packet structure = record { frames = g.frames ++ whole g packet structure ∷ []; unfinished = [] }

gather_open : (kept m : Receiver TemplateStructure) (g : Gathered) (packet : List ℕ) → IsReceiverOf kept m → is_receiving m ≡ true → 0 ≡ ends_frame kept → gather m g packet ≡ with_open g packet
gather_open kept Waiting g packet same is e = absurd cc
gather_open kept (Complaining c) g packet same is e = absurd cc
gather_open Waiting (Receiving r) g packet same is e = absurd same
gather_open (Complaining c) (Receiving r) g packet same is e = absurd same
gather_open (Receiving k) (Receiving r) g packet same is e = go k.frame r.frame same.frame refl
  where
    go : (x y : Option ModelFrame) → x ≡ y → k.frame ≡ x → gather (Receiving (record r { frame = y })) g packet ≡ with_open g packet
    go x (Some f) same at = refl
    go (Some f) None same at = absurd cc
    go None None same at = let one : ends_frame (Receiving k) ≡ 1 = rw at refl in absurd (omega arith)

gather_whole : (kept m : Receiver TemplateStructure) (g : Gathered) (packet : List ℕ) → IsReceiverOf kept m → is_receiving m ≡ true → 1 ≡ ends_frame kept
    → gather m g packet ≡ with_whole g packet (structure_in kept)
gather_whole kept Waiting g packet same is e = absurd cc
gather_whole kept (Complaining c) g packet same is e = absurd cc
gather_whole Waiting (Receiving r) g packet same is e = absurd same
gather_whole (Complaining c) (Receiving r) g packet same is e = absurd same
gather_whole (Receiving k) (Receiving r) g packet same is e =
    go k.frame r.frame same.frame refl ∙ ap (with_whole g packet) (sym same.structure_is)
  where
    go : (x y : Option ModelFrame) → x ≡ y → k.frame ≡ x → gather (Receiving (record r { frame = y })) g packet ≡ with_whole g packet r.structure
    go x None same at = refl
    go None (Some f) same at = absurd cc
    go (Some f) (Some h) same at = let none : ends_frame (Receiving k) ≡ 0 = rw at refl in absurd (omega arith)

-- ---- contents

timestamp_same : (packets : List (List ℕ)) → timestamp_in (timestamp_said packets) ≡ first_timestamp packets
timestamp_same [] = refl
timestamp_same (p ∷ packets) = refl

pub adds_true : (timestamp : Option ℕ) (o : Option (List Obu)) (size : Size) (contents : List RecordedFrame) (new : IvfFile) → Adds true timestamp o size contents new
    → (obus : List Obu) × (o ≡ Some obus) × IsFileOf new size (contents ++ content timestamp obus ∷ [])
adds_true timestamp None size contents new h = absurd h
adds_true timestamp (Some obus) size contents new h = (obus, refl, h)

pub adds_false : (timestamp : Option ℕ) (o : Option (List Obu)) (size : Size) (contents : List RecordedFrame) (new : IvfFile) → Adds false timestamp o size contents new
    → (o ≡ None) × IsFileOf new size contents
adds_false timestamp None size contents new h = (refl, h)
adds_false timestamp (Some obus) size contents new h = absurd h

-- ---- a packet that was accepted

module _ (mid : Recording) (history : List (List ℕ)) (packet : List ℕ) (fed : IsFed mid history packet) where
  abbrev id : ℕ
  id = mid.receiver.id

  abbrev g : Gathered
  g = gathered_over id history

  abbrev before : Receiver TemplateStructure
  before = receive_all (format_of id) Waiting (map read_packet history)

  abbrev m : Receiver TemplateStructure
  m = receive (format_of id) before (read_packet packet)

  same : IsReceiverOf mid.receiver.receiver m
  same = subst (IsReceiverOf mid.receiver.receiver) (received_one id history packet) fed.receiver.receiver

  receiving : is_receiving m ≡ true
  receiving = (accepts id packet before (calm_content m (sym (ap complaint_of (received_one id history packet)) ∙ fed.calm))).receiving

  pub structure_updated : (s : Option TemplateStructure) → ((r : Reception TemplateStructure) → mid.receiver.receiver ≡ Receiving r → s ≡ r.structure) → s ≡ structure_in mid.receiver.receiver
  structure_updated s updated = updated_structure mid.receiver.receiver m s same receiving updated

  is_open : 0 ≡ ends_frame mid.receiver.receiver → gathered_over id (history ++ packet ∷ []) ≡ with_open g packet
  is_open e = gathered_one id history packet ∙ gather_open mid.receiver.receiver m g packet same receiving e

  is_whole : 1 ≡ ends_frame mid.receiver.receiver → gathered_over id (history ++ packet ∷ []) ≡ with_whole g packet (structure_in mid.receiver.receiver)
  is_whole e = gathered_one id history packet ∙ gather_whole mid.receiver.receiver m g packet same receiving e

  -- the packet leaves its frame open
  pub stands_open : 0 ≡ ends_frame mid.receiver.receiver → StandsFor mid (history ++ packet ∷ []) × (fault_over id (history ++ packet ∷ []) ≡ None)
  stands_open e =
      let o = is_open e in
      let frames : (gathered_over id (history ++ packet ∷ [])).frames ≡ g.frames = ap (λ (x : Gathered). x.frames) o in
      let none : fault_over id (history ++ packet ∷ []) ≡ None = ap₂ fault_by (ap are_sound frames ∙ fed.sound) fed.calm in (
        record {
          fault = fed.fault ∙ sym none;
          file =
              subst (λ (s : Size). IsFileOf mid.file s (contents_over id (history ++ packet ∷ []))) (ap (λ (x : List WholeFrame). size_in (structure_of x)) (sym frames))
              (subst (λ (x : List RecordedFrame). IsFileOf mid.file (size_over id history) x) (ap contents_of (sym frames)) fed.file);
          goes = λ _. record { receiver = fed.receiver; frame = subst (λ (x : Gathered). Holds mid.frame x.unfinished) (sym o) fed.frame };
          short = fed.short;
        },
        none,
      )

  abbrev frame : WholeFrame
  frame = whole g packet (structure_in mid.receiver.receiver)

  content_is : content_of frame ≡ option_map (content mid.frame.timestamp) (obus_in (segments_in mid.frame))
  content_is =
      ap₂ (λ (t : ℕ) (e : List (List ℕ)). option_map (λ obus. record { timestamp = t; bytes = all_bytes obus }) (obus_in e))
      (sym (ap timestamp_in fed.frame.timestamp ∙ timestamp_same (g.unfinished ++ packet ∷ []))) (sym fed.frame.elements)

  sound_is : 1 ≡ ends_frame mid.receiver.receiver → are_sound (gathered_over id (history ++ packet ∷ [])).frames ≡ is_some (content_of frame)
  sound_is e = ap (λ (x : Gathered). are_sound x.frames) (is_whole e) ∙ sound_more g.frames frame fed.sound

  contents_are : 1 ≡ ends_frame mid.receiver.receiver → contents_over id (history ++ packet ∷ []) ≡ contents_over id history ++ before_fault (content_of frame) []
  contents_are e = ap (λ (x : Gathered). contents_of x.frames) (is_whole e) ∙ contents_more g.frames frame fed.sound

  -- an element of its frame isn't an OBU
  module _ (e : 1 ≡ ends_frame mid.receiver.receiver) (none : obus_in (segments_in mid.frame) ≡ None) where
    no_content : content_of frame ≡ None
    no_content = content_is ∙ ap (option_map (content mid.frame.timestamp)) none

    pub fault_obu : fault_over id (history ++ packet ∷ []) ≡ Some fault.Obu
    fault_obu = ap (λ (b : Bool). fault_by b (complaint_over id (history ++ packet ∷ []))) (sound_is e ∙ ap is_some no_content)

    unsound_size : (frames : List WholeFrame) → g.frames ≡ frames → size_in (structure_of (frames ++ frame ∷ [])) ≡ size_in (structure_of frames)
    unsound_size [] at = ap (λ (o : Option RecordedFrame). size_in (cond (is_some o) frame.structure None)) no_content
    unsound_size (f ∷ frames) at = refl

    pub stands_unsound : (new : Recording) → new.receiver ≡ mid.receiver → new.fault ≡ Some fault.Obu → IsFileOf new.file (size_over id history) (contents_over id history)
        → StandsFor new (history ++ packet ∷ [])
    stands_unsound new receiver faulty file =
        let same_id : new.receiver.id ≡ id = ap (λ x. x.id) receiver in
        record {
          fault = faulty ∙ sym (ap (λ (n : ℕ). fault_over n (history ++ packet ∷ [])) same_id ∙ fault_obu);
          file =
              subst (λ (n : ℕ). IsFileOf new.file (size_over n (history ++ packet ∷ [])) (contents_over n (history ++ packet ∷ []))) (sym same_id)
              (subst (λ (s : Size). IsFileOf new.file s (contents_over id (history ++ packet ∷ [])))
              (sym (ap (λ (x : Gathered). size_in (structure_of x.frames)) (is_whole e) ∙ unsound_size g.frames refl))
              (subst (λ (x : List RecordedFrame). IsFileOf new.file (size_over id history) x)
              (sym (contents_are e ∙ (ap (λ (o : Option RecordedFrame). contents_over id history ++ before_fault o []) no_content ∙ append_nothing (contents_over id history)))) file));
          goes = λ calm. absurd (let no : None ≡ Some fault.Obu = sym calm ∙ faulty in cc);
          short = fed.short;
        }
      where
        append_nothing : (x : List RecordedFrame) → x ++ [] ≡ x
        append_nothing [] = refl
        append_nothing (c ∷ x) = ap (λ (y : List RecordedFrame). c ∷ y) (append_nothing x)

  -- all elements of its frame are OBUs
  module _ (e : 1 ≡ ends_frame mid.receiver.receiver) (obus : List Obu) (some : obus_in (segments_in mid.frame) ≡ Some obus) where
    has_content : content_of frame ≡ Some (content mid.frame.timestamp obus)
    has_content = content_is ∙ ap (option_map (content mid.frame.timestamp)) some

    pub no_fault : fault_over id (history ++ packet ∷ []) ≡ None
    no_fault = ap₂ fault_by (sound_is e ∙ ap is_some has_content) fed.calm

    sound_contents : contents_over id (history ++ packet ∷ []) ≡ contents_over id history ++ content mid.frame.timestamp obus ∷ []
    sound_contents = contents_are e ∙ ap (λ (o : Option RecordedFrame). contents_over id history ++ before_fault o []) has_content

    first_size : contents_over id history ≡ [] → size_over id (history ++ packet ∷ []) ≡ size_in (structure_in mid.receiver.receiver)
    first_size none =
        ap (λ (x : Gathered). size_in (structure_of x.frames)) (is_whole e)
        ∙ (ap (λ (x : List WholeFrame). size_in (structure_of (x ++ frame ∷ []))) (none_recorded g.frames fed.sound none)
        ∙ ap (λ (o : Option RecordedFrame). size_in (cond (is_some o) frame.structure None)) has_content)

    next_size : (frames : List WholeFrame) → g.frames ≡ frames → (contents_of frames ≡ [] → ⊥) → size_in (structure_of (frames ++ frame ∷ [])) ≡ size_in (structure_of frames)
    next_size [] at some = absurd (some refl)
    next_size (f ∷ frames) at some = refl

    pub stands_sound : (clear : OpenFrame) (file : IvfFile) (size : Size) → clear.timestamp ≡ None → segments_in clear ≡ no_elements
        → IsFileOf file size (contents_over id history ++ content mid.frame.timestamp obus ∷ []) → size ≡ size_over id (history ++ packet ∷ [])
        → StandsFor (record { receiver = mid.receiver; frame = clear; file = file; fault = mid.fault }) (history ++ packet ∷ [])
    stands_sound clear file size timestamp elements is updated = record {
      fault = fed.fault ∙ sym no_fault;
      file = subst (λ (s : Size). IsFileOf file s (contents_over id (history ++ packet ∷ []))) updated (subst (λ (x : List RecordedFrame). IsFileOf file size x) (sym sound_contents) is);
      goes = λ _. record {
        receiver = fed.receiver;
        frame = subst (λ (x : Gathered). Holds clear x.unfinished) (sym (is_whole e)) (record { elements = elements; timestamp = timestamp });
      };
      short = fed.short;
    }

    -- there was a unit
    pub same_size : mid.file.begun ≡ true → size_over id history ≡ size_over id (history ++ packet ∷ [])
    same_size begun =
        sym (ap (λ (x : Gathered). size_in (structure_of x.frames)) (is_whole e)
        ∙ next_size g.frames refl (λ none. unit_there (subst (λ (b : Bool). HasNewest b mid.file.timestamp mid.file.time mid.file.at (contents_over id history)) begun fed.file.newest) none))
      where
        empty : (closed : List TemporalUnit) (unit : TemporalUnit) → [] ≡ closed ++ unit ∷ [] → ⊥
        empty [] unit h = cc
        empty (c ∷ closed) unit h = cc

        unit_there : HasNewest true mid.file.timestamp mid.file.time mid.file.at (contents_over id history) → contents_over id history ≡ [] → ⊥
        unit_there n none = empty n.closed n.unit (sym (ap units_of none) ∙ n.units)

    -- there was no unit
    pub new_size : mid.file.begun ≡ false → size_in (structure_in mid.receiver.receiver) ≡ size_over id (history ++ packet ∷ [])
    new_size begun = sym (first_size (subst (λ (b : Bool). HasNewest b mid.file.timestamp mid.file.time mid.file.at (contents_over id history)) begun fed.file.newest))
