-- A recorder after one more packet, whatever it represents.
use Rattle.std.proofs.Common.{◌≡◌, ℕ, ◌≤◌, Bool, true, false, ◌&&◌, List, [], ◌∷◌, ◌++◌, length, map, take, Option, Some, None, Err, refl, sym, ap, ap₂, subst, ◌∙◌}
use Rattle.std.specs.Option.{is_some}
use Rattle.std.proofs.lemmas.List.{map-append, take_at}
use Rattle.forwarding_model.specs.declared.complaint.Complaint.{Complaint}
use Rattle.forwarding_model.specs.forwarding.Timeline.{Packet}
use Rattle.forwarding_model.specs.Receiver.{OpenFrame as ModelFrame, Receiver, complaint_of, is_content, receive, receive_all}
use Rattle.forwarding_model.specs.Receiver.Receiver.{Waiting, Receiving, Complaining}
use Rattle.dd_structure.specs.TemplateStructure.{TemplateStructure}
use Rattle.rtp_packet.specs.Fields.{timestamp_of}
use Rattle.packet_format.specs.Formats.{format_of}
use Rattle.packet_format.specs.Packets.{read_packet}
use Rattle.strict_receiver.specs.Receivers.{complaint_over}
use Rattle.strict_receiver.proofs.Complaints.{complaint_stays}
use Rattle.strict_receiver.proofs.Histories.{received_one}
use Rattle.ivf_recorder.specs.declared.fault.RecordFault.{RecordFault}
use Rattle.ivf_recorder.specs.declared.fault.RecordFault.TheVariants as fault
use Rattle.ivf_recorder.specs.declared.file.IvfFile.{IvfFile}
use Rattle.ivf_recorder.specs.declared.frame.OpenFrame.{OpenFrame}
use Rattle.ivf_recorder.specs.declared.recording.Recording.{Recording}
use Rattle.ivf_recorder.specs.Elements.{Part, add_elements, elements_over, joined_onto, no_elements, part_of}
use Rattle.ivf_recorder.specs.Files.{HasNewest, IsFileOf, IsSameBut}
use Rattle.ivf_recorder.specs.Frames.{AreShort, Gathered, WholeFrame, are_sound, before_fault, content_of, contents_of, contents_over, fault_by, fault_over, gather, gathered_over, size_over, structure_of}
use Rattle.ivf_recorder.specs.Recorders.{Feeds, Holds, StandsFor, timestamp_said}
use Rattle.ivf_recorder.specs.Segments.{segments_from}
use Rattle.ivf_recorder.specs.Taken.{HasTaken, IsReadable, timestamp_after}
use Rattle.ivf_recorder.specs.Units.{RecordedFrame, Size, size_in}
use Rattle.ivf_recorder.proofs.Accepted.{accepts}
use Rattle.ivf_recorder.proofs.Gathering.{gathered_one}
use Rattle.ivf_recorder.proofs.SmallUnits.{packet_pushed}

-- ---- faults stay

-- the recorded frames are the same
pub record Keeps (old new : List WholeFrame) : Type 0 where
  pub sound : are_sound new ≡ are_sound old
  pub contents : contents_of new ≡ contents_of old
  pub structure : structure_of new ≡ structure_of old

keeps_same : (frames : List WholeFrame) → Keeps frames frames
keeps_same frames = record { sound = refl; contents = refl; structure = refl }

unsound_more : (frames : List WholeFrame) (frame : WholeFrame) → are_sound frames ≡ false → are_sound (frames ++ frame ∷ []) ≡ false
unsound_more [] frame e = absurd cc
unsound_more (f ∷ frames) frame e = go (is_some (content_of f)) e (unsound_more frames frame)
  where
    go : (b : Bool) → (b && are_sound frames) ≡ false → (are_sound frames ≡ false → are_sound (frames ++ frame ∷ []) ≡ false) → (b && are_sound (frames ++ frame ∷ [])) ≡ false
    go true e rest = rest e
    go false e rest = refl

unsound_contents : (frames : List WholeFrame) (frame : WholeFrame) → are_sound frames ≡ false → contents_of (frames ++ frame ∷ []) ≡ contents_of frames
unsound_contents [] frame e = absurd cc
unsound_contents (f ∷ frames) frame e = go (content_of f) e (unsound_contents frames frame)
  where
    go : (o : Option RecordedFrame) → (is_some o && are_sound frames) ≡ false → (are_sound frames ≡ false → contents_of (frames ++ frame ∷ []) ≡ contents_of frames)
        → before_fault o (contents_of (frames ++ frame ∷ [])) ≡ before_fault o (contents_of frames)
    go None e rest = refl
    go (Some x) e rest = ap (λ (l : List RecordedFrame). x ∷ l) (rest e)

keeps_more : (frames : List WholeFrame) (frame : WholeFrame) → are_sound frames ≡ false → Keeps frames (frames ++ frame ∷ [])
keeps_more [] frame e = absurd cc
keeps_more (f ∷ frames) frame e = record { sound = unsound_more (f ∷ frames) frame e ∙ sym e; contents = unsound_contents (f ∷ frames) frame e; structure = refl }

keeps_gather : (m : Receiver TemplateStructure) (g : Gathered) (packet : List ℕ) → are_sound g.frames ≡ false → Keeps g.frames (gather m g packet).frames
keeps_gather Waiting g packet e = keeps_same g.frames
keeps_gather (Complaining c) g packet e = keeps_same g.frames
keeps_gather (Receiving r) g packet e = go r.frame refl
  where
    go : (x : Option ModelFrame) → r.frame ≡ x → Keeps g.frames (gather (Receiving r) g packet).frames
    go None at = rw at (keeps_more g.frames (record { packets = g.unfinished ++ packet ∷ []; structure = r.structure }) e)
    go (Some f) at = rw at (keeps_same g.frames)

complaining_is : (m : Receiver TemplateStructure) (c : Complaint) → complaint_of m ≡ Some c → m ≡ Complaining c
complaining_is Waiting c e = absurd cc
complaining_is (Receiving r) c e = absurd cc
complaining_is (Complaining d) c e = let same : d ≡ c = cc in ap (λ (x : Complaint). Complaining x) same

still : (id : ℕ) (c : Complaint) (x : List ℕ) → complaint_of (receive (format_of id) (Complaining c) (read_packet x)) ≡ Some c
still id c x = go (read_packet x)
  where
    go : (o : Option Packet) → complaint_of (receive (format_of id) (Complaining c) o) ≡ Some c
    go None = refl
    go (Some p) = refl

pub complaining_gather : (m : Receiver TemplateStructure) (g : Gathered) (packet : List ℕ) (c : Complaint) → complaint_of m ≡ Some c → gather m g packet ≡ g
complaining_gather m g packet c e = ap (λ (x : Receiver TemplateStructure). gather x g packet) (complaining_is m c e)

module _ (id : ℕ) (history : List (List ℕ)) (packet : List ℕ) where
  abbrev before : Receiver TemplateStructure
  before = receive_all (format_of id) Waiting (map read_packet history)

  abbrev m : Receiver TemplateStructure
  m = receive (format_of id) before (read_packet packet)

  abbrev g : Gathered
  g = gathered_over id history

  gathered_is : gathered_over id (history ++ packet ∷ []) ≡ gather m g packet
  gathered_is = gathered_one id history packet

  -- a fault, and what is recorded, are unchanged
  pub record Stays (f : RecordFault) : Type 0 where
    pub fault : fault_over id (history ++ packet ∷ []) ≡ Some f
    pub contents : contents_over id (history ++ packet ∷ []) ≡ contents_over id history
    pub size : size_over id (history ++ packet ∷ []) ≡ size_over id history

  stays_with : (f : RecordFault) → Keeps g.frames (gather m g packet).frames → fault_over id (history ++ packet ∷ []) ≡ Some f → Stays f
  stays_with f keeps e = record {
    fault = e;
    contents = ap (λ (x : Gathered). contents_of x.frames) gathered_is ∙ keeps.contents;
    size = ap (λ (x : Gathered). size_in (structure_of x.frames)) gathered_is ∙ ap size_in keeps.structure;
  }

  sound_same : Keeps g.frames (gather m g packet).frames → are_sound (gathered_over id (history ++ packet ∷ [])).frames ≡ are_sound g.frames
  sound_same keeps = ap (λ (x : Gathered). are_sound x.frames) gathered_is ∙ keeps.sound

  pub fault_stays : (f : RecordFault) → fault_over id history ≡ Some f → Stays f
  fault_stays f e = go (are_sound g.frames) (complaint_over id history) refl refl e
    where
      go : (b : Bool) (o : Option Complaint) → are_sound g.frames ≡ b → complaint_over id history ≡ o → fault_by b o ≡ Some f → Stays f
      go false o sound complains e =
          let keeps = keeps_gather m g packet sound in
          stays_with f keeps (ap (λ (b : Bool). fault_by b (complaint_over id (history ++ packet ∷ []))) (sound_same keeps ∙ sound) ∙ e)
      go true None sound complains e = absurd cc
      go true (Some c) sound complains e =
          let stuck : complaint_of m ≡ Some c = ap (λ (x : Receiver TemplateStructure). complaint_of (receive (format_of id) x (read_packet packet))) (complaining_is before c complains) ∙ still id c packet in
          let keeps : Keeps g.frames (gather m g packet).frames = subst (λ (x : Gathered). Keeps g.frames x.frames) (sym (complaining_gather m g packet c stuck)) (keeps_same g.frames) in
          stays_with f keeps (ap₂ fault_by (sound_same keeps ∙ sound) (complaint_stays id history (packet ∷ []) c complains) ∙ e)

  -- the receiver complains
  pub record Complains (c : Complaint) : Type 0 where
    pub fault : fault_over id (history ++ packet ∷ []) ≡ Some (fault.Complaint c)
    pub contents : contents_over id (history ++ packet ∷ []) ≡ contents_over id history
    pub size : size_over id (history ++ packet ∷ []) ≡ size_over id history

  pub complains : (c : Complaint) → are_sound g.frames ≡ true → complaint_over id (history ++ packet ∷ []) ≡ Some c → Complains c
  complains c sound e =
      let same = gathered_is ∙ complaining_gather m g packet c (sym (ap complaint_of (received_one id history packet)) ∙ e) in
      record {
        fault = ap₂ fault_by (ap (λ (x : Gathered). are_sound x.frames) same ∙ sound) e;
        contents = ap (λ (x : Gathered). contents_of x.frames) same;
        size = ap (λ (x : Gathered). size_in (structure_of x.frames)) same;
      }

  content_of_calm : (x : Receiver TemplateStructure) → complaint_of x ≡ None → is_content x ≡ true
  content_of_calm Waiting e = refl
  content_of_calm (Receiving r) e = refl
  content_of_calm (Complaining c) e = absurd cc

  pub reads : complaint_over id (history ++ packet ∷ []) ≡ None → IsReadable packet
  reads calm = (accepts id packet before (content_of_calm m (sym (ap complaint_of (received_one id history packet)) ∙ calm))).readable

  pub sound_before : fault_over id history ≡ None → are_sound g.frames ≡ true
  sound_before e = go (are_sound g.frames) (complaint_over id history) e
    where
      go : (b : Bool) (o : Option Complaint) → fault_by b o ≡ None → b ≡ true
      go true o e = refl
      go false o e = absurd cc

-- ---- the same but for memory

pub same_file : (old new : IvfFile) (size : Size) (contents : List RecordedFrame) → IsSameBut old new → IsFileOf old size contents → IsFileOf new size contents
same_file old new size contents same is = record {
  bytes = same.bytes ∙ is.bytes;
  count = same.count ∙ is.count;
  newest =
      subst (λ (b : Bool). HasNewest b new.timestamp new.time new.at contents) (sym same.begun)
      (subst (λ (t : ℕ). HasNewest old.begun t new.time new.at contents) (sym same.timestamp)
      (subst (λ (t : ℕ). HasNewest old.begun old.timestamp t new.at contents) (sym same.time)
      (subst (λ (a : ℕ). HasNewest old.begun old.timestamp old.time a contents) (sym same.at) is.newest)));
}

pub back_items : (n : ℕ) (old more grown new : List ℕ) → grown ≡ old ++ more → length old ≡ n → new ≡ take n grown → new ≡ old
back_items n old more grown new e l is = is ∙ (ap (take n) e ∙ take_at old more n l)

pub holds_back : (old new : OpenFrame) (packets : List (List ℕ)) → new.bytes.items ≡ old.bytes.items → new.cuts.items ≡ old.cuts.items → new.timestamp ≡ old.timestamp → Holds old packets → Holds new packets
holds_back old new packets bytes cuts timestamp h = record {
  elements = ap₂ (λ (c b : List ℕ). segments_from c 0 b) cuts bytes ∙ h.elements;
  timestamp = timestamp ∙ h.timestamp;
}

-- ---- a packet's elements

joined_more : (first : List (List ℕ)) (parts : List Part) (part : Part) → joined_onto first (parts ++ part ∷ []) ≡ add_elements part.continues (joined_onto first parts) part.elements
joined_more first [] part = refl
joined_more first (p ∷ parts) part = joined_more (add_elements p.continues first p.elements) parts part

elements_more : (packets : List (List ℕ)) (packet : List ℕ) → elements_over (packets ++ packet ∷ []) ≡ add_elements (part_of packet).continues (elements_over packets) (part_of packet).elements
elements_more packets packet = ap (joined_onto no_elements) (map-append part_of packets (packet ∷ [])) ∙ joined_more no_elements (map part_of packets) (part_of packet)

timestamp_more : (packets : List (List ℕ)) (packet : List ℕ) → timestamp_after (timestamp_said packets) (timestamp_of packet) ≡ timestamp_said (packets ++ packet ∷ [])
timestamp_more [] packet = refl
timestamp_more (p ∷ packets) packet = refl

pub holds_more : (old new : OpenFrame) (packets : List (List ℕ)) (packet : List ℕ) → Holds old packets → HasTaken old new packet → Holds new (packets ++ packet ∷ [])
holds_more old new packets packet h taken = record {
  elements =
      taken.elements ∙ (ap (λ (x : List (List ℕ)). add_elements (part_of packet).continues x (part_of packet).elements) h.elements ∙ sym (elements_more packets packet));
  timestamp = taken.timestamp ∙ (ap (λ (t : Option ℕ). timestamp_after t (timestamp_of packet)) h.timestamp ∙ timestamp_more packets packet);
}

-- ---- answers

never : (b : Bool) (o : Option Complaint) → fault_by b o ≡ Some fault.NoMemory → ⊥
never false o e = cc
never true None e = cc
never true (Some c) e = cc

-- after a fault
pub feeds_again : (now : Recording) (history : List (List ℕ)) (packet : List ℕ) (f : RecordFault) → length packet ≤ 2048 → now.fault ≡ Some f → StandsFor now history
    → Feeds now.fault now.receiver.id now history packet (Err f)
feeds_again now history packet f few at stands = go f (sym stands.fault ∙ at) (fault_stays now.receiver.id history packet f (sym stands.fault ∙ at))
  where
    after : (f : RecordFault) → now.fault ≡ Some f → Stays now.receiver.id history packet f → StandsFor now (history ++ packet ∷ [])
    after f at stays = record {
      fault = at ∙ sym stays.fault;
      file =
          subst (λ (s : Size). IsFileOf now.file s (contents_over now.receiver.id (history ++ packet ∷ []))) (sym stays.size)
          (subst (λ (x : List RecordedFrame). IsFileOf now.file (size_over now.receiver.id history) x) (sym stays.contents) stands.file);
      goes = λ none. absurd (let no : None ≡ Some f = sym none ∙ at in cc);
      short = packet_pushed history packet stands.short few;
    }

    go : (f : RecordFault) → fault_over now.receiver.id history ≡ Some f → Stays now.receiver.id history packet f → Feeds now.fault now.receiver.id now history packet (Err f)
    go fault.Obu e stays = (after fault.Obu (stands.fault ∙ e) stays, stays.fault)
    go (fault.Complaint c) e stays = (after (fault.Complaint c) (stands.fault ∙ e) stays, stays.fault)
    go fault.NoMemory e stays = absurd (never (are_sound (gathered_over now.receiver.id history).frames) (complaint_over now.receiver.id history) e)

-- the complaint that was returned
pub feeds_complaint : (new : Recording) (old_fault : Option RecordFault) (id : ℕ) (history : List (List ℕ)) (packet : List ℕ) (c : Complaint) (f : RecordFault) → f ≡ fault.Complaint c
    → new.receiver.id ≡ id → new.fault ≡ Some f → IsFileOf new.file (size_over id history) (contents_over id history) → are_sound (gathered_over id history).frames ≡ true
    → complaint_over id (history ++ packet ∷ []) ≡ Some c → AreShort (history ++ packet ∷ []) → Feeds old_fault id new history packet (Err f)
feeds_complaint new old_fault id history packet c f is same faulty file sound complaint short =
    let k = complains id history packet c sound complaint in
    let at : new.fault ≡ Some (fault.Complaint c) = faulty ∙ ap (λ (x : RecordFault). Some x) is in
    subst (λ (x : RecordFault). Feeds old_fault id new history packet (Err x)) (sym is) (
      record {
        fault = at ∙ sym (ap (λ (n : ℕ). fault_over n (history ++ packet ∷ [])) same ∙ k.fault);
        file =
            subst (λ (n : ℕ). IsFileOf new.file (size_over n (history ++ packet ∷ [])) (contents_over n (history ++ packet ∷ []))) (sym same)
            (subst (λ (s : Size). IsFileOf new.file s (contents_over id (history ++ packet ∷ []))) (sym k.size)
            (subst (λ (x : List RecordedFrame). IsFileOf new.file (size_over id history) x) (sym k.contents) file));
        goes = λ none. absurd (let no : None ≡ Some (fault.Complaint c) = sym none ∙ at in cc);
        short = short;
      },
      k.fault,
    )
