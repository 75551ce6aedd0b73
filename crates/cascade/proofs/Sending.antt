-- The sent packets of a frame, in an epoch without masks, are the same frame, with all targets active or only those that the subscriber is sent.
use Rattle.std.proofs.Common.{◌≡◌, ◌⊎◌, inl, inr, ◌+◌, ◌%◌, ◌<◌, ◌^◌, ℕ, Bool, true, false, ◌||◌, cond, List, [], ◌∷◌, map, Option, None, Some, refl, sym, ap, subst, ◌∙◌}
use Rattle.std.specs.List.{AllByRecursion}
use Rattle.sfu_base.specs.Frame.{IsValid}
use Rattle.sfu_base.specs.declared.call.Kind.TheVariants.{Layered}
use Rattle.sfu_base.specs.declared.frame.FrameMeaning.{FrameMeaning}
use Rattle.sfu_base.specs.declared.frame.Wish.{Wish}
use Rattle.forwarding_model.specs.declared.target.CurrentTarget.TheVariants.{Open}
use Rattle.forwarding_model.specs.forwarding.Targets.{is_active, layers}
use Rattle.forwarding_model.specs.forwarding.Timeline.{Frame, Packet, rest_of}
use Rattle.forwarding_model.specs.forwarding.Outgoing.{is_top_layer, marked}
use Rattle.forwarding_model.specs.frames.Reading.{Descriptor, Format, IsFormat, Joins, Payload, is_key_start, keeps_structure}
use Rattle.forwarding_model.specs.frames.Reading.Payload.{Elements}
use Rattle.forwarding_model.specs.frames.Reading.Showing.{Shows}
use Rattle.forwarding_model.specs.frames.Frames.{all_targets, mask_by}
use Rattle.forwarding_laws.specs.frames.WholeFrames.{AreContinuations, AreWhole, IsFirst, IsReadBy, IsReadFrame, IsWholeFrame, ReadsAs}
use Rattle.forwarding_laws.proofs.Readings.{shown_carried, shown_parts}
use Rattle.forwarding_laws.proofs.Receiving.{not_key}
use Rattle.dd_structure.specs.TemplateStructure.{TemplateStructure}
use Rattle.packet_format.specs.Formats.{format_of as the_format}
use Rattle.packet_format.specs.Remasked.{or_same, remasked, remasked_bytes}
use Rattle.packet_format.specs.RemaskedReads.{remasked_as}
use Rattle.packet_format.proofs.Remasked.{first_shows}
use Rattle.room_core.specs.Formats.{format_of}
use Rattle.room_core.specs.Sent.{layered_sent, opens, remasked_first, sent, carries_mask_first}
use Rattle.target_selector.specs.Masks.{mask_for}
use Rattle.target_selector.proofs.TargetBits.{mask_small}
use Rattle.room_core.proofs.Senders.{sent_keeps_whole}
use Rattle.room_core.proofs.Stepping.{format_is, formats_read}
use Rattle.cascade_laws.specs.Described.{FirstMask, FirstDescribes, HaveMasks, IsDescribed, IsDescribedBy, KeepsMask}
use Rattle.cascade_laws.specs.Unmasked.{IsUnmasked, SaysNoMask}
use Rattle.cascade_laws.specs.Handing.{IsSentOn}
use Rattle.cascade.proofs.MaskBits.{HasBit, IsMaskOf, all_active, all_mask, mask_has}

-- facts about a frame of the run, whose target has these layers
pub record IsFrameOfRun (format : Format TemplateStructure) (s : TemplateStructure) (target : ℕ) (most : Wish) (frame : Frame TemplateStructure) : Type 0 where
  pub structure : frame.structure ≡ s
  pub valid : IsValid frame.meaning
  pub read : IsReadFrame format frame
  pub whole : IsWholeFrame format frame
  pub described : IsDescribed format frame
  pub unmasked : IsUnmasked format frame
  pub below : target < frame.meaning.target_count
  pub active : is_active frame.meaning target ≡ true
  pub layers_are : layers frame.meaning target ≡ Some most

same_shown : (d e : Descriptor TemplateStructure) (p q : Payload) → Shows d p ≡ Shows e q → d ≡ e
same_shown d e p q h = cc

-- ---- packets that are read with the structure s

module _ (id : ℕ) (s : TemplateStructure) (f : FrameMeaning) (facts : IsFormat (the_format id)) (read : IsReadBy (the_format id) s f) (Masks : ℕ → Type 0)
    (all : Masks (all_targets ((the_format id).layout s))) where
  abbrev reader : Format TemplateStructure
  reader = the_format id

  -- a structure that a packet carries, unless the packet starts a key frame, is this one
  same_structure : (rest : List ℕ) (d : Descriptor TemplateStructure) (joins : Joins) → ReadsAs reader (Some s) rest d joins → is_key_start d ≡ false → (t : TemplateStructure)
      → d.structure ≡ Some t → t ≡ s
  same_structure rest d joins reads no_key t has =
      facts.same t s (shown_carried reader (Some s) rest d (Elements joins) t facts reads has) read.carried
      (subst (λ (o : Option TemplateStructure). keeps_structure reader (Some s) o ≡ true) has
      (sym (ap (λ b. b || keeps_structure reader (Some s) d.structure) no_key) ∙ (shown_parts reader (Some s) rest d (Elements joins) reads).obeys))

  -- a descriptor without a mask leaves the mask unchanged, or makes all targets active
  leaves_mask : (d : Descriptor TemplateStructure) (old : ℕ) → d.mask ≡ None → ((t : TemplateStructure) → d.structure ≡ Some t → t ≡ s) → Masks old → Masks (mask_by reader d.mask d.structure old)
  leaves_mask d old none same masked = subst (λ (m : Option ℕ). Masks (mask_by reader m d.structure old)) (sym none) (go d.structure same)
    where
      go : (o : Option TemplateStructure) → ((t : TemplateStructure) → o ≡ Some t → t ≡ s) → Masks (mask_by reader None o old)
      go None same = masked
      go (Some t) same = subst (λ (x : TemplateStructure). Masks (all_targets (reader.layout x))) (sym (same t refl)) all

  begins_mask : (d : Descriptor TemplateStructure) (old : ℕ) → d.mask ≡ None → d.structure ≡ Some s → Masks (mask_by reader d.mask d.structure old)
  begins_mask d old none has =
      subst (λ (m : Option ℕ). Masks (mask_by reader m d.structure old)) (sym none) (subst (λ (o : Option TemplateStructure). Masks (mask_by reader None o old)) (sym has) all)

  -- packets that continue the frame
  rest_keeps : (number : ℕ) (carries : Bool) (count : ℕ) (rests : List (List ℕ)) → AreContinuations reader s number carries count rests → AllByRecursion (SaysNoMask reader s) rests
      → AllByRecursion (KeepsMask reader s Masks) rests
  rest_keeps number carries count [] whole none = tt
  rest_keeps number carries count (rest ∷ rests) whole none = (
    λ d joins reads old masked.
        let same : whole.0 ≡ d = same_shown whole.0 d (Elements whole.1) (Elements joins) (sym whole.2.reads ∙ reads) in
        let no_key : is_key_start d ≡ false = subst (λ (x : Descriptor TemplateStructure). is_key_start x ≡ false) same (not_key whole.0 whole.2.start) in
        leaves_mask d old (none.0 d joins reads) (same_structure rest d joins reads no_key) masked,
    go rests whole.4 none.1 (λ more says. rest_keeps number whole.1.carries (count + 1) rests more says),
  )
    where
      go : (rests : List (List ℕ)) → ((whole.0.end ≡ true) × (whole.1.carries ≡ false) × (rests ≡ []))
          ⊎ ((whole.0.end ≡ false) × AreContinuations reader s number whole.1.carries (count + 1) rests)
          → AllByRecursion (SaysNoMask reader s) rests
          → (AreContinuations reader s number whole.1.carries (count + 1) rests → AllByRecursion (SaysNoMask reader s) rests → AllByRecursion (KeepsMask reader s Masks) rests)
          → AllByRecursion (KeepsMask reader s Masks) rests
      go rests (inl last) none rec = subst (AllByRecursion (KeepsMask reader s Masks)) (sym last.2) tt
      go rests (inr more) none rec = rec more.1 none

  tail_keeps : (d : Descriptor TemplateStructure) (joins : Joins) (rests : List (List ℕ)) → ((d.end ≡ true) × (joins.carries ≡ false) × (rests ≡ []))
      ⊎ ((d.end ≡ false) × AreContinuations reader s (f.number % 65536) joins.carries 1 rests) → AllByRecursion (SaysNoMask reader s) rests
      → AllByRecursion (KeepsMask reader s Masks) rests
  tail_keeps d joins rests (inl last) none = subst (AllByRecursion (KeepsMask reader s Masks)) (sym last.2) tt
  tail_keeps d joins rests (inr more) none = rest_keeps (f.number % 65536) joins.carries 1 rests more.1 none

  -- the first packet unchanged
  first_mask : (rest : List ℕ) (d : Descriptor TemplateStructure) (joins : Joins) → IsFirst reader s f rest d joins → SaysNoMask reader s rest → FirstMask reader s Masks f.key rest
  first_mask rest d joins first none = go f.key refl
    where
      go : (b : Bool) → f.key ≡ b → FirstMask reader s Masks b rest
      go true key = λ e others reads old.
          let same : d ≡ e = same_shown d e (Elements joins) (Elements others) (sym (first.reads (Some s) (inr refl)) ∙ reads) in
          begins_mask e old (none e others reads) (sym (ap (λ (x : Descriptor TemplateStructure). x.structure) same) ∙ first.structure key)
      go false key = λ e others reads old masked.
          let same : d ≡ e = same_shown d e (Elements joins) (Elements others) (sym (first.reads (Some s) (inr refl)) ∙ reads) in
          let no_key : is_key_start e ≡ false = sym (ap is_key_start same) ∙ first.key ∙ key in
          leaves_mask e old (none e others reads) (same_structure rest e others reads no_key) masked

  -- and with another mask
  first_described : (rest new : List ℕ) (mask : ℕ) (d : Descriptor TemplateStructure) (joins : Joins) → IsFirst reader s f rest d joins → mask < 2 ^ f.target_count
      → remasked id (Some s) mask rest ≡ Some new → IsDescribedBy f d → Masks mask
      → ((e : Descriptor TemplateStructure) (others : Joins) → ReadsAs reader (Some s) new e others → IsDescribedBy f e) × FirstMask reader s Masks f.key new
  first_described rest new mask d joins first small is described masked = (
    λ e others reads.
        let same = shows e others reads in
        subst (IsDescribedBy f) same (record { spatial = described.spatial; temporal = described.temporal; dtis = described.dtis; links = described.links; ref_count = described.ref_count; refs = described.refs }),
    go f.key,
  )
    where
      shows : (e : Descriptor TemplateStructure) (others : Joins) → ReadsAs reader (Some s) new e others → remasked_as mask d ≡ e
      shows e others reads =
          same_shown (remasked_as mask d) e (Elements joins) (Elements others)
          (sym (first_shows id mask s f.key rest d (Elements joins) read.carried (subst (λ (n : ℕ). mask < 2 ^ n) read.targets small) first.key first.structure new is first.reads (Some s) (inr refl)) ∙ reads)

      says : (e : Descriptor TemplateStructure) (others : Joins) → ReadsAs reader (Some s) new e others → (old : ℕ) → Masks (mask_by reader e.mask e.structure old)
      says e others reads old = subst (λ (m : Option ℕ). Masks (mask_by reader m e.structure old)) (ap (λ (x : Descriptor TemplateStructure). x.mask) (shows e others reads)) masked

      go : (b : Bool) → FirstMask reader s Masks b new
      go true = says
      go false = λ e others reads old kept. says e others reads old

  -- the packets of the frame, whose first may have another mask
  as_described : (p : Packet) (ps : List Packet) (mask : ℕ) → mask < 2 ^ f.target_count → Masks mask → AreWhole reader s f (map rest_of (p ∷ ps)) → FirstDescribes reader s f (map rest_of (p ∷ ps))
      → AllByRecursion (SaysNoMask reader s) (map rest_of (p ∷ ps))
      → FirstDescribes reader s f (remasked_bytes id (Some s) mask p.rest ∷ map rest_of ps) × HaveMasks reader s Masks f.key (remasked_bytes id (Some s) mask p.rest ∷ map rest_of ps)
  as_described p ps mask small masked whole described none = go (remasked id (Some s) mask p.rest) refl
    where
      tail : AllByRecursion (KeepsMask reader s Masks) (map rest_of ps)
      tail = tail_keeps whole.0 whole.1 (map rest_of ps) whole.3 none.1

      go : (o : Option (List ℕ)) → remasked id (Some s) mask p.rest ≡ o → FirstDescribes reader s f (or_same o p.rest ∷ map rest_of ps) × HaveMasks reader s Masks f.key (or_same o p.rest ∷ map rest_of ps)
      go None is = (described, (first_mask p.rest whole.0 whole.1 whole.2 none.0, tail))
      go (Some new) is =
          let first = first_described p.rest new mask whole.0 whole.1 whole.2 small is (described whole.0 whole.1 (whole.2.reads (Some s) (inr refl))) masked in
          (first.0, (first.1, tail))

  as_it_was : (p : Packet) (ps : List Packet) → AreWhole reader s f (map rest_of (p ∷ ps)) → AllByRecursion (SaysNoMask reader s) (map rest_of (p ∷ ps)) → HaveMasks reader s Masks f.key (map rest_of (p ∷ ps))
  as_it_was p ps whole none = (first_mask p.rest whole.0 whole.1 whole.2 none.0, tail_keeps whole.0 whole.1 (map rest_of ps) whole.3 none.1)

  either_way : (carries_mask : Bool) (ps : List Packet) (mask : ℕ) → mask < 2 ^ f.target_count → Masks mask → AreWhole reader s f (map rest_of ps) → FirstDescribes reader s f (map rest_of ps)
      → AllByRecursion (SaysNoMask reader s) (map rest_of ps)
      → FirstDescribes reader s f (map rest_of (cond carries_mask (remasked_first id (Some s) mask ps) ps)) × HaveMasks reader s Masks f.key (map rest_of (cond carries_mask (remasked_first id (Some s) mask ps) ps))
  either_way carries_mask [] mask small masked whole described none = absurd whole
  either_way true (p ∷ ps) mask small masked whole described none = as_described p ps mask small masked whole described none
  either_way false (p ∷ ps) mask small masked whole described none = (described, as_it_was p ps whole none)

-- ---- the sent packets

rests_marked : (is_last : Bool) (ps : List Packet) → map rest_of (marked is_last ps) ≡ map rest_of ps
rests_marked is_last [] = refl
rests_marked is_last (p ∷ []) = refl
rests_marked is_last (p ∷ q ∷ ps) = ap (λ l. p.rest ∷ l) (rests_marked is_last (q ∷ ps))

abbrev pub MasksOf : Format TemplateStructure → TemplateStructure → ℕ → ℕ → Type 0
MasksOf format s target mask = IsMaskOf (format.layout s).target_count target mask

abbrev SendsOn : ℕ → Format TemplateStructure → Type 0
SendsOn id format = (s : TemplateStructure) (target opened : ℕ) (most : Wish) (frame : Frame TemplateStructure) → IsFormat format
    → IsFrameOfRun format s target most frame → AreWhole format frame.structure frame.meaning (map rest_of (sent (Layered id) frame (Open target opened)))
    → IsSentOn format (MasksOf format s target) target s frame (sent (Layered id) frame (Open target opened))

sends_on : (id : ℕ) → SendsOn id (the_format id)
unfolding layered_sent
sends_on id s target opened most frame facts h whole = subst (λ (x : TemplateStructure). IsSentOn format (MasksOf format x target) target x frame (sent (Layered id) frame (Open target opened))) h.structure here
  where
    format : Format TemplateStructure
    format = the_format id

    f : FrameMeaning
    f = frame.meaning

    carries_mask : Bool
    carries_mask = opens f (Open target opened) || carries_mask_first id frame.packets

    mask : ℕ
    mask = mask_for f (Some target)

    is_last : Bool
    is_last = is_top_layer f (Open target opened)

    below : target < (format.layout frame.structure).target_count
    below = subst (λ (n : ℕ). target < n) h.read.targets h.below

    has : IsMaskOf (format.layout frame.structure).target_count target mask
    has = subst (λ (n : ℕ). IsMaskOf n target mask) h.read.targets (mask_has f target most h.below h.active h.layers_are)

    both : FirstDescribes format frame.structure f (map rest_of (cond carries_mask (remasked_first id (Some frame.structure) mask frame.packets) frame.packets))
        × HaveMasks format frame.structure (MasksOf format frame.structure target) f.key (map rest_of (cond carries_mask (remasked_first id (Some frame.structure) mask frame.packets) frame.packets))
    both =
        either_way id frame.structure f facts h.read (MasksOf format frame.structure target) (all_mask (format.layout frame.structure) target below) carries_mask frame.packets mask
        (mask_small f (Some target)) has h.whole h.described h.unmasked.none

    rests : map rest_of (sent (Layered id) frame (Open target opened)) ≡ map rest_of (cond carries_mask (remasked_first id (Some frame.structure) mask frame.packets) frame.packets)
    rests = rests_marked is_last (cond carries_mask (remasked_first id (Some frame.structure) mask frame.packets) frame.packets)

    here : IsSentOn format (MasksOf format frame.structure target) target frame.structure frame (sent (Layered id) frame (Open target opened))
    here = record {
      sent = record {
        read = h.read;
        whole = whole;
        described = subst (FirstDescribes format frame.structure f) (sym rests) both.0;
        masks = subst (HaveMasks format frame.structure (MasksOf format frame.structure target) f.key) (sym rests) both.1;
      };
      masked = λ g m. record {
        own = m.own;
        fewer = λ t bit. subst (λ (k : ℕ). HasBit k t) (sym h.unmasked.mask) (all_active (format.layout frame.structure) t (m.few t bit));
      };
    }

pub sends_frame_on : (id : ℕ) (s : TemplateStructure) (target opened : ℕ) (most : Wish) (frame : Frame TemplateStructure) → IsFrameOfRun (format_of id) s target most frame
    → IsSentOn (format_of id) (MasksOf (format_of id) s target) target s frame (sent (Layered id) frame (Open target opened))
sends_frame_on id s target opened most frame h =
    subst (SendsOn id) (sym (format_is id)) (sends_on id) s target opened most frame (formats_read id) h (sent_keeps_whole id frame h.valid h.read h.whole (Open target opened))
