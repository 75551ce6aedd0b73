-- Each packet forwarded from a layered track that was fed is one that was taken.
use Rattle.std.proofs.Common.{◌≡◌, ◌⊎◌, inl, inr, ◌+◌, ◌*◌, ◌%◌, ◌≤◌, ℕ, arith, Bool, true, false, ◌||◌, cond, List, [], ◌∷◌, ◌++◌, refl, sym, ap, subst, ◌∙◌, map, length, Option, None, Some}
use Rattle.std.specs.Prelude.{IfSome}
use Rattle.std.specs.List.{AllByRecursion}
use Rattle.sfu_base.specs.declared.call.Call.{Call}
use Rattle.sfu_base.specs.declared.call.Kind.{Kind}
use Rattle.sfu_base.specs.declared.call.Kind.TheVariants.{Layered}
use Rattle.sfu_base.specs.declared.frame.Wish.{Wish}
use Rattle.rtp_packet.specs.Faults.{first_fault}
use Rattle.rtp_packet.specs.Rewritten.{rewritten}
use Rattle.rtp_packet.proofs.Faultless.{header_there}
use Rattle.forwarding_model.specs.Lists.{IsMember}
use Rattle.forwarding_model.specs.declared.target.CurrentTarget.{CurrentTarget}
use Rattle.forwarding_model.specs.forwarding.Selection.{open_target}
use Rattle.forwarding_model.specs.forwarding.Timeline.{Frame, Packet, frames_of}
use Rattle.forwarding_model.specs.forwarding.Timeline.Event.{WholeFrame, PlainPacket, WishChange, Take}
use Rattle.forwarding_model.specs.forwarding.Standing.{candidate_at, passes_at, standing}
use Rattle.forwarding_model.specs.forwarding.Outgoing.{forwarded, is_top_layer, marked, numbered}
use Rattle.forwarding_model.specs.frames.Frames.{Item, frames_after, in_front, made_by_item, state_after}
use Rattle.forwarding_model.specs.frames.Frames.Item.{Arrived}
use Rattle.forwarding_model.specs.frames.Reading.{Format}
use Rattle.forwarding_model.specs.History.{items_of}
use Rattle.forwarding_laws.specs.frames.WholeFrames.{IsLayered}
use Rattle.forwarding_laws.proofs.Members.{each_member, each_of}
use Rattle.forwarding_laws.proofs.Timelines.{SeesNewest, sees_newest}
use Rattle.dd_structure.specs.TemplateStructure.{TemplateStructure}
use Rattle.packet_format.specs.Packets.{bytes_of, packet_of}
use Rattle.packet_format.specs.Remasked.{or_same, remasked, remasked_bytes, remasked_packet}
use Rattle.packet_format.proofs.Packets.{packets_sent}
use Rattle.packet_format.proofs.RemaskedRests.{rests_remasked}
use Rattle.track_core.proofs.Brought.{ItemHas, frame_has}
use Rattle.track_core.proofs.TakenPieces.{all_append}
use Rattle.room_core.specs.Follows.{Happened}
use Rattle.room_core.specs.Formats.{format_of}
use Rattle.room_core.specs.Given.{given_to}
use Rattle.room_core.specs.History.{Entry as Served, accepted}
use Rattle.room_core.specs.Live.{Joined, Published, joined, kind_of}
use Rattle.room_core.specs.Sent.{layered_sent, opens, remasked_first, sent, carries_mask_first}
use Rattle.target_selector.specs.Masks.{mask_for}
use Rattle.room_core.specs.SentBytes.{AreInOrder, going_out, outgoing_bytes}
use Rattle.room_core.specs.TrackHistory.{entries_of}
use Rattle.room_core.specs.Views.{subscriber_by, timeline_as}
use Rattle.room_core.proofs.Giving.{accepted_are}
use Rattle.room_core.proofs.SentMarked.{with_remasked}
use Rattle.room_core.proofs.Stepping.{format_is}
use Rattle.cascade_laws.specs.Described.{arrivals}
use Rattle.cascade.specs.Cascades.{AreOfRooms, IsMasked, IsPassedOnOf}
use Rattle.cascade.specs.Fed.{IsFed}
use Rattle.cascade.proofs.JoinedAt.{kind_is}
use Rattle.cascade.proofs.Masked.{is_masked as masked_so}
use Rattle.cascade.proofs.Ordered.{IsInOrder, IsSmall, in_order}
use Rattle.cascade.proofs.Sizes.{remasked_short, rewritten_short}
use Rattle.cascade.proofs.Taken.{GivesInOrder, IsRtp, all_rtp, all_small, gives_in_order}

-- ---- packets of these bytes

module _ (took : List (List ℕ)) where
  -- the packet arrived as these bytes
  pub record CameAs (p : Packet) : Type 0 where
    pub bytes : List ℕ
    pub member : IsMember bytes took
    pub reads : first_fault bytes ≡ None
    pub is : p ≡ packet_of bytes

  -- the packet has these bytes, or the same bytes with another mask, except for its number, SSRC and marker
  record Carries (id : ℕ) (q : Packet) : Type 0 where
    bytes : List ℕ
    member : IsMember bytes took
    masked : List ℕ
    is_masked : (masked ≡ bytes) ⊎ IsMasked id bytes masked
    few : length masked ≤ 276 + 4 * length bytes
    long : 12 ≤ length masked
    rest_is : q.rest ≡ (packet_of masked).rest

  came_carries : (id : ℕ) (p : Packet) → CameAs p → Carries id p
  came_carries id p c = record {
    bytes = c.bytes;
    member = c.member;
    masked = c.bytes;
    is_masked = inl refl;
    few = omega arith;
    long = header_there c.bytes c.reads;
    rest_is = ap (λ (q : Packet). q.rest) c.is;
  }

  -- ---- sent packets

  record IsMaskedSo (id : ℕ) (bytes masked : List ℕ) : Type 0 where
    is_masked : (masked ≡ bytes) ⊎ IsMasked id bytes masked
    few : length masked ≤ 276 + 4 * length bytes
    reads : first_fault masked ≡ None

  described_carries : (id mask : ℕ) (force : Option TemplateStructure) (p : Packet) → CameAs p → Carries id (remasked_packet id force mask p)
  described_carries id mask force p c = record {
    bytes = c.bytes;
    member = c.member;
    masked = remasked_bytes id force mask c.bytes;
    is_masked = is.is_masked;
    few = is.few;
    long = header_there (remasked_bytes id force mask c.bytes) is.reads;
    rest_is = ap (λ (q : Packet). q.rest) (ap (remasked_packet id force mask) c.is ∙ sym (rests_remasked id mask force c.bytes (header_there c.bytes c.reads)));
  }
    where
      go : (o : Option (List ℕ)) → remasked id force mask c.bytes ≡ o → IsMaskedSo id c.bytes (or_same o c.bytes)
      go None e = record { is_masked = inl refl; few = omega arith; reads = c.reads }
      go (Some new) e =
          let r = masked_so id mask force c.bytes new c.reads e in
          record { is_masked = inr r; few = remasked_short id mask force c.bytes new e; reads = r.stays.reads c.reads }

      is : IsMaskedSo id c.bytes (remasked_bytes id force mask c.bytes)
      is = go (remasked id force mask c.bytes) refl

  all_carry : (id : ℕ) (ps : List Packet) → AllByRecursion CameAs ps → AllByRecursion (Carries id) ps
  all_carry id [] all = tt
  all_carry id (p ∷ ps) all = (came_carries id p all.0, all_carry id ps all.1)

  with_remasked_carries : (id : ℕ) (frame : Frame TemplateStructure) (carries_mask : Bool) (mask : ℕ) → AllByRecursion CameAs frame.packets → AllByRecursion (Carries id) (with_remasked id frame carries_mask mask).packets
  with_remasked_carries id frame false mask all = all_carry id frame.packets all
  with_remasked_carries id frame true mask all = go frame.packets all
    where
      go : (ps : List Packet) → AllByRecursion CameAs ps → AllByRecursion (Carries id) (remasked_first id (Some frame.structure) mask ps)
      go [] all = tt
      go (p ∷ ps) all = (described_carries id mask (Some frame.structure) p all.0, all_carry id ps all.1)

  other_marker : (id : ℕ) (p : Packet) (marker : Bool) → Carries id p → Carries id (record p { marker = marker })
  other_marker id p marker c = record { bytes = c.bytes; member = c.member; masked = c.masked; is_masked = c.is_masked; few = c.few; long = c.long; rest_is = c.rest_is }

  marked_carries : (id : ℕ) (is_last : Bool) (ps : List Packet) → AllByRecursion (Carries id) ps → AllByRecursion (Carries id) (marked is_last ps)
  marked_carries id is_last [] all = tt
  marked_carries id is_last (p ∷ []) all = (other_marker id p (is_last || p.marker) all.0, tt)
  marked_carries id is_last (p ∷ q ∷ ps) all = (all.0, marked_carries id is_last (q ∷ ps) all.1)

  sent_carries : (id : ℕ) (frame : Frame TemplateStructure) (target : CurrentTarget) → AllByRecursion CameAs frame.packets → AllByRecursion (Carries id) (sent (Layered id) frame target)
  unfolding layered_sent
  sent_carries id frame target all =
      let carries_mask = opens frame.meaning target || carries_mask_first id frame.packets in
      let mask = mask_for frame.meaning (open_target target) in
      marked_carries id (is_top_layer frame.meaning target) (with_remasked id frame carries_mask mask).packets (with_remasked_carries id frame carries_mask mask all)

  -- ---- forwarded packets

  forwarded_carries : (id : ℕ) (wish : Wish) (events : List Happened) → IsLayered events → AllByRecursion (λ frame. AllByRecursion CameAs frame.packets) (frames_of events)
      → AllByRecursion (Carries id) (forwarded (sent (Layered id)) wish events)
  forwarded_carries id wish [] layered all = tt
  forwarded_carries id wish (WholeFrame frame ∷ past) layered all =
      go (passes_at (standing wish past) frame.meaning (length frame.packets)) (forwarded_carries id wish past layered all.1)
    where
      target : CurrentTarget
      target = candidate_at (standing wish past) frame.meaning

      go : (b : Bool) → AllByRecursion (Carries id) (forwarded (sent (Layered id)) wish past)
          → AllByRecursion (Carries id) (cond b (forwarded (sent (Layered id)) wish past ++ sent (Layered id) frame target) (forwarded (sent (Layered id)) wish past))
      go true before = all_append (Carries id) (forwarded (sent (Layered id)) wish past) (sent (Layered id) frame target) before (sent_carries id frame target all.0)
      go false before = before
  forwarded_carries id wish (PlainPacket packet ∷ past) layered all = absurd layered
  forwarded_carries id wish (WishChange changed ∷ past) layered all = forwarded_carries id wish past layered all
  forwarded_carries id wish (Take ∷ past) layered all = forwarded_carries id wish past layered all

  out_carries : (id n ssrc : ℕ) (ps : List Packet) → AllByRecursion (Carries id) ps → AllByRecursion (IsPassedOnOf id took) (map bytes_of (numbered n ssrc ps))
  out_carries id n ssrc [] all = tt
  out_carries id n ssrc (p ∷ ps) all = (
    (
      all.0.bytes,
      all.0.member,
      record {
        sequence = n % 65536;
        ssrc = ssrc;
        marker = p.marker;
        masked = all.0.masked;
        is_masked = all.0.is_masked;
        readdressed = ap (rewritten (n % 65536) ssrc p.marker) all.0.rest_is ∙ packets_sent.elsewhere (n % 65536) ssrc p.marker all.0.masked all.0.long;
      },
    ),
    out_carries id (n + 1) ssrc ps all.1,
  )

  -- so if each of these has at most this number of bytes, each forwarded packet has
  out_short : (most : ℕ) → ((bytes : List ℕ) → IsMember bytes took → length bytes ≤ most) → (id n ssrc : ℕ) (ps : List Packet) → AllByRecursion (Carries id) ps
      → AllByRecursion (λ new. length new ≤ 276 + 4 * most) (map bytes_of (numbered n ssrc ps))
  out_short most each id n ssrc [] all = tt
  out_short most each id n ssrc (p ∷ ps) all = (
    let c = all.0 in
        let few = c.few in
        let long = c.long in
        let old = each c.bytes c.member in
        let is : rewritten (n % 65536) ssrc p.marker p.rest ≡ rewritten (n % 65536) ssrc p.marker c.masked =
        ap (rewritten (n % 65536) ssrc p.marker) c.rest_is ∙ packets_sent.elsewhere (n % 65536) ssrc p.marker c.masked c.long in
        let same = rewritten_short (n % 65536) ssrc p.marker c.masked c.long in
        omega (arith, few, old, same, ap length is),
    out_short most each id (n + 1) ssrc ps all.1,
  )

  -- ---- the frames that these packets make

  front_came : (o : Option (Frame TemplateStructure)) (frames : List (Frame TemplateStructure)) → IfSome o (λ f. AllByRecursion CameAs f.packets)
      → AllByRecursion (λ frame. AllByRecursion CameAs frame.packets) frames → AllByRecursion (λ frame. AllByRecursion CameAs frame.packets) (in_front o frames)
  front_came None frames one all = all
  front_came (Some frame) frames one all = (one, all)

  made_came : (id : ℕ) (items : List Item) → AllByRecursion (ItemHas CameAs) items → AllByRecursion (λ frame. AllByRecursion CameAs frame.packets) (frames_after (format_of id) items)
  made_came id [] all = tt
  made_came id (item ∷ items) all =
      front_came (made_by_item (format_of id) (state_after (format_of id) items) item).frame (frames_after (format_of id) items)
      (subst (λ (format : Format TemplateStructure). IfSome (made_by_item format (state_after format items) item).frame (λ f. AllByRecursion CameAs f.packets)) (sym (format_is id)) (frame_has CameAs id items item all))
      (made_came id items all.1)

  arrivals_came : (came : List (List ℕ)) (items : List Item) → AllByRecursion (λ bytes. IsMember bytes took × IsRtp bytes) came → AllByRecursion (ItemHas CameAs) items
      → AllByRecursion (ItemHas CameAs) (arrivals (map packet_of came) items)
  arrivals_came [] items all more = more
  arrivals_came (bytes ∷ came) items all more =
      arrivals_came came (Arrived (packet_of bytes) ∷ items) all.1 (record { bytes = bytes; member = all.0.0; reads = all.0.1; is = refl }, more)

first_frames : (P : Frame TemplateStructure → Type 0) (xs ys : List (Frame TemplateStructure)) → AllByRecursion P (xs ++ ys) → AllByRecursion P xs
first_frames P [] ys h = tt
first_frames P (x ∷ xs) ys h = (h.0, first_frames P xs ys h.1)

-- ---- all packets forwarded from a layered track are of these packets, if each packet that came is

module _ (took : List (List ℕ)) (past : List Call) (u id : ℕ) (j : Joined) (kind : kind_of j.track past ≡ Layered id)
    (items_came : AllByRecursion (ItemHas (CameAs took)) (items_of (entries_of j.track past))) where
  abbrev events : List Happened
  events = timeline_as (Layered id) u (entries_of j.track past)

  sees : SeesNewest events (frames_after (format_of id) (items_of (entries_of j.track past)))
  sees = sees_newest (format_of id) (sent (Layered id)) u (entries_of j.track past)

  carried : AllByRecursion (Carries took id) (forwarded (sent (Layered id)) j.wish events)
  carried =
      forwarded_carries took id j.wish events sees.layered (first_frames (λ frame. AllByRecursion (CameAs took) frame.packets) (frames_of events) sees.older
      (subst (AllByRecursion (λ frame. AllByRecursion (CameAs took) frame.packets)) (sym sees.is) (made_came took id (items_of (entries_of j.track past)) items_came)))

  out_is : going_out u j past ≡ map bytes_of (numbered j.first j.ssrc (forwarded (sent (Layered id)) j.wish events))
  out_is = ap (λ (k : Kind). outgoing_bytes k (subscriber_by j) (timeline_as k u (entries_of j.track past))) kind

  pub goes_out_of : AllByRecursion (IsPassedOnOf id took) (going_out u j past)
  goes_out_of = subst (AllByRecursion (IsPassedOnOf id took)) (sym out_is) (out_carries took id j.first j.ssrc (forwarded (sent (Layered id)) j.wish events) carried)

  pub goes_out_short : (most : ℕ) → ((bytes : List ℕ) → IsMember bytes took → length bytes ≤ most) → AllByRecursion (λ new. length new ≤ 276 + 4 * most) (going_out u j past)
  goes_out_short most each =
      subst (AllByRecursion (λ new. length new ≤ 276 + 4 * most)) (sym out_is) (out_short took most each id j.first j.ssrc (forwarded (sent (Layered id)) j.wish events) carried)

-- ---- the law

pub layered_goes_on : (h1 h2 : List Served) (s t u id : ℕ) (i j : Joined) (p : Published) → AreOfRooms h1 h2 → IsFed (accepted h1) s i (accepted h2) t p → p.kind ≡ Layered id
    → joined u (accepted h2) ≡ Some j → j.track ≡ t → (new : List ℕ) → IsMember new (going_out u j (accepted h2)) → IsPassedOnOf id (given_to s (accepted h1)) new
layered_goes_on h1 h2 s t u id i j p rooms fed layered is on new member =
    each_member (IsPassedOnOf id took) (going_out u j second) new (goes_out_of took second u id j kind items_came) member
  where
    first : List Call
    first = accepted h1

    second : List Call
    second = accepted h2

    took : List (List ℕ)
    took = given_to s first

    kind : kind_of j.track second ≡ Layered id
    kind = ap (λ (n : ℕ). kind_of n second) on ∙ kind_is second t p fed.live ∙ layered

    gives : GivesInOrder s i first
    gives = gives_in_order first rooms.first (accepted_are h1) s i fed.subscribed

    in_order_is : IsInOrder t second
    in_order_is =
        in_order second (accepted_are h2) t (subst AreInOrder (sym fed.packets) gives.order) (subst (AllByRecursion IsSmall) (sym (fed.packets ∙ gives.is)) (all_small _ gives.all))

    both : (xs : List (List ℕ)) → AllByRecursion (λ bytes. IsMember bytes took) xs → AllByRecursion IsRtp xs → AllByRecursion (λ bytes. IsMember bytes took × IsRtp bytes) xs
    both [] m r = tt
    both (x ∷ xs) m r = ((m.0, r.0), both xs m.1 r.1)

    items_came : AllByRecursion (ItemHas (CameAs took)) (items_of (entries_of j.track second))
    items_came =
        subst (AllByRecursion (ItemHas (CameAs took))) (sym (ap (λ (n : ℕ). items_of (entries_of n second)) on ∙ in_order_is.items ∙ ap (λ (l : List (List ℕ)). arrivals (map packet_of l) []) fed.packets))
        (arrivals_came took took [] (both took (each_of (λ bytes. IsMember bytes took) took (λ bytes m. m)) (subst (AllByRecursion IsRtp) (sym gives.is) (all_rtp _ gives.all))) tt)
