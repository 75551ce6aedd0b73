-- The last packet forwarded to a subscriber of a layered track ends its frame, since whole frames are forwarded.
use Rattle.std.proofs.Common.{◌≡◌, ◌⊎◌, inl, inr, ◌+◌, ◌%◌, ◌<◌, ◌^◌, ℕ, Bool, true, false, cond, List, [], ◌∷◌, ◌++◌, map, length, refl, sym, ap, subst, ◌∙◌, Option, Some, None, eqb}
use Rattle.std.specs.List.{AllByRecursion}
use Rattle.std.proofs.lemmas.List.{append_assoc, map-append}
use Rattle.sfu_base.specs.declared.call.Call.{Call}
use Rattle.sfu_base.specs.declared.call.Call.TheVariants as call
use Rattle.sfu_base.specs.declared.call.Kind.{Kind}
use Rattle.sfu_base.specs.declared.call.Kind.TheVariants.{Layered}
use Rattle.sfu_base.specs.declared.frame.FrameMeaning.{FrameMeaning}
use Rattle.sfu_base.specs.declared.frame.Wish.{Wish}
use Rattle.forwarding_model.specs.forwarding.Timeline.{Event, Frame, Packet, frames_of, meaning_of, rest_of}
use Rattle.forwarding_model.specs.forwarding.Timeline.Event.{WholeFrame, PlainPacket, WishChange, Take}
use Rattle.forwarding_model.specs.forwarding.Standing.{candidate_at, passes_at, standing}
use Rattle.forwarding_model.specs.forwarding.Outgoing.{Sender, Subscriber, forwarded, numbered, outgoing}
use Rattle.forwarding_model.specs.frames.Reading.{Descriptor, Format, Payload, shown}
use Rattle.forwarding_model.specs.frames.Reading.Payload.{Elements}
use Rattle.forwarding_model.specs.frames.Reading.Showing.{Shows}
use Rattle.forwarding_model.specs.frames.TrackFrames.{IsOneTrack}
use Rattle.forwarding_model.specs.History.{Entry, items_of}
use Rattle.forwarding_laws.specs.frames.WholeFrames.{AreContinuations, AreWhole, IsLayered, IsReadFrame, IsSentWhole, IsWholeFrame, KeepsWhole}
use Rattle.forwarding_laws.proofs.MadeFrames.{frames_are_read}
use Rattle.forwarding_laws.proofs.StrictReceiver.{numbered-append}
use Rattle.forwarding_laws.proofs.Timelines.{sees_newest, timeline_track}
use Rattle.dd_structure.specs.TemplateStructure.{TemplateStructure}
use Rattle.packet_format.specs.Packets.{bytes_of}
use Rattle.track_core.proofs.TakenPieces.{all_behind}
use Rattle.room_core.specs.Formats.{format_of}
use Rattle.room_core.specs.Follows.{Happened}
use Rattle.room_core.specs.Live.{Joined, joined, kind_of}
use Rattle.room_core.specs.Sent.{sent}
use Rattle.room_core.specs.SentBytes.{going_out, outgoing_bytes}
use Rattle.room_core.specs.TrackHistory.{entries_of}
use Rattle.room_core.specs.Views.{subscriber_by, timeline_as}
use Rattle.room_core.specs.WellFormed.{AreWellFormed}
use Rattle.room_core.proofs.CameIn.{entries_came, timeline_came}
use Rattle.room_core.proofs.Senders.{sent_keeps_whole}
use Rattle.room_core.proofs.SentBytes.{ReadsBack, outgoing_read}
use Rattle.room_core.proofs.Stepping.{format_is, formats_read}
use Rattle.leg_switch.specs.Marks.{ends_frame}
use Rattle.leg_switch.proofs.Bytes.{bytes_are_read}
use Rattle.leg_switch.proofs.Ending.{last_is}

-- ---- packets that end with the end of a frame

-- the packet shows that it ends its frame
record ShowsEnd {S : Type 0} (format : Format S) (p : Packet) : Type 0 where
  force : Option S
  descriptor : Descriptor S
  payload : Payload
  shows : shown format force p.rest ≡ Shows descriptor payload
  ends : descriptor.end ≡ true

record EndIn {S : Type 0} (format : Format S) (ps : List Packet) : Type 0 where
  front : List Packet
  last : Packet
  is : ps ≡ front ++ last ∷ []
  shows : ShowsEnd format last

module _ {S : Type 0} (format : Format S) where
  alone : (p : Packet) (ps : List Packet) → ShowsEnd format p → map rest_of ps ≡ [] → EndIn format (p ∷ ps)
  alone p [] shows e = record { front = []; last = p; is = refl; shows = shows }
  alone p (q ∷ qs) shows e = absurd cc

  in_front : (p : Packet) (ps : List Packet) → EndIn format ps → EndIn format (p ∷ ps)
  in_front p ps e = record { front = p ∷ e.front; last = e.last; is = ap (λ (l : List Packet). p ∷ l) e.is; shows = e.shows }

  behind : (xs ys : List Packet) → EndIn format ys → EndIn format (xs ++ ys)
  behind xs ys e = record {
    front = xs ++ e.front;
    last = e.last;
    is = ap (λ (l : List Packet). xs ++ l) e.is ∙ sym (append_assoc xs e.front (e.last ∷ []));
    shows = e.shows;
  }

  conts_end : (s : S) (number : ℕ) (carries : Bool) (count : ℕ) (ps : List Packet) → AreContinuations format s number carries count (map rest_of ps) → EndIn format ps
  conts_end s number carries count [] h = absurd h
  conts_end s number carries count (p ∷ ps) h =
      elim h.4 [
        | inl x ↦ alone p ps (record { force = Some s; descriptor = h.0; payload = Elements h.1; shows = h.2.reads; ends = x.0 }) x.2
        | inr x ↦ in_front p ps (conts_end s number h.1.carries (count + 1) ps x.1)
      ]

  whole_ends : (s : S) (f : FrameMeaning) (ps : List Packet) → AreWhole format s f (map rest_of ps) → EndIn format ps
  whole_ends s f [] h = absurd h
  whole_ends s f (p ∷ ps) h =
      elim h.3 [
        | inl x ↦ alone p ps (record { force = Some s; descriptor = h.0; payload = Elements h.1; shows = h.2.reads (Some s) (inr refl); ends = x.0 }) x.2
        | inr x ↦ in_front p ps (conts_end s (f.number % 65536) h.1.carries 1 ps x.1)
      ]

  -- ---- forwarded packets

  abbrev Ends : List Packet → Type 0
  Ends ps = (ps ≡ []) ⊎ EndIn format ps

  either_ends : (b : Bool) (xs ys : List Packet) → Ends xs → Ends ys → Ends (cond b xs ys)
  either_ends true xs ys h k = h
  either_ends false xs ys h k = k

  forwarded_ends : (send : Sender S) (wish : Wish) (events : List (Event S)) → AllByRecursion (IsSentWhole format send) (frames_of events) → IsLayered events
      → Ends (forwarded send wish events)
  forwarded_ends send wish [] all layered = inl refl
  forwarded_ends send wish (WholeFrame frame ∷ past) all layered =
      let target = candidate_at (standing wish past) frame.meaning in
      either_ends (passes_at (standing wish past) frame.meaning (length frame.packets)) (forwarded send wish past ++ send frame target) (forwarded send wish past)
      (inr (behind (forwarded send wish past) (send frame target) (whole_ends frame.structure frame.meaning (send frame target) (all.0 target))))
      (forwarded_ends send wish past all.1 layered)
  forwarded_ends send wish (PlainPacket packet ∷ past) all layered = absurd layered
  forwarded_ends send wish (WishChange changed ∷ past) all layered = forwarded_ends send wish past all layered
  forwarded_ends send wish (Take ∷ past) all layered = forwarded_ends send wish past all layered

  -- ---- each frame is sent whole

  newest_of : (P : Frame S → Type 0) (xs older : List (Frame S)) → AllByRecursion P (xs ++ older) → AllByRecursion P xs
  newest_of P [] older all = tt
  newest_of P (x ∷ xs) older all = (all.0, newest_of P xs older all.1)

  sent_whole : (send : Sender S) (frames : List (Frame S)) → KeepsWhole format send → IsOneTrack (map meaning_of frames) → AllByRecursion (IsReadFrame format) frames
      → AllByRecursion (IsWholeFrame format) frames → AllByRecursion (IsSentWhole format send) frames
  sent_whole send [] keeps numbers read whole = tt
  sent_whole send (x ∷ xs) keeps numbers read whole = (keeps x numbers.0.valid read.0 whole.0, sent_whole send xs keeps numbers.2 read.1 whole.1)

-- ---- for a subscriber

joined_fits : (past : List Call) (n : ℕ) (j : Joined) → AreWellFormed past → joined n past ≡ Some j → j.ssrc < 2 ^ 32
joined_fits [] n j all e = absurd (let none : None ≡ Some j = e in cc)
joined_fits (call.Join subscriber track ssrc first wish ∷ past) n j all e = go (eqb subscriber n) e (joined_fits past n j all.1)
  where
    new : Joined
    new = record { track = track; ssrc = ssrc; first = first; wish = wish }

    go : (b : Bool) → cond b (Some new) (joined n past) ≡ Some j → (joined n past ≡ Some j → j.ssrc < 2 ^ 32) → j.ssrc < 2 ^ 32
    go true e rest = let same : new ≡ j = cc in subst (λ (x : Joined). x.ssrc < 2 ^ 32) same all.0
    go false e rest = rest e
joined_fits (call.Leave subscriber ∷ past) n j all e = go (eqb subscriber n) e (joined_fits past n j all.1)
  where
    go : (b : Bool) → cond b None (joined n past) ≡ Some j → (joined n past ≡ Some j → j.ssrc < 2 ^ 32) → j.ssrc < 2 ^ 32
    go true e rest = absurd (let none : None ≡ Some j = e in cc)
    go false e rest = rest e
joined_fits (call.Publish track kind ssrc hold ∷ past) n j all e = joined_fits past n j all.1 e
joined_fits (call.Unpublish track ∷ past) n j all e = joined_fits past n j all.1 e
joined_fits (call.Packet track moment bytes ∷ past) n j all e = joined_fits past n j all.1 e
joined_fits (call.Tick track moment ∷ past) n j all e = joined_fits past n j all.1 e
joined_fits (call.Aim subscriber wish ∷ past) n j all e = joined_fits past n j all.1 e
joined_fits (call.Take subscriber ∷ past) n j all e = joined_fits past n j all.1 e
joined_fits (call.Resend subscriber sequence ∷ past) n j all e = joined_fits past n j all.1 e
joined_fits (call.Missing track ∷ past) n j all e = joined_fits past n j all.1 e
joined_fits (call.KeyWanted track ∷ past) n j all e = joined_fits past n j all.1 e
joined_fits (call.Plead subscriber ∷ past) n j all e = joined_fits past n j all.1 e
joined_fits (call.Why subscriber number ∷ past) n j all e = joined_fits past n j all.1 e

module _ (id n : ℕ) (to : Subscriber) (entries : List Entry) (fits : to.ssrc < 2 ^ 32) where
  abbrev events : List Happened
  events = timeline_as (Layered id) n entries

  abbrev out : List Packet
  out = outgoing (sent (Layered id)) to events

  passed_ends : Ends (format_of id) (forwarded (sent (Layered id)) to.wish (timeline_as (Layered id) n entries))
  passed_ends =
      let sees = sees_newest (format_of id) (sent (Layered id)) n entries in
      let track = timeline_track (format_of id) (sent (Layered id)) n entries (formats_read id) in
      let frames : List (Frame TemplateStructure) = frames_of (timeline_as (Layered id) n entries) in
      let read : AllByRecursion (IsReadFrame (format_of id)) frames =
      newest_of (format_of id) (IsReadFrame (format_of id)) frames sees.older
      (subst (AllByRecursion (IsReadFrame (format_of id))) (sym sees.is) (frames_are_read (format_of id) (items_of entries) (formats_read id))) in
      forwarded_ends (format_of id) (sent (Layered id)) to.wish (timeline_as (Layered id) n entries)
      (sent_whole (format_of id) (sent (Layered id)) frames (sent_keeps_whole id) track.numbers read track.whole) sees.layered

  no_last : (xs : List (List ℕ)) (x : List ℕ) → [] ≡ xs ++ x ∷ [] → ⊥
  no_last [] x e = cc
  no_last (y ∷ ys) x e = cc

  -- the bytes of the last packet
  bytes_end : (ps : List Packet) → ps ≡ forwarded (sent (Layered id)) to.wish (timeline_as (Layered id) n entries) → Ends (format_of id) ps
      → AllByRecursion ReadsBack (numbered to.first to.ssrc ps)
      → (front : List (List ℕ)) (last : List ℕ) → map bytes_of (numbered to.first to.ssrc ps) ≡ front ++ last ∷ [] → ends_frame id last ≡ true
  bytes_end ps is (inl none) read front last e =
      absurd (no_last front last (sym (ap (λ (l : List Packet). map bytes_of (numbered to.first to.ssrc l)) none) ∙ e))
  bytes_end ps is (inr end) read front last e =
      let place : ℕ = to.first + length end.front in
      let p : Packet = record { sequence_number = place % 65536; ssrc = to.ssrc; marker = end.last.marker; rest = end.last.rest } in
      let before : List Packet = numbered to.first to.ssrc end.front in
      let all : numbered to.first to.ssrc ps ≡ before ++ p ∷ [] = ap (numbered to.first to.ssrc) end.is ∙ numbered-append to.first to.ssrc end.front (end.last ∷ []) in
      let reads : AllByRecursion ReadsBack (p ∷ []) = all_behind ReadsBack before (p ∷ []) (subst (AllByRecursion ReadsBack) all read) in
      let same : bytes_of p ≡ last = last_is (map bytes_of before) front (bytes_of p) last (sym (map-append bytes_of before (p ∷ [])) ∙ ap (map bytes_of) (sym all) ∙ e) in
      let shows = end.shows in
      ap (ends_frame id) (sym same)
      ∙ (bytes_are_read id).end shows.force (bytes_of p) p shows.descriptor shows.payload reads.0.read
      (ap (λ (format : Format TemplateStructure). shown format shows.force end.last.rest) (sym (format_is id)) ∙ shows.shows)
      ∙ shows.ends

-- after any well-formed calls
pub last_ends : (past : List Call) → AreWellFormed past → (id n : ℕ) (j : Joined) → joined n past ≡ Some j → kind_of j.track past ≡ Layered id
    → (front : List (List ℕ)) (last : List ℕ) → going_out n j past ≡ front ++ last ∷ [] → ends_frame id last ≡ true
last_ends past well id n j is kind front last e =
    let to : Subscriber = subscriber_by j in
    let entries : List Entry = entries_of j.track past in
    let fits = joined_fits past n j well is in
    bytes_end id n to entries fits (forwarded (sent (Layered id)) to.wish (timeline_as (Layered id) n entries)) refl (passed_ends id n to entries fits)
    (outgoing_read (Layered id) to (timeline_as (Layered id) n entries) fits (timeline_came (Layered id) n entries (entries_came past j.track well)))
    front last (subst (λ (k : Kind). outgoing_bytes k to (timeline_as k n entries) ≡ front ++ last ∷ []) kind e)
