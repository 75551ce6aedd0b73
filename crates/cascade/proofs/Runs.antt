-- A run of frames that passed in the first room passes in the second.
use Rattle.std.proofs.Common.{◌≡◌, ◌+◌, ◌-◌, ◌≤◌, ℕ, zero, suc, arith, Bool, List, [], ◌∷◌, ◌++◌, refl, sym, ap, subst, ◌∙◌, cond, map, take, drop, length, length-append, append_assoc, Some}
use Rattle.std.specs.List.{AllByRecursion}
use Rattle.std.proofs.lemmas.List.{append_cancel_right, map-append}
use Rattle.sfu_base.specs.declared.call.Call.{Call}
use Rattle.sfu_base.specs.declared.call.Kind.{Kind}
use Rattle.sfu_base.specs.declared.call.Kind.TheVariants.{Layered}
use Rattle.sfu_base.specs.declared.frame.Wish.{Wish}
use Rattle.forwarding_model.specs.declared.target.CurrentTarget.TheVariants.{Open}
use Rattle.forwarding_model.specs.forwarding.Timeline.{Frame, Packet, frames_of, meaning_of, meanings_of, takes_of}
use Rattle.forwarding_model.specs.forwarding.Timeline.Event.{WholeFrame}
use Rattle.forwarding_model.specs.forwarding.Standing.{candidate_at, standing}
use Rattle.forwarding_model.specs.forwarding.Outgoing.{Sender, forwarded, numbered, taken}
use Rattle.forwarding_model.specs.frames.Frames.{Item, frames_after, frames_since}
use Rattle.forwarding_model.specs.frames.Reading.{Format}
use Rattle.forwarding_model.specs.frames.TrackFrames.{IsOneTrack}
use Rattle.forwarding_model.specs.History.{Entry, items_of}
use Rattle.forwarding_model.specs.History.Entry.{Released, Joined as HasJoined, Aimed, Asked}
use Rattle.forwarding_laws.specs.frames.WholeFrames.{IsLayered}
use Rattle.forwarding_laws.proofs.HistoryWords.{have_frames}
use Rattle.forwarding_laws.proofs.Outgoings.{length-numbered}
use Rattle.forwarding_laws.proofs.StrictReceiver.{numbered-append}
use Rattle.forwarding_laws.proofs.Timelines.{frames_after-append, sees_newest, timeline_track}
use Rattle.dd_structure.specs.TemplateStructure.{TemplateStructure}
use Rattle.packet_format.specs.Packets.{bytes_of, packet_of}
use Rattle.room_core.specs.Follows.{Happened}
use Rattle.room_core.specs.Formats.{format_of}
use Rattle.room_core.specs.History.{Entry as Served, accepted}
use Rattle.room_core.specs.Live.{Joined, Published, joined, kind_of}
use Rattle.room_core.specs.Sent.{sent}
use Rattle.room_core.specs.SentBytes.{AreInOrder}
use Rattle.room_core.specs.TrackHistory.{entries_of}
use Rattle.room_core.specs.Views.{events_for, subscriber_by, timeline_as}
use Rattle.room_core.proofs.Giving.{accepted_are}
use Rattle.room_core.proofs.Stepping.{formats_read}
use Rattle.cascade_laws.specs.Relayed.{AreHandedOn, IsMaskedFor, Shift, passed_since}
use Rattle.cascade_laws.specs.Laws.{PassesOn}
use Rattle.cascade_laws.specs.Described.{arrivals}
use Rattle.cascade_laws.specs.Handing.{HasComeFor, HaveComeFor, sent_since}
use Rattle.cascade_laws.proofs.HandedOn.{handed_on_frames_pass, track_of}
use Rattle.cascade_laws.proofs.Handing.{all_come, arrivals-append, from_key, key_comes, numbered_sent}
use Rattle.cascade_laws.proofs.Staying.{left_targets_stay}
use Rattle.cascade_laws.proofs.Splitting.{IsBehind, IsSplitAt, behind_frames, forwarded_since, frames_of-append, layered_behind, layered_front, split_at}
use Rattle.cascade.specs.Cascades.{AreOfRooms, HasWishAndCapacity, IsRun, JoinedBefore, PassesAgain, RunsOn}
use Rattle.cascade.specs.Fed.{IsFed, before_join, packets_on}
use Rattle.cascade.proofs.JoinedAt.{HasJoinedAt, has_joined_at, kind_is}
use Rattle.cascade.proofs.Known.{IsKnown, SendsRun, frames_known, sends_run}
use Rattle.cascade.proofs.Ordered.{IsSmall}
use Rattle.cascade.proofs.Sending.{MasksOf}
use Rattle.cascade.proofs.Since.{CameSince, arrivals_behind, came_since, items_since}
use Rattle.cascade.proofs.Taken.{GivesInOrder, all_back, all_small, gives_in_order}

-- ---- lists

-- if a list is split in two ways, the shorter first part is a prefix of the longer one
front_of_front : {X : Type 0} (xs ys us vs : List X) → xs ++ ys ≡ us ++ vs → length xs ≤ length us → (w : List X) × (us ≡ xs ++ w)
front_of_front [] ys us vs e short = (us, refl)
front_of_front (x ∷ xs) ys [] vs e short = absurd (omega arith)
front_of_front (x ∷ xs) ys (u ∷ us) vs e short =
    let same : x ≡ u = cc in
    let rest : xs ++ ys ≡ us ++ vs = ap (drop 1) e in
    let r = front_of_front xs ys us vs rest (omega arith) in
    (r.0, ap (λ (z : _). z ∷ us) (sym same) ∙ ap (λ l. x ∷ l) r.1)

-- enough packets were taken that the first part is complete
takes_front : {X : Type 0} (n : ℕ) (xs ys : List X) → length xs ≤ n → take n (xs ++ ys) ≡ xs ++ take (n - length xs) ys
takes_front n [] ys few = ap (λ k. take k ys) (let e : n ≡ n - 0 = omega arith in e)
takes_front zero (x ∷ xs) ys few = absurd (omega arith)
takes_front (suc n) (x ∷ xs) ys few = ap (λ l. x ∷ l) (takes_front n xs ys (omega arith) ∙ ap (λ k. xs ++ take k ys) (let e : n - length xs ≡ suc n - suc (length xs) = omega arith in e))

all_tracks : (frames older : List (Frame TemplateStructure)) → IsOneTrack (map meaning_of (frames ++ older)) → IsOneTrack (map meaning_of older)
all_tracks [] older h = h
all_tracks (x ∷ frames) older h = all_tracks frames older h.2

items_append : (since past : List Entry) → items_of (since ++ past) ≡ items_of since ++ items_of past
items_append [] past = refl
items_append (Released items ∷ since) past = ap (λ (l : List Item). items ++ l) (items_append since past) ∙ sym (append_assoc items (items_of since) (items_of past))
items_append (HasJoined other to ∷ since) past = items_append since past
items_append (Aimed other wish ∷ since) past = items_append since past
items_append (Asked other ∷ since) past = items_append since past

-- ---- the run on the first track, as packets

-- the packets that were taken are those before the key frame, its own, those of the frames since, and later ones
record IsLaidOut (took : List Packet) (first ssrc : ℕ) (before key others : List Packet) : Type 0 where
  rest : List Packet
  is : took ≡ numbered first ssrc before
      ++ (numbered (first + length before) ssrc key ++ (numbered (first + length before + length key) ssrc others ++ rest))

laid_out : (first ssrc n : ℕ) (before key others more out : List Packet) → out ≡ ((before ++ key) ++ others) ++ more → length ((before ++ key) ++ others) ≤ n
    → IsLaidOut (take n (numbered first ssrc out)) first ssrc before key others
laid_out first ssrc n before key others more out e few = record {
  rest = take (n - length whole) (numbered (first + length whole) ssrc more);
  is =
      ap (λ (l : List Packet). take n (numbered first ssrc l)) e
      ∙ ap (take n) (numbered-append first ssrc whole more)
      ∙ takes_front n (numbered first ssrc whole) (numbered (first + length whole) ssrc more) (let l = length-numbered first ssrc whole in omega (arith, l, few))
      ∙ ap (λ k. numbered first ssrc whole ++ take (n - k) (numbered (first + length whole) ssrc more)) (length-numbered first ssrc whole)
      ∙ ap (λ (l : List Packet). l ++ tail) (numbered-append first ssrc (before ++ key) others
      ∙ ap (λ (l : List Packet). l ++ numbered (first + length (before ++ key)) ssrc others) (numbered-append first ssrc before key))
      ∙ append_assoc (numbered first ssrc before ++ numbered (first + length before) ssrc key) (numbered (first + length (before ++ key)) ssrc others) tail
      ∙ append_assoc (numbered first ssrc before) (numbered (first + length before) ssrc key) (numbered (first + length (before ++ key)) ssrc others ++ tail)
      ∙ ap (λ k. numbered first ssrc before ++ (numbered (first + length before) ssrc key ++ (numbered k ssrc others ++ tail)))
      (let l = length-append before key in let s : first + length (before ++ key) ≡ first + length before + length key = omega (arith, l) in s);
}
  where
    whole : List Packet
    whole = (before ++ key) ++ others

    tail : List Packet
    tail = take (n - length whole) (numbered (first + length whole) ssrc more)

-- ---- the law

module _ (h1 h2 : List Served) (s t u id : ℕ) (i j : Joined) (p : Published) (rooms : AreOfRooms h1 h2) (fed : IsFed (accepted h1) s i (accepted h2) t p)
    (layered1 : kind_of i.track (accepted h1) ≡ Layered id) (layered2 : p.kind ≡ Layered id) (is : joined u (accepted h2) ≡ Some j) (on : j.track ≡ t)
    (later since past : List Happened) (k : Frame TemplateStructure) (target : ℕ) (now : Wish)
    (run : IsRun id i (accepted h1) (events_for s i (accepted h1)) later since past k target now)
    (before : JoinedBefore t u (accepted h2) (length (forwarded (sent (Layered id)) i.wish past))) where
  abbrev first : List Call
  first = accepted h1

  abbrev second : List Call
  second = accepted h2

  abbrev send : Sender TemplateStructure
  send = sent (Layered id)

  abbrev format : Format TemplateStructure
  format = format_of id

  abbrev entries1 : List Entry
  entries1 = entries_of i.track first

  abbrev events1 : List Happened
  events1 = timeline_as (Layered id) s entries1

  abbrev run_events : List Happened
  run_events = since ++ WholeFrame k ∷ past

  events_are : events_for s i first ≡ events1
  events_are = ap (λ (kind : Kind). timeline_as kind s entries1) layered1

  laid1 : events1 ≡ later ++ run_events
  laid1 = sym events_are ∙ run.laid

  layered_all : IsLayered (later ++ run_events)
  layered_all = subst IsLayered laid1 (sees_newest format send s entries1).layered

  track1 : IsOneTrack (meanings_of run_events)
  track1 =
      all_tracks (frames_of later) (frames_of run_events)
      (subst (λ (l : List (Frame TemplateStructure)). IsOneTrack (map meaning_of l)) (ap frames_of laid1 ∙ frames_of-append later run_events) (timeline_track format send s entries1 (formats_read id)).numbers)

  known : AllByRecursion (IsKnown format k.meaning.epoch (frames_after format (items_of entries1))) (frames_of run_events)
  known =
      behind (frames_of later) (subst (AllByRecursion (IsKnown format k.meaning.epoch (frames_after format (items_of entries1)))) (ap frames_of laid1 ∙ frames_of-append later run_events)
      (frames_known id s k.meaning.epoch entries1 run.no_mask))
    where
      behind : (frames : List (Frame TemplateStructure)) → AllByRecursion (IsKnown format k.meaning.epoch (frames_after format (items_of entries1))) (frames ++ frames_of run_events)
          → AllByRecursion (IsKnown format k.meaning.epoch (frames_after format (items_of entries1))) (frames_of run_events)
      behind [] h = h
      behind (x ∷ frames) h = behind frames h.1

  still_open : (standing i.wish run_events).target ≡ Open target k.meaning.number
  still_open = left_targets_stay i.wish (Open target k.meaning.number) since (WholeFrame k ∷ past) run.opened run.left_open

  sends : SendsRun id i.wish since past k target
  sends = sends_run id i.wish (frames_after format (items_of entries1)) since past k target known track1 run.key run.passed still_open

  -- ---- the packets taken

  abbrev key_packets : List Packet
  key_packets = send k (candidate_at (standing i.wish past) k.meaning)

  abbrev other_packets : List Packet
  other_packets = sent_since send i.wish since (WholeFrame k ∷ past)

  abbrev before_packets : List Packet
  before_packets = forwarded send i.wish past

  abbrev took : List Packet
  took = taken (sent (kind_of i.track first)) (subscriber_by i) (events_for s i first)

  key_goes_out : forwarded send i.wish (WholeFrame k ∷ past) ≡ before_packets ++ key_packets
  key_goes_out = ap (λ (b : Bool). cond b (before_packets ++ key_packets) before_packets) run.passed

  run_goes_out : forwarded send i.wish run_events ≡ (before_packets ++ key_packets) ++ other_packets
  run_goes_out =
      forwarded_since send i.wish since (WholeFrame k ∷ past) (layered_front since (WholeFrame k ∷ past) (layered_behind later run_events layered_all))
      ∙ ap (λ (l : List Packet). l ++ other_packets) key_goes_out

  took_is : took ≡ take (takes_of events1) (numbered i.first i.ssrc (forwarded send i.wish events1))
  took_is = ap (λ (kind : Kind). taken (sent kind) (subscriber_by i) (timeline_as kind s entries1)) layered1

  laid_out_is : IsLaidOut took i.first i.ssrc before_packets key_packets other_packets
  laid_out_is =
      subst (λ (l : List Packet). IsLaidOut l i.first i.ssrc before_packets key_packets other_packets) (sym took_is)
      (laid_out i.first i.ssrc (takes_of events1) before_packets key_packets other_packets (sent_since send i.wish later run_events) (forwarded send i.wish events1)
      (ap (forwarded send i.wish) laid1 ∙ forwarded_since send i.wish later run_events (layered_front later run_events layered_all)
      ∙ ap (λ (l : List Packet). l ++ sent_since send i.wish later run_events) run_goes_out)
      (subst (λ (l : List Packet). length l ≤ takes_of events1) run_goes_out
      (subst (λ (l : List Happened). length (forwarded send i.wish run_events) ≤ takes_of l) events_are run.taken)))

  gives : GivesInOrder s i first
  gives = gives_in_order first rooms.first (accepted_are h1) s i fed.subscribed

  packets : packets_on t second ≡ map bytes_of took
  packets = fed.packets ∙ gives.is

  joins : HasJoinedAt u t j second
  joins = has_joined_at second (accepted_are h2) u t j is on

  came : CameSince u t j second
  came = came_since second (accepted_are h2) u t j joins (subst AreInOrder (sym fed.packets) gives.order) (subst (AllByRecursion IsSmall) (sym packets) (all_small took gives.all))

  -- ---- the frames that they make on the second track

  abbrev before_out : List Packet
  before_out = numbered i.first i.ssrc before_packets

  abbrev items0 : List Item
  items0 = arrivals before_out []

  abbrev key_out : List Packet
  key_out = numbered (i.first + length before_packets) i.ssrc key_packets

  abbrev items1 : List Item
  items1 = arrivals key_out items0

  abbrev Masks : ℕ → Type 0
  Masks = MasksOf format k.structure target

  key_came : (y : Frame TemplateStructure) × HasComeFor format Masks k.structure (from_key format Masks k.structure k.meaning y.meaning.number) y.meaning.epoch k.meaning y items0 items1
  key_came =
      key_comes format Masks k.structure k.meaning key_out items0
      (numbered_sent format Masks k.structure k.meaning (i.first + length before_packets) i.ssrc key_packets sends.first.sent) run.key

  abbrev again : Frame TemplateStructure
  again = key_came.0

  abbrev by : Shift
  by = from_key format Masks k.structure k.meaning again.meaning.number

  abbrev others_out : List Packet
  others_out = numbered (i.first + length before_packets + length key_packets) i.ssrc other_packets

  abbrev items2 : List Item
  items2 = arrivals others_out items1

  others_came : (ys : List (Frame TemplateStructure)) × HaveComeFor format Masks k.structure by target again.meaning.epoch k.meaning (passed_since i.wish since (WholeFrame k ∷ past)) ys items1 items2
  others_came =
      all_come format Masks k.structure send i.wish by target again.meaning.epoch i.ssrc k past items1 (i.first + length before_packets + length key_packets) since key_came.1.up_to track1 run.near
      sends.others

  all_items : arrivals took [] ≡ arrivals laid_out_is.rest items2
  all_items =
      ap (λ (l : List Packet). arrivals l []) laid_out_is.is
      ∙ arrivals-append before_out (key_out ++ (others_out ++ laid_out_is.rest)) []
      ∙ arrivals-append key_out (others_out ++ laid_out_is.rest) items0
      ∙ arrivals-append others_out laid_out_is.rest items1

  -- the frames of the second track
  all_frames : frames_after format (arrivals took [])
      ≡ frames_since format items2 (arrivals laid_out_is.rest []) ++ (others_came.0 ++ again ∷ frames_after format items0)
  all_frames =
      ap (frames_after format) (all_items ∙ arrivals_behind laid_out_is.rest items2)
      ∙ frames_after-append format (arrivals laid_out_is.rest []) items2
      ∙ ap (λ (l : List (Frame TemplateStructure)). frames_since format items2 (arrivals laid_out_is.rest []) ++ l)
      (others_came.1.frames ∙ ap (λ (l : List (Frame TemplateStructure)). others_came.0 ++ l) key_came.1.frames)

  -- ---- and the frames of u's timeline

  abbrev joined_packets : List Packet
  joined_packets = map packet_of (packets_on t (before_join u second))

  took_again : took ≡ joined_packets ++ map packet_of came.since
  took_again =
      sym (all_back took gives.all) ∙ ap (map packet_of) (sym packets ∙ came.packets)
      ∙ map-append packet_of (packets_on t (before_join u second)) came.since

  length_joined : (packets : List (List ℕ)) → length (map packet_of packets) ≡ length packets
  length_joined [] = refl
  length_joined (x ∷ packets) = ap suc (length_joined packets)

  older_packets : (w : List Packet) × (before_out ≡ joined_packets ++ w)
  older_packets =
      front_of_front joined_packets (map packet_of came.since) before_out (key_out ++ (others_out ++ laid_out_is.rest)) (sym took_again ∙ laid_out_is.is)
      (let a = length_joined (packets_on t (before_join u second)) in let b = length-numbered i.first i.ssrc before_packets in omega (arith, a, b, before))

  older_items : List Item
  older_items = arrivals older_packets.0 []

  older_frames : frames_after format items0 ≡ frames_since format (arrivals joined_packets []) (arrivals older_packets.0 []) ++ frames_after format (arrivals joined_packets [])
  older_frames =
      ap (frames_after format) (ap (λ (l : List Packet). arrivals l []) older_packets.1 ∙ arrivals-append joined_packets older_packets.0 [] ∙ arrivals_behind older_packets.0 (arrivals joined_packets []))
      ∙ frames_after-append format (arrivals older_packets.0 []) (arrivals joined_packets [])

  abbrev laid2 : List Entry
  laid2 = came.joins.since ++ HasJoined u (subscriber_by j) ∷ entries_of t (before_join u second)

  abbrev events2 : List Happened
  events2 = timeline_as (Layered id) u laid2

  events2_are : events_for u j second ≡ events2
  events2_are =
      ap (λ (kind : Kind). timeline_as kind u (entries_of j.track second)) (ap (λ (n : ℕ). kind_of n second) on ∙ kind_is second t p fed.live ∙ layered2)
      ∙ ap (timeline_as (Layered id) u) (ap (λ (n : ℕ). entries_of n second) on ∙ came.joins.laid)

  items_are : items_of (came.joins.since ++ entries_of t (before_join u second)) ≡ arrivals took []
  items_are =
      items_append came.joins.since (entries_of t (before_join u second))
      ∙ sym (items_since came.joins.since (entries_of t (before_join u second)) u (subscriber_by j))
      ∙ sym (ap items_of came.joins.laid)
      ∙ came.all
      ∙ ap (λ (l : List Packet). arrivals l []) (ap (map packet_of) packets ∙ all_back took gives.all)

  abbrev later_frames : List (Frame TemplateStructure)
  later_frames = frames_since format items2 (arrivals laid_out_is.rest [])

  abbrev first_frames : List (Frame TemplateStructure)
  first_frames = frames_since format (arrivals joined_packets []) (arrivals older_packets.0 [])

  frames_are : frames_of events2 ≡ later_frames ++ (others_came.0 ++ again ∷ first_frames)
  frames_are =
      append_cancel_right (frames_of events2) (later_frames ++ (others_came.0 ++ again ∷ first_frames)) (frames_after format (arrivals joined_packets []))
      (ap (λ (l : List Item). frames_of events2 ++ frames_after format l) (sym came.older)
      ∙ have_frames format send u (subscriber_by j) came.joins.since (entries_of t (before_join u second)) came.joins.none
      ∙ ap (frames_after format) items_are
      ∙ all_frames
      ∙ ap (λ (l : List (Frame TemplateStructure)). later_frames ++ (others_came.0 ++ again ∷ l)) older_frames
      ∙ sym (append_assoc later_frames (others_came.0 ++ again ∷ first_frames) (frames_after format (arrivals joined_packets []))
      ∙ ap (λ (l : List (Frame TemplateStructure)). later_frames ++ l) (append_assoc others_came.0 (again ∷ first_frames) (frames_after format (arrivals joined_packets [])))))

  cut : IsBehind events2 later_frames (others_came.0 ++ again ∷ first_frames)
  cut = behind_frames events2 later_frames (others_came.0 ++ again ∷ first_frames) frames_are

  split : IsSplitAt cut.past others_came.0 again first_frames
  split = split_at cut.past others_came.0 again first_frames cut.older_is

  laid_again : events2 ≡ cut.since ++ (split.since ++ WholeFrame again ∷ split.past)
  laid_again = cut.laid ∙ ap (λ (l : List Happened). cut.since ++ l) split.laid

  track2 : IsOneTrack (meanings_of (WholeFrame again ∷ split.past))
  track2 =
      track_of split.since split.past again
      (all_tracks (frames_of cut.since) (frames_of (split.since ++ WholeFrame again ∷ split.past))
      (subst (λ (l : List (Frame TemplateStructure)). IsOneTrack (map meaning_of l)) (ap frames_of laid_again ∙ frames_of-append cut.since (split.since ++ WholeFrame again ∷ split.past))
      (timeline_track format send u laid2 (formats_read id)).numbers))

  others_again : AreHandedOn by target again.meaning.epoch (passed_since i.wish since (WholeFrame k ∷ past)) (frames_of split.since)
  others_again = subst (AreHandedOn by target again.meaning.epoch (passed_since i.wish since (WholeFrame k ∷ past))) (sym split.newer_is) others_came.1.handed_on

  masked : IsMaskedFor target k.meaning again.meaning
  masked = sends.first.masked again.meaning key_came.1.masked

  pass : HasWishAndCapacity j.wish now split.since split.past again → PassesAgain i.wish j.wish now since past split.since split.past k again target by
  pass h =
      let r : PassesOn by target now i.wish since past k j.wish split.since split.past again = handed_on_frames_pass by target now i.wish since past k j.wish split.since split.past again (record {
        track = track1;
        second_track = track2;
        key = run.key;
        passed = run.passed;
        stays = still_open;
        wish_is = run.wish_is;
        wish_stays = run.wish_stays;
        second_wish_is = h.wish_is;
        second_wish_stays = h.wish_stays;
        first = key_came.1.relayed;
        first_masked = masked;
        others = others_again;
        first_has_capacity = h.first_has_capacity;
        others_have_capacity = h.others_have_capacity;
      }) in
      record { first = r.first; others = r.others; alike = r.alike }

  pub run_goes_on : RunsOn i.wish now since past k target j.wish (events_for u j (accepted h2))
  run_goes_on = record {
    later = cut.since;
    second_since = split.since;
    second_past = split.past;
    again = again;
    by = by;
    run = record { laid = events2_are ∙ laid_again; first = key_came.1.relayed; first_masked = masked; others = others_again };
    pass = pass;
  }
