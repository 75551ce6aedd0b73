-- In every cascade no packet of a feed is refused, so that both tracks of the second room are fed, and no packet finds a full queue.
use Rattle.std.proofs.Common.{◌≡◌, ◌+◌, ◌*◌, ◌<◌, ◌≤◌, ◌^◌, ℕ, zero, suc, arith, Bool, true, List, [], ◌∷◌, ◌++◌, length, length-append, fold, map, take, refl, sym, ap, subst, ◌∙◌, Option, None, Some}
use Rattle.std.specs.List.{AllByRecursion}
use Rattle.std.proofs.lemmas.Bool.{lt-ltb}
use Rattle.std.proofs.lemmas.List.{take-map}
use Rattle.sfu_base.specs.Answer.{Answer, Done, Sent}
use Rattle.sfu_base.specs.declared.call.Call.{Call}
use Rattle.sfu_base.specs.declared.call.Call.TheVariants as call
use Rattle.sfu_base.specs.declared.call.Kind.{Kind}
use Rattle.sfu_base.specs.declared.call.Kind.TheVariants.{Layered, Plain}
use Rattle.sfu_base.specs.declared.frame.Wish.{Wish}
use Rattle.rtp_packet.specs.Fields.{sequence_of}
use Rattle.rtp_packet.specs.Faults.{first_fault}
use Rattle.reorder_window.specs.Events.{Arrives, Ticks}
use Rattle.forwarding_model.specs.forwarding.Timeline.{Packet, takes_of}
use Rattle.forwarding_model.specs.forwarding.Timeline.Event.{PlainPacket}
use Rattle.forwarding_model.specs.forwarding.Standing.{after_plain, standing}
use Rattle.forwarding_model.specs.frames.Frames.{Item}
use Rattle.forwarding_model.specs.frames.Frames.Item.{Arrived}
use Rattle.forwarding_model.specs.History.Entry.{Released, Asked}
use Rattle.forwarding_laws.proofs.Plains.{queues_are_short}
use Rattle.forwarding_model.specs.forwarding.Outgoing.{outgoing, taken}
use Rattle.packet_format.specs.Formats.{format_of as format_at}
use Rattle.packet_format.specs.Packets.{bytes_of, packet_of, read_packet}
use Rattle.room_core.specs.Follows.{Happened}
use Rattle.room_core.specs.Formats.{format_of}
use Rattle.room_core.specs.Given.{given_to}
use Rattle.room_core.specs.History.{is_accepted}
use Rattle.room_core.specs.Live.{Joined, Published, is_on, joined, kind_of, published}
use Rattle.room_core.specs.Replies.{answer}
use Rattle.room_core.specs.Sent.{sent}
use Rattle.room_core.specs.SentBytes.{going_out}
use Rattle.room_core.specs.TrackHistory.{and_where, entries_of, released}
use Rattle.room_core.specs.Views.{events_for, standing_of, subscriber_by, timeline_as}
use Rattle.room_core.proofs.Giving.{given_is}
use Rattle.room_core.proofs.WellFormed.{well_formed_after}
use Rattle.stream_maker.specs.declared.event.Event.{Event}
use Rattle.stream_maker.specs.declared.event.Event.TheVariants as event
use Rattle.stream_maker.specs.declared.place.Place.{Place}
use Rattle.stream_maker.specs.Bytes.{packet_bytes}
use Rattle.stream_maker.specs.Stream.{Stream, events}
use Rattle.stream_maker.specs.Turn.{Given}
use Rattle.strict_receiver.specs.Receivers.{complaint_over}
use Rattle.cascade.specs.Calls.{Both, after_packet, after_tick, all_fed, and_call, fed_on, if_done, if_sent, opened, taken_on, ticked_first, ticked_second, wish_for}
use Rattle.cascade.specs.Cascades.{FindRoom}
use Rattle.cascade.specs.Fed.{IsFed, before_join, packets_on}
use Rattle.cascade.specs.Summary.{after_event, after_given, cascade_calls}
use Rattle.cascade.specs.Whole.{FeedsAll, joined_as}
use Rattle.cascade.proofs.Accepting.{IsShort, Moves, moves, tick_quiet}
use Rattle.cascade.proofs.EveryCascade.{by_answer, well_in_front}
use Rattle.cascade.proofs.Fronts.{first_please}
use Rattle.cascade.proofs.Moving.{none_waits, takes_waiting}
use Rattle.cascade.proofs.Plainly.{AreCalls, goes_on}
use Rattle.cascade.proofs.StreamSizes.{made_short, tick_count, ticks_few, ticks_in}

-- ---- the subscribers

abbrev to_layered : Joined
to_layered = joined_as 1 0x22222222 (wish_for 1 1)

abbrev to_plain : Joined
to_plain = joined_as 1 0x22222223 (wish_for 1 1)

abbrev third : Joined
third = joined_as 2 0x33333335 (wish_for 0 0)

abbrev layered_track : Published
layered_track = record { kind = Layered 4; ssrc = 0x22222222; hold = 50 }

abbrev plain_track : Published
plain_track = record { kind = Plain; ssrc = 0x22222223; hold = 50 }

abbrev seen_by_third : List Call → List Happened
seen_by_third past = events_for 3 third past

abbrev waiting_for_third : List Call → ℕ
waiting_for_third past = (standing_of 3 third past).queued

-- the first room, and the second
record IsFirst (past : List Call) : Type 0 where
  calls : AreCalls past
  kind_is : kind_of 1 past ≡ Layered 4
  layered : joined 1 past ≡ Some to_layered
  plain : joined 2 past ≡ Some to_plain
  short : AllByRecursion IsShort (packets_on 1 past)

record IsSecond (past : List Call) : Type 0 where
  calls : AreCalls past
  kind_is : kind_of 2 past ≡ Plain
  layered : published 1 past ≡ Some layered_track
  plain : published 2 past ≡ Some plain_track
  one : joined 1 past ≡ Some (joined_as 1 0x33333333 (wish_for 1 1))
  two : joined 2 past ≡ Some (joined_as 1 0x33333334 (wish_for 0 0))
  three : joined 3 past ≡ Some third
  before : packets_on 2 (before_join 3 past) ≡ []

-- Both tracks are fed. At most this number of packets were given to both subscribers
-- of the first room, and are queued for the third subscriber of the second.
record AreBetween (most1 most2 waits : ℕ) (first second : List Call) : Type 0 where
  layered : packets_on 1 second ≡ given_to 1 first
  plain : packets_on 2 second ≡ given_to 2 first
  room : FindRoom (wish_for 0 0) (seen_by_third second)
  few1 : length (given_to 1 first) ≤ most1
  few2 : length (given_to 2 first) ≤ most2
  waiting : waiting_for_third second ≤ waits

record Hold (most1 most2 waits : ℕ) (first second : List Call) : Type 0 where
  is_first : IsFirst first
  is_second : IsSecond second
  between : AreBetween most1 most2 waits first second

abbrev HoldOf : ℕ → ℕ → ℕ → Both → Type 0
HoldOf most1 most2 waits both = Hold most1 most2 waits both.first both.second

weaker : (a b w a' b' w' : ℕ) (first second : List Call) → Hold a b w first second → a ≤ a' → b ≤ b' → w ≤ w' → Hold a' b' w' first second
weaker a b w a' b' w' first second h la lb lw = record {
  is_first = h.is_first;
  is_second = h.is_second;
  between = record {
    layered = h.between.layered;
    plain = h.between.plain;
    room = h.between.room;
    few1 = let x = h.between.few1 in omega (arith, x, la);
    few2 = let x = h.between.few2 in omega (arith, x, lb);
    waiting = let x = h.between.waiting in omega (arith, x, lw);
  };
}

-- ---- the facts about a room that one call preserves

first_takes : (n : ℕ) (past : List Call) → is_accepted (answer past (call.Take n)) ≡ true → IsFirst past → IsFirst (call.Take n ∷ past)
first_takes n past e h = record { calls = record { well = (tt, h.calls.well); all = (e, h.calls.all) }; kind_is = h.kind_is; layered = h.layered; plain = h.plain; short = h.short }

second_takes : (n : ℕ) (past : List Call) → is_accepted (answer past (call.Take n)) ≡ true → IsSecond past → IsSecond (call.Take n ∷ past)
second_takes n past e h = record {
  calls = record { well = (tt, h.calls.well); all = (e, h.calls.all) };
  kind_is = h.kind_is;
  layered = h.layered;
  plain = h.plain;
  one = h.one;
  two = h.two;
  three = h.three;
  before = h.before;
}

second_ticks : (t m : ℕ) (past : List Call) → is_accepted (answer past (call.Tick t m)) ≡ true → IsSecond past → IsSecond (call.Tick t m ∷ past)
second_ticks t m past e h = record {
  calls = record { well = (tt, h.calls.well); all = (e, h.calls.all) };
  kind_is = h.kind_is;
  layered = h.layered;
  plain = h.plain;
  one = h.one;
  two = h.two;
  three = h.three;
  before = h.before;
}

second_packet : (t m : ℕ) (bytes : List ℕ) (past : List Call) → first_fault bytes ≡ None → answer past (call.Packet t m bytes) ≡ Done → IsSecond past
    → IsSecond (call.Packet t m bytes ∷ past)
second_packet t m bytes past reads e h = record {
  calls = record { well = (reads, h.calls.well); all = (ap is_accepted e, h.calls.all) };
  kind_is = h.kind_is;
  layered = h.layered;
  plain = h.plain;
  one = h.one;
  two = h.two;
  three = h.three;
  before = h.before;
}

-- ---- the third subscriber's timeline

packet_seen : (m : ℕ) (bytes : List ℕ) (p : Packet) (past : List Call) → kind_of 2 past ≡ Plain → released 2 past (Arrives (sequence_of bytes) m bytes) ≡ Arrived p ∷ []
    → seen_by_third (call.Packet 2 m bytes ∷ past) ≡ PlainPacket p ∷ seen_by_third past
packet_seen m bytes p past kind rel =
    ap (λ (k : Kind). timeline_as k 3 (Released (released 2 past (Arrives (sequence_of bytes) m bytes)) ∷ entries_of 2 past)) kind
    ∙ ap (λ (items : List Item). timeline_as Plain 3 (Released items ∷ entries_of 2 past)) rel
    ∙ sym (ap (λ (k : Kind). PlainPacket p ∷ timeline_as k 3 (entries_of 2 past)) kind)

tick_seen : (m : ℕ) (past : List Call) → kind_of 2 past ≡ Plain → released 2 past (Ticks m) ≡ [] → seen_by_third (call.Tick 2 m ∷ past) ≡ seen_by_third past
tick_seen m past kind rel =
    ap (λ (k : Kind). timeline_as k 3 (Released (released 2 past (Ticks m)) ∷ entries_of 2 past)) kind
    ∙ ap (λ (items : List Item). timeline_as Plain 3 (Released items ∷ entries_of 2 past)) rel
    ∙ sym (ap (λ (k : Kind). timeline_as k 3 (entries_of 2 past)) kind)

-- takes of another subscriber, which is on track 1
other_take_seen : (n ssrc : ℕ) (wish : Wish) (past : List Call) → joined n past ≡ Some (joined_as 1 ssrc wish) → seen_by_third (call.Take n ∷ past) ≡ seen_by_third past
other_take_seen n ssrc wish past is = ap (λ (o : Option Joined). timeline_as (kind_of 2 past) 3 (and_where (is_on 2 o) (Asked n) (entries_of 2 past))) is

packet_waits : (wish : Wish) (p : Packet) (past : List Happened) → (standing wish past).queued < 512 → (standing wish (PlainPacket p ∷ past)).queued ≡ (standing wish past).queued + 1
packet_waits wish p past low = ap (λ (b : Bool). (after_plain b (standing wish past)).queued) (lt-ltb (standing wish past).queued 512 low)

-- ---- feeds

-- a packet for the layered track
one_for_layered : (a b m : ℕ) (first second : List Call) (bytes : List ℕ) → Hold a b 0 first second → a + 65536 < 2 ^ 46 → answer first (call.Take 1) ≡ Sent bytes
    → (answer second (call.Packet 1 m bytes) ≡ Done) × Hold (a + 1) b 0 (call.Take 1 ∷ first) (call.Packet 1 m bytes ∷ second)
one_for_layered a b m first second bytes h low e = (
  v.takes.done,
  record {
    is_first = first_takes 1 first (ap is_accepted e) h.is_first;
    is_second = second_packet 1 m bytes second v.reads v.takes.done h.is_second;
    between = record {
      layered = ap (λ (l : List (List ℕ)). l ++ bytes ∷ []) h.between.layered ∙ sym v.given;
      plain = h.between.plain;
      room = h.between.room;
      few1 = let few = h.between.few1 in let is = ap length v.given in omega (arith, few, is, length-append (given_to 1 first) (bytes ∷ []));
      few2 = h.between.few2;
      waiting = h.between.waiting;
    };
  },
)
  where
    v : Moves first second 1 1 m bytes
    v = moves first second h.is_first.calls h.is_second.calls 1 1 4 to_layered layered_track h.is_first.layered h.is_first.kind_is h.is_first.short h.is_second.layered refl
        h.between.layered (let few = h.between.few1 in omega (arith, few, low)) m bytes e

feed_layered : (count a b m : ℕ) (first second : List Call) → Hold a b 0 first second → a + count + 65536 < 2 ^ 46
    → HoldOf (a + count) b 0 (fed_on count 1 1 m (record { first = first; second = second }))
unfolding fed_on
feed_layered zero a b m first second h low = weaker a b 0 (a + 0) b 0 first second h (omega arith) (omega arith) (omega arith)
feed_layered (suc count) a b m first second h low =
    go (answer first (call.Take 1)) refl
    (λ bytes next. feed_layered count (a + 1) b m (call.Take 1 ∷ first) (call.Packet 1 m bytes ∷ second) next (omega (arith, low)))
  where
    moved : List ℕ → Both
    moved bytes = fed_on count 1 1 m (record { first = call.Take 1 ∷ first; second = call.Packet 1 m bytes ∷ second })

    go : (x : Answer) → answer first (call.Take 1) ≡ x
        → ((bytes : List ℕ) → Hold (a + 1) b 0 (call.Take 1 ∷ first) (call.Packet 1 m bytes ∷ second) → HoldOf (a + 1 + count) b 0 (moved bytes))
        → HoldOf (a + suc count) b 0 (if_sent x (λ bytes. if_done (answer second (call.Packet 1 m bytes)) (moved bytes) (record { first = call.Take 1 ∷ first; second = second }))
        (record { first = first; second = second }))
    go (Sent bytes) e on =
        let one = one_for_layered a b m first second bytes h (omega (arith, low)) e in
        subst (λ (x : Answer). HoldOf (a + suc count) b 0 (if_done x (moved bytes) (record { first = call.Take 1 ∷ first; second = second }))) (sym one.0)
        (weaker (a + 1 + count) b 0 (a + suc count) b 0 (moved bytes).first (moved bytes).second (on bytes one.1) (omega arith) (omega arith) (omega arith))
    go other e on = weaker a b 0 (a + suc count) b 0 first second h (omega arith) (omega arith) (omega arith)

abbrev waiting_for_feed : List Call → ℕ
waiting_for_feed past = (standing_of 2 to_plain past).queued

-- A packet for the plain track. The packets queued for subscriber 2 of the first room and for subscriber 3 of the second are 512 together.
one_for_plain : (a b m : ℕ) (first second : List Call) (bytes : List ℕ) → Hold a b 512 first second → waiting_for_third second + waiting_for_feed first ≤ 512
    → b + 65536 < 2 ^ 46 → answer first (call.Take 2) ≡ Sent bytes
    → (answer second (call.Packet 2 m bytes) ≡ Done) × Hold a (b + 1) 512 (call.Take 2 ∷ first) (call.Packet 2 m bytes ∷ second)
    × (waiting_for_third (call.Packet 2 m bytes ∷ second) + waiting_for_feed (call.Take 2 ∷ first) ≤ 512)
one_for_plain a b m first second bytes h together low e = (
  v.takes.done,
  record {
    is_first = first_takes 2 first (ap is_accepted e) h.is_first;
    is_second = second_packet 2 m bytes second v.reads v.takes.done h.is_second;
    between = record {
      layered = h.between.layered;
      plain = ap (λ (l : List (List ℕ)). l ++ bytes ∷ []) h.between.plain ∙ sym v.given;
      room = subst (FindRoom (wish_for 0 0)) (sym seen) (less, h.between.room);
      few1 = h.between.few1;
      few2 = let few = h.between.few2 in let is = ap length v.given in omega (arith, few, is, length-append (given_to 2 first) (bytes ∷ []));
      waiting = omega (arith, now, less);
    };
  },
  omega (arith, now, lowers, together),
)
  where
    v : Moves first second 2 2 m bytes
    v = moves first second h.is_first.calls h.is_second.calls 2 2 4 to_plain plain_track h.is_first.plain h.is_first.kind_is h.is_first.short h.is_second.plain refl
        h.between.plain (let few = h.between.few2 in omega (arith, few, low)) m bytes e

    seen : seen_by_third (call.Packet 2 m bytes ∷ second) ≡ PlainPacket (packet_of bytes) ∷ seen_by_third second
    seen = packet_seen m bytes (packet_of bytes) second h.is_second.kind_is v.takes.releases

    lowers : waiting_for_feed (call.Take 2 ∷ first) + 1 ≡ waiting_for_feed first
    lowers = (takes_waiting first h.is_first.calls.all 2 to_plain bytes h.is_first.plain e).lowers

    less : waiting_for_third second < 512
    less = omega (arith, together, lowers)

    now : waiting_for_third (call.Packet 2 m bytes ∷ second) ≡ waiting_for_third second + 1
    now = ap (λ (l : List Happened). (standing (wish_for 0 0) l).queued) seen ∙ packet_waits (wish_for 0 0) (packet_of bytes) (seen_by_third second) less

feed_plain : (count a b m : ℕ) (first second : List Call) → Hold a b 512 first second → waiting_for_third second + waiting_for_feed first ≤ 512 → b + count + 65536 < 2 ^ 46
    → HoldOf a (b + count) 512 (fed_on count 2 2 m (record { first = first; second = second }))
unfolding fed_on
feed_plain zero a b m first second h together low = weaker a b 512 a (b + 0) 512 first second h (omega arith) (omega arith) (omega arith)
feed_plain (suc count) a b m first second h together low =
    go (answer first (call.Take 2)) refl
    (λ bytes next less. feed_plain count a (b + 1) m (call.Take 2 ∷ first) (call.Packet 2 m bytes ∷ second) next less (omega (arith, low)))
  where
    moved : List ℕ → Both
    moved bytes = fed_on count 2 2 m (record { first = call.Take 2 ∷ first; second = call.Packet 2 m bytes ∷ second })

    go : (x : Answer) → answer first (call.Take 2) ≡ x
        → ((bytes : List ℕ) → Hold a (b + 1) 512 (call.Take 2 ∷ first) (call.Packet 2 m bytes ∷ second)
        → waiting_for_third (call.Packet 2 m bytes ∷ second) + waiting_for_feed (call.Take 2 ∷ first) ≤ 512 → HoldOf a (b + 1 + count) 512 (moved bytes))
        → HoldOf a (b + suc count) 512 (if_sent x (λ bytes. if_done (answer second (call.Packet 2 m bytes)) (moved bytes) (record { first = call.Take 2 ∷ first; second = second }))
        (record { first = first; second = second }))
    go (Sent bytes) e on =
        let one = one_for_plain a b m first second bytes h together (omega (arith, low)) e in
        subst (λ (x : Answer). HoldOf a (b + suc count) 512 (if_done x (moved bytes) (record { first = call.Take 2 ∷ first; second = second }))) (sym one.0)
        (weaker a (b + 1 + count) 512 a (b + suc count) 512 (moved bytes).first (moved bytes).second (on bytes one.1 one.2) (omega arith) (omega arith) (omega arith))
    go other e on = weaker a b 512 a (b + suc count) 512 first second h (omega arith) (omega arith) (omega arith)

-- ---- packets and ticks

packet_holds : (a b m : ℕ) (p : Place) (both : Both) → HoldOf a b 0 both → HoldOf a b 0 (after_packet m (packet_bytes p) both)
unfolding after_packet
packet_holds a b m p both h =
    by_answer (λ (past : List Call). Hold a b 0 past both.second) both.first (call.Packet 1 m (packet_bytes p)) comes h
  where
    comes : is_accepted (answer both.first (call.Packet 1 m (packet_bytes p))) ≡ true → Hold a b 0 (call.Packet 1 m (packet_bytes p) ∷ both.first) both.second
    comes e = record {
      is_first = record {
        calls = record {
          well = well_in_front both.first (call.Packet 1 m (packet_bytes p)) e (well_formed_after both.first (call.Packet 1 m (packet_bytes p)) tt h.is_first.calls.well);
          all = (e, h.is_first.calls.all);
        };
        kind_is = h.is_first.kind_is;
        layered = h.is_first.layered;
        plain = h.is_first.plain;
        short = one_more (packets_on 1 both.first) h.is_first.short;
      };
      is_second = h.is_second;
      between = record {
        layered = h.between.layered;
        plain = h.between.plain;
        room = h.between.room;
        few1 = h.between.few1;
        few2 = h.between.few2;
        waiting = h.between.waiting;
      };
    }
      where
        one_more : (came : List (List ℕ)) → AllByRecursion IsShort came → AllByRecursion IsShort (came ++ packet_bytes p ∷ [])
        one_more [] all = (made_short p, tt)
        one_more (x ∷ came) all = (all.0, one_more came all.1)

first_ticked : (a b m : ℕ) (both : Both) → HoldOf a b 0 both → HoldOf a b 0 (ticked_first m both)
first_ticked a b m both h =
    by_answer (λ (past : List Call). Hold a b 0 past both.second) both.first (call.Tick 1 m)
    (λ e. record {
      is_first = record {
        calls = record { well = (tt, h.is_first.calls.well); all = (e, h.is_first.calls.all) };
        kind_is = h.is_first.kind_is;
        layered = h.is_first.layered;
        plain = h.is_first.plain;
        short = h.is_first.short;
      };
      is_second = h.is_second;
      between = record {
        layered = h.between.layered;
        plain = h.between.plain;
        room = h.between.room;
        few1 = h.between.few1;
        few2 = h.between.few2;
        waiting = h.between.waiting;
      };
    }) h

-- a call of the second room that changes neither track, nor what the third subscriber sees
same_between : (a b w : ℕ) (first past next : List Call) → AreBetween a b w first past → packets_on 1 next ≡ packets_on 1 past → packets_on 2 next ≡ packets_on 2 past
    → seen_by_third next ≡ seen_by_third past → AreBetween a b w first next
same_between a b w first past next h one two seen = record {
  layered = one ∙ h.layered;
  plain = two ∙ h.plain;
  room = subst (FindRoom (wish_for 0 0)) (sym seen) h.room;
  few1 = h.few1;
  few2 = h.few2;
  waiting = subst (λ (l : List Happened). (standing (wish_for 0 0) l).queued ≤ w) (sym seen) h.waiting;
}

second_ticked : (a b m : ℕ) (both : Both) → HoldOf a b 512 both → b + 65536 < 2 ^ 46 → HoldOf a b 512 (ticked_second m both)
second_ticked a b m both h low =
    by_answer (λ (past : List Call). Hold a b 512 both.first past) (and_call both.second (call.Tick 1 m)) (call.Tick 2 m)
    (λ e. record {
      is_first = one.is_first;
      is_second = second_ticks 2 m (and_call both.second (call.Tick 1 m)) e one.is_second;
      between = same_between a b 512 both.first (and_call both.second (call.Tick 1 m)) (call.Tick 2 m ∷ and_call both.second (call.Tick 1 m)) one.between refl refl
          (tick_seen m (and_call both.second (call.Tick 1 m)) one.is_second.kind_is quiet);
    }) one
  where
    one : Hold a b 512 both.first (and_call both.second (call.Tick 1 m))
    one =
        by_answer (λ (past : List Call). Hold a b 512 both.first past) both.second (call.Tick 1 m)
        (λ e. record {
          is_first = h.is_first;
          is_second = second_ticks 1 m both.second e h.is_second;
          between = same_between a b 512 both.first both.second (call.Tick 1 m ∷ both.second) h.between refl refl refl;
        }) h

    quiet : released 2 (and_call both.second (call.Tick 1 m)) (Ticks m) ≡ []
    quiet =
        tick_quiet both.first (and_call both.second (call.Tick 1 m)) one.is_first.calls one.is_second.calls 2 2 4 to_plain plain_track one.is_first.plain one.is_first.kind_is
        one.is_first.short one.is_second.plain refl one.between.plain (let few = one.between.few2 in omega (arith, few, low)) m

-- ---- takes

others_take : (count n ssrc a b w : ℕ) (wish : Wish) (first past : List Call) → ((past : List Call) → IsSecond past → joined n past ≡ Some (joined_as 1 ssrc wish))
    → Hold a b w first past → Hold a b w first (taken_on count n past)
unfolding taken_on
others_take zero n ssrc a b w wish first past is h = h
others_take (suc count) n ssrc a b w wish first past is h = go (answer past (call.Take n)) refl (λ next. others_take count n ssrc a b w wish first (call.Take n ∷ past) is next)
  where
    go : (x : Answer) → answer past (call.Take n) ≡ x → (Hold a b w first (call.Take n ∷ past) → Hold a b w first (taken_on count n (call.Take n ∷ past)))
        → Hold a b w first (if_sent x (λ bytes. taken_on count n (call.Take n ∷ past)) past)
    go (Sent bytes) e on = on (record {
      is_first = h.is_first;
      is_second = second_takes n past (ap is_accepted e) h.is_second;
      between = same_between a b w first past (call.Take n ∷ past) h.between refl refl (other_take_seen n ssrc wish past (is past h.is_second));
    })
    go other e on = h

third_takes : (count a b : ℕ) (first past : List Call) → Hold a b 512 first past → waiting_for_third past < count → Hold a b 0 first (taken_on count 3 past)
unfolding taken_on
third_takes zero a b first past h few = absurd (omega (arith, few))
third_takes (suc count) a b first past h few =
    go (answer past (call.Take 3)) refl (λ bytes e next less. third_takes count a b first (call.Take 3 ∷ past) next less)
  where
    empty : waiting_for_third past ≡ 0 → Hold a b 0 first past
    empty none = record {
      is_first = h.is_first;
      is_second = h.is_second;
      between = record {
        layered = h.between.layered;
        plain = h.between.plain;
        room = h.between.room;
        few1 = h.between.few1;
        few2 = h.between.few2;
        waiting = omega (arith, none);
      };
    }

    go : (x : Answer) → answer past (call.Take 3) ≡ x
        → ((bytes : List ℕ) → answer past (call.Take 3) ≡ Sent bytes → Hold a b 512 first (call.Take 3 ∷ past) → waiting_for_third (call.Take 3 ∷ past) < count
        → Hold a b 0 first (taken_on count 3 (call.Take 3 ∷ past)))
        → Hold a b 0 first (if_sent x (λ bytes. taken_on count 3 (call.Take 3 ∷ past)) past)
    go (Sent bytes) e on =
        let w = takes_waiting past h.is_second.calls.all 3 third bytes h.is_second.three e in
        let lowers = w.lowers in
        let was = h.between.waiting in
        on bytes e
        (record {
          is_first = h.is_first;
          is_second = second_takes 3 past (ap is_accepted e) h.is_second;
          between = record {
            layered = h.between.layered;
            plain = h.between.plain;
            room = subst (FindRoom (wish_for 0 0)) (sym w.comes) h.between.room;
            few1 = h.between.few1;
            few2 = h.between.few2;
            waiting = omega (arith, lowers, was);
          };
        })
        (omega (arith, lowers, few))
    go other e on = empty (none_waits past h.is_second.calls.all 3 third h.is_second.three (λ bytes k. let no : other ≡ Sent bytes = sym e ∙ k in cc))

-- ---- a tick, an event, and all events

tick_holds : (a b m : ℕ) (both : Both) → HoldOf a b 0 both → a + 70000 < 2 ^ 46 → b + 70000 < 2 ^ 46 → HoldOf (a + 513) (b + 513) 0 (after_tick m both)
unfolding after_tick
tick_holds a b m both h low1 low2 =
    let first = first_ticked a b m both h in
    let once = feed_layered 513 a b m _ _ first (omega (arith, low1)) in
    let begun = weaker (a + 513) b 0 (a + 513) b 512 _ _ once (omega arith) (omega arith) (omega arith) in
    let none = once.between.waiting in
    let short = queues_are_short (wish_for 1 1) (events_for 2 to_plain (all_fed 1 1 m (ticked_first m both)).first) in
    let twice = feed_plain 513 (a + 513) b m _ _ begun (omega (arith, none, short)) (omega (arith, low2)) in
    let ticked = second_ticked (a + 513) (b + 513) m (all_fed 2 2 m (all_fed 1 1 m (ticked_first m both))) twice (omega (arith, low2)) in
    let one = others_take 513 1 0x33333333 (a + 513) (b + 513) 512 (wish_for 1 1) _ _ (λ past s. s.one) ticked in
    let two = others_take 513 2 0x33333334 (a + 513) (b + 513) 512 (wish_for 0 0) _ _ (λ past s. s.two) one in
    let full = two.between.waiting in
    third_takes 513 (a + 513) (b + 513) _ _ two (omega (arith, full))

-- only ticks return anything
event_holds : (a b : ℕ) (both : Both) (e : Event) (place : Option Place) → HoldOf a b 0 both → a + 70000 < 2 ^ 46 → b + 70000 < 2 ^ 46
    → HoldOf (a + 513 * ticks_in e) (b + 513 * ticks_in e) 0 (after_event both e place)
unfolding after_event
event_holds a b both (event.Packet moment) None h low1 low2 = weaker a b 0 (a + 513 * 0) (b + 513 * 0) 0 both.first both.second h (omega arith) (omega arith) (omega arith)
event_holds a b both (event.Packet moment) (Some p) h low1 low2 =
    weaker a b 0 (a + 513 * 0) (b + 513 * 0) 0 _ _ (packet_holds a b moment p both h) (omega arith) (omega arith) (omega arith)
event_holds a b both (event.Tick moment) place h low1 low2 = tick_holds a b moment both h low1 low2
event_holds a b both event.End place h low1 low2 = weaker a b 0 (a + 513 * 0) (b + 513 * 0) 0 both.first both.second h (omega arith) (omega arith) (omega arith)

all_hold : (gs : List Given) (a : ℕ) (both : Both) → HoldOf a a 0 both → a + 513 * tick_count gs + 70000 < 2 ^ 46
    → HoldOf (a + 513 * tick_count gs) (a + 513 * tick_count gs) 0 (fold after_given both gs)
all_hold [] a both h low = weaker a a 0 (a + 513 * 0) (a + 513 * 0) 0 both.first both.second h (omega arith) (omega arith) (omega arith)
all_hold (x ∷ gs) a both h low =
    let next : ℕ = a + 513 * ticks_in x.event in
    let one = event_holds a a both x.event x.place h (omega (arith, low)) (omega (arith, low)) in
    let rest = all_hold gs next (after_given both x) one (omega (arith, low)) in
    weaker (next + 513 * tick_count gs) (next + 513 * tick_count gs) 0 (a + 513 * (ticks_in x.event + tick_count gs)) (a + 513 * (ticks_in x.event + tick_count gs)) 0 _ _ rest
    (omega arith) (omega arith) (omega arith)

opened_holds : HoldOf 0 0 0 opened
opened_holds = record {
  is_first = record {
    calls = record { well = (omega arith, (omega arith, (tt, tt))); all = (refl, (refl, (refl, tt))) };
    kind_is = refl;
    layered = refl;
    plain = refl;
    short = tt;
  };
  is_second = record {
    calls = record { well = (omega arith, (omega arith, (omega arith, (tt, (tt, tt))))); all = (refl, (refl, (refl, (refl, (refl, tt))))) };
    kind_is = refl;
    layered = refl;
    plain = refl;
    one = refl;
    two = refl;
    three = refl;
    before = refl;
  };
  between = record { layered = refl; plain = refl; room = tt; few1 = omega arith; few2 = omega arith; waiting = omega arith };
}

-- ---- the law

feeds_all : (a b : ℕ) (first second : List Call) → Hold a b 0 first second → FeedsAll (record { first = first; second = second })
unfolding format_of
feeds_all a b first second h = record {
  fed = record {
    layered = record { subscribed = h.is_first.layered; live = h.is_second.layered; ssrc = refl; packets = h.between.layered };
    plain = fed;
  };
  third = ap (complaint_over 4) third_is ∙ first_please (format_at 4) read_packet (takes_of (seen_by_third second)) (going_out 3 third second) all;
}
  where
    fed : IsFed first 2 to_plain second 2 plain_track
    fed = record { subscribed = h.is_first.plain; live = h.is_second.plain; ssrc = refl; packets = h.between.plain }

    all : complaint_over 4 (going_out 3 third second) ≡ None
    all = (goes_on first second 2 2 3 to_plain third plain_track h.is_first.calls h.is_second.calls fed refl h.is_second.three refl h.between.room).pleases 4 h.is_first.kind_is h.is_second.before

    out : List Packet
    out = outgoing (sent (kind_of 2 second)) (subscriber_by third) (seen_by_third second)

    front : map bytes_of (taken (sent (kind_of 2 second)) (subscriber_by third) (seen_by_third second)) ≡ take (takes_of (seen_by_third second)) (going_out 3 third second)
    front = sym (take-map bytes_of (takes_of (seen_by_third second)) out)

    third_is : given_to 3 second ≡ take (takes_of (seen_by_third second)) (going_out 3 third second)
    third_is = given_is second h.is_second.calls.all 3 third h.is_second.three ∙ front

pub cascades_feed : (s : Stream) → s.frames ≤ 1000000 → FeedsAll (cascade_calls s)
unfolding cascade_calls
cascades_feed s few =
    let ticks = ticks_few s in
    feeds_all (0 + 513 * tick_count (events s)) (0 + 513 * tick_count (events s)) _ _ (all_hold (events s) 0 opened opened_holds (omega (arith, few, ticks)))
