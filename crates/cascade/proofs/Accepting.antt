-- The packets that a subscriber of a layered track was given are accepted, in order,
-- by a track of another room, if the packets that came to the first track are short.
use Rattle.std.proofs.Common.{◌≡◌, ◌+◌, ◌*◌, ◌<◌, ◌≤◌, ◌^◌, ℕ, zero, suc, arith, Bool, true, false, cond, eqb, nat_lt, List, [], ◌∷◌, ◌++◌, length, map, take, refl, sym, ap, subst, ◌∙◌, Option, None, Some, Ok}
use Rattle.std.specs.List.{AllByRecursion}
use Rattle.std.proofs.lemmas.Bool.{cond-false, cond-true, eq-eqb, le-ltb}
use Rattle.sfu_base.specs.Answer.{Done, Sent}
use Rattle.sfu_base.specs.declared.call.Call.{Call}
use Rattle.sfu_base.specs.declared.call.Call.TheVariants as call
use Rattle.sfu_base.specs.declared.call.Kind.TheVariants.{Layered}
use Rattle.sfu_base.specs.declared.call.Refusal.TheVariants as refusal
use Rattle.sfu_base.specs.declared.call.RtpFault.{RtpFault}
use Rattle.rtp_packet.specs.Fields.{sequence_of, ssrc_of}
use Rattle.rtp_packet.specs.Faults.{first_fault}
use Rattle.reorder_window.specs.Events.{Arrives, Ticks}
use Rattle.reorder_window.specs.Order.{judged_sequence}
use Rattle.forwarding_model.specs.Lists.{IsMember}
use Rattle.forwarding_model.specs.forwarding.Timeline.{Packet, takes_of}
use Rattle.forwarding_model.specs.forwarding.Outgoing.{forwarded, numbered, outgoing}
use Rattle.forwarding_model.specs.frames.Frames.{Item}
use Rattle.forwarding_model.specs.frames.Frames.Item.{Missing, Arrived}
use Rattle.forwarding_model.specs.History.{items_of}
use Rattle.forwarding_laws.proofs.Members.{each_member, each_of}
use Rattle.packet_format.specs.Packets.{bytes_of, packet_of}
use Rattle.track_core.specs.Track.{first_refusal, order_refusal, read_refusal}
use Rattle.track_core.proofs.Brought.{ItemHas}
use Rattle.room_core.specs.Follows.{Happened}
use Rattle.room_core.specs.Given.{given_to}
use Rattle.room_core.specs.History.{is_accepted}
use Rattle.room_core.specs.Live.{Joined, Published, hold_of, joined, kind_of, published}
use Rattle.room_core.specs.Replies.{answer, done_or, of_track}
use Rattle.room_core.specs.Sent.{sent}
use Rattle.room_core.specs.SentBytes.{AreInOrder}
use Rattle.room_core.specs.TrackHistory.{entries_of, order_at, released}
use Rattle.room_core.specs.Views.{events_for, subscriber_by}
use Rattle.room_core.specs.WellFormed.{AreWellFormed}
use Rattle.cascade.specs.Fed.{packets_on}
use Rattle.cascade.proofs.InOrder.{in_order_front, next_accepted, next_comes, tick_is_quiet}
use Rattle.cascade.proofs.Layeredly.{CameAs, goes_out_short}
use Rattle.cascade.proofs.Ordered.{IsInOrder, IsSmall, in_order}
use Rattle.cascade.proofs.Plainly.{AreCalls}
use Rattle.cascade.proofs.Released.{CameWith, all_but_last, entries_have, of_last}
use Rattle.cascade.proofs.Standing.{given_more}
use Rattle.cascade.proofs.Taken.{GivesInOrder, IsRtp, IsWhole, gives_in_order}

-- ---- accepted packets are valid RTP

more_read : (b : Bool) (came : List (List ℕ)) (bytes : List ℕ) → first_fault bytes ≡ None → AllByRecursion IsRtp came → AllByRecursion IsRtp (cond b (came ++ bytes ∷ []) came)
more_read true [] bytes reads all = (reads, tt)
more_read true (x ∷ came) bytes reads all = (all.0, more_read true came bytes reads all.1)
more_read false came bytes reads all = all

packets_read : (past : List Call) → AreWellFormed past → (n : ℕ) → AllByRecursion IsRtp (packets_on n past)
packets_read [] all n = tt
packets_read (call.Packet track moment bytes ∷ past) all n = more_read (eqb track n) (packets_on n past) bytes all.0 (packets_read past all.1 n)
packets_read (call.Publish track kind ssrc hold ∷ past) all n = packets_read past all.1 n
packets_read (call.Unpublish track ∷ past) all n = packets_read past all.1 n
packets_read (call.Tick track moment ∷ past) all n = packets_read past all.1 n
packets_read (call.Join subscriber track ssrc first wish ∷ past) all n = packets_read past all.1 n
packets_read (call.Leave subscriber ∷ past) all n = packets_read past all.1 n
packets_read (call.Aim subscriber wish ∷ past) all n = packets_read past all.1 n
packets_read (call.Take subscriber ∷ past) all n = packets_read past all.1 n
packets_read (call.Resend subscriber sequence ∷ past) all n = packets_read past all.1 n
packets_read (call.Missing track ∷ past) all n = packets_read past all.1 n
packets_read (call.KeyWanted track ∷ past) all n = packets_read past all.1 n
packets_read (call.Plead subscriber ∷ past) all n = packets_read past all.1 n
packets_read (call.Why subscriber number ∷ past) all n = packets_read past all.1 n

-- ---- the packets given are short, and come from the subscriber's SSRC

abbrev pub IsShort : List ℕ → Type 0
IsShort bytes = length bytes ≤ 245

pub record IsSound (ssrc : ℕ) (bytes : List ℕ) : Type 0 where
  pub few : length bytes ≤ 1500
  pub reads : first_fault bytes ≡ None
  pub source : ssrc_of bytes ≡ ssrc
  pub small : sequence_of bytes < 65536

abbrev HasSource : ℕ → Packet → Type 0
HasSource ssrc p = p.ssrc ≡ ssrc

numbered_source : (n ssrc : ℕ) (ps : List Packet) → AllByRecursion (HasSource ssrc) (numbered n ssrc ps)
numbered_source n ssrc [] = tt
numbered_source n ssrc (p ∷ ps) = (refl, numbered_source (n + 1) ssrc ps)

front_source : (ssrc k : ℕ) (ps : List Packet) → AllByRecursion (HasSource ssrc) ps → AllByRecursion (HasSource ssrc) (take k ps)
front_source ssrc zero ps all = tt
front_source ssrc (suc k) [] all = tt
front_source ssrc (suc k) (p ∷ ps) all = (all.0, front_source ssrc k ps all.1)

abbrev IsFew : List ℕ → Type 0
IsFew bytes = length bytes ≤ 276 + 4 * 245

front_few : (k : ℕ) (ps : List Packet) → AllByRecursion IsFew (map bytes_of ps) → AllByRecursion IsFew (map bytes_of (take k ps))
front_few zero ps all = tt
front_few (suc k) [] all = tt
front_few (suc k) (p ∷ ps) all = (all.0, front_few k ps all.1)

all_sound : (ssrc : ℕ) (ps : List Packet) → AllByRecursion IsWhole ps → AllByRecursion (HasSource ssrc) ps → AllByRecursion IsFew (map bytes_of ps)
    → AllByRecursion (IsSound ssrc) (map bytes_of ps)
all_sound ssrc [] whole source few = tt
all_sound ssrc (p ∷ ps) whole source few = (
  record {
    few = let h = few.0 in omega (arith, h);
    reads = whole.0.reads;
    source = ap (λ (q : Packet). q.ssrc) whole.0.back ∙ source.0;
    small = whole.0.small;
  },
  all_sound ssrc ps whole.1 source.1 few.1,
)

given_sound : (past : List Call) → AreCalls past → (s id : ℕ) (i : Joined) → joined s past ≡ Some i → kind_of i.track past ≡ Layered id
    → AllByRecursion IsShort (packets_on i.track past) → AllByRecursion (IsSound i.ssrc) (given_to s past)
given_sound past calls s id i is kind short =
    subst (AllByRecursion (IsSound i.ssrc)) (sym gives.is)
    (all_sound i.ssrc (take (takes_of events) out) gives.all (front_source i.ssrc (takes_of events) out (numbered_source i.first i.ssrc (forwarded (sent (kind_of i.track past)) i.wish events)))
    (front_few (takes_of events) out few))
  where
    events : List Happened
    events = events_for s i past

    out : List Packet
    out = outgoing (sent (kind_of i.track past)) (subscriber_by i) events

    gives : GivesInOrder s i past
    gives = gives_in_order past calls.well calls.all s i is

    came : List (List ℕ)
    came = packets_on i.track past

    IsOne : List ℕ → Type 0
    IsOne bytes = IsMember bytes came × IsRtp bytes

    both : (xs : List (List ℕ)) → AllByRecursion (λ bytes. IsMember bytes came) xs → AllByRecursion IsRtp xs → AllByRecursion IsOne xs
    both [] m r = tt
    both (x ∷ xs) m r = ((m.0, r.0), both xs m.1 r.1)

    as_one : (items : List Item) → AllByRecursion (ItemHas (CameWith IsOne)) items → AllByRecursion (ItemHas (CameAs came)) items
    as_one [] all = tt
    as_one (Missing ∷ items) all = (tt, as_one items all.1)
    as_one (Arrived p ∷ items) all = (record { bytes = all.0.bytes; member = all.0.holds.0; reads = all.0.holds.1; is = all.0.is }, as_one items all.1)

    few : AllByRecursion IsFew (map bytes_of out)
    few =
        goes_out_short came past s id i kind
        (as_one (items_of (entries_of i.track past)) (entries_have IsOne past i.track (both came (each_of (λ bytes. IsMember bytes came) came (λ bytes m. m)) (packets_read past calls.well i.track))))
        245 (λ bytes m. each_member IsShort came bytes short m)

-- ---- the next packet is accepted

pub record TakesIn (past : List Call) (t moment : ℕ) (bytes : List ℕ) : Type 0 where
  pub done : answer past (call.Packet t moment bytes) ≡ Done
  pub releases : released t past (Arrives (sequence_of bytes) moment bytes) ≡ Arrived (packet_of bytes) ∷ []

pub takes_in : (past : List Call) → AreCalls past → (t moment : ℕ) (p : Published) (bytes : List ℕ) → published t past ≡ Some p → AreInOrder (packets_on t past ++ bytes ∷ [])
    → AllByRecursion IsSmall (packets_on t past) → IsSound p.ssrc bytes → 65535 + length (packets_on t past) < 2 ^ 46 → TakesIn past t moment bytes
takes_in past calls t moment p bytes live order small sound left = record {
  done = ap (λ (o : Option Published). of_track o (λ p. done_or (first_refusal p.ssrc (order_at t past) bytes))) live ∙ ap done_or none;
  releases = (next_comes (order_at t past) (packets_on t past) moment judged.0 bytes stands.idle order sound.small judged.1).released;
}
  where
    stands : IsInOrder t past
    stands = in_order past calls.all t (in_order_front (packets_on t past) (bytes ∷ []) order) small

    judged : (n : ℕ) × (judged_sequence (order_at t past) (sequence_of bytes) ≡ Ok n)
    judged = next_accepted (order_at t past) (packets_on t past) bytes stands.idle order sound.small (let low = stands.low in omega (arith, low, left))

    none : first_refusal p.ssrc (order_at t past) bytes ≡ None
    none =
        cond-false (nat_lt 1500 (length bytes)) (Some (refusal.TooBig (length bytes))) (read_refusal p.ssrc (order_at t past) (first_fault bytes) bytes) (le-ltb 1500 (length bytes) sound.few)
        ∙ ap (λ (o : Option RtpFault). read_refusal p.ssrc (order_at t past) o bytes) sound.reads
        ∙ cond-true (eqb (ssrc_of bytes) p.ssrc) (order_refusal (judged_sequence (order_at t past) (sequence_of bytes))) (Some (refusal.WrongSsrc (ssrc_of bytes) p.ssrc))
        (eq-eqb (ssrc_of bytes) p.ssrc sound.source)
        ∙ ap order_refusal judged.1

-- ---- and so is the packet of a take, if all packets before it were

all_of_small : (ssrc : ℕ) (xs : List (List ℕ)) → AllByRecursion (IsSound ssrc) xs → AllByRecursion IsSmall xs
all_of_small ssrc [] all = tt
all_of_small ssrc (x ∷ xs) all = (all.0.small, all_of_small ssrc xs all.1)

pub record Moves (first second : List Call) (s t moment : ℕ) (bytes : List ℕ) : Type 0 where
  pub given : given_to s (call.Take s ∷ first) ≡ given_to s first ++ bytes ∷ []
  pub reads : first_fault bytes ≡ None
  pub takes : TakesIn second t moment bytes

module _ (first second : List Call) (calls1 : AreCalls first) (calls2 : AreCalls second) (s t id : ℕ) (i : Joined) (p : Published) (is : joined s first ≡ Some i)
    (kind : kind_of i.track first ≡ Layered id) (short : AllByRecursion IsShort (packets_on i.track first)) (live : published t second ≡ Some p) (same : p.ssrc ≡ i.ssrc)
    (fed : packets_on t second ≡ given_to s first) (left : 65535 + length (given_to s first) < 2 ^ 46) where
  pub moves : (moment : ℕ) (bytes : List ℕ) → answer first (call.Take s) ≡ Sent bytes → Moves first second s t moment bytes
  moves moment bytes e = record {
    given = given;
    reads = sound.reads;
    takes = takes_in second calls2 t moment p bytes live (subst AreInOrder (given ∙ ap (λ (l : List (List ℕ)). l ++ bytes ∷ []) (sym fed)) gives.order)
        (all_of_small i.ssrc (packets_on t second) (subst (AllByRecursion (IsSound i.ssrc)) (sym fed) (all_but_last (IsSound i.ssrc) (given_to s first) (bytes ∷ []) all)))
        (subst (λ (n : ℕ). IsSound n bytes) (sym same) sound) (let few = ap length fed in omega (arith, few, left));
  }
    where
      next : AreCalls (call.Take s ∷ first)
      next = record { well = (tt, calls1.well); all = (ap is_accepted e, calls1.all) }

      given : given_to s (call.Take s ∷ first) ≡ given_to s first ++ bytes ∷ []
      given = given_more s first bytes e

      gives : GivesInOrder s i (call.Take s ∷ first)
      gives = gives_in_order (call.Take s ∷ first) next.well next.all s i is

      all : AllByRecursion (IsSound i.ssrc) (given_to s first ++ bytes ∷ [])
      all = subst (AllByRecursion (IsSound i.ssrc)) given (given_sound (call.Take s ∷ first) next s id i is kind short)

      sound : IsSound i.ssrc bytes
      sound = of_last (IsSound i.ssrc) (given_to s first) bytes all

  -- a tick releases nothing
  pub tick_quiet : (moment : ℕ) → released t second (Ticks moment) ≡ []
  tick_quiet moment =
      (tick_is_quiet (hold_of t second) (order_at t second) (packets_on t second) moment
      (in_order second calls2.all t (subst AreInOrder (sym fed) gives.order)
      (all_of_small i.ssrc (packets_on t second) (subst (AllByRecursion (IsSound i.ssrc)) (sym fed) (given_sound first calls1 s id i is kind short)))).idle).released
    where
      gives : GivesInOrder s i first
      gives = gives_in_order first calls1.well calls1.all s i is
