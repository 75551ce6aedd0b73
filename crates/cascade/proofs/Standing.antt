-- The effect of each call on a cascade of two rooms.
use Rattle.std.proofs.Common.{◌≡◌, ◌⊎◌, inl, inr, ◌+◌, ◌-◌, ◌<◌, ◌≤◌, ℕ, zero, suc, arith, eqb, Bool, true, false, cond, List, [], ◌∷◌, ◌++◌, length, refl, sym, ap, subst, ◌∙◌, append_assoc, true≢false}
use Rattle.std.specs.Prelude.{IsTrue}
use Rattle.std.proofs.lemmas.Bool.{eq-eqb}
use Rattle.std.proofs.lemmas.Grind.{fold-append}
use Rattle.std.proofs.lemmas.List.{append-nil}
use Rattle.sfu_base.specs.Answer.{Answer, Done, Sent, Refused, answer_of, is_starved}
use Rattle.sfu_base.specs.declared.call.Call.{Call}
use Rattle.sfu_base.specs.declared.call.Call.TheVariants as call
use Rattle.sfu_base.specs.declared.call.Refusal.{Refusal}
use Rattle.sfu_base.specs.declared.call.Refusal.TheVariants.{NoMemory}
use Rattle.sfu_base.specs.declared.call.Reply.{Reply}
use Rattle.sfu_base.specs.declared.call.Reply.TheVariants as reply
use Rattle.room_core.specs.declared.recorder.KeepNone.{KeepNone}
use Rattle.room_core.specs.declared.room.Room.{Room}
use Rattle.room_core.specs.Content.{TakesMemory}
use Rattle.room_core.specs.Given.{and_sent, given_to}
use Rattle.room_core.specs.History.{Entry, accepted, after, after_entry, is_accepted, reply_of}
use Rattle.room_core.specs.Replies.{answer}
use Rattle.room_core.specs.Serves.{Serves, Stands}
use Rattle.cascade.specs.Calls.{Both, all_fed, all_taken, and_call, fed_on, if_done, if_sent, taken_on}
use Rattle.cascade.specs.Feeding.{AreMoved, EndsAtPacket, EndsAtTake, Feeds, IsFeed, packet_entry, packets_of, take_entry, takes_of}
use Rattle.cascade.specs.Standing.{StandsAfter, TakesNext, TakesNone, WasFed, unrecorded}
use Rattle.cascade.specs.declared.feeding.Fed.{Fed}
use Rattle.cascade.specs.declared.endpoint.Endpoint.{Endpoint}
use Rattle.cascade.proofs.Keeping.{one_brought, refused_take}
use Rattle.cascade.proofs.Moving.{IsTakeAnswer, moved_at_most, one_taken, take_shape}

-- ---- calls that allocate no memory

pub not_starved : (starved : Bool) (c : Call) → (TakesMemory c → ⊥) → (IsTrue starved → TakesMemory c ⊎ IsTrue false) → starved ≡ false
not_starved false c free cause = refl
not_starved true c free cause = by_cause (cause refl)
  where
    by_cause : TakesMemory c ⊎ IsTrue false → true ≡ false
    by_cause (inl takes_it) = absurd (free takes_it)
    by_cause (inr refuses) = sym refuses

pub stands_after : (old new : Room KeepNone) (c : Call) (r : Reply) (bytes numbers : List ℕ) (past : List Call)
    → Serves unrecorded old new 0 c r bytes numbers → is_starved r ≡ false → StandsAfter old past → StandsAfter new (and_call past c)
stands_after old new c r bytes numbers past serves fed s =
    let entry : Entry = record { seat = 0; call = c; starved = is_starved r } in
    record {
      history = s.history ++ entry ∷ [];
      stands = serves.stands s.history s.stands;
      are =
          fold-append after_entry [] s.history (entry ∷ [])
          ∙ ap (λ (calls : List Call). after_entry calls entry) s.are
          ∙ ap (λ (starved : Bool). cond starved past (and_call past c)) fed;
    }

answered_after : (old new : Room KeepNone) (c : Call) (r : Reply) (bytes numbers : List ℕ) (past : List Call)
    → Serves unrecorded old new 0 c r bytes numbers → is_starved r ≡ false → StandsAfter old past → answer_of r bytes numbers ≡ answer past c
answered_after old new c r bytes numbers past serves fed s = serves.answered s.history s.stands fed ∙ ap (λ (calls : List Call). answer calls c) s.are

-- ---- takes

pub takes_next : (old new : Room KeepNone) (endpoint fed : Endpoint) (n : ℕ) (bytes numbers : List ℕ) (past : List Call)
    → Serves unrecorded old new 0 (call.Take n) reply.Packet bytes numbers → StandsAfter old past
    → ((taken : List (List ℕ)) → WasFed endpoint taken → WasFed fed (taken ++ bytes ∷ [])) → TakesNext endpoint fed new n past
takes_next old new endpoint fed n bytes numbers past serves s feeds =
    let said : answer past (call.Take n) ≡ Sent bytes = sym (answered_after old new (call.Take n) reply.Packet bytes numbers past serves refl s) in
    record {
      bytes = bytes;
      gave = said;
      room_is = subst (StandsAfter new) (ap (λ (a : Answer). after a (call.Take n) past) said) (stands_after old new (call.Take n) reply.Packet bytes numbers past serves refl s);
      fed = feeds;
    }

refused_so : (r : Reply) (bytes numbers : List ℕ) (a : Answer) → (r ≡ reply.Packet → ⊥) → IsTakeAnswer a → answer_of r bytes numbers ≡ a → (why : Refusal) × (a ≡ Refused why)
refused_so reply.Packet bytes numbers a other shape is = absurd (other refl)
refused_so (reply.Refused why) bytes numbers a other shape is = (why, sym is)
refused_so r bytes numbers a other shape is = absurd (subst IsTakeAnswer (sym is) shape)

pub takes_none : (old new : Room KeepNone) (endpoint : Endpoint) (n : ℕ) (r : Reply) (bytes numbers : List ℕ) (past : List Call)
    → Serves unrecorded old new 0 (call.Take n) r bytes numbers → is_starved r ≡ false → (r ≡ reply.Packet → ⊥) → StandsAfter old past → TakesNone endpoint endpoint new n past
takes_none old new endpoint n r bytes numbers past serves fed other s =
    let said = refused_so r bytes numbers (answer past (call.Take n)) other (take_shape past n) (answered_after old new (call.Take n) r bytes numbers past serves fed s) in
    record {
      why = said.0;
      refused = said.1;
      room_is = subst (StandsAfter new) (ap (λ (a : Answer). after a (call.Take n) past) said.1) (stands_after old new (call.Take n) r bytes numbers past serves fed s);
      fed = λ taken was. was;
    }

-- the packet that a take returned is given
pub given_more : (n : ℕ) (past : List Call) (bytes : List ℕ) → answer past (call.Take n) ≡ Sent bytes → given_to n (call.Take n ∷ past) ≡ given_to n past ++ bytes ∷ []
given_more n past bytes gave =
    ap (λ (b : Bool). cond b (and_sent (given_to n past) (answer past (call.Take n))) (given_to n past)) (eq-eqb n n refl) ∙ ap (and_sent (given_to n past)) gave

-- so far these calls were accepted, of all that are made, and the receiver was fed the packets that they returned
pub record HasTaken (count : ℕ) (room : Room KeepNone) (from endpoint : Endpoint) (n : ℕ) (past : List Call) : Type 0 where
  pub now : List Call
  pub room_is : StandsAfter room now
  pub fed : WasFed from (given_to n past) → WasFed endpoint (given_to n now)
  pub all : taken_on (513 - count) n now ≡ taken_on 513 n past

-- all calls were accepted
pub record TookAll (room : Room KeepNone) (from endpoint : Endpoint) (n : ℕ) (past : List Call) : Type 0 where
  pub room_is : StandsAfter room (all_taken n past)
  pub fed : WasFed from (given_to n past) → WasFed endpoint (given_to n (all_taken n past))

pub begins_taking : (room : Room KeepNone) (endpoint : Endpoint) (n : ℕ) (past : List Call) → StandsAfter room past → HasTaken 0 room endpoint endpoint n past
begins_taking room endpoint n past s = record { now = past; room_is = s; fed = λ was. was; all = refl }

pub goes_on_taking : (count : ℕ) (old room : Room KeepNone) (from endpoint next : Endpoint) (n : ℕ) (past : List Call) → count < 513 → HasTaken count old from endpoint n past
    → ((now : List Call) → StandsAfter old now → TakesNext endpoint next room n now) → HasTaken (count + 1) room from next n past
unfolding taken_on
goes_on_taking count old room from endpoint next n past low h takes = record {
  now = call.Take n ∷ h.now;
  room_is = t.room_is;
  fed = λ was. subst (WasFed next) (sym (given_more n h.now t.bytes t.gave)) (t.fed (given_to n h.now) (h.fed was));
  all =
      sym (ap (λ (k : ℕ). taken_on k n h.now) (let e : 513 - count ≡ suc (513 - (count + 1)) = omega arith in e)
      ∙ ap (λ (a : Answer). if_sent a (λ bytes. taken_on (513 - (count + 1)) n (call.Take n ∷ h.now)) h.now) t.gave)
      ∙ h.all;
}
  where
    t : TakesNext endpoint next room n h.now
    t = takes h.now h.room_is

took_all : (room : Room KeepNone) (from endpoint : Endpoint) (n : ℕ) (past now : List Call) → now ≡ all_taken n past → StandsAfter room now → (WasFed from (given_to n past) → WasFed endpoint (given_to n now))
    → TookAll room from endpoint n past
took_all room from endpoint n past now is stands fed =
    record { room_is = subst (StandsAfter room) is stands; fed = λ was. subst (λ (l : List Call). WasFed endpoint (given_to n l)) is (fed was) }

pub ends_taking : (count : ℕ) (old room : Room KeepNone) (from endpoint next : Endpoint) (n : ℕ) (past : List Call) → count < 513 → HasTaken count old from endpoint n past
    → ((now : List Call) → StandsAfter old now → TakesNone endpoint next room n now) → TookAll room from next n past
unfolding taken_on
ends_taking count old room from endpoint next n past low h takes =
    took_all room from next n past h.now
    (sym (ap (λ (k : ℕ). taken_on k n h.now) (let e : 513 - count ≡ suc (512 - count) = omega arith in e)
    ∙ ap (λ (a : Answer). if_sent a (λ bytes. taken_on (512 - count) n (call.Take n ∷ h.now)) h.now) t.refused)
    ∙ h.all) t.room_is (λ was. t.fed (given_to n h.now) (h.fed was))
  where
    t : TakesNone endpoint next room n h.now
    t = takes h.now h.room_is

pub over_taking : (count : ℕ) (room : Room KeepNone) (from endpoint : Endpoint) (n : ℕ) (past : List Call) → 513 ≤ count → HasTaken count room from endpoint n past → TookAll room from endpoint n past
unfolding taken_on
over_taking count room from endpoint n past over h =
    took_all room from endpoint n past h.now (sym (ap (λ (k : ℕ). taken_on k n h.now) (let e : 513 - count ≡ 0 = omega arith in e)) ∙ h.all) h.room_is h.fed

-- a take of another subscriber returns nothing to it
pub given_other : (count n m : ℕ) (past : List Call) → eqb n m ≡ false → given_to m (taken_on count n past) ≡ given_to m past
unfolding taken_on
given_other zero n m past e = refl
given_other (suc count) n m past e = go (answer past (call.Take n)) (given_other count n m (call.Take n ∷ past) e)
  where
    one : given_to m (call.Take n ∷ past) ≡ given_to m past
    one = ap (λ (b : Bool). cond b (and_sent (given_to m past) (answer past (call.Take n))) (given_to m past)) e

    go : (a : Answer) → given_to m (taken_on count n (call.Take n ∷ past)) ≡ given_to m (call.Take n ∷ past)
        → given_to m (if_sent a (λ bytes. taken_on count n (call.Take n ∷ past)) past) ≡ given_to m past
    go (Sent bytes) h = h ∙ one
    go other h = refl

-- nor does a tick
pub given_tick : (n t moment : ℕ) (past : List Call) → given_to n (and_call past (call.Tick t moment)) ≡ given_to n past
given_tick n t moment past = go (is_accepted (answer past (call.Tick t moment)))
  where
    go : (b : Bool) → given_to n (cond b (call.Tick t moment ∷ past) past) ≡ given_to n past
    go true = refl
    go false = refl

-- ---- a feed

-- nor does a feed
pub given_fed : (count n s t m : ℕ) (both : Both) → given_to n (fed_on count s t m both).second ≡ given_to n both.second
unfolding fed_on
given_fed zero n s t m both = refl
given_fed (suc count) n s t m both = go (answer both.first (call.Take s)) (λ bytes. given_fed count n s t m (record { first = call.Take s ∷ both.first; second = call.Packet t m bytes ∷ both.second }))
  where
    brought : (bytes : List ℕ) (a : Answer)
        → given_to n (fed_on count s t m (record { first = call.Take s ∷ both.first; second = call.Packet t m bytes ∷ both.second })).second ≡ given_to n both.second
        → given_to n (if_done a (fed_on count s t m (record { first = call.Take s ∷ both.first; second = call.Packet t m bytes ∷ both.second })) (record { first = call.Take s ∷ both.first; second = both.second })).second
        ≡ given_to n both.second
    brought bytes Done h = h
    brought bytes other h = refl

    go : (a : Answer)
        → ((bytes : List ℕ) → given_to n (fed_on count s t m (record { first = call.Take s ∷ both.first; second = call.Packet t m bytes ∷ both.second })).second ≡ given_to n both.second)
        → given_to n (if_sent a (λ bytes. if_done (answer both.second (call.Packet t m bytes)) (fed_on count s t m (record { first = call.Take s ∷ both.first; second = call.Packet t m bytes ∷ both.second }))
        (record { first = call.Take s ∷ both.first; second = both.second })) both).second ≡ given_to n both.second
    go (Sent bytes) h = brought bytes (answer both.second (call.Packet t m bytes)) (h bytes)
    go other h = refl

abbrev After : List Entry → List Entry → Both
After h1 h2 = record { first = accepted h1; second = accepted h2 }

refused_packet : (h : List Entry) (t m : ℕ) (bytes : List ℕ) (why : Refusal) (starved : Bool) → starved ≡ false → reply_of h (call.Packet t m bytes) ≡ Refused why
    → accepted (h ++ packet_entry t m bytes starved ∷ []) ≡ accepted h
refused_packet h t m bytes why starved fed e =
    fold-append after_entry [] h (packet_entry t m bytes starved ∷ [])
    ∙ ap (λ (b : Bool). cond b (accepted h) (after (answer (accepted h) (call.Packet t m bytes)) (call.Packet t m bytes) (accepted h))) fed
    ∙ ap (λ (a : Answer). after a (call.Packet t m bytes) (accepted h)) e

calm : (b : Bool) (end : Refusal) → (b ≡ true → end ≡ NoMemory) → (end ≡ NoMemory → ⊥) → b ≡ false
calm false end h other_end = refl
calm true end h other_end = absurd (other_end (h refl))

-- the end of a feed
feed_stops : (count : ℕ) (h1 h2 : List Entry) (s t m : ℕ) (end : Refusal) (more1 more2 : List Entry) → EndsAtTake h1 s end more1 more2 ⊎ EndsAtPacket h1 s h2 t m end more1 more2
    → (end ≡ NoMemory → ⊥) → fed_on (suc count) s t m (After h1 h2) ≡ After (h1 ++ more1) (h2 ++ more2)
unfolding fed_on
feed_stops count h1 h2 s t m end more1 more2 (inl e) other_end =
    let fed = calm e.starved end e.memory other_end in
    ap (λ (a : Answer). if_sent a (λ bytes. if_done (answer (accepted h2) (call.Packet t m bytes))
    (fed_on count s t m (record { first = call.Take s ∷ accepted h1; second = call.Packet t m bytes ∷ accepted h2 })) (record { first = call.Take s ∷ accepted h1; second = accepted h2 })) (After h1 h2))
    (e.refused fed)
    ∙ sym (ap (λ (l : List Entry). After (h1 ++ l) (h2 ++ more2)) e.took
    ∙ ap (λ (l : List Entry). After (h1 ++ take_entry s e.starved ∷ []) (h2 ++ l)) e.brought
    ∙ ap (λ (l : List Call). let b : Both = record { first = l; second = accepted (h2 ++ []) } in b) (refused_take h1 s end e.starved fed (e.refused fed))
    ∙ ap (λ (l : List Entry). After h1 l) (append-nil h2))
feed_stops count h1 h2 s t m end more1 more2 (inr e) other_end =
    let fed = calm e.starved end e.memory other_end in
    ap (λ (a : Answer). if_sent a (λ bytes. if_done (answer (accepted h2) (call.Packet t m bytes))
    (fed_on count s t m (record { first = call.Take s ∷ accepted h1; second = call.Packet t m bytes ∷ accepted h2 })) (record { first = call.Take s ∷ accepted h1; second = accepted h2 })) (After h1 h2))
    e.gave
    ∙ ap (λ (a : Answer). if_done a (fed_on count s t m (record { first = call.Take s ∷ accepted h1; second = call.Packet t m e.bytes ∷ accepted h2 })) (record { first = call.Take s ∷ accepted h1; second = accepted h2 }))
    (e.refused fed)
    ∙ sym (ap (λ (l : List Entry). After (h1 ++ l) (h2 ++ more2)) e.took
    ∙ ap (λ (l : List Entry). After (h1 ++ take_entry s false ∷ []) (h2 ++ l)) e.brought
    ∙ ap (λ (l : List Call). let b : Both = record { first = l; second = accepted (h2 ++ packet_entry t m e.bytes e.starved ∷ []) } in b) (one_taken h1 s e.bytes e.gave)
    ∙ ap (λ (l : List Call). let b : Both = record { first = call.Take s ∷ accepted h1; second = l } in b) (refused_packet h2 t m e.bytes end e.starved fed (e.refused fed)))

feed_goes : (packets : List (List ℕ)) (count : ℕ) (h1 h2 : List Entry) (s t m : ℕ) (end : Refusal) (more1 more2 : List Entry) → AreMoved h1 s h2 t m packets
    → EndsAtTake (h1 ++ takes_of s packets) s end more1 more2 ⊎ EndsAtPacket (h1 ++ takes_of s packets) s (h2 ++ packets_of t m packets) t m end more1 more2
    → (end ≡ NoMemory → ⊥) → length packets < count → fed_on count s t m (After h1 h2) ≡ After ((h1 ++ takes_of s packets) ++ more1) ((h2 ++ packets_of t m packets) ++ more2)
unfolding fed_on
feed_goes packets zero h1 h2 s t m end more1 more2 moved ends other_end few = absurd (omega arith)
feed_goes [] (suc count) h1 h2 s t m end more1 more2 moved ends other_end few =
    let a : h1 ++ [] ≡ h1 = append-nil h1 in
    let b : h2 ++ [] ≡ h2 = append-nil h2 in
    feed_stops count h1 h2 s t m end more1 more2
    (subst (λ (l : List Entry). EndsAtTake l s end more1 more2 ⊎ EndsAtPacket l s h2 t m end more1 more2) a
    (subst (λ (l : List Entry). EndsAtTake (h1 ++ []) s end more1 more2 ⊎ EndsAtPacket (h1 ++ []) s l t m end more1 more2) b ends)) other_end
    ∙ sym (ap (λ (l : List Entry). After (l ++ more1) ((h2 ++ []) ++ more2)) a ∙ ap (λ (l : List Entry). After (h1 ++ more1) (l ++ more2)) b)
feed_goes (bytes ∷ packets) (suc count) h1 h2 s t m end more1 more2 moved ends other_end few =
    let next1 : List Entry = h1 ++ take_entry s false ∷ [] in
    let next2 : List Entry = h2 ++ packet_entry t m bytes false ∷ [] in
    let a : next1 ++ takes_of s packets ≡ h1 ++ take_entry s false ∷ takes_of s packets = append_assoc h1 (take_entry s false ∷ []) (takes_of s packets) in
    let b : next2 ++ packets_of t m packets ≡ h2 ++ packet_entry t m bytes false ∷ packets_of t m packets = append_assoc h2 (packet_entry t m bytes false ∷ []) (packets_of t m packets) in
    let rest = feed_goes packets count next1 next2 s t m end more1 more2 moved.2
    (subst (λ (l : List Entry). EndsAtTake l s end more1 more2 ⊎ EndsAtPacket l s (next2 ++ packets_of t m packets) t m end more1 more2) (sym a)
    (subst (λ (l : List Entry). EndsAtTake (h1 ++ take_entry s false ∷ takes_of s packets) s end more1 more2 ⊎ EndsAtPacket (h1 ++ take_entry s false ∷ takes_of s packets) s l t m end more1 more2) (sym b) ends))
    other_end (omega arith) in
    ap (λ (x : Answer). if_sent x (λ bytes. if_done (answer (accepted h2) (call.Packet t m bytes))
    (fed_on count s t m (record { first = call.Take s ∷ accepted h1; second = call.Packet t m bytes ∷ accepted h2 })) (record { first = call.Take s ∷ accepted h1; second = accepted h2 })) (After h1 h2))
    moved.0
    ∙ ap (λ (x : Answer). if_done x (fed_on count s t m (record { first = call.Take s ∷ accepted h1; second = call.Packet t m bytes ∷ accepted h2 })) (record { first = call.Take s ∷ accepted h1; second = accepted h2 }))
    moved.1
    ∙ sym (ap (λ (l : List Call). fed_on count s t m (record { first = l; second = accepted next2 })) (one_taken h1 s bytes moved.0)
    ∙ ap (λ (l : List Call). fed_on count s t m (record { first = call.Take s ∷ accepted h1; second = l })) (one_brought h2 t m bytes moved.1))
    ∙ rest
    ∙ ap (λ (l : List Entry). After (l ++ more1) ((next2 ++ packets_of t m packets) ++ more2)) a
    ∙ ap (λ (l : List Entry). After ((h1 ++ take_entry s false ∷ takes_of s packets) ++ more1) (l ++ more2)) b

-- both rooms after a feed
pub record AreFed (room1 room2 : Room KeepNone) (both : Both) : Type 0 where
  pub first : StandsAfter room1 both.first
  pub second : StandsAfter room2 both.second

pub feeds_both : (old1 new1 old2 new2 : Room KeepNone) (s t m : ℕ) (fed : Fed) (both : Both) → (fed.end ≡ NoMemory → IsTrue false ⊎ IsTrue false)
    → ((h1 h2 : List Entry) → Stands unrecorded old1 h1 → Stands unrecorded old2 h2 → Feeds unrecorded unrecorded new1 new2 s t m fed h1 h2)
    → StandsAfter old1 both.first → StandsAfter old2 both.second → AreFed new1 new2 (all_fed s t m both)
feeds_both old1 new1 old2 new2 s t m fed both cause feeds first second = record {
  first = record { history = first.history ++ f.added1; stands = f.stands1; are = ap (λ (b : Both). b.first) (sym all) };
  second = record { history = second.history ++ f.added2; stands = f.stands2; are = ap (λ (b : Both). b.second) (sym all) };
}
  where
    f : Feeds unrecorded unrecorded new1 new2 s t m fed first.history second.history
    f = feeds first.history second.history first.stands second.stands

    i : IsFeed first.history s second.history t m fed f.added1 f.added2
    i = f.is

    other_end : fed.end ≡ NoMemory → ⊥
    other_end e = either (cause e)
      where
        either : IsTrue false ⊎ IsTrue false → ⊥
        either (inl x) = true≢false (sym x)
        either (inr x) = true≢false (sym x)

    all : all_fed s t m both ≡ After (first.history ++ f.added1) (second.history ++ f.added2)
    all =
        sym (ap (λ (l : List Call). all_fed s t m (record { first = l; second = accepted second.history })) first.are ∙ ap (λ (l : List Call). all_fed s t m (record { first = both.first; second = l })) second.are)
        ∙ feed_goes i.packets 513 first.history second.history s t m fed.end i.more1 i.more2 i.moves i.ends other_end (let few = moved_at_most i.packets first.history s second.history t m i.moves in omega (arith, few))
        ∙ ap (λ (l : List Entry). After l ((second.history ++ packets_of t m i.packets) ++ i.more2)) (append_assoc first.history (takes_of s i.packets) i.more1 ∙ ap (λ (l : List Entry). first.history ++ l) (sym i.entries1))
        ∙ ap (λ (l : List Entry). After (first.history ++ f.added1) l) (append_assoc second.history (packets_of t m i.packets) i.more2 ∙ ap (λ (l : List Entry). second.history ++ l) (sym i.entries2))
