-- The subscribers of a track that have packets queued, in the table and in the history.
use Rattle.std.proofs.Common.{◌≡◌, ◌<◌, ◌≤◌, ◌+◌, ◌-◌, ℕ, zero, suc, Bool, true, false, cond, filter, ◌&&◌, List, [], ◌∷◌, ◌++◌, length, length-take, take, drop, slice_get, slice_index_or, refl, sym, ap, ap₂, subst, ◌∙◌, arith, Option, Some, None, Contains, eqb, nat_eq, true≢false, take-append-drop, take_all, drop-drop}
use Rattle.std.specs.Prelude.{nat_lt}
use Rattle.std.specs.List.{IsDistinct}
use Rattle.std.specs.Map.{keys_of}
use Rattle.std.specs.Cmp.{nat_eq_equiv}
use Rattle.std.proofs.lemmas.List.{length-map}
use Rattle.std.proofs.lemmas.List.Elements.{Contains-append_left}
use Rattle.std.proofs.lemmas.Map.Made.{IsDistinct-keys_filter}
use Rattle.std.proofs.lemmas.Map.Views.{Contains-from_lookup, exact_unsigned_eq, lookup-from_Contains}
use Rattle.indexmap.specs.IndexMap.{IsUnique, get}
use Rattle.indexmap.proofs.MapLemmas.{distinct-take}
use Rattle.sfu_base.specs.declared.call.Call.{Call}
use Rattle.sfu_base.specs.declared.call.Kind.{Kind}
use Rattle.forwarding_model.specs.forwarding.Outgoing.{Subscriber, queue}
use Rattle.packet_format.specs.Packets.{bytes_of}
use Rattle.room_core.specs.Content.{IsAfter, IsSubscriberAfter}
use Rattle.room_core.specs.Follows.{Follows, Happened}
use Rattle.room_core.specs.Live.{Joined, joined, kind_of}
use Rattle.room_core.specs.Passing.{Both}
use Rattle.room_core.specs.Sent.{sent}
use Rattle.room_core.specs.Views.{events_for, subscriber_by}
use Rattle.room_core.specs.declared.content.Content.{Content}
use Rattle.room_core.specs.declared.feed.Feed.{Feed}
use Rattle.room_core.specs.declared.live.LiveSubscriber.{LiveSubscriber}
use Rattle.room_core.specs.Ready.{AreReady, is_entry_ready, is_ready_by, ready_in}

-- ---- the loop

-- the list up to the loop's present entry
pub record IsListed (track place : ℕ) (entries : List (ℕ × LiveSubscriber)) (old now : List ℕ) (count : ℕ) : Type 0 where
  pub lists : take count now ≡ take (length old) (ready_in track (take place entries))
  pub within : count ≤ length now
  pub len : length now ≡ length old
  pub rest : drop count now ≡ drop count old

keys_more : (b : Bool) (f : ℕ × LiveSubscriber) (xs ys : List (ℕ × LiveSubscriber)) (more : List ℕ) → keys_of xs ≡ keys_of ys ++ more
    → keys_of (cond b (f ∷ xs) xs) ≡ keys_of (cond b (f ∷ ys) ys) ++ more
keys_more true f xs ys more is = ap (λ (ks : List ℕ). f.0 ∷ ks) is
keys_more false f xs ys more is = is

key_first : (b : Bool) (n : ℕ) (s : LiveSubscriber) → keys_of (cond b ((n, s) ∷ []) []) ≡ cond b (n ∷ []) []
key_first true n s = refl
key_first false n s = refl

-- one more entry
ready_more : (track p n : ℕ) (s : LiveSubscriber) (es : List (ℕ × LiveSubscriber)) → slice_get es p ≡ Some (n, s)
    → ready_in track (take (suc p) es) ≡ ready_in track (take p es) ++ cond (is_entry_ready track s) (n ∷ []) []
ready_more track p n s [] at = absurd (let none : None ≡ Some (n, s) = at in cc)
ready_more track zero n s (e ∷ es) at =
    let same : e ≡ (n, s) = cc in
    ap (λ (x : ℕ × LiveSubscriber). ready_in track (x ∷ [])) same ∙ key_first (is_entry_ready track s) n s
ready_more track (suc p) n s (f ∷ es) at =
    keys_more (is_entry_ready track f.1) f (filter (λ e. is_entry_ready track e.1) (take (suc p) es)) (filter (λ e. is_entry_ready track e.1) (take p es))
    (cond (is_entry_ready track s) (n ∷ []) []) (ready_more track p n s es at)

take_again : (n : ℕ) (xs ys : List ℕ) → take n (take n xs ++ ys) ≡ take n (xs ++ ys)
take_again zero xs ys = refl
take_again (suc n) [] ys = refl
take_again (suc n) (x ∷ xs) ys = ap (λ (l : List ℕ). x ∷ l) (take_again n xs ys)

drop_both : (k : ℕ) (xs ys : List ℕ) (m n : ℕ) → drop m xs ≡ drop m ys → n ≡ m + k → drop n xs ≡ drop n ys
drop_both k xs ys m n is e =
    ap (λ (i : ℕ). drop i xs) e ∙ sym (drop-drop k m xs) ∙ ap (drop k) is ∙ drop-drop k m ys ∙ ap (λ (i : ℕ). drop i ys) (sym e)

pub next_listed : (track place n count more : ℕ) (s : LiveSubscriber) (entries : List (ℕ × LiveSubscriber)) (old was now : List ℕ) (ready : Bool)
    → slice_get entries place ≡ Some (n, s) → ready ≡ is_entry_ready track s → IsListed track place entries old was count
    → take more now ≡ take (length was) (take count was ++ cond ready (n ∷ []) []) → count ≤ more → more ≤ length now → length now ≡ length was → drop more now ≡ drop more was
    → IsListed track (place + 1) entries old now more
next_listed track place n count more s entries old was now ready at is h puts grows within len rest = record {
  lists =
      let r : List ℕ = ready_in track (take place entries) in
      let c : List ℕ = cond (is_entry_ready track s) (n ∷ []) [] in
      puts
      ∙ ap₂ (λ (l : ℕ) (b : Bool). take l (take count was ++ cond b (n ∷ []) [])) h.len is
      ∙ ap (λ (l : List ℕ). take (length old) (l ++ c)) h.lists
      ∙ take_again (length old) r c
      ∙ ap (take (length old)) (sym (ready_more track place n s entries at))
      ∙ ap (λ (i : ℕ). take (length old) (ready_in track (take i entries))) (let e : suc place ≡ place + 1 = omega arith in e);
  within = within;
  len = len ∙ h.len;
  rest = rest ∙ drop_both (more - count) was old count more h.rest (omega (arith, grows));
}

-- ---- the entries

in_more : {X : Type 0} (x y : X) (xs : List X) → Contains xs y → Contains (x ∷ xs) y
in_more x y xs h = (suc h.0, omega (arith, h.1), h.2)

-- a number of the list is that of an entry
listed_entry : (track n k : ℕ) (es : List (ℕ × LiveSubscriber)) → k < length (ready_in track es) → slice_index_or (ready_in track es) k n ≡ n
    → (s : LiveSubscriber) × Contains es (n, s) × (is_entry_ready track s ≡ true)
listed_entry track n k [] lt at = absurd (let none : ⊥ = omega (arith, lt) in none)
listed_entry track n k (e ∷ es) lt at = by (λ i. listed_entry track n i es) (is_entry_ready track e.1) refl k lt at
  where
    by : ((i : ℕ) → i < length (ready_in track es) → slice_index_or (ready_in track es) i n ≡ n → (s : LiveSubscriber) × Contains es (n, s) × (is_entry_ready track s ≡ true))
        → (b : Bool) → is_entry_ready track e.1 ≡ b → (i : ℕ) → i < length (keys_of (cond b (e ∷ filter (λ e. is_entry_ready track e.1) es) (filter (λ e. is_entry_ready track e.1) es)))
        → slice_index_or (keys_of (cond b (e ∷ filter (λ e. is_entry_ready track e.1) es) (filter (λ e. is_entry_ready track e.1) es))) i n ≡ n
        → (s : LiveSubscriber) × Contains (e ∷ es) (n, s) × (is_entry_ready track s ≡ true)
    by within true is zero lt at = (e.1, (0, omega arith, ap (λ (k : ℕ). (k, e.1)) at), is)
    by within true is (suc i) lt at =
        let rest = within i (omega (arith, lt)) at in
        (rest.0, in_more e (n, rest.0) es rest.1, rest.2)
    by within false is i lt at =
        let rest = within i lt at in
        (rest.0, in_more e (n, rest.0) es rest.1, rest.2)

-- the number of such an entry is in the list
entry_listed : (track n k : ℕ) (s : LiveSubscriber) (es : List (ℕ × LiveSubscriber)) → is_entry_ready track s ≡ true → k < length es → slice_index_or es k (n, s) ≡ (n, s)
    → Contains (ready_in track es) n
entry_listed track n k s [] is lt at = absurd (let none : ⊥ = omega (arith, lt) in none)
entry_listed track n zero s (e ∷ es) is lt at =
    subst (λ (b : Bool). Contains (keys_of (cond b (e ∷ filter (λ e. is_entry_ready track e.1) es) (filter (λ e. is_entry_ready track e.1) es))) n)
    (sym (ap (λ (x : ℕ × LiveSubscriber). is_entry_ready track x.1) at ∙ is)) (0, omega arith, ap (λ (x : ℕ × LiveSubscriber). x.0) at)
entry_listed track n (suc k) s (e ∷ es) is lt at = by (is_entry_ready track e.1) (entry_listed track n k s es is (omega (arith, lt)) at)
  where
    by : (b : Bool) → Contains (ready_in track es) n → Contains (keys_of (cond b (e ∷ filter (λ e. is_entry_ready track e.1) es) (filter (λ e. is_entry_ready track e.1) es))) n
    by true h = in_more e.0 n (ready_in track es) h
    by false h = h

in_front : (n x : ℕ) (xs : List ℕ) → Contains (take n xs) x → Contains xs x
in_front n x xs h = subst (λ (l : List ℕ). Contains l x) (take-append-drop n xs) (Contains-append_left (take n xs) (drop n xs) x h)

-- ---- the history

queued_same : (kind : Kind) (feed : Feed) (to : Subscriber) (events : List Happened) → Follows kind feed to events → length feed.ring.queued ≡ length (queue (sent kind) to events)
queued_same kind feed to events h = ap length h.ring.queued ∙ length-map (queue (sent kind) to events) bytes_of

ready_same : (track n : ℕ) (past : List Call) (s : LiveSubscriber) (j : Joined) → IsSubscriberAfter past n s j → is_entry_ready track s ≡ is_ready_by track n (Some j) past
ready_same track n past s j h =
    ap₂ (λ (t k : ℕ). (eqb t track) && nat_lt 0 k) h.track_is
    (queued_same (kind_of j.track past) s.feed.value (subscriber_by j) (events_for n j past) h.follows)

ready_of : (track n : ℕ) (past : List Call) (s : LiveSubscriber) (o : Option Joined) → Both (IsSubscriberAfter past n) (Some s) o → is_entry_ready track s ≡ true
    → is_ready_by track n o past ≡ true
ready_of track n past s None h is = absurd h
ready_of track n past s (Some j) h is = sym (ready_same track n past s j h) ∙ is

there_of : (track n : ℕ) (past : List Call) (p : Option LiveSubscriber) (o : Option Joined) → Both (IsSubscriberAfter past n) p o → is_ready_by track n o past ≡ true
    → (s : LiveSubscriber) × (p ≡ Some s) × (is_entry_ready track s ≡ true)
there_of track n past p None h is = absurd (true≢false (sym is))
there_of track n past None (Some j) h is = absurd h
there_of track n past (Some s) (Some j) h is = (s, refl, ready_same track n past s j h ∙ is)

pub ready_reported : (content : Content) (past : List Call) (track limit : ℕ) (listed : List ℕ) → IsAfter content past → IsUnique nat_eq content.subscribers
    → listed ≡ take limit (ready_in track content.subscribers.entries) → AreReady track limit past listed
ready_reported content past track limit listed after unique is = record {
  distinct = subst (λ (l : List ℕ). IsDistinct nat_eq l) (sym is)
      (distinct-take nat_eq_equiv limit r (IsDistinct-keys_filter nat_eq (λ (e : ℕ × LiveSubscriber). is_entry_ready track e.1) es unique));
  ready = λ n h.
      let at = in_front limit n r (subst (λ (l : List ℕ). Contains l n) is h) in
      let e = listed_entry track n at.0 es at.1 at.2 in
      let got : get nat_eq content.subscribers n ≡ Some e.0 = lookup-from_Contains nat_eq_equiv n e.0 es unique e.1 in
      ready_of track n past e.0 (joined n past) (subst (λ (o : Option LiveSubscriber). Both (IsSubscriberAfter past n) o (joined n past)) got (after.subscribers n)) e.2;
  all = λ short n h.
      let there = there_of track n past (get nat_eq content.subscribers n) (joined n past) (after.subscribers n) h in
      let e = Contains-from_lookup exact_unsigned_eq n there.0 es there.1 in
      let long : length r ≤ limit = omega (arith, short, ap length is, length-take limit r) in
      subst (λ (l : List ℕ). Contains l n) (sym (is ∙ take_all limit r long)) (entry_listed track n e.0 there.0 es there.2 e.1 e.2);
}
  where
    es : List (ℕ × LiveSubscriber)
    es = content.subscribers.entries

    r : List ℕ
    r = ready_in track es
