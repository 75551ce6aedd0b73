-- The effect of a call on the places of each track.
use Rattle.std.proofs.Common.{◌≡◌, ◌≢◌, ◌<◌, ◌≤◌, ◌+◌, ◌-◌, ℕ, zero, suc, Bool, true, false, cond, List, [], ◌∷◌, length, refl, sym, ap, subst, ◌∙◌, arith, inl, inr, ◌⊎◌, Option, Some, None, slice_get, get_or, take, position, nat_eq, not}
use Rattle.std.specs.Prelude.{slice_set}
use Rattle.std.proofs.lemmas.Bool.{cases_eq, eqb-true}
use Rattle.std.proofs.lemmas.Option.{slice_get-get_or, slice_get_within}
use Rattle.std.specs.List.{position_or_len, swap_remove}
use Rattle.std.specs.Map.{keys_of, lookup, set_value, values_of}
use Rattle.std.specs.Option.{option_map_or}
use Rattle.indexmap.specs.IndexMap.{IndexMap, IsUnique, WritesThrough, get, insert_entry, swap_remove_entry, with_value_at}
use Rattle.indexmap.specs.Layout.{set_value_at}
use Rattle.place_set.specs.Places.{has_place}
use Rattle.room_core.specs.declared.live.LiveSubscriber.{LiveSubscriber}
use Rattle.room_core.specs.declared.live.LiveTrack.{LiveTrack}
use Rattle.room_core.specs.Indexed.{AreSame, AreSameBut, HaveAll, HaveAllBut, IsIndexed, IsSameTrack, IsTrackBut, tracks_of}
use Rattle.room_core.specs.Passing.{Both}
use Rattle.room_core.proofs.Indexed.{track_at}
use Rattle.room_core.proofs.Places.{written_at, written_by_key}

-- ---- two tables of tracks

-- an entry found in the second table has an entry in the first
pub back : (R : LiveTrack → LiveTrack → Type 0) (o p : Option LiveTrack) (t : LiveTrack) → Both R o p → p ≡ Some t → (s : LiveTrack) × (o ≡ Some s) × R s t
back R None None t h e = absurd (let none : None ≡ Some t = e in cc)
back R None (Some b) t h e = absurd h
back R (Some a) None t h e = absurd h
back R (Some a) (Some b) t h e = let same : b ≡ t = cc in (a, refl, subst (λ (x : LiveTrack). R a x) same h)

weaker : (R S : LiveTrack → LiveTrack → Type 0) (o p : Option LiveTrack) → ((a b : LiveTrack) → R a b → S a b) → Both R o p → Both S o p
weaker R S None None w h = tt
weaker R S None (Some b) w h = absurd h
weaker R S (Some a) None w h = absurd h
weaker R S (Some a) (Some b) w h = w a b h

pub same_but : (place : ℕ) (f g : ℕ → Option LiveTrack) → AreSameBut place f g → AreSame f g
same_but place f g h n = weaker (IsTrackBut place) IsSameTrack (f n) (g n) (λ a b r. r.same) (h n)

-- one entry is written, and its places stay the same
written_keeps : (k : ℕ) (f g : ℕ → Option LiveTrack) (known now : LiveTrack) → Some known ≡ f k → ((n : ℕ) → g n ≡ cond (nat_eq k n) (Some now) (f n))
    → now.places ≡ known.places → (n : ℕ) (t : LiveTrack) → g n ≡ Some t → (s : LiveTrack) × (f n ≡ Some s) × (t.places ≡ s.places)
written_keeps k f g known now found is same n t e = go (nat_eq k n) refl (sym (is n) ∙ e)
  where
    go : (b : Bool) → nat_eq k n ≡ b → cond b (Some now) (f n) ≡ Some t → (s : LiveTrack) × (f n ≡ Some s) × (t.places ≡ s.places)
    go true key at = let now_is : now ≡ t = cc in (known, sym (found ∙ ap f (eqb-true k n key)), ap (λ (x : LiveTrack). x.places) (sym now_is) ∙ same)
    go false key at = (t, at, refl)

indexed_by : (f g : ℕ → Option LiveTrack) (on on' : List ℕ) (highest : ℕ)
    → ((n : ℕ) (t : LiveTrack) → g n ≡ Some t → (s : LiveTrack) × (f n ≡ Some s) × (t.places ≡ s.places)) → on' ≡ on → IsIndexed f on highest → IsIndexed g on' highest
indexed_by f g on on' highest keeps same h = record {
  has = λ n t is place at.
      let old = keeps n t is in
      ap (λ (places : List ℕ). has_place places place) old.2 ∙ h.has n old.0 old.1 place (subst (λ (l : List ℕ). slice_get l place ≡ Some n) same at);
  known = λ place n at. h.known place n (subst (λ (l : List ℕ). slice_get l place ≡ Some n) same at);
  live = λ n t is. let old = keeps n t is in h.live n old.0 old.1;
}

-- ---- calls that leave the places

pub track_written : {S : Type 0} (m : IndexMap ℕ LiveTrack S) (k place : ℕ) (known now : LiveTrack) (on on' : List ℕ) (highest : ℕ) → IsUnique nat_eq m
    → slice_get m.entries place ≡ Some (k, known) → Some known ≡ get nat_eq m k → now.places ≡ known.places → on' ≡ on → IsIndexed (get nat_eq m) on highest
    → IsIndexed (get nat_eq (with_value_at m place now)) on' highest
track_written m k place known now on on' highest unique at found same ons h =
    indexed_by (get nat_eq m) (get nat_eq (with_value_at m place now)) on on' highest
    (written_keeps k (get nat_eq m) (get nat_eq (with_value_at m place now)) known now found (written_at k m place known now unique at).found same) ons h

pub track_got : {S : Type 0} (m m' : IndexMap ℕ LiveTrack S) (k : ℕ) (known now : LiveTrack) (on : List ℕ) (highest : ℕ) → Some known ≡ get nat_eq m k
    → WritesThrough nat_eq (nat_eq k) m now m' → now.places ≡ known.places → IsIndexed (get nat_eq m) on highest → IsIndexed (get nat_eq m') on highest
track_got m m' k known now on highest found writes same h =
    indexed_by (get nat_eq m) (get nat_eq m') on on highest
    (written_keeps k (get nat_eq m) (get nat_eq m') known now found (written_by_key k m m' known now found writes).found same) refl h

-- the same if the table of subscribers got more capacity meanwhile
pub track_got_reserved : {S : Type 0} (m m' : IndexMap ℕ LiveTrack S) (k : ℕ) (known now : LiveTrack) (es es' : List (ℕ × LiveSubscriber)) (highest : ℕ)
    → Some known ≡ get nat_eq m k → WritesThrough nat_eq (nat_eq k) m now m' → now.places ≡ known.places → es' ≡ es
    → IsIndexed (get nat_eq m) (tracks_of es) highest → IsIndexed (get nat_eq m') (tracks_of es') highest
track_got_reserved m m' k known now es es' highest found writes same entries h =
    subst (λ (on : List ℕ). IsIndexed (get nat_eq m') on highest) (sym (ap tracks_of entries)) (track_got m m' k known now (tracks_of es) highest found writes same h)

tracks_set : (es : List (ℕ × LiveSubscriber)) (place : ℕ) (v w : LiveSubscriber) → slice_get (values_of es) place ≡ Some v → w.track ≡ v.track
    → tracks_of (set_value_at es place w) ≡ tracks_of es
tracks_set [] place v w at same = refl
tracks_set (e ∷ es) zero v w at same = let is : e.1 ≡ v = cc in ap (λ (n : ℕ). n ∷ tracks_of es) (same ∙ ap (λ (x : LiveSubscriber). x.track) (sym is))
tracks_set (e ∷ es) (suc place) v w at same = ap (λ (ns : List ℕ). e.1.track ∷ ns) (tracks_set es place v w at same)

pub subscriber_set : (f : ℕ → Option LiveTrack) (es : List (ℕ × LiveSubscriber)) (place highest : ℕ) (v w : LiveSubscriber) → slice_get (values_of es) place ≡ Some v
    → w.track ≡ v.track → IsIndexed f (tracks_of es) highest → IsIndexed f (tracks_of (set_value_at es place w)) highest
subscriber_set f es place highest v w at same h = subst (λ (on : List ℕ). IsIndexed f on highest) (sym (tracks_set es place v w at same)) h

tracks_written : (k : ℕ) (es : List (ℕ × LiveSubscriber)) (v w : LiveSubscriber) → lookup (nat_eq k) es ≡ Some v → w.track ≡ v.track
    → tracks_of (set_value (nat_eq k) es w) ≡ tracks_of es
tracks_written k [] v w is same = refl
tracks_written k (e ∷ es) v w is same = go (nat_eq k e.0) (λ at. tracks_written k es v w at same) is
  where
    go : (b : Bool) → (lookup (nat_eq k) es ≡ Some v → tracks_of (set_value (nat_eq k) es w) ≡ tracks_of es) → cond b (Some e.1) (lookup (nat_eq k) es) ≡ Some v → tracks_of (cond b ((e.0, w) ∷ es) (e ∷ set_value (nat_eq k) es w)) ≡ e.1.track ∷ tracks_of es
    go true rest at = let one : e.1 ≡ v = cc in ap (λ (n : ℕ). n ∷ tracks_of es) (same ∙ ap (λ (x : LiveSubscriber). x.track) (sym one))
    go false rest at = ap (λ (ns : List ℕ). e.1.track ∷ ns) (rest at)

pub subscriber_written : (f : ℕ → Option LiveTrack) (es es' : List (ℕ × LiveSubscriber)) (k highest : ℕ) (v w : LiveSubscriber) → es' ≡ set_value (nat_eq k) es w
    → lookup (nat_eq k) es ≡ Some v → w.track ≡ v.track → IsIndexed f (tracks_of es) highest → IsIndexed f (tracks_of es') highest
subscriber_written f es es' k highest v w is found same h =
    subst (λ (on : List ℕ). IsIndexed f on highest) (sym (ap tracks_of is ∙ tracks_written k es v w found same)) h

-- ---- a subscriber joins

inserted_at : (k : ℕ) (es : List (ℕ × LiveSubscriber)) (live : LiveSubscriber) (q n : ℕ) → slice_get (tracks_of (insert_entry nat_eq es k live)) q ≡ Some n
    → ((q ≡ position_or_len (nat_eq k) (keys_of es)) × (n ≡ live.track)) ⊎ ((q ≢ position_or_len (nat_eq k) (keys_of es)) × (slice_get (tracks_of es) q ≡ Some n))
inserted_at k [] live zero n at = inl (refl, let is : n ≡ live.track = cc in is)
inserted_at k [] live (suc q) n at = absurd (let none : None ≡ Some n = at in cc)
inserted_at k (e ∷ es) live q n at = go (nat_eq k e.0) (λ p. inserted_at k es live p n) q at
  where
    go : (b : Bool)
        → ((p : ℕ) → slice_get (tracks_of (insert_entry nat_eq es k live)) p ≡ Some n
        → ((p ≡ position_or_len (nat_eq k) (keys_of es)) × (n ≡ live.track)) ⊎ ((p ≢ position_or_len (nat_eq k) (keys_of es)) × (slice_get (tracks_of es) p ≡ Some n)))
        → (q : ℕ) → slice_get (tracks_of (cond b ((e.0, live) ∷ es) (e ∷ insert_entry nat_eq es k live))) q ≡ Some n
        → ((q ≡ cond (not b) (1 + position_or_len (nat_eq k) (keys_of es)) 0) × (n ≡ live.track))
        ⊎ ((q ≢ cond (not b) (1 + position_or_len (nat_eq k) (keys_of es)) 0) × (slice_get (e.1.track ∷ tracks_of es) q ≡ Some n))
    go true rest zero at = inl (refl, let is : n ≡ live.track = cc in is)
    go true rest (suc q) at = inr ((λ none. omega (arith, none)), at)
    go false rest zero at = inr ((λ none. omega (arith, none)), at)
    go false rest (suc q) at = elim (rest q at) [
      | inl h ↦ inl ((let same = h.0 in omega (arith, same)), h.1)
      | inr h ↦ inr ((λ same. h.0 (omega (arith, same))), h.1)
    ]

pub joined_indexed : (f g : ℕ → Option LiveTrack) (es es' : List (ℕ × LiveSubscriber)) (k place highest : ℕ) (live : LiveSubscriber) (known : LiveTrack)
    → place ≡ position_or_len (nat_eq k) (keys_of es) → es' ≡ insert_entry nat_eq es k live → f live.track ≡ Some known → AreSameBut place f g
    → ((t : LiveTrack) → g live.track ≡ Some t → has_place t.places place ≡ true) → IsIndexed f (tracks_of es) highest → IsIndexed g (tracks_of es') highest
joined_indexed f g es es' k place highest live known place_is is found changed put h =
    let at : (q n : ℕ) → slice_get (tracks_of es') q ≡ Some n → ((q ≡ place) × (n ≡ live.track)) ⊎ ((q ≢ place) × (slice_get (tracks_of es) q ≡ Some n)) = λ q n on.
    subst (λ (p : ℕ). ((q ≡ p) × (n ≡ live.track)) ⊎ ((q ≢ p) × (slice_get (tracks_of es) q ≡ Some n))) (sym place_is)
    (inserted_at k es live q n (subst (λ (l : List (ℕ × LiveSubscriber)). slice_get (tracks_of l) q ≡ Some n) is on)) in
    record {
      has = λ n t there q on. elim (at q n on) [
        | inl new ↦ ap (has_place t.places) new.0 ∙ put t (ap g (sym new.1) ∙ there)
        | inr old ↦ let s = back (IsTrackBut place) (f n) (g n) t (changed n) there in s.2.others q old.0 ∙ h.has n s.0 s.1 q old.1
      ];
      known = λ q n on. elim (at q n on) [
        | inl new ↦ subst (λ (m : ℕ). m ≤ highest) (sym new.1) (h.live live.track known found)
        | inr old ↦ h.known q n old.1
      ];
      live = λ n t there. let s = back (IsTrackBut place) (f n) (g n) t (changed n) there in h.live n s.0 s.1;
    }

-- ---- a subscriber leaves

entry_at : (es : List (ℕ × LiveSubscriber)) (q n : ℕ) → slice_get (tracks_of es) q ≡ Some n → (e : ℕ × LiveSubscriber) × (slice_get es q ≡ Some e) × (e.1.track ≡ n)
entry_at [] q n at = absurd (let none : None ≡ Some n = at in cc)
entry_at (e ∷ es) zero n at = (e, refl, let is : e.1.track ≡ n = cc in is)
entry_at (e ∷ es) (suc q) n at = entry_at es q n at

taken_at : (m : ℕ) (es : List (ℕ × LiveSubscriber)) (q : ℕ) (e : ℕ × LiveSubscriber) → slice_get (take m es) q ≡ Some e → slice_get es q ≡ Some e
taken_at zero es q e at = absurd (let none : None ≡ Some e = at in cc)
taken_at (suc m) [] q e at = absurd (let none : None ≡ Some e = at in cc)
taken_at (suc m) (f ∷ es) zero e at = at
taken_at (suc m) (f ∷ es) (suc q) e at = taken_at m es q e at

set_at : (es : List (ℕ × LiveSubscriber)) (i : ℕ) (v : ℕ × LiveSubscriber) (q : ℕ) (e : ℕ × LiveSubscriber) → slice_get (slice_set es i v) q ≡ Some e
    → ((q ≡ i) × (e ≡ v)) ⊎ ((q ≢ i) × (slice_get es q ≡ Some e))
set_at [] i v q e at = absurd (let none : None ≡ Some e = at in cc)
set_at (f ∷ es) zero v zero e at = inl (refl, let is : e ≡ v = cc in is)
set_at (f ∷ es) zero v (suc q) e at = inr ((λ none. omega (arith, none)), at)
set_at (f ∷ es) (suc i) v zero e at = inr ((λ none. omega (arith, none)), at)
set_at (f ∷ es) (suc i) v (suc q) e at = elim (set_at es i v q e at) [
  | inl h ↦ inl ((let same = h.0 in omega (arith, same)), h.1)
  | inr h ↦ inr ((λ same. h.0 (omega (arith, same))), h.1)
]

-- the entry at a place after a removal was there before, or was the last one
removed_at : (k place : ℕ) (es : List (ℕ × LiveSubscriber)) (q n : ℕ) → position (nat_eq k) (keys_of es) ≡ Some place
    → slice_get (tracks_of (swap_remove_entry (nat_eq k) es)) q ≡ Some n → (p : ℕ) × (slice_get (tracks_of es) p ≡ Some n) × (q ≢ place → p ≡ q)
removed_at k place [] q n pos on = absurd (let none : None ≡ Some n = on in cc)
removed_at k place (e ∷ es) q n pos on =
    let all : List (ℕ × LiveSubscriber) = e ∷ es in
    let last : ℕ = length all - 1 in
    let is : swap_remove_entry (nat_eq k) all ≡ swap_remove all place e = ap (λ (o : Option ℕ). option_map_or (λ i. swap_remove all i e) o all) pos in
    let there = entry_at (swap_remove all place e) q n (subst (λ (l : List (ℕ × LiveSubscriber)). slice_get (tracks_of l) q ≡ Some n) is on) in
    elim (set_at all place (get_or all last e) q there.0 (taken_at last (slice_set all place (get_or all last e)) q there.0 there.1)) [
      | inl moved ↦ (
        last,
        track_at all last (get_or all last e) (slice_get-get_or all last e (omega arith)) ∙ ap (λ (x : ℕ × LiveSubscriber). Some x.1.track) (sym moved.1) ∙ ap Some there.2,
        λ other. absurd (other moved.0),
      )
      | inr stays ↦ (q, track_at all q there.0 stays.1 ∙ ap Some there.2, λ other. refl)
    ]

pub left_indexed : (f f' g : ℕ → Option LiveTrack) (es es' : List (ℕ × LiveSubscriber)) (k place highest : ℕ) → position (nat_eq k) (keys_of es) ≡ Some place
    → es' ≡ swap_remove_entry (nat_eq k) es → AreSameBut place f f' → AreSame f' g → (HaveAllBut place f' (tracks_of es') → HaveAll g (tracks_of es'))
    → IsIndexed f (tracks_of es) highest → IsIndexed g (tracks_of es') highest
left_indexed f f' g es es' k place highest pos is changed same moved h =
    let at : (q n : ℕ) → slice_get (tracks_of es') q ≡ Some n → (p : ℕ) × (slice_get (tracks_of es) p ≡ Some n) × (q ≢ place → p ≡ q) = λ q n on.
    removed_at k place es q n pos (subst (λ (l : List (ℕ × LiveSubscriber)). slice_get (tracks_of l) q ≡ Some n) is on) in
    record {
      has = moved (λ n t there q other on.
          let s = back (IsTrackBut place) (f n) (f' n) t (changed n) there in
          let p = at q n on in
          s.2.others q other ∙ h.has n s.0 s.1 q (subst (λ (i : ℕ). slice_get (tracks_of es) i ≡ Some n) (p.2 other) p.1));
      known = λ q n on. let p = at q n on in h.known p.0 n p.1;
      live = λ n t there.
          let mid = back IsSameTrack (f' n) (g n) t (same n) there in
          let s = back (IsTrackBut place) (f n) (f' n) mid.0 (changed n) mid.1 in
          h.live n s.0 s.1;
    }

-- the subscriber that was last now has the place of the removed one
pub moved_all : (f f' g : ℕ → Option LiveTrack) (on : List ℕ) (number place last : ℕ) → slice_get on place ≡ Some number → ((q n : ℕ) → slice_get on q ≡ Some n → q < last)
    → AreSameBut last f f' → AreSameBut place f' g → ((t : LiveTrack) → g number ≡ Some t → has_place t.places place ≡ true)
    → HaveAllBut place f on → HaveAll g on
moved_all f f' g on number place last moved within taken put has h n t there q at = elim (cases_eq q place) [
  | inl same ↦
      (let at_place : slice_get on place ≡ Some n = ap (slice_get on) (sym same) ∙ at in
      let is : number ≡ n = let e : Some number ≡ Some n = sym moved ∙ at_place in cc in
      ap (has_place t.places) same ∙ has t (ap g is ∙ there))
  | inr other ↦
      (let mid = back (IsTrackBut place) (f' n) (g n) t (put n) there in
      let old = back (IsTrackBut last) (f n) (f' n) mid.0 (taken n) mid.1 in
      let below = within q n at in
      mid.2.others q other ∙ old.2.others q (λ same. omega (arith, same, below)) ∙ h n old.0 old.1 q other at)
]

pub within_tracks : (es : List (ℕ × LiveSubscriber)) (q n : ℕ) → slice_get (tracks_of es) q ≡ Some n → q < length es
within_tracks es q n at = let e = entry_at es q n at in slice_get_within es q e.0 e.1

-- if no subscriber is at the place, none was moved
pub none_moved : (f : ℕ → Option LiveTrack) (es : List (ℕ × LiveSubscriber)) (place : ℕ) → (place < length es → ⊥) → HaveAllBut place f (tracks_of es) → HaveAll f (tracks_of es)
none_moved f es place behind h n t there q at = h n t there q (λ same. behind (subst (λ (i : ℕ). i < length es) same (within_tracks es q n at))) at
