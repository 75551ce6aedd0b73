-- A track's packets and frames are offered at each place of its set; the subscribers at places between belong to other tracks.
use Rattle.std.proofs.Common.{◌≡◌, ◌<◌, ◌≤◌, ◌+◌, ℕ, zero, suc, false, List, [], ◌∷◌, length, refl, sym, ap, ◌∙◌, arith, inl, inr, Some, None, slice_get, nat_eq, true≢false}
use Rattle.std.proofs.lemmas.Bool.{cases_lt}
use Rattle.std.specs.Map.{lookup, values_of}
use Rattle.indexmap.specs.Layout.{set_value_at}
use Rattle.place_set.specs.Places.{HasNone, IsFirstFrom, has_place}
use Rattle.room_core.specs.declared.feed.Feed.{Feed}
use Rattle.room_core.specs.declared.live.LiveSubscriber.{LiveSubscriber}
use Rattle.room_core.specs.Indexed.{HasPlaces, tracks_of}
use Rattle.room_core.specs.Passing.{Both, IsPassed, WaitsOne}
use Rattle.room_core.specs.Tables.{AllFirst, ChangedFirst}
use Rattle.room_core.proofs.Changing.{changed_all, changed_gap, changed_next}
use Rattle.room_core.proofs.Waiting.{all_found, all_gap, all_next}

-- the track of the subscriber at a place
pub track_at : (es : List (ℕ × LiveSubscriber)) (q : ℕ) (e : ℕ × LiveSubscriber) → slice_get es q ≡ Some e → slice_get (tracks_of es) q ≡ Some e.1.track
track_at [] q e at = absurd (let none : None ≡ Some e = at in cc)
track_at (f ∷ es) zero e at = let same : f ≡ e = cc in ap (λ (x : ℕ × LiveSubscriber). Some x.1.track) same
track_at (f ∷ es) (suc q) e at = track_at es q e at

-- a subscriber at a place that isn't in the set is of another track
apart : (places : List ℕ) (number q : ℕ) (es : List (ℕ × LiveSubscriber)) (e : ℕ × LiveSubscriber) → HasPlaces places number (tracks_of es)
    → has_place places q ≡ false → slice_get es q ≡ Some e → e.1.track ≡ number → ⊥
apart places number q es e has none at same = true≢false (sym (has q (track_at es q e at ∙ ap Some same)) ∙ none)

no_entry : (es : List (ℕ × LiveSubscriber)) (q : ℕ) (e : ℕ × LiveSubscriber) → length es ≤ q → slice_get es q ≡ Some e → ⊥
no_entry [] q e le at = cc
no_entry (f ∷ es) zero e le at = omega (arith, le)
no_entry (f ∷ es) (suc q) e le at = no_entry es q e (omega (arith, le)) at

-- a place that is outside a table of this length
pub not_within : (before now q : ℕ) → now ≡ before → (q < now → ⊥) → before ≤ q
not_within before now q same out = elim (cases_lt q now) [
  | inl lt ↦ absurd (out lt)
  | inr le ↦ omega (arith, same, le)
]

module _ (R : Feed → Feed → Type 0) (number : ℕ) (places : List ℕ) (old : List (ℕ × LiveSubscriber)) (has : HasPlaces places number (tracks_of old)) where
  passed_gap : (i p : ℕ) (new : List (ℕ × LiveSubscriber)) → ChangedFirst (IsPassed R number) i old new → i ≤ p → HasNone places i p
      → ChangedFirst (IsPassed R number) p old new
  passed_gap i p new h le none =
      changed_gap (IsPassed R number) i p old new h le
      (λ q e above below at. record {
        track = refl;
        resent = refl;
        passed = λ same. absurd (apart places number q old e has (none q above below) at same);
        other = λ other. refl;
      })

  -- the next place has a subscriber
  pub passed_next : (from place : ℕ) (new : List (ℕ × LiveSubscriber)) (v w : LiveSubscriber) → IsFirstFrom places from (Some place)
      → ChangedFirst (IsPassed R number) from old new → slice_get (values_of new) place ≡ Some v → IsPassed R number v w
      → ChangedFirst (IsPassed R number) (place + 1) old (set_value_at new place w)
  passed_next from place new v w first h at r = changed_next (IsPassed R number) place old new v w (passed_gap from place new h first.0 first.2) at r

  -- or the next place is after the last subscriber
  pub passed_over : (from place : ℕ) (new : List (ℕ × LiveSubscriber)) → IsFirstFrom places from (Some place)
      → ChangedFirst (IsPassed R number) from old new → length old ≤ place → ChangedFirst (IsPassed R number) (place + 1) old new
  passed_over from place new first h le =
      changed_gap (IsPassed R number) place (place + 1) old new (passed_gap from place new h first.0 first.2) (omega arith)
      (λ q e above below at. absurd (no_entry old q e (omega (arith, le, above)) at))

  pub passed_all : (from : ℕ) (new : List (ℕ × LiveSubscriber)) → IsFirstFrom places from None → ChangedFirst (IsPassed R number) from old new
      → (n : ℕ) → Both (IsPassed R number) (lookup (nat_eq n) old) (lookup (nat_eq n) new)
  passed_all from new none h =
      changed_all (IsPassed R number) (from + length old) old new
      (passed_gap from (from + length old) new h (omega arith) (λ q above below. none q above)) (omega arith)

-- each subscriber keeps its track
pub passed_tracks : (R : Feed → Feed → Type 0) (number i : ℕ) (old new : List (ℕ × LiveSubscriber)) → ChangedFirst (IsPassed R number) i old new
    → tracks_of new ≡ tracks_of old
passed_tracks R number zero old new h = ap tracks_of h
passed_tracks R number (suc i) [] new h = ap tracks_of h
passed_tracks R number (suc i) (e ∷ old) [] h = absurd h
passed_tracks R number (suc i) (e ∷ old) (f ∷ new) h =
    ap (λ (n : ℕ). n ∷ tracks_of new) h.1.track ∙ ap (λ (ns : List ℕ). e.1.track ∷ ns) (passed_tracks R number i old new h.2)

-- ---- subscribers that wait

module _ (number : ℕ) (places : List ℕ) (es : List (ℕ × LiveSubscriber)) (has : HasPlaces places number (tracks_of es)) where
  waits_gap : (i p : ℕ) → AllFirst (WaitsOne false number) i es → i ≤ p → HasNone places i p → AllFirst (WaitsOne false number) p es
  waits_gap i p h le none =
      all_gap (WaitsOne false number) i p es h le (λ q e above below at. λ same. absurd (apart places number q es e has (none q above below) at same))

  pub waits_next : (from place : ℕ) (e : ℕ × LiveSubscriber) → IsFirstFrom places from (Some place) → AllFirst (WaitsOne false number) from es
      → slice_get es place ≡ Some e → WaitsOne false number e.1 → AllFirst (WaitsOne false number) (place + 1) es
  waits_next from place e first h at one = all_next (WaitsOne false number) place es e (waits_gap from place h first.0 first.2) at one

  pub waits_over : (from place : ℕ) → IsFirstFrom places from (Some place) → AllFirst (WaitsOne false number) from es → length es ≤ place
      → AllFirst (WaitsOne false number) (place + 1) es
  waits_over from place first h le =
      all_gap (WaitsOne false number) place (place + 1) es (waits_gap from place h first.0 first.2) (omega arith)
      (λ q e above below at. absurd (no_entry es q e (omega (arith, le, above)) at))

  pub waits_all : (from : ℕ) → IsFirstFrom places from None → AllFirst (WaitsOne false number) from es → (n : ℕ) (s : LiveSubscriber)
      → lookup (nat_eq n) es ≡ Some s → WaitsOne false number s
  waits_all from none h =
      all_found (WaitsOne false number) (from + length es) es (waits_gap from (from + length es) h (omega arith) (λ q above below. none q above)) (omega arith)
