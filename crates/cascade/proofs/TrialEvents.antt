-- A trial, event by event.
use Rattle.std.proofs.Common.{◌≡◌, ℕ, arith, cond, List, [], ◌∷◌, ◌++◌, append-nil, fold, map, reverse, refl, sym, ap, subst, ◌∙◌, Option, Some, None}
use Rattle.std.specs.List.{AllByRecursion}
use Rattle.std.specs.Option.{option_to_list}
use Rattle.std.proofs.lemmas.Grind.{common_steps, fold-append}
use Rattle.sfu_base.specs.declared.call.Call.{Call}
use Rattle.sfu_base.specs.declared.call.Call.TheVariants as call
use Rattle.stream_maker.specs.declared.counts.Counts.{Counts}
use Rattle.stream_maker.specs.declared.event.Event.{Event}
use Rattle.stream_maker.specs.declared.event.Event.TheVariants as event
use Rattle.stream_maker.specs.declared.place.Place.{Place}
use Rattle.stream_maker.specs.Bytes.{packet_bytes}
use Rattle.stream_maker.specs.Giving.{GivesNext, Making, filled}
use Rattle.stream_maker.specs.Order.{ends_stream, tick_due}
use Rattle.stream_maker.specs.Packets.{packets}
use Rattle.stream_maker.specs.Stream.{Stream, counts_of, events, fate, turns, waiting}
use Rattle.stream_maker.specs.Turn.{Given, sent, sent_event, tick_event, turn}
use Rattle.stream_maker.specs.Summary.{made}
use Rattle.cascade.specs.Calls.{and_call}
use Rattle.cascade.specs.Trial.{after_event, after_given, after_takes, opened, trial_calls}
use Rattle.cascade.specs.Staged.{IsStaged}
use Rattle.cascade.specs.declared.stream_trial.stage.Stage.{Stage}

-- ---- the events of a stream: packets with their places, and ticks

abbrev pub IsSound : Event → Option Place → Type 0
IsSound (event.Packet moment) None = ⊥
IsSound (event.Packet moment) (Some p) = Unit {0}
IsSound (event.Tick moment) place = Unit {0}
IsSound event.End place = ⊥

pub record AreSound (gs : List Given) : Type 0 where
  pub all : AllByRecursion (λ g. IsSound g.event g.place) gs

first_sound : (x : Given) (xs : List Given) → IsSound x.event x.place → AreSound xs → AreSound (x ∷ xs)
first_sound x xs first rest = record { all = (first, rest.all) }

rest_sound : (x : Given) (xs : List Given) → AreSound (x ∷ xs) → AreSound xs
rest_sound x xs sound = record { all = sound.all.1 }

both_sound : (xs ys : List Given) → AreSound xs → AreSound ys → AreSound (xs ++ ys)
both_sound [] ys a b = b
both_sound (x ∷ xs) ys a b = first_sound x (xs ++ ys) a.all.0 (both_sound xs ys (rest_sound x xs a) b)

sent_sound : (counts : Counts) (ps : List Place) → AreSound (map (sent_event counts) ps)
sent_sound counts [] = record { all = tt }
sent_sound counts (p ∷ ps) = first_sound (sent_event counts p) (map (sent_event counts) ps) tt (sent_sound counts ps)

ticks_sound : (counts : Counts) (moments : List ℕ) → AreSound (map (tick_event counts) moments)
ticks_sound counts [] = record { all = tt }
ticks_sound counts (m ∷ ms) = first_sound (tick_event counts m) (map (tick_event counts) ms) tt (ticks_sound counts ms)

turns_sound : (s : Stream) (before left : List Place) → AreSound (turns s before left)
unfolding turns turn
turns_sound s before [] = record { all = (tt, tt) }
turns_sound s before (p ∷ left) =
    let counts : Counts = counts_of s (p ∷ before) in
    let places : List Place = sent (fate s p) (waiting s before) p ++ cond (ends_stream s.frames p) (option_to_list (waiting s (p ∷ before))) [] in
    let moments : List ℕ = option_to_list (tick_due s.frames p) in
    both_sound (map (sent_event counts) places ++ map (tick_event counts) moments) (turns s (p ∷ before) left)
    (both_sound (map (sent_event counts) places) (map (tick_event counts) moments) (sent_sound counts places) (ticks_sound counts moments))
    (turns_sound s (p ∷ before) left)

-- ---- the counts of the whole stream

abbrev pub last_counts : Counts → List Given → Counts
last_counts counts gs = fold (λ (_ : Counts) (g : Given). g.counts) counts gs

last_of_turns : (s : Stream) (before left : List Place) (counts : Counts) → last_counts counts (turns s before left) ≡ counts_of s (reverse left ++ before)
unfolding turns
last_of_turns s before [] counts = refl
last_of_turns s before (p ∷ left) counts =
    let first : List Given = turn s.frames (fate s p) (waiting s before) (waiting s (p ∷ before)) (counts_of s (p ∷ before)) p in
    let e : reverse left ++ (p ∷ before) ≡ reverse (p ∷ left) ++ before = grind (arith, common_steps) in
    fold-append (λ (_ : Counts) (g : Given). g.counts) counts first (turns s (p ∷ before) left)
    ∙ last_of_turns s (p ∷ before) left (last_counts counts first)
    ∙ ap (counts_of s) e

last_of_all : (s : Stream) (counts : Counts) → last_counts counts (events s) ≡ made s
unfolding made
last_of_all s counts = last_of_turns s [] (packets s.frames) counts ∙ ap (counts_of s) (append-nil (reverse (packets s.frames)))

-- ---- the loop

-- these calls were accepted so far, and these events remain
pub record IsPlaying (stage : Stage) (left : List Given) (counts : Counts) (s : Stream) : Type 0 where
  pub past : List Call
  pub staged : IsStaged stage past
  pub calls_are : fold after_given past left ≡ trial_calls s
  pub counts_are : last_counts counts left ≡ made s
  pub sound : AreSound left

pub play_begins : (stage : Stage) (left : List Given) (counts : Counts) (s : Stream) → left ≡ events s → IsStaged stage opened → IsPlaying stage left counts s
unfolding trial_calls
play_begins stage left counts s is staged = record {
  past = opened;
  staged = staged;
  calls_are = ap (fold after_given opened) is;
  counts_are = ap (last_counts counts) is ∙ last_of_all s counts;
  sound = subst AreSound (sym is) (turns_sound s [] (packets s.frames));
}

-- the place of a packet
place_of : (place : Option Place) (moment : ℕ) → IsSound (event.Packet moment) place → (p : Place) × (place ≡ Some p)
place_of None moment sound = absurd sound
place_of (Some p) moment sound = (p, refl)

pub plays_packet : (stage next : Stage) (old new : Making) (s : Stream) (moment : ℕ) (out out' : List ℕ) → GivesNext old.left old new (event.Packet moment) out out'
    → IsPlaying stage old.left old.counts s → ((past : List Call) → IsStaged stage past → IsStaged next (and_call past (call.Packet 1 moment out')))
    → IsPlaying next new.left new.counts s
unfolding after_event
plays_packet stage next old new s moment out out' gives playing comes = go old.left refl gives
  where
    go : (left : List Given) → old.left ≡ left → GivesNext left old new (event.Packet moment) out out' → IsPlaying next new.left new.counts s
    go [] is g = absurd (let no : event.Packet moment ≡ event.End = g.0 in cc)
    go (x ∷ rest) is g =
        let left_is : new.left ≡ rest = ap (λ (m : Making). m.left) g.1 in
        let counts_is : new.counts ≡ x.counts = ap (λ (m : Making). m.counts) g.1 in
        let sound : AreSound (x ∷ rest) = subst AreSound is playing.sound in
        let place = place_of x.place moment (subst (λ (e : Event). IsSound e x.place) (sym g.0) sound.all.0) in
        let bytes_are : out' ≡ packet_bytes place.0 = g.2 ∙ ap (λ (o : Option Place). filled o out) place.1 in
        let call_is : and_call playing.past (call.Packet 1 moment out') ≡ after_given playing.past x =
        ap (λ (b : List ℕ). and_call playing.past (call.Packet 1 moment b)) bytes_are
        ∙ ap (λ (o : Option Place). after_event playing.past (event.Packet moment) o) (sym place.1)
        ∙ ap (λ (e : Event). after_event playing.past e x.place) g.0 in
        record {
          past = and_call playing.past (call.Packet 1 moment out');
          staged = comes playing.past playing.staged;
          calls_are = ap (λ (past : List Call). fold after_given past new.left) call_is ∙ ap (fold after_given (after_given playing.past x)) left_is
              ∙ sym (ap (fold after_given playing.past) is) ∙ playing.calls_are;
          counts_are = ap (λ (c : Counts). last_counts c new.left) counts_is ∙ ap (last_counts x.counts) left_is
              ∙ sym (ap (last_counts old.counts) is) ∙ playing.counts_are;
          sound = subst AreSound (sym left_is) (rest_sound x rest sound);
        }

pub plays_tick : (stage next : Stage) (old new : Making) (s : Stream) (moment : ℕ) (out out' : List ℕ) → GivesNext old.left old new (event.Tick moment) out out'
    → IsPlaying stage old.left old.counts s
    → ((past : List Call) → IsStaged stage past → IsStaged next (after_takes 3 (after_takes 2 (after_takes 1 (and_call past (call.Tick 1 moment))))))
    → IsPlaying next new.left new.counts s
unfolding after_event
plays_tick stage next old new s moment out out' gives playing comes = go old.left refl gives
  where
    go : (left : List Given) → old.left ≡ left → GivesNext left old new (event.Tick moment) out out' → IsPlaying next new.left new.counts s
    go [] is g = absurd (let no : event.Tick moment ≡ event.End = g.0 in cc)
    go (x ∷ rest) is g =
        let left_is : new.left ≡ rest = ap (λ (m : Making). m.left) g.1 in
        let counts_is : new.counts ≡ x.counts = ap (λ (m : Making). m.counts) g.1 in
        let sound : AreSound (x ∷ rest) = subst AreSound is playing.sound in
        let past' : List Call = after_takes 3 (after_takes 2 (after_takes 1 (and_call playing.past (call.Tick 1 moment)))) in
        let call_is : past' ≡ after_given playing.past x = ap (λ (e : Event). after_event playing.past e x.place) g.0 in
        record {
          past = past';
          staged = comes playing.past playing.staged;
          calls_are = ap (λ (past : List Call). fold after_given past new.left) call_is ∙ ap (fold after_given (after_given playing.past x)) left_is
              ∙ sym (ap (fold after_given playing.past) is) ∙ playing.calls_are;
          counts_are = ap (λ (c : Counts). last_counts c new.left) counts_is ∙ ap (last_counts x.counts) left_is
              ∙ sym (ap (last_counts old.counts) is) ∙ playing.counts_are;
          sound = subst AreSound (sym left_is) (rest_sound x rest sound);
        }

-- at the end
pub record HasPlayed (stage : Stage) (counts : Counts) (s : Stream) : Type 0 where
  pub staged : IsStaged stage (trial_calls s)
  pub counts_are : counts ≡ made s

pub play_ends : (stage : Stage) (old new : Making) (s : Stream) (out out' : List ℕ) → GivesNext old.left old new event.End out out' → IsPlaying stage old.left old.counts s
    → HasPlayed stage new.counts s
play_ends stage old new s out out' gives playing = go old.left refl gives
  where
    go : (left : List Given) → old.left ≡ left → GivesNext left old new event.End out out' → HasPlayed stage new.counts s
    go [] is g = record {
      staged = subst (IsStaged stage) (sym (ap (fold after_given playing.past) is) ∙ playing.calls_are) playing.staged;
      counts_are = ap (λ (m : Making). m.counts) g.1 ∙ sym (ap (last_counts old.counts) is) ∙ playing.counts_are;
    }
    go (x ∷ rest) is g =
        let sound : AreSound (x ∷ rest) = subst AreSound is playing.sound in
        absurd (subst (λ (e : Event). IsSound e x.place) (sym g.0) sound.all.0)
