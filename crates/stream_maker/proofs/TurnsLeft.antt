-- The events that a new maker has yet to return are the stream: at each turn the state represents the packets that were made before.
use Rattle.std.proofs.Common.{◌≡◌, ℕ, zero, suc, ◌+◌, ◌-◌, Bool, false, cond, List, [], ◌∷◌, ◌++◌, length, filter, refl, sym, ap, ◌∙◌, arith, add-one, Option, Some, None}
use Rattle.std.proofs.Math.Nat.{add_comm}
use Rattle.std.proofs.lemmas.List.Sums.{sum_by-cons}
use Rattle.std.specs.Prelude.{is_none, not, count_by, ◌&&◌}
use Rattle.rand_pcg.specs.Lcg.{Lcg, next_state, state_after}
use Rattle.rand_pcg.specs.Pcg.{multiplier_64}
use Rattle.sfu_base.specs.Bytes.{bit}
use Rattle.stream_maker.specs.declared.place.Place.{Place}
use Rattle.stream_maker.specs.declared.counts.Counts.{Counts}
use Rattle.stream_maker.specs.declared.fate.Fate.{Fate}
use Rattle.stream_maker.specs.declared.fate.Fate.TheVariants.{Lost, Twice, Held, Once}
use Rattle.stream_maker.specs.Packets.{placed, parts_from, packets}
use Rattle.stream_maker.specs.Bytes.{starts_frame}
use Rattle.stream_maker.specs.Fates.{fate_of, word_of, after_word, generator_at, generator_of, is_lost, is_twice, is_to_be_held}
use Rattle.stream_maker.specs.Turn.{Given, turn}
use Rattle.stream_maker.specs.Stream.{Stream, fate, held_back, waiting, swapped_count, counts_of, turns, events}
use Rattle.stream_maker.specs.Left.{held_after, counts_after, turns_left, packets_from, left_of, due_events}

-- one more word is one step after the others
next_state-state_after : (w m i n s : ℕ) → next_state w m i (state_after w m i n s) ≡ state_after w m i n (next_state w m i s)
unfolding state_after
next_state-state_after w m i zero s = refl
next_state-state_after w m i (suc n) s = next_state-state_after w m i n (next_state w m i s)

after_word-generator_at : (start n : ℕ) → after_word (generator_at start n) ≡ generator_at start (suc n)
unfolding after_word generator_at state_after
after_word-generator_at start n =
    let g = generator_of start in
    ap (λ (state : ℕ). (let h : Lcg = record { state = state; increment = g.increment } in h))
    (next_state-state_after 64 multiplier_64 g.increment n g.state)

-- a packet that is to be held back is held back if no other packet is
held_one : (o : Option Place) (p : Place) → held_after Held o p ≡ cond (is_none o) (Some p) None
unfolding held_after
held_one None p = refl
held_one (Some q) p = refl

held_back-more : (s : Stream) (p : Place) (before kept : List Place) (f : Fate) → fate s p ≡ f
    → filter (λ (q : Place). not (is_lost (fate s q))) before ≡ kept → is_lost f ≡ false
    → waiting s (p ∷ before) ≡ cond (is_to_be_held f && is_none (held_back s kept)) (Some p) None
unfolding waiting held_back
held_back-more s p before kept f e same is_kept =
    let rest = filter (λ (q : Place). not (is_lost (fate s q))) before in
    let lost : is_lost (fate s p) ≡ false = ap is_lost e ∙ is_kept in
    let list : filter (λ (q : Place). not (is_lost (fate s q))) (p ∷ before) ≡ p ∷ kept =
    ap (λ (b : Bool). cond (not b) (p ∷ rest) rest) lost ∙ ap (λ (xs : List Place). p ∷ xs) same in
    ap (held_back s) list ∙ ap (λ (v : Fate). cond (is_to_be_held v && is_none (held_back s kept)) (Some p) None) e

-- the packet that is held back after a turn
held_after-waiting : (s : Stream) (p : Place) (before : List Place) (f : Fate) → fate s p ≡ f
    → held_after f (waiting s before) p ≡ waiting s (p ∷ before)
unfolding held_after waiting held_back
held_after-waiting s p before Lost e = rw e refl
held_after-waiting s p before Twice e = sym (held_back-more s p before _ Twice e refl refl)
held_after-waiting s p before Once e = sym (held_back-more s p before _ Once e refl refl)
held_after-waiting s p before Held e =
    held_one (held_back s (filter (λ (q : Place). not (is_lost (fate s q))) before)) p ∙ sym (held_back-more s p before _ Held e refl refl)

same_counts : (a b c d e a' b' c' d' e' : ℕ) → a ≡ a' → b ≡ b' → c ≡ c' → d ≡ d' → e ≡ e'
    → (let x : Counts = record { frames = a; packets = b; lost = c; repeated = d; swapped = e } in x)
    ≡ (let y : Counts = record { frames = a'; packets = b'; lost = c'; repeated = d'; swapped = e' } in y)
same_counts a b c d e a' b' c' d' e' p q r s t = cc

count_by-more : (q : Place → Bool) (p : Place) (before : List Place) → count_by q before + bit (q p) ≡ count_by q (p ∷ before)
count_by-more q p before = add_comm (count_by q before) (bit (q p)) ∙ sym (sum_by-cons (λ (x : Place). cond (q x) 1 0) p before)

counts_after-counts_of : (s : Stream) (p : Place) (before : List Place)
    → counts_after (fate s p) (waiting s before) p (counts_of s before) ≡ counts_of s (p ∷ before)
unfolding counts_after counts_of swapped_count
counts_after-counts_of s p before =
    same_counts _ _ _ _ _ _ _ _ _ _ (count_by-more starts_frame p before) (add-one (length before))
    (count_by-more (λ (q : Place). is_lost (fate s q)) p before) (count_by-more (λ (q : Place). is_twice (fate s q)) p before) refl

pub one_turn : (frames loss : ℕ) (f : Fate) (held held' : Option Place) (counts counts' : Counts) (p : Place) (g g' : Lcg)
    (left : List Place) (rest : List Given)
    → fate_of loss (word_of g) ≡ f → held_after f held p ≡ held' → counts_after f held p counts ≡ counts' → after_word g ≡ g'
    → turns_left frames loss g' held' counts' left ≡ rest
    → turns_left frames loss g held counts (p ∷ left) ≡ turn frames f held held' counts' p ++ rest
unfolding turns_left
one_turn frames loss f held held' counts counts' p g g' left rest a b c d e = rw (a, b, c, d, e) refl

turns_left-turns : (s : Stream) (before : List Place) (parts : List (ℕ × ℕ))
    → turns_left s.frames s.loss (generator_at s.start (length before)) (waiting s before) (counts_of s before) (placed (length before) parts)
    ≡ turns s before (placed (length before) parts)
unfolding turns_left turns placed
turns_left-turns s before [] = refl
turns_left-turns s before (e ∷ parts) =
    let p : Place = record { sequence = length before; frame = e.0; part = e.1 } in
    let n : length before + 1 ≡ suc (length before) = add-one (length before) in
    let rest = placed (length before + 1) parts in
    let later : turns_left s.frames s.loss (generator_at s.start (suc (length before))) (waiting s (p ∷ before)) (counts_of s (p ∷ before)) rest ≡ turns s (p ∷ before) rest =
    rw n (turns_left-turns s (p ∷ before) parts) in
    one_turn s.frames s.loss (fate s p) (waiting s before) (waiting s (p ∷ before)) (counts_of s before) (counts_of s (p ∷ before)) p
    (generator_at s.start (length before)) (generator_at s.start (suc (length before))) rest (turns s (p ∷ before) rest)
    refl (held_after-waiting s p before (fate s p) refl) (counts_after-counts_of s p before)
    (after_word-generator_at s.start (length before)) later

-- a new state's turns are all events of the stream
pub turns_left-events : (s : Stream)
    → turns_left s.frames s.loss (generator_at s.start 0) (waiting s []) (counts_of s []) (packets s.frames) ≡ events s
turns_left-events s = turns_left-turns s [] (parts_from 0 s.frames)

generator_at-zero : (start : ℕ) → generator_of start ≡ generator_at start 0
unfolding generator_at state_after
generator_at-zero start = refl

nothing_waits : (s : Stream) → waiting s [] ≡ None
unfolding waiting held_back
nothing_waits s = refl

nothing_counted : (s : Stream) → counts_of s [] ≡ (let none : Counts = record { frames = 0; packets = 0; lost = 0; repeated = 0; swapped = 0 } in none)
unfolding counts_of swapped_count
nothing_counted s = refl

first_packets : (frames : ℕ) → packets_from frames (record { frame = 0; part = 0; sequence = 0 }) ≡ packets frames
unfolding packets_from
first_packets frames =
    let e : frames - 0 ≡ frames = omega arith in ap (λ (n : ℕ). placed 0 (parts_from 0 n)) e

-- a new maker's state has yet to return the stream
pub new_left-events : (s : Stream) (g : Lcg) → g ≡ generator_of s.start
    → left_of (record {
      frames = s.frames;
      loss = s.loss;
      generator = g;
      next = record { frame = 0; part = 0; sequence = 0 };
      held = None;
      due = record { place = record { frame = 0; part = 0; sequence = 0 }; copies = 0; behind = None; ticks = false };
      ended = false;
      counts = record { frames = 0; packets = 0; lost = 0; repeated = 0; swapped = 0 };
    }) ≡ events s
unfolding left_of due_events
new_left-events s g is =
    let none : Counts = record { frames = 0; packets = 0; lost = 0; repeated = 0; swapped = 0 } in
    ap (λ (h : Lcg). turns_left s.frames s.loss h None none (packets_from s.frames (record { frame = 0; part = 0; sequence = 0 }))) (is ∙ generator_at-zero s.start)
    ∙ ap (λ (ps : List Place). turns_left s.frames s.loss (generator_at s.start 0) None none ps) (first_packets s.frames)
    ∙ ap (λ (o : Option Place). turns_left s.frames s.loss (generator_at s.start 0) o none (packets s.frames)) (sym (nothing_waits s))
    ∙ ap (λ (k : Counts). turns_left s.frames s.loss (generator_at s.start 0) (waiting s []) k (packets s.frames)) (sym (nothing_counted s))
    ∙ turns_left-events s
