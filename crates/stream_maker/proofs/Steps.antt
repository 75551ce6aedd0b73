-- The events that a state has yet to return, before a call and after it.
use Rattle.std.proofs.Common.{◌≡◌, ℕ, ◌+◌, ◌-◌, ◌*◌, ◌<◌, zero, suc, ◌≤◌, Bool, true, false, cond, List, [], ◌∷◌, ◌++◌, map, refl, sym, ap, ◌∙◌, subst, arith, Option, Some, None}
use Rattle.std.proofs.lemmas.Bool.{eqb-false, eqb-true}
use Rattle.std.specs.Prelude.{is_none, not, replicate, ◌==◌, ◌&&◌}
use Rattle.std.specs.Option.{option_to_list}
use Rattle.rand_pcg.specs.Lcg.{Lcg}
use Rattle.sfu_base.specs.Bytes.{bit}
use Rattle.stream_maker.specs.declared.place.Place.{Place}
use Rattle.stream_maker.specs.declared.due.Due.{Due}
use Rattle.stream_maker.specs.declared.state.State.{State}
use Rattle.stream_maker.specs.declared.counts.Counts.{Counts}
use Rattle.stream_maker.specs.declared.event.Event.{Event}
use Rattle.stream_maker.specs.declared.event.Event.TheVariants.{End}
use Rattle.stream_maker.specs.declared.fate.Fate.{Fate}
use Rattle.stream_maker.specs.declared.fate.Fate.TheVariants.{Lost, Twice, Held, Once}
use Rattle.stream_maker.specs.Packets.{moment_of, packet_count, is_upper, is_key_unit}
use Rattle.stream_maker.specs.Bytes.{ends_frame, starts_frame}
use Rattle.stream_maker.specs.Order.{ends_stream, tick_due}
use Rattle.stream_maker.specs.Fates.{fate_of, word_of, after_word, is_twice, is_lost, is_to_be_held}
use Rattle.stream_maker.specs.Turn.{Given, sent, sent_event, tick_event, turn}
use Rattle.stream_maker.specs.Stream.{last_moment}
use Rattle.stream_maker.specs.Giving.{Making, Gives, GivesNext, filled}
use Rattle.stream_maker.specs.Left.{behind, copies, held_after, place_after, counts_after, due_places, due_tick, is_idle, due_events, packets_from, turns_left, left_of, making_of, IsSound}
use Rattle.stream_maker.proofs.PacketsLeft.{packets_from-next, packets_from-end}
use Rattle.stream_maker.proofs.TurnsLeft.{one_turn}

-- ---- the events that are returned

pub gives_first : (old new : Making) (g : Given) (event : Event) (out out' : List ℕ)
    → old.left ≡ g ∷ new.left → new.counts ≡ g.counts → event ≡ g.event → out' ≡ filled g.place out → Gives old new event out out'
gives_first old new g event out out' left counts is bytes =
    let P : List Given → Type 0 = λ xs. GivesNext xs old new event out out' in
    let same : new ≡ record { left = new.left; counts = g.counts } =
    ap (λ (k : Counts). (let m : Making = record { left = new.left; counts = k } in m)) counts in
    subst P (sym left) (is, same, bytes)

pub gives_end : (old : Making) (out : List ℕ) → old.left ≡ [] → Gives old old End out out
gives_end old out none =
    let P : List Given → Type 0 = λ xs. GivesNext xs old old End out out in subst P (sym none) (refl, refl, refl)

gives_of : (old mid new : Making) (event : Event) (out out' : List ℕ) (xs : List Given)
    → (xs ≡ [] → old ≡ mid) → GivesNext xs mid new event out out' → GivesNext xs old new event out out'
gives_of old mid new event out out' [] same h = (h.0, h.1 ∙ sym (same refl), h.2)
gives_of old mid new event out out' (g ∷ xs) same h = h

-- Where the same events remain, the same event is returned. Where no event remains, the two states are equal.
pub gives-same_left : (old mid new : Making) (event : Event) (out out' : List ℕ)
    → mid.left ≡ old.left → (old.left ≡ [] → old ≡ mid) → Gives mid new event out out' → Gives old new event out out'
gives-same_left old mid new event out out' left same h =
    let P : List Given → Type 0 = λ xs. GivesNext xs mid new event out out' in
    gives_of old mid new event out out' old.left same (subst P left h)

-- ---- the events that are due

due_events-parts : (counts : Counts) (due : Due) (ps : List Place) (t : Option ℕ) → due_places due ≡ ps → due_tick due ≡ t
    → due_events counts due ≡ map (sent_event counts) ps ++ map (tick_event counts) (option_to_list t)
unfolding due_events
due_events-parts counts due ps t places tick =
    ap (λ (qs : List Place). map (sent_event counts) qs ++ map (tick_event counts) (option_to_list (due_tick due))) places
    ∙ ap (λ (u : Option ℕ). map (sent_event counts) ps ++ map (tick_event counts) (option_to_list u)) tick

no_copies : (n : ℕ) (p : Place) (xs : List Place) → replicate n p ++ xs ≡ [] → (n ≡ 0) × (xs ≡ [])
no_copies zero p xs e = (refl, e)
no_copies (suc n) p xs e = cc

idle_parts : (n : ℕ) (b : Option Place) (t : Bool) (m : ℕ) → n ≡ 0 → option_to_list b ≡ [] → cond t (Some m) None ≡ None
    → n == 0 && is_none b && not t ≡ true
idle_parts zero None false m n b t = refl
idle_parts zero None true m n b t = cc
idle_parts zero (Some q) t m n b e = cc
idle_parts (suc k) b t m n e f = cc

pub idle_of-nothing : (due : Due) → due_places due ≡ [] → due_tick due ≡ None → is_idle due ≡ true
idle_of-nothing due places tick =
    let none = no_copies due.copies due.place (option_to_list due.behind) places in
    idle_parts due.copies due.behind due.ticks (moment_of due.place.frame) none.0 none.1 tick

both : (a b : Bool) → a && b ≡ true → (a ≡ true) × (b ≡ true)
both true b e = (refl, e)
both false b e = cc

no_places : (n : ℕ) (p : Place) (b : Option Place) (t : Bool) (m : ℕ) → n ≡ 0 → is_none b ≡ true → not t ≡ true
    → (replicate n p ++ option_to_list b ≡ []) × (cond t (Some m) None ≡ None)
no_places zero p None false m z e f = (refl, refl)
no_places zero p None true m z e f = cc
no_places zero p (Some q) t m z e f = cc
no_places (suc n) p b t m z e f = cc

nothing_of-idle : (due : Due) → is_idle due ≡ true → (due_places due ≡ []) × (due_tick due ≡ None)
nothing_of-idle due idle =
    let parts = both (due.copies == 0 && is_none due.behind) (not due.ticks) idle in
    let packets = both (due.copies == 0) (is_none due.behind) parts.0 in
    no_places due.copies due.place due.behind due.ticks (moment_of due.place.frame) (eqb-true due.copies 0 packets.0) packets.1 parts.1

due_cases : (f : Fate) (held : Option Place) (p : Place) (b : Bool)
    → replicate (copies f held) p ++ option_to_list (behind f held p b) ≡ sent f held p ++ cond b (option_to_list (held_after f held p)) []
unfolding behind held_after
due_cases Lost held p true = refl
due_cases Lost held p false = refl
due_cases Twice None p true = refl
due_cases Twice None p false = refl
due_cases Twice (Some q) p true = refl
due_cases Twice (Some q) p false = refl
due_cases Once None p true = refl
due_cases Once None p false = refl
due_cases Once (Some q) p true = refl
due_cases Once (Some q) p false = refl
due_cases Held None p true = refl
due_cases Held None p false = refl
due_cases Held (Some q) p true = refl
due_cases Held (Some q) p false = refl

-- the parts of what is due are the turn's events
pub due_of-turn : (frames : ℕ) (f : Fate) (held : Option Place) (p : Place) (counts : Counts) (due : Due) (ends : Bool)
    → ends ≡ ends_stream frames p → due.place ≡ p → due.copies ≡ copies f held → due.behind ≡ behind f held p ends → tick_due frames p ≡ due_tick due
    → due_events counts due ≡ turn frames f held (held_after f held p) counts p
unfolding turn
due_of-turn frames f held p counts due ends is_e is_p is_c is_b tick =
    let places : due_places due ≡ sent f held p ++ cond (ends_stream frames p) (option_to_list (held_after f held p)) [] =
    rw (is_p, is_c, is_b, is_e) (due_cases f held p (ends_stream frames p)) in
    due_events-parts counts due (sent f held p ++ cond (ends_stream frames p) (option_to_list (held_after f held p)) []) (tick_due frames p) places (sym tick)

-- ---- the events that remain

left_of-due : (s : State) (due : List Given) → due_events s.counts s.due ≡ due
    → left_of s ≡ due ++ cond s.ended [] (turns_left s.frames s.loss s.generator s.held s.counts (packets_from s.frames s.next))
unfolding left_of
left_of-due s due e =
    ap (λ (xs : List Given). xs ++ cond s.ended [] (turns_left s.frames s.loss s.generator s.held s.counts (packets_from s.frames s.next))) e

-- a packet that is due comes first
pub left_of-packet : (s : State) (due : Due) (p : Place) → due_places s.due ≡ p ∷ due_places due → due_tick due ≡ due_tick s.due
    → left_of s ≡ sent_event s.counts p ∷ left_of (record s { due = due })
left_of-packet s due p places tick =
    let now = due_events-parts s.counts s.due (p ∷ due_places due) (due_tick s.due) places refl in
    let later = due_events-parts s.counts due (due_places due) (due_tick s.due) refl tick in
    left_of-due s _ now ∙ ap (λ (xs : List Given). sent_event s.counts p ∷ xs) (sym (left_of-due (record s { due = due }) _ later))

-- if the same packets and the same tick are due, the same events remain
pub left_of-same : (s : State) (due : Due) → due_places s.due ≡ due_places due → due_tick due ≡ due_tick s.due → left_of (record s { due = due }) ≡ left_of s
left_of-same s due places tick =
    let now = due_events-parts s.counts s.due (due_places due) (due_tick s.due) places refl in
    let later = due_events-parts s.counts due (due_places due) (due_tick s.due) refl tick in
    left_of-due (record s { due = due }) _ later ∙ sym (left_of-due s _ now)

pub left_of-tick : (s : State) (due : Due) (moment : ℕ) → due_places s.due ≡ [] → due_tick s.due ≡ Some moment
    → due_places due ≡ [] → due_tick due ≡ None → left_of s ≡ tick_event s.counts moment ∷ left_of (record s { due = due })
left_of-tick s due moment places tick places' tick' =
    let now = due_events-parts s.counts s.due [] (Some moment) places tick in
    let later = due_events-parts s.counts due [] None places' tick' in
    left_of-due s _ now ∙ ap (λ (xs : List Given). tick_event s.counts moment ∷ xs) (sym (left_of-due (record s { due = due }) _ later))

left_of-idle : (s : State) (b : Bool) → s.ended ≡ b → due_places s.due ≡ [] → due_tick s.due ≡ None
    → left_of s ≡ cond b [] (turns_left s.frames s.loss s.generator s.held s.counts (packets_from s.frames s.next))
left_of-idle s b ended places tick =
    left_of-due s [] (due_events-parts s.counts s.due [] None places tick)
    ∙ ap (λ (x : Bool). cond x [] (turns_left s.frames s.loss s.generator s.held s.counts (packets_from s.frames s.next))) ended

pub left_of-ended : (s : State) → s.ended ≡ true → due_places s.due ≡ [] → due_tick s.due ≡ None → left_of s ≡ []
left_of-ended s ended places tick = left_of-idle s true ended places tick

turns_left-nil : (frames loss : ℕ) (g : Lcg) (held : Option Place) (counts : Counts)
    → turns_left frames loss g held counts [] ≡ tick_event counts (last_moment frames) ∷ []
unfolding turns_left
turns_left-nil frames loss g held counts = refl

-- after all packets comes the last tick, and then nothing
pub left_of-last : (s : State) → s.ended ≡ false → due_places s.due ≡ [] → due_tick s.due ≡ None → s.next.frame ≡ s.frames → s.next.part ≡ 0
    → left_of s ≡ tick_event s.counts (last_moment s.frames) ∷ left_of (record s { ended = true })
left_of-last s ended places tick all_made first =
    let none : left_of (record s { ended = true }) ≡ [] = left_of-ended (record s { ended = true }) refl places tick in
    left_of-idle s false ended places tick
    ∙ ap (turns_left s.frames s.loss s.generator s.held s.counts) (packets_from-end s.frames s.next all_made first)
    ∙ turns_left-nil s.frames s.loss s.generator s.held s.counts
    ∙ ap (λ (xs : List Given). tick_event s.counts (last_moment s.frames) ∷ xs) (sym none)

-- the turn of a packet that is to be made becomes due
pub left_of-made : (s : State) (g : Lcg) (next : Place) (held : Option Place) (due : Due) (counts : Counts) (f : Fate)
    → s.ended ≡ false → is_idle s.due ≡ true → s.next.frame < s.frames → s.next.part < packet_count s.next.frame
    → f ≡ fate_of s.loss (word_of s.generator) → g ≡ after_word s.generator → next ≡ place_after s.next → held ≡ held_after f s.held s.next
    → counts ≡ counts_after f s.held s.next s.counts → due_events counts due ≡ turn s.frames f s.held (held_after f s.held s.next) counts s.next
    → left_of (record s { generator = g; next = next; held = held; due = due; counts = counts }) ≡ left_of s
left_of-made s g next held due counts f ended idle more in_frame is_f is_g is_next is_held is_counts is_due =
    let nothing = nothing_of-idle s.due idle in
    let new : State = record s { generator = g; next = next; held = held; due = due; counts = counts } in
    let rest = turns_left s.frames s.loss g held counts (packets_from s.frames next) in
    let after : left_of new ≡ turn s.frames f s.held (held_after f s.held s.next) counts s.next ++ rest =
    left_of-due new _ is_due
    ∙ ap (λ (x : Bool). turn s.frames f s.held (held_after f s.held s.next) counts s.next ++ cond x [] rest) ended in
    let same : turn s.frames f s.held (held_after f s.held s.next) counts s.next ≡ turn s.frames f s.held held counts s.next =
    ap (λ (o : Option Place). turn s.frames f s.held o counts s.next) (sym is_held) in
    let before : left_of s ≡ turn s.frames f s.held held counts s.next ++ rest =
    left_of-idle s false ended nothing.0 nothing.1
    ∙ ap (turns_left s.frames s.loss s.generator s.held s.counts) (packets_from-next s.frames s.next more in_frame)
    ∙ ap (λ (n : Place). turns_left s.frames s.loss s.generator s.held s.counts (s.next ∷ packets_from s.frames n)) (sym is_next)
    ∙ one_turn s.frames s.loss f s.held held s.counts counts s.next s.generator g (packets_from s.frames next) rest
    (sym is_f) (sym is_held) (sym is_counts) (sym is_g) refl in
    after ∙ ap (λ (xs : List Given). xs ++ rest) same ∙ sym before

append-empty_second : {X : Type 0} (xs ys : List X) → xs ++ ys ≡ [] → ys ≡ []
append-empty_second [] ys e = e
append-empty_second (x ∷ xs) ys e = cc

turns_left-some : (frames loss : ℕ) (g : Lcg) (held : Option Place) (counts : Counts) (ps : List Place)
    → turns_left frames loss g held counts ps ≡ [] → ⊥
unfolding turns_left
turns_left-some frames loss g held counts [] e = cc
turns_left-some frames loss g held counts (p ∷ ps) e =
    let f : Fate = fate_of loss (word_of g) in
    turns_left-some frames loss (after_word g) (held_after f held p) (counts_after f held p counts) ps (append-empty_second _ _ e)

ended_cases : (b : Bool) (due xs : List Given) → (xs ≡ [] → ⊥) → due ++ cond b [] xs ≡ [] → b ≡ true
ended_cases true due xs some e = refl
ended_cases false due xs some e = absurd (some (append-empty_second due xs e))

-- as long as the last tick wasn't returned, an event remains
pub ended_of-nothing_left : (s : State) → left_of s ≡ [] → s.ended ≡ true
ended_of-nothing_left s e =
    let xs = turns_left s.frames s.loss s.generator s.held s.counts (packets_from s.frames s.next) in
    ended_cases s.ended (due_events s.counts s.due) xs (turns_left-some s.frames s.loss s.generator s.held s.counts (packets_from s.frames s.next))
    (sym (left_of-due s (due_events s.counts s.due) refl) ∙ e)

-- ---- facts that always hold

count_cases : (a b : Bool) → (0 < cond a 2 (cond b 3 1)) × (cond a 2 (cond b 3 1) ≤ 3)
count_cases true b = (omega arith, omega arith)
count_cases false true = (omega arith, omega arith)
count_cases false false = (omega arith, omega arith)

-- the packet after a packet of a stream, or the place after the last packet
record IsBehind (frames : ℕ) (p q : Place) : Type 0 where
  frame : q.frame ≤ frames
  part : q.part < packet_count q.frame
  first : q.frame ≡ frames → q.part ≡ 0
  sequence : q.sequence ≡ p.sequence + 1
  bound : p.sequence ≤ 3 * p.frame + p.part → q.sequence ≤ 3 * q.frame + q.part
  fewer : 3 * (frames - q.frame) - q.part < 3 * (frames - p.frame) - p.part

behind_cases : (frames : ℕ) (p : Place) (b : Bool) → ends_frame p ≡ b → p.frame < frames → p.part < packet_count p.frame
    → IsBehind frames p (cond b (record { frame = p.frame + 1; part = 0; sequence = p.sequence + 1 }) (record { frame = p.frame; part = p.part + 1; sequence = p.sequence + 1 }))
behind_cases frames p true is h in_frame =
    let count = count_cases (is_upper p.frame) (is_key_unit p.frame) in
    let next_count = count_cases (is_upper (p.frame + 1)) (is_key_unit (p.frame + 1)) in
    record {
      frame = omega arith;
      part = next_count.0;
      first = λ e. refl;
      sequence = refl;
      bound = λ (few : p.sequence ≤ 3 * p.frame + p.part). omega (arith, count.1);
      fewer = omega (arith, count.1);
    }
behind_cases frames p false is h in_frame =
    let other : p.part ≡ packet_count p.frame - 1 → ⊥ = eqb-false p.part (packet_count p.frame - 1) is in
    let count = count_cases (is_upper p.frame) (is_key_unit p.frame) in
    record {
      frame = omega arith;
      part = omega arith;
      first = λ (e : p.frame ≡ frames). absurd (omega arith);
      sequence = refl;
      bound = λ (few : p.sequence ≤ 3 * p.frame + p.part). omega arith;
      fewer = omega (arith, count.1);
    }

is_behind : (frames : ℕ) (p : Place) → p.frame < frames → p.part < packet_count p.frame → IsBehind frames p (place_after p)
is_behind frames p h in_frame = behind_cases frames p (ends_frame p) refl h in_frame

bit-le : (b : Bool) → bit b ≤ 1
bit-le true = omega arith
bit-le false = omega arith

pub fewer_packets : (frames : ℕ) (p q : Place) → q ≡ place_after p → p.frame < frames → p.part < packet_count p.frame
    → 3 * (frames - q.frame) - q.part < 3 * (frames - p.frame) - p.part
fewer_packets frames p q is h in_frame =
    let P : Place → Type 0 = λ n. 3 * (frames - n.frame) - n.part < 3 * (frames - p.frame) - p.part in
    subst P (sym is) (is_behind frames p h in_frame).fewer

pub sound-made : (s : State) (g : Lcg) (next : Place) (held : Option Place) (due : Due) (counts : Counts) (f : Fate)
    → IsSound s → s.next.frame < s.frames → next ≡ place_after s.next → counts ≡ counts_after f s.held s.next s.counts
    → IsSound (record s { generator = g; next = next; held = held; due = due; counts = counts })
unfolding counts_after
sound-made s g next held due counts f sound more is_next is_counts =
    let b = is_behind s.frames s.next more sound.next_part in
    let P : Place → Type 0 = λ n. (counts' : Counts) → counts' ≡ counts_after f s.held s.next s.counts
    → IsSound (record s { generator = g; next = n; held = held; due = due; counts = counts' }) in
    let Q : Counts → Type 0 = λ k. IsSound (record s { generator = g; next = place_after s.next; held = held; due = due; counts = k }) in
    let packets : s.counts.packets + 1 ≡ (place_after s.next).sequence = ap (λ (n : ℕ). n + 1) sound.packets ∙ sym b.sequence in
    let at_end : s.ended ≡ true → ⊥ = λ (e : s.ended ≡ true). (let made : s.next.frame ≡ s.frames = sound.ended e in absurd (omega arith)) in
    let at : Q (counts_after f s.held s.next s.counts) = record {
      some_frames = sound.some_frames;
      few_frames = sound.few_frames;
      next_frame = b.frame;
      next_part = b.part;
      first_part = b.first;
      next_sequence = b.bound sound.next_sequence;
      ended = λ (e : s.ended ≡ true). absurd (at_end e);
      packets = packets;
      counted_frames = omega (arith, bit-le (starts_frame s.next), sound.counted_frames);
      lost = omega (arith, bit-le (is_lost f), sound.lost);
      repeated = omega (arith, bit-le (is_twice f), sound.repeated);
      swapped = omega (arith, bit-le (is_to_be_held f && is_none s.held), sound.swapped);
    } in
    let all : P (place_after s.next) = λ counts' e. subst Q (sym e) at in
    subst P (sym is_next) all counts is_counts

true_or_false : (b : Bool) → (b ≡ true → ⊥) → b ≡ false
true_or_false true h = absurd (h refl)
true_or_false false h = refl

pub not_ended : (s : State) → IsSound s → s.next.frame < s.frames → s.ended ≡ false
not_ended s sound more =
    true_or_false s.ended (λ (e : s.ended ≡ true). (let made : s.next.frame ≡ s.frames = sound.ended e in omega arith))

pub gives-same_due : (s : State) (due : Due) (new : Making) (event : Event) (out : List ℕ)
    → due_places s.due ≡ due_places due → due_tick due ≡ due_tick s.due
    → Gives (making_of (record s { due = due })) new event out out → Gives (making_of s) new event out out
gives-same_due s due new event out places tick h =
    let mid : State = record s { due = due } in
    let left : left_of mid ≡ left_of s = left_of-same s due places tick in
    gives-same_left (making_of s) (making_of mid) new event out out left
    (λ (e : left_of s ≡ []). ap (λ (xs : List Given). (let m : Making = record { left = xs; counts = s.counts } in m)) (sym left)) h

-- the remaining events stay the same, however many packets are made to return the next one
pub gives-made : (s mid : State) (new : Making) (event : Event) (out out' : List ℕ)
    → left_of mid ≡ left_of s → (s.ended ≡ true → mid ≡ s) → Gives (making_of mid) new event out out' → Gives (making_of s) new event out out'
gives-made s mid new event out out' left same h =
    gives-same_left (making_of s) (making_of mid) new event out out' left
    (λ (e : left_of s ≡ []). ap making_of (sym (same (ended_of-nothing_left s e)))) h
