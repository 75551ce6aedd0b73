-- A receiver and one frame that passes: it keeps the numbers of the epoch's passed frames, all shifted by the same multiple of 65,536.
use Rattle.std.proofs.Common.{◌≡◌, ◌⊎◌, inl, inr, ◌+◌, ◌-◌, ◌%◌, ◌<◌, ◌≤◌, ℕ, arith, Bool, true, false, List, [], ◌∷◌, refl, sym, subst, ap, ◌∙◌}
use Rattle.std.specs.Prelude.{pos, ◌==◌}
use Rattle.std.proofs.lemmas.Bool.{eqb-true, eq-eqb, lt-ltb, cases_lt}
use Rattle.std.specs.List.{AllByRecursion}
use Rattle.std.specs.declared.option.Option.TheVariants.{None}
use Rattle.sfu_base.specs.declared.frame.FrameMeaning.{FrameMeaning}
use Rattle.sfu_base.specs.Frame.{IsDistance}
use Rattle.forwarding_model.specs.Lists.{IsMember, first_failing}
use Rattle.wrap_number.specs.Number.{ahead_of, is_above, number_above}
use Rattle.forwarding_model.specs.forwarding.Targets.{references}
use Rattle.forwarding_model.specs.forwarding.Selection.{missing_reference}
use Rattle.forwarding_model.specs.forwarding.Standing.{has_below}
use Rattle.forwarding_model.specs.Receiver.{Received, FrameHeader, Judged, nothing_received, placed, is_received, judged, judged_at, judge}
use Rattle.forwarding_model.specs.Receiver.Judged.{Complete, Lacks}
use Rattle.forwarding_laws.proofs.WrapNumbers.{ahead_of_same, number_above-mod}
use Rattle.forwarding_laws.proofs.Members.{each_member, each_of, any_member, member_any, none_failing, failing_none}

-- the header that a receiver reads from the first packet of a frame
abbrev pub header : FrameMeaning → FrameHeader
header f = record { number = f.number % 65536; key = f.key; references = references f }

abbrev pub judge_next : Judged → FrameHeader → Judged
judge_next (Complete received) h = judge received h
judge_next (Lacks fdiff) h = Lacks fdiff

-- after frames with these headers, the newest first
abbrev pub judge_all : List FrameHeader → Judged
judge_all [] = Complete nothing_received
judge_all (h ∷ past) = judge_next (judge_all past) h

abbrev pub IsComplete : Judged → Type 0
IsComplete (Complete received) = Unit {0}
IsComplete (Lacks fdiff) = ⊥

-- the number that has the same distance from r as x has from l
abbrev pub IsReceivedAs : List ℕ → ℕ → ℕ → ℕ → Type 0
IsReceivedAs numbers r l x = (m : ℕ) × IsMember m numbers × (m + l ≡ x + r)

-- the numbers r and `numbers` correspond to the frame l and the frames less than 4,097 below it
pub record IsTracking (frames : List FrameMeaning) (l : FrameMeaning) (r : ℕ) (numbers : List ℕ) : Type 0 where
  pub newest : r % 65536 ≡ l.number % 65536
  pub known : AllByRecursion (λ g. l.number ≤ g.number + 4096 → IsReceivedAs numbers r l.number g.number) frames

abbrev pub Tracks : List FrameMeaning → Judged → Type 0
Tracks [] j = IsComplete j
Tracks (l ∷ ls) (Complete received) = IsTracking (l ∷ ls) l received.newest received.numbers
Tracks (l ∷ ls) (Lacks fdiff) = ⊥

pub complete_from_tracks : (frames : List FrameMeaning) (j : Judged) → Tracks frames j → IsComplete j
complete_from_tracks [] j t = t
complete_from_tracks (l ∷ ls) (Complete received) t = tt
complete_from_tracks (l ∷ ls) (Lacks fdiff) t = t

pub judged_complete : (before : Received) (refs : List ℕ) → first_failing (is_received before.numbers before.newest) refs ≡ None
    → judged_at before refs ≡ Complete (record { newest = before.newest; numbers = before.newest ∷ before.numbers })
judged_complete before refs e = ap (judged before) e

placed_key : (received : Received) (h : FrameHeader) → h.key ≡ true → placed received h ≡ record { newest = h.number; numbers = [] }
placed_key received h k = rw k refl

placed_above : (received : Received) (h : FrameHeader) → h.key ≡ false → is_above received.newest h.number ≡ true
    → placed received h ≡ record { newest = number_above received.newest h.number; numbers = received.numbers }
placed_above received h k e = rw k (rw e refl)

placed_behind : (received : Received) (h : FrameHeader) → h.key ≡ false → is_above received.newest h.number ≡ false
    → placed received h ≡ record { newest = h.number; numbers = [] }
placed_behind received h k e = rw k (rw e refl)

judge_complete : (received before : Received) (h : FrameHeader) → placed received h ≡ before
    → first_failing (is_received before.numbers before.newest) h.references ≡ None
    → judge received h ≡ Complete (record { newest = before.newest; numbers = before.newest ∷ before.numbers })
judge_complete received before h e found = ap (λ b. judged_at b h.references) e ∙ judged_complete before h.references found

-- a key frame
judge_key : (j : Judged) (h : FrameHeader) → IsComplete j → h.key ≡ true → h.references ≡ []
    → judge_next j h ≡ Complete (record { newest = h.number; numbers = h.number ∷ [] })
judge_key (Complete received) h q k e =
    judge_complete received (record { newest = h.number; numbers = [] }) h (placed_key received h k) (rw e refl)
judge_key (Lacks fdiff) h q k e = absurd q

pub tracks_key : (f : FrameMeaning) (j : Judged) → IsComplete j → f.key ≡ true → references f ≡ [] → Tracks (f ∷ []) (judge_next j (header f))
tracks_key f j q k e =
    subst (Tracks (f ∷ [])) (sym (judge_key j (header f) q k e))
    (record {
      newest = omega arith;
      known = (λ near. (f.number % 65536, inl refl, omega arith), tt);
    })

-- a reference of f is to a passed frame, which the receiver has
reference_received : (frames : List FrameMeaning) (l : ℕ) (r : ℕ) (numbers : List ℕ) (n d : ℕ)
    → AllByRecursion (λ g. l ≤ g.number + 4096 → IsReceivedAs numbers r l g.number) frames
    → l < n → IsDistance d → has_below frames n d ≡ true → is_received numbers (r + (n - l)) d ≡ true
reference_received frames l r numbers n d known lt distance has =
    let from = any_member (λ g. (g.number + d) == n) frames has in
    let at : from.0.number + d ≡ n = eqb-true _ _ from.2 in
    let near : l ≤ from.0.number + 4096 = omega (arith, distance.near) in
    let got = each_member (λ g. l ≤ g.number + 4096 → IsReceivedAs numbers r l g.number) frames from.0 known from.1 near in
    member_any (λ m. (m + d) == (r + (n - l))) numbers got.0 got.1
    (eq-eqb _ _ (let sum : got.0 + l ≡ from.0.number + r = got.2 in omega arith))

references_received : (frames : List FrameMeaning) (l : ℕ) (r : ℕ) (numbers : List ℕ) (n : ℕ) (ds : List ℕ)
    → AllByRecursion (λ g. l ≤ g.number + 4096 → IsReceivedAs numbers r l g.number) frames
    → l < n → AllByRecursion IsDistance ds → AllByRecursion (λ d. has_below frames n d ≡ true) ds
    → AllByRecursion (λ d. is_received numbers (r + (n - l)) d ≡ true) ds
references_received frames l r numbers n [] known lt distances has = tt
references_received frames l r numbers n (d ∷ ds) known lt distances has =
    (reference_received frames l r numbers n d known lt distances.0 has.0, references_received frames l r numbers n ds known lt distances.1 has.1)

-- f is at most 32,767 above the last passed frame
tracks_near : (ls : List FrameMeaning) (l f : FrameMeaning) (received : Received)
    → IsTracking (l ∷ ls) l received.newest received.numbers → f.key ≡ false → AllByRecursion IsDistance (references f)
    → l.number < f.number → f.number ≤ l.number + 32767 → missing_reference (has_below (l ∷ ls) f.number) f ≡ None
    → Tracks (f ∷ l ∷ ls) (judge received (header f))
tracks_near ls l f received t k distances lt near found =
    let r : ℕ = received.newest in
    let same : r % 65536 ≡ l.number % 65536 = t.newest in
    let far : ahead_of (pos r) (f.number % 65536) ≡ f.number - l.number = ahead_of_same r l.number f.number same (omega arith) (omega arith) in
    let above : is_above r (f.number % 65536) ≡ true = rw far (rw (lt-ltb 0 (f.number - l.number) (omega arith), lt-ltb (f.number - l.number) 32768 (omega arith)) refl) in
    let before : Received = record { newest = r + (f.number - l.number); numbers = received.numbers } in
    let has = references_received (l ∷ ls) l.number r received.numbers f.number (references f) t.known lt distances (failing_none _ _ found) in
    let at : placed received (header f) ≡ before
    = placed_above received (header f) k above ∙ ap (λ d. record { newest = r + d; numbers = received.numbers }) far in
    subst (Tracks (f ∷ l ∷ ls)) (sym (judge_complete received before (header f) at (none_failing _ _ has)))
    (record {
      newest = omega arith;
      known = (
        λ c. (r + (f.number - l.number), inl refl, omega arith),
        each_of _ (l ∷ ls) (λ g m c.
            let got = each_member (λ g. l.number ≤ g.number + 4096 → IsReceivedAs received.numbers r l.number g.number) (l ∷ ls) g t.known m (omega arith) in
            (got.0, inr got.1, let sum : got.0 + l.number ≡ g.number + r = got.2 in omega arith)),
      );
    })

-- f is farther above it: it has no references, and with whatever number it is read, only f itself is near
no_references : (ls : List FrameMeaning) (l n : ℕ) (ds : List ℕ) → AllByRecursion (λ g. g.number ≤ l) ls → l + 4096 < n
    → AllByRecursion IsDistance ds → AllByRecursion (λ d. has_below ls n d ≡ true) ds → ds ≡ []
no_references ls l n [] below far distances has = refl
no_references ls l n (d ∷ ds) below far distances has =
    let from = any_member (λ g. (g.number + d) == n) ls has.0 in
    let at : from.0.number + d ≡ n = eqb-true _ _ from.2 in
    let low : from.0.number ≤ l = each_member (λ g. g.number ≤ l) ls from.0 below from.1 in
    let near : d ≤ 4096 = distances.0.near in
    absurd (omega arith)

alone : (frames : List FrameMeaning) (f : FrameMeaning) (r : ℕ) (numbers : List ℕ) → r % 65536 ≡ f.number % 65536
    → AllByRecursion (λ g. g.number + 4096 < f.number) frames → IsTracking (f ∷ frames) f r (r ∷ numbers)
alone frames f r numbers e low =
    record {
      newest = e;
      known = (
        λ near. (r, inl refl, omega arith),
        each_of _ frames (λ g m near. absurd (let far = each_member (λ g. g.number + 4096 < f.number) frames g low m in omega arith)),
      );
    }

tracks_far : (ls : List FrameMeaning) (l f : FrameMeaning) (received : Received)
    → f.key ≡ false → references f ≡ [] → AllByRecursion (λ g. g.number + 4096 < f.number) (l ∷ ls)
    → Tracks (f ∷ l ∷ ls) (judge received (header f))
tracks_far ls l f received k none low = go (is_above received.newest (f.number % 65536)) refl
  where
    go : (b : Bool) → is_above received.newest (f.number % 65536) ≡ b → Tracks (f ∷ l ∷ ls) (judge received (header f))
    go true e =
        subst (Tracks (f ∷ l ∷ ls))
        (sym (judge_complete received (record { newest = number_above received.newest (f.number % 65536); numbers = received.numbers }) (header f)
        (placed_above received (header f) k e) (rw none refl)))
        (alone (l ∷ ls) f (number_above received.newest (f.number % 65536)) received.numbers (number_above-mod received.newest f.number) low)
    go false e =
        subst (Tracks (f ∷ l ∷ ls))
        (sym (judge_complete received (record { newest = f.number % 65536; numbers = [] }) (header f)
        (placed_behind received (header f) k e) (rw none refl)))
        (alone (l ∷ ls) f (f.number % 65536) [] (omega arith) low)

-- any frame that isn't a key frame
pub tracks_other : (ls : List FrameMeaning) (l f : FrameMeaning) (j : Judged)
    → Tracks (l ∷ ls) j → f.key ≡ false → AllByRecursion IsDistance (references f)
    → AllByRecursion (λ g. g.number ≤ l.number) (l ∷ ls) → l.number < f.number → missing_reference (has_below (l ∷ ls) f.number) f ≡ None
    → Tracks (f ∷ l ∷ ls) (judge_next j (header f))
tracks_other ls l f (Lacks fdiff) t k distances below lt found = absurd t
tracks_other ls l f (Complete received) t k distances below lt found = go (cases_lt f.number (l.number + 32768))
  where
    go : (f.number < l.number + 32768) ⊎ (l.number + 32768 ≤ f.number) → Tracks (f ∷ l ∷ ls) (judge received (header f))
    go (inl near) = tracks_near ls l f received t k distances lt (omega arith) found
    go (inr far) =
        tracks_far ls l f received k
        (no_references (l ∷ ls) l.number f.number (references f) below (omega arith) distances (failing_none _ _ found))
        (each_of _ (l ∷ ls) (λ g m. let low = each_member (λ g. g.number ≤ l.number) (l ∷ ls) g below m in omega arith))
