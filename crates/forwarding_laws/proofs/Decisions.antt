-- The rules of selection agree with the words.
use Rattle.std.proofs.Common.{◌≡◌, ◌≢◌, ◌⊎◌, inl, inr, ◌+◌, ◌-◌, ◌<◌, ◌≤◌, ℕ, arith, Bool, true, false, List, [], ◌∷◌, refl, sym, subst, ap, ◌∙◌, cond, true≢false, ◌&&◌, ◌||◌, not, length}
use Rattle.std.specs.Prelude.{◌==◌, nat_lt, nat_le}
use Rattle.std.proofs.lemmas.Bool.{and_parts, or_cases, not-true, ltb-true, leb-true, lt-ltb, le-leb, eq-eqb}
use Rattle.std.specs.declared.option.Option.{Option}
use Rattle.std.specs.declared.option.Option.TheVariants.{None, Some}
use Rattle.sfu_base.specs.declared.frame.FrameMeaning.{FrameMeaning}
use Rattle.sfu_base.specs.declared.frame.Wish.{Wish}
use Rattle.forwarding_model.specs.declared.target.CurrentTarget.{CurrentTarget}
use Rattle.forwarding_model.specs.declared.target.CurrentTarget.TheVariants.{Open, Closed}
use Rattle.forwarding_model.specs.declared.target.Reason.{Reason}
use Rattle.forwarding_model.specs.declared.target.Reason.TheVariants.{BrokenLink, NotOpened}
use Rattle.forwarding_model.specs.Lists.{is_nothing}
use Rattle.forwarding_model.specs.forwarding.Targets.{references, layers, is_switch, is_present, is_active, is_allowed, is_better, is_better_of, is_better_pair, IsBest, IsBetter, IsBetterOf, IsBetterPair}
use Rattle.forwarding_model.specs.forwarding.Selection.{missing_reference, chain_link, is_link_broken, target_under_mask, target_after_link, kept_target, is_upgrade, can_open, opening, opened_or, candidate, is_present_in, passes}
use Rattle.forwarding_model.specs.forwarding.Timeline.{Event, frames_of}
use Rattle.forwarding_model.specs.forwarding.Timeline.Event.{WholeFrame, PlainPacket, WishChange, Take}
use Rattle.forwarding_model.specs.forwarding.Standing.{Standing, is_epoch, target_at, has_passed, key_passed, kept_target_at, candidate_at, passes_at, admitted, after_plain, plain_passes, standing}
use Rattle.forwarding_laws.specs.forwarding.Restart.{WasClosed, BreaksAt}
use Rattle.forwarding_laws.specs.forwarding.Since.{EachFrameSince}
use Rattle.forwarding_laws.specs.forwarding.Decisions.{IsBrokenLink, IsOpenAt, ClosesAt, ClosesNone, WasClosedFor, IsUpgrade, CanOpen, IsInTarget}
use Rattle.forwarding_laws.proofs.Members.{none_failing, failing_none}
use Rattle.forwarding_laws.proofs.Sound.{is_epoch-true, none_is}
use Rattle.forwarding_laws.proofs.Bests.{opening_is_best, better_fact}

-- ---- links

broken_test : (has : ℕ → Bool) (f : FrameMeaning) (target opened : ℕ) → IsBrokenLink has f target opened → is_link_broken has f target opened ≡ true
broken_test has f target opened b =
    rw (lt-ltb 0 f.chain_count b.chains, lt-ltb 0 (chain_link f target) b.link, le-leb (opened + chain_link f target) f.number b.late, b.lost) refl

pub test_broken : (has : ℕ → Bool) (f : FrameMeaning) (target opened : ℕ) → is_link_broken has f target opened ≡ true → IsBrokenLink has f target opened
test_broken has f target opened h =
    let a = and_parts (nat_lt 0 f.chain_count) _ h in
    let b = and_parts (nat_lt 0 (chain_link f target)) _ a.1 in
    let c = and_parts (nat_le (opened + chain_link f target) f.number) _ b.1 in
    record {
      chains = ltb-true 0 f.chain_count a.0;
      link = ltb-true 0 (chain_link f target) b.0;
      late = leb-true (opened + chain_link f target) f.number c.0;
      lost = not-true (has (chain_link f target)) c.1;
    }

pub link_closes : (has : ℕ → Bool) (f : FrameMeaning) (target opened : ℕ) → IsBrokenLink has f target opened
    → target_after_link has f (Open target opened) ≡ Closed (BrokenLink f.number (f.number - chain_link f target))
link_closes has f target opened b =
    ap (λ t. cond t (Closed (BrokenLink f.number (f.number - chain_link f target))) (Open target opened)) (broken_test has f target opened b)

pub broken_links_close : (has : ℕ → Bool) (f : FrameMeaning) (target opened : ℕ) → IsBrokenLink has f target opened
    → (number : ℕ) × (number + chain_link f target ≡ f.number) × (target_after_link has f (Open target opened) ≡ Closed (BrokenLink f.number number))
broken_links_close has f target opened b =
    (f.number - chain_link f target, (let late : opened + chain_link f target ≤ f.number = b.late in omega arith), link_closes has f target opened b)

pub other_links_keep : (has : ℕ → Bool) (f : FrameMeaning) (target opened : ℕ) → (IsBrokenLink has f target opened → ⊥)
    → target_after_link has f (Open target opened) ≡ Open target opened
other_links_keep has f target opened whole = go (is_link_broken has f target opened) refl
  where
    go : (b : Bool) → is_link_broken has f target opened ≡ b → cond b (Closed (BrokenLink f.number (f.number - chain_link f target))) (Open target opened) ≡ Open target opened
    go true e = absurd (whole (test_broken has f target opened e))
    go false e = refl

pub epoch_test : (epoch : Option ℕ) (n : ℕ) → epoch ≡ Some n → is_epoch epoch n ≡ true
epoch_test None n e = absurd (grind arith)
epoch_test (Some m) n e = eq-eqb m n (let same : m ≡ n = grind arith in same)

pub target_at-open : (s : Standing) (f : FrameMeaning) (target opened : ℕ) → IsOpenAt s f target opened → target_at s f ≡ Open target opened
target_at-open s f target opened o = ap (λ b. cond b s.target (Closed (NotOpened f.number))) (epoch_test s.epoch f.epoch o.epoch) ∙ o.target_is

pub under_mask-active : (f : FrameMeaning) (target opened : ℕ) → is_active f target ≡ true → target_under_mask f (Open target opened) ≡ Open target opened
under_mask-active f target opened e = ap (λ b. cond b (Open target opened) (Closed (NotOpened f.number))) e

pub broken_links_break : (s : Standing) (f : FrameMeaning) (target opened : ℕ) → IsOpenAt s f target opened → is_active f target ≡ true
    → IsBrokenLink (has_passed s f) f target opened → BreaksAt s f
broken_links_break s f target opened o active b =
    subst (λ t. WasClosed t (target_after_link (has_passed s f) f t))
    (sym (ap (target_under_mask f) (target_at-open s f target opened o) ∙ under_mask-active f target opened active))
    (subst (WasClosed (Open target opened)) (sym (link_closes (has_passed s f) f target opened b)) tt)

-- ---- why a target is closed

-- the target is closed at this frame, or was closed before
pub kept_closed : (s : Standing) (f : FrameMeaning) (reason : Reason) → kept_target_at s f ≡ Closed reason
    → ClosesAt s f reason ⊎ ((s.epoch ≡ Some f.epoch) × (s.target ≡ Closed reason))
kept_closed s f reason h = by_epoch (is_epoch s.epoch f.epoch) refl h
  where
    other : (r : Reason) → is_epoch s.epoch f.epoch ≡ false → NotOpened f.number ≡ r → ClosesAt s f r
    other (BrokenLink at number) e same = absurd (grind arith)
    other (NotOpened since) e same =
        (let n : f.number ≡ since = grind arith in sym n, inl (λ here. true≢false (sym (epoch_test s.epoch f.epoch here) ∙ e)))

    masked : (r : Reason) (target opened : ℕ) → IsOpenAt s f target opened → is_active f target ≡ false → NotOpened f.number ≡ r → ClosesAt s f r
    masked (BrokenLink at number) target opened o e same = absurd (grind arith)
    masked (NotOpened since) target opened o e same = (let n : f.number ≡ since = grind arith in sym n, inr (target, opened, o, e))

    linked : (r : Reason) (target opened : ℕ) → IsOpenAt s f target opened → is_active f target ≡ true → IsBrokenLink (has_passed s f) f target opened
        → BrokenLink f.number (f.number - chain_link f target) ≡ r → ClosesAt s f r
    linked (NotOpened since) target opened o e b same = absurd (grind arith)
    linked (BrokenLink at number) target opened o e b same =
        let n : f.number ≡ at = grind arith in
        let m : f.number - chain_link f target ≡ number = grind arith in
        let late : opened + chain_link f target ≤ f.number = b.late in
        (sym n, target, opened, o, e, b, omega arith)

    inner : (a b : Reason) → Closed a ≡ Closed b → a ≡ b
    inner a b e = cc

    by_link : (target opened : ℕ) → IsOpenAt s f target opened → is_active f target ≡ true → (b : Bool) → is_link_broken (has_passed s f) f target opened ≡ b
        → cond b (Closed (BrokenLink f.number (f.number - chain_link f target))) (Open target opened) ≡ Closed reason → ClosesAt s f reason
    by_link target opened o active true e k =
        linked reason target opened o active (test_broken (has_passed s f) f target opened e) (inner (BrokenLink f.number (f.number - chain_link f target)) reason k)
    by_link target opened o active false e k = absurd (cc)

    by_mask : (target opened : ℕ) → IsOpenAt s f target opened → (b : Bool) → is_active f target ≡ b
        → target_after_link (has_passed s f) f (cond b (Open target opened) (Closed (NotOpened f.number))) ≡ Closed reason → ClosesAt s f reason
    by_mask target opened o true e k = by_link target opened o e (is_link_broken (has_passed s f) f target opened) refl k
    by_mask target opened o false e k = masked reason target opened o e (inner (NotOpened f.number) reason k)

    by_target : s.epoch ≡ Some f.epoch → (t : CurrentTarget) → s.target ≡ t → target_after_link (has_passed s f) f (target_under_mask f t) ≡ Closed reason
        → ClosesAt s f reason ⊎ ((s.epoch ≡ Some f.epoch) × (s.target ≡ Closed reason))
    by_target here (Open target opened) e k = inl (by_mask target opened (record { epoch = here; target_is = e }) (is_active f target) refl k)
    by_target here (Closed r) e k = inr (here, e ∙ k)

    by_epoch : (b : Bool) → is_epoch s.epoch f.epoch ≡ b
        → target_after_link (has_passed s f) f (target_under_mask f (cond b s.target (Closed (NotOpened f.number)))) ≡ Closed reason
        → ClosesAt s f reason ⊎ ((s.epoch ≡ Some f.epoch) × (s.target ≡ Closed reason))
    by_epoch true e k = by_target (is_epoch-true s.epoch f.epoch e) s.target refl k
    by_epoch false e k = inl (other reason e (inner (NotOpened f.number) reason k))

no_frames-no_epoch : {S : Type 0} (wish : Wish) (events : List (Event S)) → frames_of events ≡ [] → (standing wish events).epoch ≡ None
no_frames-no_epoch wish [] e = refl
no_frames-no_epoch wish (WholeFrame x ∷ past) e = absurd (cc)
no_frames-no_epoch wish (PlainPacket p ∷ past) e = go (plain_passes (standing wish past)) (no_frames-no_epoch wish past e)
  where
    go : (b : Bool) → (standing wish past).epoch ≡ None → (after_plain b (standing wish past)).epoch ≡ None
    go true h = h
    go false h = h
no_frames-no_epoch wish (WishChange w ∷ past) e = no_frames-no_epoch wish past e
no_frames-no_epoch wish (Take ∷ past) e = no_frames-no_epoch wish past e

-- if a target is closed already, and no other epoch begins, no frame closes a target
closed_closes_none : (s : Standing) (f : FrameMeaning) (reason : Reason) → s.epoch ≡ Some f.epoch → s.target ≡ Closed reason → ClosesNone s f
closed_closes_none s f reason here shut (BrokenLink at number) c = let o = c.3.target_is in let both : Closed reason ≡ Open c.1 c.2 = sym shut ∙ o in cc
closed_closes_none s f reason here shut (NotOpened since) c = elim c.1 [
  | inl other ↦ other here
  | inr masked ↦ (let both : Closed reason ≡ Open masked.0 masked.1 = sym shut ∙ masked.2.target_is in cc)
]

abbrev ClosesNoneSince : {S : Type 0} → Wish → (since past : List (Event S)) → Type 0
ClosesNoneSince wish since past = EachFrameSince (λ before later. ClosesNone (standing wish before) later.meaning) since past

later_closed : {S : Type 0} (wish : Wish) (event : Event S) (past : List (Event S)) (reason : Reason) → (standing wish (event ∷ past)).passed ≡ (standing wish past).passed
    → (w : WasClosedFor wish past reason) → ClosesNoneSince wish (event ∷ w.since) (WholeFrame w.frame ∷ w.past) → WasClosedFor wish (event ∷ past) reason
later_closed wish event past reason same w last =
    record {
      since = event ∷ w.since;
      frame = w.frame;
      past = w.past;
      stands = ap (λ l. event ∷ l) w.stands;
      closes = w.closes;
      none_passed = same ∙ w.none_passed;
      last = last;
    }

pub reasons_hold : {S : Type 0} (wish : Wish) (events : List (Event S)) (reason : Reason) → frames_of events ≢ [] → (standing wish events).target ≡ Closed reason
    → WasClosedFor wish events reason
reasons_hold wish [] reason some h = absurd (some refl)
reasons_hold {S} wish (WholeFrame x ∷ past) reason some h =
    go (passes_at (standing wish past) x.meaning (length x.packets)) refl h
    (λ some e. reasons_hold wish past reason some e)
  where
    s : Standing
    s = standing wish past

    in_front_of : (b : Bool) → passes_at s x.meaning (length x.packets) ≡ b → (admitted b s x.meaning (length x.packets)).passed ≡ s.passed
        → (standing wish (WholeFrame x ∷ past)).passed ≡ s.passed
    in_front_of b e k = ap (λ (c : Bool). (admitted c s x.meaning (length x.packets)).passed) e ∙ k

    open_candidate : (t : CurrentTarget) → is_present_in x.meaning t ≡ true → t ≡ Closed reason → ⊥
    open_candidate (Open target opened) p e = cc
    open_candidate (Closed r) p e = true≢false (sym p)

    further : (s.epoch ≡ Some x.meaning.epoch) × (s.target ≡ Closed reason) → WasClosedFor wish past reason
        → passes_at s x.meaning (length x.packets) ≡ false → WasClosedFor wish (WholeFrame x ∷ past) reason
    further c w e =
        later_closed wish (WholeFrame x) past reason (in_front_of false e refl) w
        (subst (λ l. ClosesNone (standing wish l) x.meaning) w.stands (closed_closes_none s x.meaning reason c.0 c.1), w.last)

    go : (b : Bool) → passes_at s x.meaning (length x.packets) ≡ b → (admitted b s x.meaning (length x.packets)).target ≡ Closed reason
        → (frames_of past ≢ [] → s.target ≡ Closed reason → WasClosedFor wish past reason)
        → WasClosedFor wish (WholeFrame x ∷ past) reason
    go true e k rec = absurd (open_candidate (candidate_at s x.meaning) (and_parts (is_present_in x.meaning (candidate_at s x.meaning)) _ e).0 k)
    go false e k rec = elim (kept_closed s x.meaning reason k) [
      | inl c ↦ record { since = []; frame = x; past = past; stands = refl; closes = c; none_passed = in_front_of false e refl; last = tt }
      | inr c ↦ further c (rec (λ none. let no : None ≡ Some x.meaning.epoch = sym (no_frames-no_epoch wish past none) ∙ c.0 in grind arith) c.1) e
    ]
reasons_hold {S} wish (PlainPacket p ∷ past) reason some h = go (plain_passes (standing wish past)) refl h (λ k. reasons_hold wish past reason some k)
  where
    go : (b : Bool) → plain_passes (standing wish past) ≡ b → (after_plain b (standing wish past)).target ≡ Closed reason
        → ((standing wish past).target ≡ Closed reason → WasClosedFor wish past reason) → WasClosedFor wish (PlainPacket p ∷ past) reason
    go true e k rec = let w = rec k in later_closed wish (PlainPacket p) past reason (ap (λ (c : Bool). (after_plain c (standing wish past)).passed) e) w w.last
    go false e k rec = let w = rec k in later_closed wish (PlainPacket p) past reason (ap (λ (c : Bool). (after_plain c (standing wish past)).passed) e) w w.last
reasons_hold wish (WishChange changed ∷ past) reason some h =
    let w = reasons_hold wish past reason some h in later_closed wish (WishChange changed) past reason refl w w.last
reasons_hold wish (Take ∷ past) reason some h = let w = reasons_hold wish past reason some h in later_closed wish Take past reason refl w w.last

-- ---- what a frame opens

pair_test : (p q : Wish) (t u : ℕ) → IsBetterPair p q t u → is_better_pair p q t u ≡ true
pair_test p q t u (inl lt) = rw (lt-ltb q.spatial p.spatial lt) refl
pair_test p q t u (inr (same, inl lt)) = second (nat_lt q.spatial p.spatial)
  where
    second : (b : Bool) → (b || (p.spatial == q.spatial && (nat_lt q.temporal p.temporal || (p.temporal == q.temporal && nat_lt t u)))) ≡ true
    second true = refl
    second false = rw (eq-eqb p.spatial q.spatial same, lt-ltb q.temporal p.temporal lt) refl
pair_test p q t u (inr (same, inr (equal, lt))) = second (nat_lt q.spatial p.spatial) (nat_lt q.temporal p.temporal)
  where
    second : (b c : Bool) → (b || (p.spatial == q.spatial && (c || (p.temporal == q.temporal && nat_lt t u)))) ≡ true
    second true c = refl
    second false true = rw (eq-eqb p.spatial q.spatial same) refl
    second false false = rw (eq-eqb p.spatial q.spatial same, eq-eqb p.temporal q.temporal equal, lt-ltb t u lt) refl

pub better_test : (x y : Option Wish) (t u : ℕ) → IsBetterOf x y t u → is_better_of x y t u ≡ true
better_test None y t u h = absurd h
better_test (Some p) None t u h = refl
better_test (Some p) (Some q) t u h = pair_test p q t u h

upgrade_words : (wish : Wish) (f : FrameMeaning) (current : CurrentTarget) (other : ℕ) → is_upgrade wish f current other ≡ true → IsUpgrade wish f current other
upgrade_words wish f (Open target opened) other h =
    elim (or_cases (not (is_allowed wish f target)) (is_better f other target) h) [
      | inl n ↦ inl (not-true (is_allowed wish f target) n)
      | inr b ↦ inr (better_fact (layers f other) (layers f target) other target b)
    ]
upgrade_words wish f (Closed reason) other h = tt

upgrade_test : (wish : Wish) (f : FrameMeaning) (current : CurrentTarget) (other : ℕ) → IsUpgrade wish f current other → is_upgrade wish f current other ≡ true
upgrade_test wish f (Open target opened) other (inl n) = ap (λ b. not b || is_better f other target) n
upgrade_test wish f (Open target opened) other (inr b) = go (is_allowed wish f target)
  where
    go : (a : Bool) → (not a || is_better f other target) ≡ true
    go true = better_test (layers f other) (layers f target) other target b
    go false = refl
upgrade_test wish f (Closed reason) other h = refl

none_test : (o : Option ℕ) → o ≡ None → is_nothing o ≡ true
none_test None e = refl
none_test (Some n) e = absurd (grind arith)

can_open_words : (has : ℕ → Bool) (key_passed : Bool) (wish : Wish) (f : FrameMeaning) (current : CurrentTarget) (target : ℕ) → target < f.target_count
    → can_open wish (is_nothing (missing_reference has f)) (f.key || key_passed) f current target ≡ true → CanOpen has key_passed wish f current target
can_open_words has key_passed wish f current target lt h =
    let a = and_parts (is_allowed wish f target) _ h in
    let b = and_parts (is_switch f target || (f.key && is_present f target)) _ a.1 in
    let c = and_parts (is_nothing (missing_reference has f)) _ b.1 in
    let d = and_parts (f.key || key_passed) (is_upgrade wish f current target) c.1 in
    record {
      below = lt;
      allowed = a.0;
      begins = elim (or_cases (is_switch f target) (f.key && is_present f target) b.0) [ inl e ↦ inl e | inr e ↦ inr (and_parts f.key (is_present f target) e) ];
      complete = failing_none has (references f) (none_is (missing_reference has f) c.0);
      keyed = or_cases f.key key_passed d.0;
      upgrade = upgrade_words wish f current target d.1;
    }

or_left : (a b : Bool) → a ≡ true → (a || b) ≡ true
or_left a b e = ap (λ c. c || b) e

or_right : (a b : Bool) → b ≡ true → (a || b) ≡ true
or_right true b e = refl
or_right false b e = e

can_open_test : (has : ℕ → Bool) (key_passed : Bool) (wish : Wish) (f : FrameMeaning) (current : CurrentTarget) (target : ℕ) → CanOpen has key_passed wish f current target
    → can_open wish (is_nothing (missing_reference has f)) (f.key || key_passed) f current target ≡ true
can_open_test has key_passed wish f current target c =
    let begins : (is_switch f target || (f.key && is_present f target)) ≡ true
    = elim c.begins [
      | inl e ↦ or_left (is_switch f target) (f.key && is_present f target) e
      | inr e ↦ or_right (is_switch f target) (f.key && is_present f target) (ap (λ b. b && is_present f target) e.0 ∙ e.1)
    ] in
    let keyed : (f.key || key_passed) ≡ true = elim c.keyed [ inl e ↦ or_left f.key key_passed e | inr e ↦ or_right f.key key_passed e ] in
    let complete : is_nothing (missing_reference has f) ≡ true = none_test (missing_reference has f) (none_failing has (references f) c.complete) in
    ap (λ b. b && ((is_switch f target || (f.key && is_present f target)) && (is_nothing (missing_reference has f) && ((f.key || key_passed) && is_upgrade wish f current target)))) c.allowed
    ∙ ap (λ b. b && (is_nothing (missing_reference has f) && ((f.key || key_passed) && is_upgrade wish f current target))) begins
    ∙ ap (λ b. b && ((f.key || key_passed) && is_upgrade wish f current target)) complete
    ∙ ap (λ b. b && is_upgrade wish f current target) keyed
    ∙ upgrade_test wish f current target c.upgrade

opening_best : (has : ℕ → Bool) (key_passed : Bool) (wish : Wish) (f : FrameMeaning) (current : CurrentTarget) (o : Option ℕ) → opening has key_passed wish f current ≡ o
    → IsBest f (can_open wish (is_nothing (missing_reference has f)) (f.key || key_passed) f current) f.target_count o
opening_best has key_passed wish f current o e =
    subst (IsBest f (can_open wish (is_nothing (missing_reference has f)) (f.key || key_passed) f current) f.target_count) e
    (opening_is_best wish (is_nothing (missing_reference has f)) (f.key || key_passed) f current)

pub opens_the_best : (has : ℕ → Bool) (key_passed : Bool) (wish : Wish) (f : FrameMeaning) (current : CurrentTarget) (target : ℕ)
    → opening has key_passed wish f current ≡ Some target
    → CanOpen has key_passed wish f current target
    × ((other : ℕ) → CanOpen has key_passed wish f current other → (other ≡ target) ⊎ IsBetter f target other)
opens_the_best has key_passed wish f current target e =
    let b = opening_best has key_passed wish f current (Some target) e in (
      can_open_words has key_passed wish f current target b.0 b.1,
      λ other c. b.2 other c.below (can_open_test has key_passed wish f current other c),
    )

pub opens_what_it_can : (has : ℕ → Bool) (key_passed : Bool) (wish : Wish) (f : FrameMeaning) (current : CurrentTarget) (target : ℕ)
    → opening has key_passed wish f current ≡ None → CanOpen has key_passed wish f current target → ⊥
opens_what_it_can has key_passed wish f current target e c =
    opening_best has key_passed wish f current None e target c.below (can_open_test has key_passed wish f current target c)

-- ---- a frame that passes is present in a target that its mask has

kept_active : (has : ℕ → Bool) (f : FrameMeaning) (current : CurrentTarget) (target opened : ℕ) → kept_target has f current ≡ Open target opened → is_active f target ≡ true
kept_active has f (Closed reason) target opened h = absurd (cc)
kept_active has f (Open before from) target opened h = go (is_active f before) refl h
  where
    linked : (b : Bool) → cond b (Closed (BrokenLink f.number (f.number - chain_link f before))) (Open before from) ≡ Open target opened → before ≡ target
    linked true k = absurd (cc)
    linked false k = cc

    go : (b : Bool) → is_active f before ≡ b → target_after_link has f (cond b (Open before from) (Closed (NotOpened f.number))) ≡ Open target opened → is_active f target ≡ true
    go true e k = subst (λ t. is_active f t ≡ true) (linked (is_link_broken has f before from) k) e
    go false e k = absurd (cc)

candidate_active : (has : ℕ → Bool) (key_passed : Bool) (wish : Wish) (f : FrameMeaning) (current : CurrentTarget) (target opened : ℕ)
    → candidate has key_passed wish f current ≡ Open target opened → is_active f target ≡ true
candidate_active has key_passed wish f current target opened h = go (opening has key_passed wish f (kept_target has f current)) refl h
  where
    go : (o : Option ℕ) → opening has key_passed wish f (kept_target has f current) ≡ o → opened_or f o (kept_target has f current) ≡ Open target opened → is_active f target ≡ true
    go None e k = kept_active has f current target opened k
    go (Some t) e k =
        let c = (opens_the_best has key_passed wish f (kept_target has f current) t e).0 in
        let same : t ≡ target = cc in
        subst (λ u. is_active f u ≡ true) same (and_parts (is_active f t) _ c.allowed).0

pub candidate_in_target : (has : ℕ → Bool) (key_passed : Bool) (wish : Wish) (f : FrameMeaning) (current : CurrentTarget)
    → is_present_in f (candidate has key_passed wish f current) ≡ true → IsInTarget f (candidate has key_passed wish f current)
candidate_in_target has key_passed wish f current p = go (candidate has key_passed wish f current) refl p
  where
    go : (c : CurrentTarget) → candidate has key_passed wish f current ≡ c → is_present_in f c ≡ true → IsInTarget f c
    go (Open target opened) e p = (candidate_active has key_passed wish f current target opened e, p)
    go (Closed reason) e p = absurd (true≢false (sym p))

pub passes_in_target : (has : ℕ → Bool) (key_passed : Bool) (wish : Wish) (f : FrameMeaning) (current : CurrentTarget) (queued packets : ℕ)
    → passes has key_passed wish f current queued packets ≡ true → IsInTarget f (candidate has key_passed wish f current)
passes_in_target has key_passed wish f current queued packets h =
    candidate_in_target has key_passed wish f current (and_parts (is_present_in f (candidate has key_passed wish f current)) _ h).0
