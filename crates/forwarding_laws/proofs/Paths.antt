-- A path of causes ends at a root.
use Rattle.std.proofs.Common.{◌≡◌, ◌≢◌, ◌+◌, ◌<◌, ℕ, zero, suc, arith, List, ◌∷◌, refl, subst, ap}
use Rattle.std.specs.declared.option.Option.{Option}
use Rattle.std.specs.declared.option.Option.TheVariants.{None, Some}
use Rattle.sfu_base.specs.declared.frame.Wish.{Wish}
use Rattle.sfu_base.specs.declared.frame.Verdict.{Verdict}
use Rattle.sfu_base.specs.declared.frame.Verdict.TheVariants.{Passed, NotOfTarget, Behind, Reference, Full, Link, Unopened, Hole}
use Rattle.sfu_base.specs.declared.frame.Step.{Step}
use Rattle.forwarding_model.specs.forwarding.Timeline.{Event, meanings_of}
use Rattle.forwarding_model.specs.frames.TrackFrames.{IsOneTrack}
use Rattle.forwarding_model.specs.forwarding.Causes.{verdict_among, verdicts, cause, verdict_or_hole, newest_number, number_or, next_below, next_above, followed, path_within, path_on, path, IsPath, IsPathFrom, IsWithheld, HaveCauses}
use Rattle.forwarding_laws.proofs.Causes.{names_unpassed, withheld_verdict}
use Rattle.forwarding_laws.proofs.Verdicts.{AtSome, some_weaker}

-- a path with falling numbers ends at a root, whatever the causes
path_falls : (causes : ℕ → Verdict) → ((n : ℕ) → AtSome (followed (causes n)) (λ m. (m < n) × (causes m ≢ Passed)))
    → (fuel n : ℕ) → n < fuel → causes n ≢ Passed → IsPath (path_within fuel causes n)
path_falls causes falls zero n lt unpassed = absurd (omega arith)
path_falls causes falls (suc fuel) n lt unpassed = go (causes n) unpassed (falls n) (path_falls causes falls fuel)
  where
    next : (m : ℕ) (fuel : ℕ) (v : Verdict) → followed v ≡ Some m → m < n → m < fuel → IsPath (path_within fuel causes m) → IsPathFrom (record { number = n; verdict = v }) (path_within fuel causes m)
    next m zero v e lt bound p = absurd (omega arith)
    next m (suc fuel) v e lt bound p = (e, lt, p)

    go : (v : Verdict) → v ≢ Passed → AtSome (followed v) (λ m. (m < n) × (causes m ≢ Passed))
        → ((m : ℕ) → m < fuel → causes m ≢ Passed → IsPath (path_within fuel causes m))
        → IsPathFrom (record { number = n; verdict = v }) (path_on (followed v) (path_within fuel causes))
    go Passed unpassed f rec = absurd (unpassed refl)
    go (NotOfTarget target) unpassed f rec = tt
    go (Behind fdiff start) unpassed f rec = tt
    go (Reference m) unpassed f rec = next m fuel (Reference m) refl f.0 (let l = f.0 in omega arith) (rec m (let l = f.0 in omega arith) f.1)
    go (Full queued needed) unpassed f rec = tt
    go (Link at m) unpassed f rec = next m fuel (Link at m) refl f.0 (let l = f.0 in omega arith) (rec m (let l = f.0 in omega arith) f.1)
    go (Unopened since) unpassed f rec = tt
    go (Hole below above) unpassed f rec = tt

hole_or : (o : Option Verdict) (below above : Option ℕ) → (o ≡ Some Passed → ⊥) → verdict_or_hole o below above ≢ Passed
hole_or None below above unpassed = λ e. grind arith
hole_or (Some v) below above unpassed = λ e. unpassed (ap Some e)

causes_fall : {S : Type 0} (wish : Wish) (events : List (Event S)) → IsOneTrack (meanings_of events) → (n : ℕ)
    → AtSome (followed (cause wish events n)) (λ m. (m < n) × (cause wish events m ≢ Passed))
causes_fall wish events track n = go (verdict_among steps n) refl
  where
    steps : List Step
    steps = verdicts wish events

    go : (o : Option Verdict) → verdict_among steps n ≡ o
        → AtSome (followed (verdict_or_hole o (next_below steps (number_or (newest_number steps) 0) n) (next_above steps n))) (λ m. (m < n) × (cause wish events m ≢ Passed))
    go None e = tt
    go (Some v) e = some_weaker _ _ (followed v) (λ m u. (u.0, hole_or (verdict_among steps m) _ _ u.1)) (names_unpassed wish events n v track e)

tells : (causes : ℕ → Verdict) (limit n : ℕ) → HaveCauses causes (path_within limit causes n)
tells causes zero n = tt
tells causes (suc limit) n = (refl, go (followed (causes n)) (tells causes limit))
  where
    go : (o : Option ℕ) → ((m : ℕ) → HaveCauses causes (path_within limit causes m)) → HaveCauses causes (path_on o (path_within limit causes))
    go None rec = tt
    go (Some m) rec = rec m

pub path_has_causes : (causes : ℕ → Verdict) (n : ℕ) → HaveCauses causes (path causes n)
path_has_causes causes n = tells causes (n + 1) n

-- for each number whose cause isn't Passed, a frame's or a hole
pub unpassed_path : {S : Type 0} (wish : Wish) (events : List (Event S)) (n : ℕ) → IsOneTrack (meanings_of events) → cause wish events n ≢ Passed
    → IsPath (path (cause wish events) n)
unpassed_path wish events n track unpassed =
    subst (λ k. IsPath (path_within k (cause wish events) n)) (let e : suc n ≡ n + 1 = omega arith in e)
    (path_falls (cause wish events) (causes_fall wish events track) (suc n) n (omega arith) unpassed)

pub withheld_unpassed : {S : Type 0} (wish : Wish) (events : List (Event S)) (n : ℕ) → IsOneTrack (meanings_of events) → IsWithheld wish events n
    → cause wish events n ≢ Passed
withheld_unpassed wish events n track w = hole_or (verdict_among (verdicts wish events) n) _ _ (withheld_verdict wish events n track w)

pub withheld_path : {S : Type 0} (wish : Wish) (events : List (Event S)) (n : ℕ) → IsOneTrack (meanings_of events) → IsWithheld wish events n
    → IsPath (path (cause wish events) n)
withheld_path wish events n track w = unpassed_path wish events n track (withheld_unpassed wish events n track w)

pub path_begins : (causes : ℕ → Verdict) (n : ℕ) → (steps : List Step) × (path causes n ≡ record { number = n; verdict = causes n } ∷ steps)
path_begins causes n =
    (path_on (followed (causes n)) (path_within n causes), ap (λ limit. path_within limit causes n) (let e : n + 1 ≡ suc n = omega arith in e))
