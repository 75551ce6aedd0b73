-- The change of the counts of faults, by the result of a call.
use Rattle.std.proofs.Common.{◌≡◌, ◌≢◌, ◌<◌, ◌∙◌, ◌⊎◌, inl, inr, ℕ, Bool, true, false, cond, List, length, sym, ap, subst, arith, refl, Result, Ok, Err}
use Rattle.std.proofs.lemmas.Bool.{eq-eqb, ne_eqb}
use Rattle.std.specs.Prelude.{◌==◌, ◌&&◌, if◌then◌else◌, not, IsErrAnd, is_err}
use Rattle.sfu_base.specs.Faults.{CountsFaults, Rose, raised}
use Rattle.sfu_driver.specs.declared.halt.Interruption.{Interruption}
use Rattle.sfu_driver.specs.declared.halt.Interruption.TheVariants.{SourceFault, SinkFault, Halted}
use Rattle.sfu_driver.specs.Drive.{CauseOf, CountsReads, CountsWrites, StopReads, StopWrites}

-- a count that is one higher has risen
pub rose_by : (before now : ℕ) → now ≡ raised before → Rose before now
rose_by before now is = omega (arith, is)

-- ---- a write

-- a call that took some bytes made progress
pub took_some : (count before now : ℕ) (piece : List ℕ) → 0 < count → now ≡ (if count == 0 && not (length piece == 0) then raised before else before) → now ≡ before
took_some count before now piece some counts = counts ∙ ap (λ (b : Bool). cond (b && not (length piece == 0)) (raised before) before) (ne_eqb count 0 (λ none. omega (arith, none, some)))

-- a call that took none of some bytes made no progress
pub took_none : (count before now : ℕ) (piece : List ℕ) → count ≡ 0 → 0 < length piece → now ≡ (if count == 0 && not (length piece == 0) then raised before else before) → now ≡ raised before
took_none count before now piece none some counts =
    counts
    ∙ ap (λ (b : Bool). cond (b && not (length piece == 0)) (raised before) before) (eq-eqb count 0 none)
    ∙ ap (λ (b : Bool). cond (not b) (raised before) before) (ne_eqb (length piece) 0 (λ empty. omega (arith, empty, some)))

-- ---- an error that is passed on

pub faults_err : {T E : Type 0} (r : Result T E) (e : E) (before now : ℕ) → IsErrAnd r (λ x. x ≡ e) → now ≡ raised before → CountsFaults before now r
faults_err (Ok x) e before now is counts = absurd is
faults_err (Err x) e before now is counts = counts

pub writes_err : {T : Type 0} (r : Result T Interruption) (stop : Interruption) (before now : ℕ) → IsErrAnd r (λ x. x ≡ stop) → StopWrites before now stop → CountsWrites before now r
writes_err (Ok x) stop before now is counts = absurd is
writes_err (Err x) stop before now is counts = subst (StopWrites before now) (sym is) counts

-- ---- a text, and then a last text

-- the sink failed in the first text
pub failed_first : {T E : Type 0} (r : Result T E) (before now : ℕ) → true ≡ is_err r → CountsFaults before now r → now ≡ raised before
failed_first (Ok x) before now is counts = absurd cc
failed_first (Err e) before now is counts = counts

-- it didn't fail in the first text
pub kept_first : {T E : Type 0} (r : Result T E) (before now : ℕ) → false ≡ is_err r → CountsFaults before now r → now ≡ before
kept_first (Ok x) before now is counts = counts
kept_first (Err e) before now is counts = absurd cc

-- it may fail in the last text
pub kept_or_cut : {T E : Type 0} (last : Result T E) (f0 f1 f2 : ℕ) → f1 ≡ f0 → CountsFaults f1 f2 last → (f2 ≡ f0) ⊎ (f2 ≡ raised f0)
kept_or_cut (Ok x) f0 f1 f2 kept counts = inl (counts ∙ kept)
kept_or_cut (Err e) f0 f1 f2 kept counts = inr (counts ∙ ap raised kept)

-- ---- a source whose count didn't change

-- only a stop by a read raises the count
stop_kept : (stop : Interruption) (before now : ℕ) → stop ≢ SourceFault → now ≡ before → StopReads before now stop
stop_kept SourceFault before now other kept = absurd (other refl)
stop_kept SinkFault before now other kept = kept
stop_kept (Halted why) before now other kept = kept

pub reads_kept : {T : Type 0} (r : Result T Interruption) (before now : ℕ) → r ≢ Err SourceFault → now ≡ before → CountsReads before now r
reads_kept (Ok x) before now other kept = kept
reads_kept (Err stop) before now other kept = stop_kept stop before now (λ is. other (ap Err is)) kept

-- an error that is passed on, from a call that reads nothing
pub reads_err : {T : Type 0} (r : Result T Interruption) (stop : Interruption) (before now : ℕ) → IsErrAnd r (λ x. x ≡ stop) → stop ≢ SourceFault → now ≡ before → CountsReads before now r
reads_err (Ok x) stop before now is other kept = absurd is
reads_err (Err x) stop before now is other kept = stop_kept x before now (λ same. other (sym is ∙ same)) kept

-- ---- a command that succeeded

pub quiet_of : (r : Result (Unit {0}) Interruption) (g g' f f' : ℕ) → is_err r ≡ false → CauseOf g g' f f' r → (g' ≡ g) × (f' ≡ f)
quiet_of (Ok x) g g' f f' is cause = (cause.reading, cause.writing)
quiet_of (Err stop) g g' f f' is cause = absurd (cc is)
