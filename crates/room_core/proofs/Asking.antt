-- A query for a cause returns the cause if the cause can be queried, and a take returns the next packet.
use Rattle.std.proofs.Common.{◌≡◌, ◌≤◌, ◌<◌, ◌+◌, ℕ, zero, suc, Bool, true, false, cond, List, [], ◌∷◌, ◌++◌, map, take, drop, length, refl, sym, ap, ◌∙◌, arith, Option, Some, None, Result, Ok, Err}
use Rattle.std.specs.Prelude.{nat_le, nat_lt}
use Rattle.std.proofs.lemmas.Bool.{le-ltb, leb-false, lt-leb}
use Rattle.std.proofs.lemmas.Bool.Decides.{nat_tests}
use Rattle.sfu_base.specs.Answer.{Refused, CauseIs}
use Rattle.sfu_base.specs.declared.call.Refusal.{Refusal}
use Rattle.sfu_base.specs.declared.call.Refusal.TheVariants.{Ahead, TooOld}
use Rattle.sfu_base.specs.declared.frame.Step.{Step}
use Rattle.sfu_base.specs.declared.frame.Verdict.{Verdict}
use Rattle.forwarding_model.specs.Lists.{first_of}
use Rattle.forwarding_model.specs.forwarding.Timeline.{Packet}
use Rattle.forwarding_model.specs.forwarding.Causes.{cause_among, is_ahead, is_too_old, newest_number, number_or, oldest_asked}
use Rattle.cause_book.specs.Book.{judged}
use Rattle.packet_format.specs.Packets.{bytes_of}
use Rattle.room_core.specs.Replies.{cause_answer}

-- ---- causes

-- the cause of a number that can be queried is returned
pub reported_by : (steps : List Step) (n newest : ℕ) → newest_number steps ≡ Some newest → n ≤ newest → newest < n + 4096 → judged steps n ≡ Ok (cause_among steps n)
reported_by steps n newest is below near =
    ap (λ (o : Option ℕ). cond (is_ahead o n) (Err (Ahead (newest_number steps))) (rest o)) is
    ∙ ap (λ (b : Bool). cond b (Err (Ahead (newest_number steps))) (rest (Some newest))) (le-ltb newest n below)
    ∙ ap (λ (b : Bool). cond b (Err (TooOld (oldest_asked (number_or (newest_number steps) 0)))) (Ok (cause_among steps n))) (lt-leb (n + 4096) newest near)
  where
    rest : Option ℕ → Result Verdict Refusal
    rest o = cond (is_too_old o n) (Err (TooOld (oldest_asked (number_or (newest_number steps) 0)))) (Ok (cause_among steps n))

-- a returned cause is that of a number that can be queried
pub record IsReported (steps : List Step) (n : ℕ) (verdict : Verdict) : Type 0 where
  pub newest : ℕ
  pub newest_is : newest_number steps ≡ Some newest
  pub has_come : n ≤ newest
  pub is_recent : newest < n + 4096
  pub is_cause : verdict ≡ cause_among steps n

pub asked_by : (steps : List Step) (n : ℕ) (verdict : Verdict) → cause_answer (judged steps n) ≡ CauseIs verdict → IsReported steps n verdict
asked_by steps n verdict e = by_newest (newest_number steps) refl e
  where
    ahead : Result Verdict Refusal
    ahead = Err (Ahead (newest_number steps))

    old : Result Verdict Refusal
    old = Err (TooOld (oldest_asked (number_or (newest_number steps) 0)))

    by_tests : (newest : ℕ) (a b : Bool) → newest_number steps ≡ Some newest → nat_lt newest n ≡ a → nat_le (n + 4096) newest ≡ b
        → cause_answer (cond a ahead (cond b old (Ok (cause_among steps n)))) ≡ CauseIs verdict → IsReported steps n verdict
    by_tests newest true b is s t e = absurd (let none : Refused (Ahead (newest_number steps)) ≡ CauseIs verdict = e in cc)
    by_tests newest false true is s t e = absurd (let none : Refused (TooOld (oldest_asked (number_or (newest_number steps) 0))) ≡ CauseIs verdict = e in cc)
    by_tests newest false false is s t e = record {
      newest = newest;
      newest_is = is;
      has_come = grind (arith, nat_tests);
      is_recent = leb-false (n + 4096) newest t;
      is_cause = let same : cause_among steps n ≡ verdict = cc in sym same;
    }

    by_newest : (o : Option ℕ) → newest_number steps ≡ o → cause_answer (cond (is_ahead o n) ahead (cond (is_too_old o n) old (Ok (cause_among steps n)))) ≡ CauseIs verdict → IsReported steps n verdict
    by_newest None is e = absurd (let none : Refused (Ahead (newest_number steps)) ≡ CauseIs verdict = e in cc)
    by_newest (Some newest) is e = by_tests newest (nat_lt newest n) (nat_le (n + 4096) newest) is refl refl e

-- ---- takes

-- the next packet follows the first packets
pub next_of : (taken : ℕ) (out : List Packet) (bytes : List ℕ) (rest : List (List ℕ)) → taken ≤ length out → map bytes_of (take taken out) ++ bytes ∷ rest ≡ map bytes_of out
    → (p : Packet) × (first_of (drop taken out) ≡ Some p) × (bytes_of p ≡ bytes)
next_of zero [] bytes rest fit e = absurd (let none : bytes ∷ rest ≡ [] = e in cc)
next_of zero (p ∷ out) bytes rest fit e = (p, refl, (let same : bytes_of p ≡ bytes = cc in same))
next_of (suc taken) [] bytes rest fit e = absurd (let none : ⊥ = omega (arith, fit) in none)
next_of (suc taken) (p ∷ out) bytes rest fit e = next_of taken out bytes rest (omega (arith, fit)) (ap (drop 1) e)

-- there is no next packet if the first packets are all
pub none_of : (taken : ℕ) (out : List Packet) → map bytes_of (take taken out) ≡ map bytes_of out → first_of (drop taken out) ≡ None
none_of zero [] e = refl
none_of zero (p ∷ out) e = absurd (let none : bytes_of p ∷ map bytes_of out ≡ [] = sym e in cc)
none_of (suc taken) [] e = refl
none_of (suc taken) (p ∷ out) e = none_of taken out (ap (drop 1) e)
