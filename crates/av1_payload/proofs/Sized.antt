-- An element preceded by its length: an element that is composed in this way is read, and an element that was read was composed in this way.
use Rattle.std.proofs.Common.{◌≡◌, ◌<◌, ◌≤◌, ℕ, zero, suc, ◌+◌, Bool, true, false, List, ◌∷◌, ◌++◌, length, take, drop, Option, Some, None, Result, Ok, Err, nat_lt, refl, sym, ap, subst, ◌∙◌, append_assoc, length-append, arith}
use Rattle.std.proofs.lemmas.Bool.{lt-ltb, le-ltb, ltb-true, ltb-false}
use Rattle.std.proofs.lemmas.List.{take_at, drop_at, take-append-drop, length-take-le, drop-drop}
use Rattle.sfu_base.specs.Bytes.{AreBytes}
use Rattle.av1_payload.specs.declared.fault.PayloadFault.{PayloadFault}
use Rattle.av1_payload.specs.declared.fault.PayloadFault.TheVariants.{Empty, Leb, Length, NoElement}
use Rattle.av1_payload.specs.Leb.{leb_bytes, IsLength}
use Rattle.av1_payload.specs.Payloads.{SizedElement, sized_bytes}
use Rattle.av1_payload.specs.Faults.{IsNoLength, IsTooLong}
use Rattle.av1_payload.specs.Reading.{length_at, front_element, sized_at}
use Rattle.av1_payload.proofs.Groups.{length-leb_bytes, length_read, length_takes, length_found, no_length_spelled, no_length_read}

-- the same bytes have one result

never_both : (r : Result (List ℕ × List ℕ) PayloadFault) (fault : PayloadFault) (x : List ℕ × List ℕ) → r ≡ Err fault → r ≡ Ok x → ⊥
never_both r fault x is_err is_ok = cc

same_found : (r : Result (List ℕ × List ℕ) PayloadFault) (x y : List ℕ × List ℕ) → r ≡ Ok x → r ≡ Ok y → x ≡ y
same_found r x y at_x at_y = cc

same_fault : (r : Result (List ℕ × List ℕ) PayloadFault) (e f : PayloadFault) → r ≡ Err e → r ≡ Err f → e ≡ f
same_fault r e f at_e at_f = cc

-- an element whose length is known

cut_whole : (n : ℕ) (rest : List ℕ) → n ≤ length rest → front_element (Some (n, rest)) ≡ Ok (take n rest, drop n rest)
cut_whole n rest long = rw (le-ltb (length rest) n long) refl

cut_short : (n : ℕ) (rest : List ℕ) → length rest < n → front_element (Some (n, rest)) ≡ Err Length
cut_short n rest short = rw (lt-ltb (length rest) n short) refl

-- an element with its length has at least one byte
pub some_byte : (s : SizedElement) (rest : List ℕ) → IsLength s.groups (length s.element) → 0 < length (sized_bytes s ++ rest)
some_byte s rest is =
    omega (arith, length-append (sized_bytes s) rest, length-append (leb_bytes s.groups) s.element, length-leb_bytes s.groups, is.some)

pub sized_read : (s : SizedElement) (rest : List ℕ) → IsLength s.groups (length s.element) → sized_at (sized_bytes s ++ rest) ≡ Ok (s.element, rest)
sized_read s rest is =
    let n = length s.element in
    let behind = s.element ++ rest in
    ap (λ (x : List ℕ). front_element (length_at x)) (append_assoc (leb_bytes s.groups) s.element rest)
    ∙ ap front_element (length_read s.groups behind n is)
    ∙ cut_whole n behind (omega (arith, length-append s.element rest))
    ∙ ap (λ (x : List ℕ). Ok (x, drop n behind)) (take_at s.element rest n refl)
    ∙ ap (λ (x : List ℕ). Ok (s.element, x)) (drop_at s.element rest n refl)

-- the length and the bytes after it; an element that is read is a prefix of those bytes
record IsCut (bytes element behind : List ℕ) : Type 0 where
  n : ℕ
  rest : List ℕ
  read : length_at bytes ≡ Some (n, rest)
  long : n ≤ length rest
  front : take n rest ≡ element
  back : drop n rest ≡ behind

cut_found : (bytes element behind : List ℕ) → sized_at bytes ≡ Ok (element, behind) → IsCut bytes element behind
cut_found bytes element behind read = by_length (length_at bytes) refl
  where
    by_test : (n : ℕ) (rest : List ℕ) (test : Bool) → length_at bytes ≡ Some (n, rest) → nat_lt (length rest) n ≡ test → IsCut bytes element behind
    by_test n rest true at short =
        absurd (never_both (sized_at bytes) Length (element, behind) (ap front_element at ∙ cut_short n rest (ltb-true (length rest) n short)) read)
    by_test n rest false at whole =
        let long : n ≤ length rest = ltb-false (length rest) n whole in
        let same = same_found (sized_at bytes) (take n rest, drop n rest) (element, behind) (ap front_element at ∙ cut_whole n rest long) read in
        record {
          n = n;
          rest = rest;
          read = at;
          long = long;
          front = ap (λ (x : List ℕ × List ℕ). x.0) same;
          back = ap (λ (x : List ℕ × List ℕ). x.1) same;
        }

    by_length : (o : Option (ℕ × List ℕ)) → length_at bytes ≡ o → IsCut bytes element behind
    by_length None at = absurd (never_both (sized_at bytes) Leb (element, behind) (ap front_element at) read)
    by_length (Some (n, rest)) at = by_test n rest (nat_lt (length rest) n) at refl

-- it takes at least one byte
pub sized_takes : (byte : ℕ) (rest element behind : List ℕ) → sized_at (byte ∷ rest) ≡ Ok (element, behind) → (m : ℕ) × (drop m rest ≡ behind)
sized_takes byte rest element behind read =
    let found = cut_found (byte ∷ rest) element behind read in
    let taken = length_takes (byte ∷ rest) found.rest found.n found.read in
    under taken.0 found.n found.rest taken.1 taken.2 found.back
  where
    under : (m n : ℕ) (xs : List ℕ) → 0 < m → drop m (byte ∷ rest) ≡ xs → drop n xs ≡ behind → (k : ℕ) × (drop k rest ≡ behind)
    under zero n xs some at back = absurd (omega arith)
    under (suc m) n xs some at back = (m + n, sym (drop-drop n m rest) ∙ ap (drop n) at ∙ back)

pub record IsSizedAt (bytes element behind : List ℕ) : Type 0 where
  pub sized : SizedElement
  pub is : IsLength sized.groups (length sized.element)
  pub said : sized.element ≡ element
  pub put : bytes ≡ sized_bytes sized ++ behind

pub sized_found : (bytes element behind : List ℕ) → AreBytes bytes → sized_at bytes ≡ Ok (element, behind) → IsSizedAt bytes element behind
sized_found bytes element behind are read =
    let found = cut_found bytes element behind read in
    let at = length_found bytes found.rest found.n are found.read in
    let count : length (take found.n found.rest) ≡ found.n = length-take-le found.n found.rest found.long in
    let front = take found.n found.rest in
    let rest : found.rest ≡ front ++ behind =
    sym (take-append-drop found.n found.rest) ∙ ap (λ (x : List ℕ). front ++ x) found.back in
    record {
      sized = record { groups = at.groups; element = front };
      is = record { some = at.is.some; few = at.is.few; small = at.is.small; spelled = at.is.spelled ∙ sym count; below = omega (arith, at.is.below, count) };
      said = found.front;
      put =
          at.put
          ∙ ap (λ (x : List ℕ). leb_bytes at.groups ++ x) rest
          ∙ sym (append_assoc (leb_bytes at.groups) front behind);
    }

-- the fault if no element is read
abbrev pub IsWrong : PayloadFault → List ℕ → Type 0
IsWrong Leb bytes = IsNoLength bytes
IsWrong Length bytes = IsTooLong bytes
IsWrong Empty bytes = ⊥
IsWrong NoElement bytes = ⊥

pub wrong_read : (fault : PayloadFault) (bytes : List ℕ) → AreBytes bytes → IsWrong fault bytes → sized_at bytes ≡ Err fault
wrong_read Leb bytes are wrong = ap front_element (no_length_read bytes are wrong)
wrong_read Length bytes are wrong =
    ap (λ (x : List ℕ). front_element (length_at x)) wrong.put
    ∙ ap front_element (length_read wrong.groups wrong.behind wrong.n wrong.is)
    ∙ cut_short wrong.n wrong.behind wrong.past
wrong_read Empty bytes are wrong = absurd wrong
wrong_read NoElement bytes are wrong = absurd wrong

pub wrong_found : (fault : PayloadFault) (bytes : List ℕ) → AreBytes bytes → sized_at bytes ≡ Err fault → IsWrong fault bytes
wrong_found fault bytes are read = by_length (length_at bytes) refl
  where
    along : (is : PayloadFault) → sized_at bytes ≡ Err is → IsWrong is bytes → IsWrong fault bytes
    along is at wrong = subst (λ (x : PayloadFault). IsWrong x bytes) (same_fault (sized_at bytes) is fault at read) wrong

    by_test : (n : ℕ) (rest : List ℕ) (test : Bool) → length_at bytes ≡ Some (n, rest) → nat_lt (length rest) n ≡ test → IsWrong fault bytes
    by_test n rest true at short =
        let past : length rest < n = ltb-true (length rest) n short in
        let found = length_found bytes rest n are at in
        along Length (ap front_element at ∙ cut_short n rest past)
        (record { groups = found.groups; behind = rest; n = n; is = found.is; put = found.put; past = past })
    by_test n rest false at whole =
        let long : n ≤ length rest = ltb-false (length rest) n whole in
        absurd (never_both (sized_at bytes) fault (take n rest, drop n rest) read (ap front_element at ∙ cut_whole n rest long))

    by_length : (o : Option (ℕ × List ℕ)) → length_at bytes ≡ o → IsWrong fault bytes
    by_length None at = along Leb (ap front_element at) (no_length_spelled bytes at)
    by_length (Some (n, rest)) at = by_test n rest (nat_lt (length rest) n) at refl
