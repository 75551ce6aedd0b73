-- Parsed bytes: whole elements with their lengths, and what follows them.
use Rattle.std.proofs.Common.{◌≡◌, ◌<◌, ◌≤◌, ℕ, zero, suc, ◌⊎◌, inl, inr, List, [], ◌∷◌, ◌++◌, length, Result, Ok, Err, refl, sym, ap, subst, ◌∙◌, append_assoc, length-append, arith}
use Rattle.sfu_base.specs.Bytes.{AreBytes}
use Rattle.av1_payload.specs.declared.fault.PayloadFault.{PayloadFault}
use Rattle.av1_payload.specs.Payloads.{SizedElement, sized_bytes, all_bytes, AreSized}
use Rattle.av1_payload.specs.Reading.{sized_at}
use Rattle.av1_payload.proofs.Sized.{some_byte, IsSizedAt, sized_found}

pub are_behind : (front xs : List ℕ) → AreBytes (front ++ xs) → AreBytes xs
are_behind [] xs are = are
are_behind (x ∷ front) xs are = are_behind front xs (λ i. are (suc i))

pub along_bytes : (xs ys : List ℕ) → xs ≡ ys → AreBytes xs → AreBytes ys
along_bytes xs ys same are = subst AreBytes same are

pub behind_first : (bytes element behind : List ℕ) → AreBytes bytes → IsSizedAt bytes element behind → AreBytes behind
behind_first bytes element behind are is = are_behind (sized_bytes is.sized) behind (along_bytes bytes (sized_bytes is.sized ++ behind) is.put are)

shorter : (bytes element behind : List ℕ) → IsSizedAt bytes element behind → length behind < length bytes
shorter bytes element behind is =
    omega (arith, ap (λ (x : List ℕ). length x) is.put, length-append (sized_bytes is.sized) behind, length-append (sized_bytes is.sized) [], some_byte is.sized [] is.is)

-- one more element before them
first_of : (bytes element behind rest : List ℕ) (sized : List SizedElement) → (is : IsSizedAt bytes element behind) → behind ≡ all_bytes sized ++ rest
    → bytes ≡ all_bytes (is.sized ∷ sized) ++ rest
first_of bytes element behind rest sized is put =
    is.put
    ∙ ap (λ (x : List ℕ). sized_bytes is.sized ++ x) put
    ∙ sym (append_assoc (sized_bytes is.sized) (all_bytes sized) rest)

-- ---- each with its length

pub record IsStopped (rest : List ℕ) : Type 0 where
  pub fault : PayloadFault
  pub some : 0 < length rest
  pub read : sized_at rest ≡ Err fault

pub record EachApart (bytes : List ℕ) : Type 0 where
  pub sized : List SizedElement
  pub rest : List ℕ
  pub fit : AreSized sized
  pub put : bytes ≡ all_bytes sized ++ rest
  pub stop : (rest ≡ []) ⊎ IsStopped rest

pub each_apart : (n : ℕ) (bytes : List ℕ) → length bytes ≤ n → AreBytes bytes → EachApart bytes
each_apart n [] few are = record { sized = []; rest = []; fit = tt; put = refl; stop = inl refl }
each_apart zero (byte ∷ behind) few are = absurd (omega arith)
each_apart (suc n) (byte ∷ tail) few are = by_first (sized_at (byte ∷ tail)) refl (λ xs short fit. each_apart n xs (omega arith) fit)
  where
    by_first : (first : Result (List ℕ × List ℕ) PayloadFault) → sized_at (byte ∷ tail) ≡ first
        → ((xs : List ℕ) → length xs < length (byte ∷ tail) → AreBytes xs → EachApart xs) → EachApart (byte ∷ tail)
    by_first (Err fault) at later = record {
      sized = [];
      rest = byte ∷ tail;
      fit = tt;
      put = refl;
      stop = inr (record { fault = fault; some = omega arith; read = at });
    }
    by_first (Ok (element, behind)) at later =
        let is = sized_found (byte ∷ tail) element behind are at in
        let others = later behind (shorter (byte ∷ tail) element behind is) (behind_first (byte ∷ tail) element behind are is) in
        record {
          sized = is.sized ∷ others.sized;
          rest = others.rest;
          fit = (is.is, others.fit);
          put = first_of (byte ∷ tail) element behind others.rest others.sized is others.put;
          stop = others.stop;
        }

-- ---- this many elements with their lengths, and the last

pub record IsStoppedBefore (n count : ℕ) (rest : List ℕ) : Type 0 where
  pub fault : PayloadFault
  pub fewer : count < n
  pub read : sized_at rest ≡ Err fault

pub record CountedApart (n : ℕ) (bytes : List ℕ) : Type 0 where
  pub sized : List SizedElement
  pub rest : List ℕ
  pub fit : AreSized sized
  pub put : bytes ≡ all_bytes sized ++ rest
  pub stop : (length sized ≡ n) ⊎ IsStoppedBefore n (length sized) rest

one_later : (n count : ℕ) (rest : List ℕ) → (count ≡ n) ⊎ IsStoppedBefore n count rest → (suc count ≡ suc n) ⊎ IsStoppedBefore (suc n) (suc count) rest
one_later n count rest stop =
    elim stop [
      | inl all ↦ inl (ap suc all)
      | inr before ↦ inr (record { fault = before.fault; fewer = omega (arith, before.fewer); read = before.read })
    ]

pub counted_apart : (n : ℕ) (bytes : List ℕ) → AreBytes bytes → CountedApart n bytes
counted_apart zero bytes are = record { sized = []; rest = bytes; fit = tt; put = refl; stop = inl refl }
counted_apart (suc n) bytes are = by_first (sized_at bytes) refl (counted_apart n)
  where
    by_first : (first : Result (List ℕ × List ℕ) PayloadFault) → sized_at bytes ≡ first
        → ((xs : List ℕ) → AreBytes xs → CountedApart n xs) → CountedApart (suc n) bytes
    by_first (Err fault) at later = record {
      sized = [];
      rest = bytes;
      fit = tt;
      put = refl;
      stop = inr (record { fault = fault; fewer = omega arith; read = at });
    }
    by_first (Ok (element, behind)) at later =
        let is = sized_found bytes element behind are at in
        let others = later behind (behind_first bytes element behind are is) in
        record {
          sized = is.sized ∷ others.sized;
          rest = others.rest;
          fit = (is.is, others.fit);
          put = first_of bytes element behind others.rest others.sized is others.put;
          stop = one_later n (length others.sized) others.rest others.stop;
        }
