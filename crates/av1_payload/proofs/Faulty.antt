-- Bytes have a fault exactly when they have the layout that the fault's definition describes.
use Rattle.std.proofs.Common.{◌≡◌, ◌<◌, ℕ, zero, suc, ◌⊎◌, inl, inr, List, [], ◌∷◌, ◌++◌, length, Option, Some, None, Err, refl, ap, ◌∙◌, subst, length-append, arith}
use Rattle.sfu_base.specs.Bytes.{AreBytes}
use Rattle.av1_payload.specs.declared.fault.PayloadFault.{PayloadFault}
use Rattle.av1_payload.specs.declared.fault.PayloadFault.TheVariants.{Empty, Leb, Length, NoElement}
use Rattle.av1_payload.specs.Payloads.{SizedElement, all_bytes, AreSized, elements_in}
use Rattle.av1_payload.specs.Faults.{IsDue, IsDueAt, HasFault}
use Rattle.av1_payload.specs.Reading.{Found, sized_at, sized_from, counted_from, count_in, first_fault}
use Rattle.av1_payload.proofs.Sized.{IsWrong, wrong_read, wrong_found}
use Rattle.av1_payload.proofs.Steps.{none_found, last_found, with_all, counted_read}
use Rattle.av1_payload.proofs.Parts.{along_bytes, are_behind, IsStopped, EachApart, each_apart, CountedApart, counted_apart}
use Rattle.av1_payload.proofs.Headers.{found_each, found_no_element, found_counted}
use Rattle.av1_payload.proofs.Grammar.{each_found, stopped_fault, counted_stopped}

same_fault : (o : Option PayloadFault) (e f : PayloadFault) → o ≡ Some e → o ≡ Some f → e ≡ f
same_fault o e f at_e at_f = cc

-- ---- a fault that is found

as_fault : (fault : PayloadFault) (bytes rest : List ℕ) → IsDueAt bytes rest → IsWrong fault rest → HasFault fault bytes
as_fault Leb bytes rest due wrong = (rest, due, wrong)
as_fault Length bytes rest due wrong = (rest, due, wrong)
as_fault Empty bytes rest due wrong = absurd wrong
as_fault NoElement bytes rest due wrong = absurd wrong

-- the fault at the place where the elements stop
wrong_here : (fault stop : PayloadFault) (header : ℕ) (bytes rest : List ℕ) (sized : List SizedElement) → AreBytes bytes → AreSized sized
    → bytes ≡ all_bytes sized ++ rest → IsDue (count_in header) (length sized) rest → sized_at rest ≡ Err stop → stop ≡ fault
    → HasFault fault (header ∷ bytes)
wrong_here fault stop header bytes rest sized are fit put due read same =
    let are_rest : AreBytes rest = are_behind (all_bytes sized) rest (along_bytes bytes (all_bytes sized ++ rest) put are) in
    subst (λ (x : PayloadFault). HasFault x (header ∷ bytes)) same
    (as_fault stop (header ∷ bytes) rest
    (record { header = header; sized = sized; fit = fit; put = ap (λ (x : List ℕ). header ∷ x) put; due = due })
    (wrong_found stop rest are_rest read))

due_each : (count placed : ℕ) (rest : List ℕ) → count ≡ 0 → 0 < length rest → IsDue count placed rest
due_each zero placed rest none some = some
due_each (suc n) placed rest none some = absurd (omega (arith, none))

due_counted : (count n placed : ℕ) (rest : List ℕ) → count ≡ suc n → placed < n → IsDue count placed rest
due_counted zero n placed rest count fewer = absurd (omega (arith, count))
due_counted (suc m) n placed rest count fewer = omega (arith, count, fewer)

each_fault : (fault : PayloadFault) (header : ℕ) (bytes : List ℕ) → AreBytes bytes → count_in header ≡ 0 → 0 < length bytes
    → first_fault (header ∷ bytes) ≡ Some fault → HasFault fault (header ∷ bytes)
each_fault fault header bytes are count some read =
    elim apart.stop [
      | inl all ↦
          let none : (sized_from 0 bytes).fault ≡ None =
          ap (λ (x : Found). x.fault)
          (each_found bytes apart ∙ ap (with_all (elements_in apart.sized)) (ap (sized_from 0) all ∙ none_found)) in
          absurd (never_both (first_fault (header ∷ bytes)) (at ∙ none) read)
      | inr stop ↦
          wrong_here fault stop.fault header bytes apart.rest apart.sized are apart.fit apart.put
          (due_each (count_in header) (length apart.sized) apart.rest count stop.some) stop.read
          (same_fault (first_fault (header ∷ bytes)) stop.fault fault (at ∙ stopped_fault bytes apart stop) read)
    ]
  where
    never_both : (o : Option PayloadFault) → o ≡ None → o ≡ Some fault → ⊥
    never_both o none some = cc

    apart : EachApart bytes
    apart = each_apart (length bytes) bytes (omega arith) are

    at : first_fault (header ∷ bytes) ≡ (sized_from 0 bytes).fault
    at = ap (λ (x : Found). x.fault) (found_each header bytes count some)

counted_fault : (fault : PayloadFault) (header n : ℕ) (bytes : List ℕ) → AreBytes bytes → count_in header ≡ suc n
    → first_fault (header ∷ bytes) ≡ Some fault → HasFault fault (header ∷ bytes)
counted_fault fault header n bytes are count read =
    elim apart.stop [
      | inl all ↦
          let none : (counted_from n (all_bytes apart.sized ++ apart.rest)).fault ≡ None =
          ap (λ (x : Found). x.fault)
          (counted_read apart.sized apart.rest n 0 apart.fit (omega (arith, all)) ∙ ap (with_all (elements_in apart.sized)) (last_found apart.rest)) in
          absurd (never_both (first_fault (header ∷ bytes)) (at ∙ none) read)
      | inr stop ↦
          wrong_here fault stop.fault header bytes apart.rest apart.sized are apart.fit apart.put
          (due_counted (count_in header) n (length apart.sized) apart.rest count stop.fewer) stop.read
          (same_fault (first_fault (header ∷ bytes)) stop.fault fault
          (at ∙ counted_stopped n (length apart.sized) apart.rest apart.sized apart.fit refl stop) read)
    ]
  where
    never_both : (o : Option PayloadFault) → o ≡ None → o ≡ Some fault → ⊥
    never_both o none some = cc

    apart : CountedApart n bytes
    apart = counted_apart n bytes are

    at : first_fault (header ∷ bytes) ≡ (counted_from n (all_bytes apart.sized ++ apart.rest)).fault
    at = ap (λ (x : Found). x.fault) (found_counted header n bytes count ∙ ap (counted_from n) apart.put)

pub fault_found : (fault : PayloadFault) (bytes : List ℕ) → AreBytes bytes → first_fault bytes ≡ Some fault → HasFault fault bytes
fault_found fault [] are read =
    let same : Empty ≡ fault = same_fault (first_fault []) Empty fault refl read in subst (λ (x : PayloadFault). HasFault x []) same refl
fault_found fault (header ∷ rest) are read = by_count (count_in header) refl rest (λ i. are (suc i)) read
  where
    by_count : (n : ℕ) → count_in header ≡ n → (bytes : List ℕ) → AreBytes bytes → first_fault (header ∷ bytes) ≡ Some fault → HasFault fault (header ∷ bytes)
    by_count zero count [] fit read =
        let same = same_fault (first_fault (header ∷ [])) NoElement fault (ap (λ (x : Found). x.fault) (found_no_element header count)) read in
        subst (λ (x : PayloadFault). HasFault x (header ∷ [])) same (header, refl, count)
    by_count zero count (byte ∷ behind) fit read = each_fault fault header (byte ∷ behind) fit count (omega arith) read
    by_count (suc n) count bytes fit read = counted_fault fault header n bytes fit count read

-- ---- bytes composed with a fault

due_at_last : (header : ℕ) (sized : List SizedElement) (rest : List ℕ) (fault : PayloadFault) → AreSized sized → sized_at rest ≡ Err fault
    → (n : ℕ) → count_in header ≡ n → IsDue n (length sized) rest → first_fault (header ∷ (all_bytes sized ++ rest)) ≡ Some fault
due_at_last header sized rest fault fit read zero count due =
    let bytes = all_bytes sized ++ rest in
    ap (λ (x : Found). x.fault) (found_each header bytes count (omega (arith, length-append (all_bytes sized) rest, due)))
    ∙ stopped_fault bytes (record { sized = sized; rest = rest; fit = fit; put = refl; stop = inl_or sized rest fault due read })
    (record { fault = fault; some = due; read = read })
  where
    inl_or : (sized : List SizedElement) (rest : List ℕ) (fault : PayloadFault) → 0 < length rest → sized_at rest ≡ Err fault → (rest ≡ []) ⊎ IsStopped rest
    inl_or sized rest fault some read = inr (record { fault = fault; some = some; read = read })
due_at_last header sized rest fault fit read (suc n) count due =
    ap (λ (x : Found). x.fault) (found_counted header n (all_bytes sized ++ rest) count)
    ∙ counted_stopped n (length sized) rest sized fit refl (record { fault = fault; fewer = due; read = read })

wrong_fault : (fault : PayloadFault) (bytes rest : List ℕ) → AreBytes bytes → IsDueAt bytes rest → IsWrong fault rest → first_fault bytes ≡ Some fault
wrong_fault fault bytes rest are due wrong =
    let whole : AreBytes ((due.header ∷ all_bytes due.sized) ++ rest) = along_bytes bytes (due.header ∷ (all_bytes due.sized ++ rest)) due.put are in
    let are_rest : AreBytes rest = are_behind (due.header ∷ all_bytes due.sized) rest whole in
    ap first_fault due.put
    ∙ due_at_last due.header due.sized rest fault due.fit (wrong_read fault rest are_rest wrong) (count_in due.header) refl due.due

pub fault_read : (fault : PayloadFault) (bytes : List ℕ) → AreBytes bytes → HasFault fault bytes → first_fault bytes ≡ Some fault
fault_read Empty bytes are none = ap first_fault none
fault_read NoElement bytes are alone = ap first_fault alone.1 ∙ ap (λ (x : Found). x.fault) (found_no_element alone.0 alone.2)
fault_read Leb bytes are wrong = wrong_fault Leb bytes wrong.0 are wrong.1 wrong.2
fault_read Length bytes are wrong = wrong_fault Length bytes wrong.0 are wrong.1 wrong.2
