-- The grammar accepts a payload without a fault, and a payload that it accepts is read.
use Rattle.std.proofs.Common.{◌≡◌, ◌<◌, ℕ, zero, suc, ◌+◌, ◌-◌, ◌%◌, inl, inr, List, [], ◌∷◌, ◌++◌, length, Option, Some, None, Result, refl, sym, ap, ◌∙◌, append-nil, arith}
use Rattle.sfu_base.specs.Bytes.{AreBytes}
use Rattle.av1_payload.specs.declared.fault.PayloadFault.{PayloadFault}
use Rattle.av1_payload.specs.declared.fault.PayloadFault.TheVariants.{NoElement}
use Rattle.av1_payload.specs.Payloads.{Flags, SizedElement, all_bytes, AreSized, Laid, EachSized, LastBare, count_said, laid_bytes, LaidFits, elements_in, elements_laid, header_byte, IsPayload}
use Rattle.av1_payload.specs.Reading.{Found, and_behind, sized_from, counted_from, count_in, found_of, first_fault, elements_of, flags_of}
use Rattle.av1_payload.proofs.Sized.{some_byte}
use Rattle.av1_payload.proofs.Steps.{none_found, each_step, last_found, counted_step, with_all, each_read, counted_read}
use Rattle.av1_payload.proofs.Parts.{IsStopped, EachApart, each_apart, IsStoppedBefore, CountedApart, counted_apart}
use Rattle.av1_payload.proofs.Headers.{header_again, count_read, flags_read, found_each, found_no_element, found_counted}

-- ---- a payload that is in the grammar is read

abbrev whole : List (List ℕ) → Found
whole elements = record { elements = elements; fault = None }

all_found : (sized : List SizedElement) → AreSized sized → sized_from 0 (all_bytes sized) ≡ whole (elements_in sized)
all_found sized fit =
    ap (sized_from 0) (sym (append-nil (all_bytes sized)))
    ∙ each_read sized [] fit
    ∙ ap (with_all (elements_in sized)) none_found
    ∙ ap whole (append-nil (elements_in sized))

laid_found : (laid : Laid) (flags : Flags) (reserved : ℕ) → reserved < 8 → LaidFits laid
    → found_of (header_byte flags (count_said laid) reserved ∷ laid_bytes laid) ≡ whole (elements_laid laid)
laid_found (EachSized first others) flags reserved ignored fits =
    let sized : List SizedElement = first ∷ others in
    let header = header_byte flags 0 reserved in
    found_each header (all_bytes sized) (count_read flags 0 reserved (omega arith) ignored) (some_byte first (all_bytes others) fits.0)
    ∙ all_found sized fits
laid_found (LastBare sized last) flags reserved ignored fits =
    let n = length sized in
    let header = header_byte flags (1 + n) reserved in
    let count : count_in header ≡ suc n = count_read flags (1 + n) reserved (omega (arith, fits.1)) ignored ∙ omega arith in
    found_counted header n (all_bytes sized ++ last) count
    ∙ counted_read sized last n 0 fits.0 (omega arith)
    ∙ ap (with_all (elements_in sized)) (last_found last)

count_below : (laid : Laid) → LaidFits laid → count_said laid < 4
count_below (EachSized first others) fits = omega arith
count_below (LastBare sized last) fits = omega (arith, fits.1)

pub payload_found : (bytes : List ℕ) (flags : Flags) (elements : List (List ℕ)) → IsPayload bytes flags elements
    → found_of bytes ≡ record { elements = elements; fault = None }
payload_found bytes flags elements is =
    ap found_of is.put ∙ laid_found is.laid flags is.reserved is.ignored is.fits ∙ ap whole (sym is.said)

pub payload_faultless : (bytes : List ℕ) (flags : Flags) (elements : List (List ℕ)) → IsPayload bytes flags elements → first_fault bytes ≡ None
payload_faultless bytes flags elements is = ap (λ (x : Found). x.fault) (payload_found bytes flags elements is)

pub payload_elements : (bytes : List ℕ) (flags : Flags) (elements : List (List ℕ)) → IsPayload bytes flags elements → elements_of bytes ≡ elements
payload_elements bytes flags elements is = ap (λ (x : Found). x.elements) (payload_found bytes flags elements is)

pub payload_flags : (bytes : List ℕ) (flags : Flags) (elements : List (List ℕ)) → IsPayload bytes flags elements → flags_of bytes ≡ flags
payload_flags bytes flags elements is =
    ap flags_of is.put ∙ flags_read flags (count_said is.laid) is.reserved (laid_bytes is.laid) (count_below is.laid is.fits) is.ignored

pub one_reading : (bytes : List ℕ) (flags more_flags : Flags) (elements more : List (List ℕ)) → IsPayload bytes flags elements
    → IsPayload bytes more_flags more → (flags ≡ more_flags) × (elements ≡ more)
one_reading bytes flags more_flags elements more is also = (
  sym (payload_flags bytes flags elements is) ∙ payload_flags bytes more_flags more also,
  sym (payload_elements bytes flags elements is) ∙ payload_elements bytes more_flags more also,
)

-- ---- a payload without a fault is in the grammar

put_together : (header : ℕ) (rest : List ℕ) (laid : Laid) → header < 256 → LaidFits laid → count_in header ≡ count_said laid → rest ≡ laid_bytes laid
    → found_of (header ∷ rest) ≡ record { elements = elements_laid laid; fault = None }
    → IsPayload (header ∷ rest) (flags_of (header ∷ rest)) (elements_of (header ∷ rest))
put_together header rest laid small fits count put found = record {
  reserved = header % 8;
  ignored = omega arith;
  laid = laid;
  fits = fits;
  put =
      ap (λ (x : ℕ). x ∷ rest) (header_again header rest small)
      ∙ ap (λ (x : ℕ). header_byte (flags_of (header ∷ rest)) x (header % 8) ∷ rest) count
      ∙ ap (λ (x : List ℕ). header_byte (flags_of (header ∷ rest)) (count_said laid) (header % 8) ∷ x) put;
  said = ap (λ (x : Found). x.elements) found;
}

-- the fault at the place where the elements stop, or none
pub each_found : (bytes : List ℕ) (apart : EachApart bytes) → sized_from 0 bytes ≡ with_all (elements_in apart.sized) (sized_from 0 apart.rest)
each_found bytes apart = ap (sized_from 0) apart.put ∙ each_read apart.sized apart.rest apart.fit

pub stopped_fault : (bytes : List ℕ) (apart : EachApart bytes) (stop : IsStopped apart.rest) → (sized_from 0 bytes).fault ≡ Some stop.fault
stopped_fault bytes apart stop =
    ap (λ (x : Found). x.fault)
    (each_found bytes apart
    ∙ ap (with_all (elements_in apart.sized)) (each_step apart.rest stop.some ∙ ap (λ (x : Result (List ℕ × List ℕ) PayloadFault). and_behind x (sized_from 0)) stop.read))

pub counted_stopped : (n count : ℕ) (rest : List ℕ) → (sized : List SizedElement) → AreSized sized → count ≡ length sized
    → (stop : IsStoppedBefore n count rest) → (counted_from n (all_bytes sized ++ rest)).fault ≡ Some stop.fault
counted_stopped n count rest sized fit counted stop = by_left (n - count) refl
  where
    by_left : (k : ℕ) → n - count ≡ k → (counted_from n (all_bytes sized ++ rest)).fault ≡ Some stop.fault
    by_left zero left = absurd (omega (arith, left, stop.fewer))
    by_left (suc k) left =
        ap (λ (x : Found). x.fault)
        (counted_read sized rest n (suc k) fit (omega (arith, left, counted, stop.fewer))
        ∙ ap (with_all (elements_in sized)) (counted_step k rest ∙ ap (λ (x : Result (List ℕ × List ℕ) PayloadFault). and_behind x (counted_from k)) stop.read))

never_both : (o : Option PayloadFault) (fault : PayloadFault) → o ≡ None → o ≡ Some fault → ⊥
never_both o fault none some = cc

each_in_grammar : (header : ℕ) (bytes : List ℕ) → header < 256 → AreBytes bytes → count_in header ≡ 0 → 0 < length bytes
    → first_fault (header ∷ bytes) ≡ None → IsPayload (header ∷ bytes) (flags_of (header ∷ bytes)) (elements_of (header ∷ bytes))
each_in_grammar header bytes small are count some none =
    elim apart.stop [
      | inl all ↦ by_sized apart.sized apart.fit (apart.put ∙ ap (λ (x : List ℕ). all_bytes apart.sized ++ x) all ∙ append-nil (all_bytes apart.sized))
      | inr stop ↦
          absurd (never_both (first_fault (header ∷ bytes)) stop.fault none
          (ap (λ (x : Found). x.fault) (found_each header bytes count some) ∙ stopped_fault bytes apart stop))
    ]
  where
    apart : EachApart bytes
    apart = each_apart (length bytes) bytes (omega arith) are

    by_sized : (sized : List SizedElement) → AreSized sized → bytes ≡ all_bytes sized
        → IsPayload (header ∷ bytes) (flags_of (header ∷ bytes)) (elements_of (header ∷ bytes))
    by_sized [] fit put = absurd (omega (arith, ap (λ (x : List ℕ). length x) put, some))
    by_sized (first ∷ others) fit put =
        put_together header bytes (EachSized first others) small fit count put
        (found_each header bytes count some ∙ ap (sized_from 0) put ∙ all_found (first ∷ others) fit)

counted_in_grammar : (header n : ℕ) (bytes : List ℕ) → header < 256 → AreBytes bytes → count_in header ≡ suc n
    → first_fault (header ∷ bytes) ≡ None → IsPayload (header ∷ bytes) (flags_of (header ∷ bytes)) (elements_of (header ∷ bytes))
counted_in_grammar header n bytes small are count none =
    elim apart.stop [
      | inl all ↦
          put_together header bytes (LastBare apart.sized apart.rest) small (apart.fit, omega (arith, all, count)) (count ∙ omega (arith, all)) apart.put
          (found_counted header n bytes count
          ∙ ap (counted_from n) apart.put
          ∙ counted_read apart.sized apart.rest n 0 apart.fit (omega (arith, all))
          ∙ ap (with_all (elements_in apart.sized)) (last_found apart.rest))
      | inr stop ↦
          absurd (never_both (first_fault (header ∷ bytes)) stop.fault none
          (ap (λ (x : Found). x.fault) (found_counted header n bytes count ∙ ap (counted_from n) apart.put)
          ∙ counted_stopped n (length apart.sized) apart.rest apart.sized apart.fit refl stop))
    ]
  where
    apart : CountedApart n bytes
    apart = counted_apart n bytes are

pub is_payload : (bytes : List ℕ) → AreBytes bytes → first_fault bytes ≡ None → IsPayload bytes (flags_of bytes) (elements_of bytes)
is_payload [] are none = cc
is_payload (header ∷ rest) are none = by_count (count_in header) refl rest (λ i. are (suc i)) none
  where
    by_count : (n : ℕ) → count_in header ≡ n → (bytes : List ℕ) → AreBytes bytes → first_fault (header ∷ bytes) ≡ None
        → IsPayload (header ∷ bytes) (flags_of (header ∷ bytes)) (elements_of (header ∷ bytes))
    by_count zero count [] fit none =
        absurd (never_both (first_fault (header ∷ [])) NoElement none (ap (λ (x : Found). x.fault) (found_no_element header count)))
    by_count zero count (byte ∷ behind) fit none = each_in_grammar header (byte ∷ behind) (are 0) fit count (omega arith) none
    by_count (suc n) count bytes fit none = counted_in_grammar header n bytes (are 0) fit count none
