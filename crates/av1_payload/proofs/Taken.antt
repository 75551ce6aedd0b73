-- Properties of a payload that the code has parsed.
use Rattle.std.proofs.Common.{◌≡◌, ℕ, zero, suc, List, [], ◌∷◌, Option, None, refl, sym, ap, subst, ◌∙◌}
use Rattle.sfu_base.specs.Bytes.{AreBytes}
use Rattle.av1_payload.specs.declared.fault.PayloadFault.{PayloadFault}
use Rattle.av1_payload.specs.declared.left.Layout.{Layout}
use Rattle.av1_payload.specs.declared.left.Layout.TheVariants.{EachSized, LastBare}
use Rattle.av1_payload.specs.Payloads.{Flags, IsPayload}
use Rattle.av1_payload.specs.Reading.{Found, found_behind, found_of, first_fault, elements_of, flags_of, count_in}
use Rattle.av1_payload.specs.Seen.{layout_with, found_in, found_in_all}
use Rattle.av1_payload.proofs.Grammar.{is_payload}

-- an aggregation header, the layout of the elements after it, and their bytes
pub record IsTaken (bytes : List ℕ) (header : ℕ) (layout : Layout) (rest : List ℕ) : Type 0 where
  pub put : bytes ≡ header ∷ rest
  pub laid : layout ≡ layout_with (count_in header)

by_layout : (count : ℕ) (rest : List ℕ) → found_behind count rest ≡ found_in_all (layout_with count) rest
by_layout zero [] = refl
by_layout zero (byte ∷ rest) = refl
by_layout (suc sized) rest = refl

taken_found : (bytes : List ℕ) (header : ℕ) (layout : Layout) (rest : List ℕ) → IsTaken bytes header layout rest → found_of bytes ≡ found_in_all layout rest
taken_found bytes header layout rest is =
    ap found_of is.put ∙ by_layout (count_in header) rest ∙ ap (λ (x : Layout). found_in_all x rest) (sym is.laid)

pub taken_fault : (bytes : List ℕ) (header : ℕ) (layout : Layout) (rest : List ℕ) (fault : Option PayloadFault) → IsTaken bytes header layout rest
    → (found_in_all layout rest).fault ≡ fault → first_fault bytes ≡ fault
taken_fault bytes header layout rest fault is read = ap (λ (x : Found). x.fault) (taken_found bytes header layout rest is) ∙ read

-- without a fault there is an element, and the elements are the remaining ones
elements_behind : (layout : Layout) (rest : List ℕ) → (found_in_all layout rest).fault ≡ None → (found_in layout rest).elements ≡ (found_in_all layout rest).elements
elements_behind EachSized [] none = cc
elements_behind EachSized (byte ∷ rest) none = refl
elements_behind (LastBare sized) rest none = refl

pub taken_elements : (bytes : List ℕ) (header : ℕ) (layout : Layout) (rest : List ℕ) → IsTaken bytes header layout rest
    → (found_in_all layout rest).fault ≡ None → (found_in layout rest).elements ≡ elements_of bytes
taken_elements bytes header layout rest is none =
    elements_behind layout rest none ∙ ap (λ (x : Found). x.elements) (sym (taken_found bytes header layout rest is))

pub taken_payload : (bytes : List ℕ) (header : ℕ) (layout : Layout) (rest : List ℕ) (flags : Flags) (elements : List (List ℕ)) → AreBytes bytes
    → IsTaken bytes header layout rest → (found_in_all layout rest).fault ≡ None → flags_of bytes ≡ flags → elements_of bytes ≡ elements
    → IsPayload bytes flags elements
taken_payload bytes header layout rest flags elements are is none same_flags same_elements =
    subst (λ (x : List (List ℕ)). IsPayload bytes flags x) same_elements
    (subst (λ (x : Flags). IsPayload bytes x (elements_of bytes)) same_flags
    (is_payload bytes are (taken_fault bytes header layout rest None is none)))
