-- Bytes with no fault begin with a header, and bytes that begin with a header have no fault.
use Rattle.std.proofs.Common.{◌≡◌, ◌<◌, ℕ, ◌+◌, ◌*◌, ◌/◌, ◌%◌, ◌==◌, nat_le, Bool, true, false, cond, List, [], ◌∷◌, ◌++◌, Option, Some, None, IfSome, Result, Ok, Err, IfOk, IfErr, refl, sym, ◌∙◌, ap, subst, arith}
use Rattle.std.proofs.lemmas.Bool.Decides.{nat_tests}
use Rattle.sfu_base.specs.Bytes.{AreBytes}
use Rattle.obu_element.specs.declared.obu_header.ObuHeader.{ObuHeader}
use Rattle.obu_element.specs.declared.obu_header.ObuFault.{ObuFault}
use Rattle.obu_element.specs.declared.obu_header.ObuFault.TheVariants as fault
use Rattle.obu_element.specs.Header.{Extension, ExtensionFits, BeginsWith, header_bytes, said}
use Rattle.obu_element.specs.Reading.{first_fault, header_of}

without : (b : ℕ) (rest : List ℕ) → b < 128 → (b / 4 % 2 == 1) ≡ false → BeginsWith (b ∷ rest) (header_of (b ∷ rest))
without b rest low plain = record {
  layout = record { kind = b / 8 % 16; extension = None; has_size = b / 2 % 2 == 1; reserved = b % 2 };
  rest = rest;
  laid = let head : 8 * (b / 8 % 16) + 4 * 0 + 2 * cond (b / 2 % 2 == 1) 1 0 + b % 2 ≡ b = grind (arith, nat_tests) in ap (λ (x : ℕ). x ∷ rest) (sym head);
  fits = record { kind = omega arith; extension = tt; reserved = omega arith };
  says = rw plain refl;
}

with_extension : (b x : ℕ) (rest : List ℕ) → b < 128 → x < 256 → (b / 4 % 2 == 1) ≡ true → BeginsWith (b ∷ x ∷ rest) (header_of (b ∷ x ∷ rest))
with_extension b x rest low byte set = record {
  layout = record {
    kind = b / 8 % 16;
    extension = Some (record { temporal = x / 32; spatial = x / 8 % 4; reserved = x % 8 });
    has_size = b / 2 % 2 == 1;
    reserved = b % 2;
  };
  rest = rest;
  laid =
      let head : 8 * (b / 8 % 16) + 4 * 1 + 2 * cond (b / 2 % 2 == 1) 1 0 + b % 2 ≡ b = grind (arith, nat_tests) in
      let next : 32 * (x / 32) + 8 * (x / 8 % 4) + x % 8 ≡ x = omega arith in
      ap (λ (y : ℕ). y ∷ x ∷ rest) (sym head) ∙ ap (λ (y : ℕ). (8 * (b / 8 % 16) + 4 * 1 + 2 * cond (b / 2 % 2 == 1) 1 0 + b % 2) ∷ y ∷ rest) (sym next);
  fits = record {
    kind = omega arith;
    extension = record { temporal = omega arith; spatial = omega arith; reserved = omega arith };
    reserved = omega arith;
  };
  says = rw set refl;
}

pub begins : (bytes : List ℕ) → AreBytes bytes → first_fault bytes ≡ None → BeginsWith bytes (header_of bytes)
unfolding first_fault
begins [] fits none = cc
begins (b ∷ []) fits none = by (nat_le 128 b) refl (b / 4 % 2 == 1) refl none
  where
    by : (high : Bool) → nat_le 128 b ≡ high → (set : Bool) → (b / 4 % 2 == 1) ≡ set
        → cond high (Some fault.Forbidden) (cond set (Some fault.Cut) None) ≡ None → BeginsWith (b ∷ []) (header_of (b ∷ []))
    by true h set s e = cc
    by false h true s e = cc
    by false h false s e = without b [] (grind (arith, nat_tests)) s
begins (b ∷ x ∷ rest) fits none = by (nat_le 128 b) refl (b / 4 % 2 == 1) refl none
  where
    by : (high : Bool) → nat_le 128 b ≡ high → (set : Bool) → (b / 4 % 2 == 1) ≡ set → cond high (Some fault.Forbidden) None ≡ None
        → BeginsWith (b ∷ x ∷ rest) (header_of (b ∷ x ∷ rest))
    by true h set s e = cc
    by false h true s e = with_extension b x rest (grind (arith, nat_tests)) (fits 1) s
    by false h false s e = without b (x ∷ rest) (grind (arith, nat_tests)) s

extended_byte : (k r : ℕ) (x s : Bool) → k < 16 → r < 2 → ((8 * k + 4 * cond x 1 0 + 2 * cond s 1 0 + r) / 4 % 2 == 1) ≡ x
extended_byte k r true true k_lt r_lt = grind (arith, nat_tests)
extended_byte k r true false k_lt r_lt = grind (arith, nat_tests)
extended_byte k r false true k_lt r_lt = grind (arith, nat_tests)
extended_byte k r false false k_lt r_lt = grind (arith, nat_tests)

sized_byte : (k r : ℕ) (x s : Bool) → k < 16 → r < 2 → ((8 * k + 4 * cond x 1 0 + 2 * cond s 1 0 + r) / 2 % 2 == 1) ≡ s
sized_byte k r true true k_lt r_lt = grind (arith, nat_tests)
sized_byte k r true false k_lt r_lt = grind (arith, nat_tests)
sized_byte k r false true k_lt r_lt = grind (arith, nat_tests)
sized_byte k r false false k_lt r_lt = grind (arith, nat_tests)

low_byte : (k r : ℕ) (x s : Bool) → k < 16 → r < 2 → nat_le 128 (8 * k + 4 * cond x 1 0 + 2 * cond s 1 0 + r) ≡ false
low_byte k r true true k_lt r_lt = grind (arith, nat_tests)
low_byte k r true false k_lt r_lt = grind (arith, nat_tests)
low_byte k r false true k_lt r_lt = grind (arith, nat_tests)
low_byte k r false false k_lt r_lt = grind (arith, nat_tests)

kind_byte : (k r : ℕ) (x s : Bool) → k < 16 → r < 2 → (8 * k + 4 * cond x 1 0 + 2 * cond s 1 0 + r) / 8 % 16 ≡ k
kind_byte k r true true k_lt r_lt = omega arith
kind_byte k r true false k_lt r_lt = omega arith
kind_byte k r false true k_lt r_lt = omega arith
kind_byte k r false false k_lt r_lt = omega arith

-- the bytes of a layout, whatever follows
layout_fault : (k r : ℕ) (s : Bool) (x : Option Extension) (rest : List ℕ) → k < 16 → r < 2
    → first_fault (header_bytes (record { kind = k; extension = x; has_size = s; reserved = r }) ++ rest) ≡ None
unfolding first_fault
layout_fault k r s None [] k_lt r_lt = rw (low_byte k r false s k_lt r_lt, extended_byte k r false s k_lt r_lt) refl
layout_fault k r s None (x ∷ rest) k_lt r_lt = rw (low_byte k r false s k_lt r_lt) refl
layout_fault k r s (Some e) rest k_lt r_lt = rw (low_byte k r true s k_lt r_lt) refl

layout_fields : (k r : ℕ) (s : Bool) (x : Option Extension) (rest : List ℕ) → k < 16 → r < 2 → IfSome x ExtensionFits
    → header_of (header_bytes (record { kind = k; extension = x; has_size = s; reserved = r }) ++ rest)
    ≡ said (record { kind = k; extension = x; has_size = s; reserved = r })
layout_fields k r s None rest k_lt r_lt fits =
    rw (extended_byte k r false s k_lt r_lt, sized_byte k r false s k_lt r_lt, kind_byte k r false s k_lt r_lt) refl
layout_fields k r s (Some e) rest k_lt r_lt fits =
    let t : (32 * e.temporal + 8 * e.spatial + e.reserved) / 32 ≡ e.temporal = omega (arith, fits.temporal, fits.spatial, fits.reserved) in
    let p : (32 * e.temporal + 8 * e.spatial + e.reserved) / 8 % 4 ≡ e.spatial = omega (arith, fits.temporal, fits.spatial, fits.reserved) in
    rw (extended_byte k r true s k_lt r_lt, sized_byte k r true s k_lt r_lt, kind_byte k r true s k_lt r_lt, t, p) refl

pub no_fault : (bytes : List ℕ) (h : ObuHeader) → BeginsWith bytes h → first_fault bytes ≡ None
no_fault bytes h is =
    let l = is.layout in
    ap first_fault is.laid ∙ layout_fault l.kind l.reserved l.has_size l.extension is.rest is.fits.kind is.fits.reserved

pub same_fields : (bytes : List ℕ) (h : ObuHeader) → BeginsWith bytes h → header_of bytes ≡ h
same_fields bytes h is =
    let l = is.layout in
    ap header_of is.laid ∙ layout_fields l.kind l.reserved l.has_size l.extension is.rest is.fits.kind is.fits.reserved is.fits.extension ∙ sym is.says

pub one_header : (bytes : List ℕ) (g h : ObuHeader) → BeginsWith bytes g → BeginsWith bytes h → g ≡ h
one_header bytes g h is also = sym (same_fields bytes g is) ∙ same_fields bytes h also

pub found_from : (bytes : List ℕ) (r : Result ObuHeader ObuFault) → AreBytes bytes → IfOk r (λ h. h ≡ header_of bytes)
    → IfOk r (λ _. first_fault bytes ≡ None) → IfOk r (λ h. BeginsWith bytes h)
found_from bytes (Ok h) fits fields none = subst (BeginsWith bytes) (sym fields) (begins bytes fits none)
found_from bytes (Err e) fits fields none = tt

pub none_from : (bytes : List ℕ) (r : Result ObuHeader ObuFault) → IfErr r (λ e. first_fault bytes ≡ Some e)
    → IfErr r (λ _. (h : ObuHeader) → BeginsWith bytes h → ⊥)
none_from bytes (Ok h) faulty = tt
none_from bytes (Err e) faulty = λ h is. let none = no_fault bytes h is in cc
