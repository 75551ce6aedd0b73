-- An encoded length is read as that length, and a length that was read had this encoding.
use Rattle.std.proofs.Common.{◌≡◌, ◌<◌, ◌≤◌, ℕ, suc, ◌+◌, ◌%◌, ◌^◌, Bool, true, false, List, [], ◌∷◌, ◌++◌, length, drop, Option, Some, None, nat_lt, refl, sym, ap, subst, ◌∙◌, arith}
use Rattle.std.specs.Option.{option_map, option_and_then}
use Rattle.std.proofs.lemmas.Bool.{lt-ltb, le-ltb, ltb-true, ltb-false}
use Rattle.std.proofs.lemmas.List.{drop_at}
use Rattle.sfu_base.specs.Bytes.{AreBytes}
use Rattle.av1_payload.specs.Leb.{number_of, leb_bytes, AreGroups, IsLength}
use Rattle.av1_payload.specs.Faults.{IsNoLength}
use Rattle.av1_payload.specs.Reading.{groups_at, length_of, length_at}

-- ---- groups

pub none_left : groups_at [] ≡ None
unfolding groups_at
none_left = refl

pub ends_at : (byte : ℕ) (rest : List ℕ) → byte < 128 → groups_at (byte ∷ rest) ≡ Some (byte ∷ [])
unfolding groups_at
ends_at byte rest last = rw (lt-ltb byte 128 last) refl

pub goes_on : (byte : ℕ) (rest : List ℕ) → 128 ≤ byte → groups_at (byte ∷ rest) ≡ option_map (λ groups. byte % 128 ∷ groups) (groups_at rest)
unfolding groups_at
goes_on byte rest more = rw (le-ltb byte 128 more) refl

-- there is at least one group
pub some_groups : (bytes groups : List ℕ) → groups_at bytes ≡ Some groups → 0 < length groups
some_groups [] groups read = let none = none_left in absurd (cc)
some_groups (byte ∷ rest) groups read = by_test (nat_lt byte 128) refl (groups_at rest) refl
  where
    among : (gs : List ℕ) (g : ℕ) → Some (g ∷ gs) ≡ Some groups → 0 < length groups
    among gs g same = let e : g ∷ gs ≡ groups = cc in omega (arith, ap (λ (x : List ℕ). length x) e)

    behind : (others : Option (List ℕ)) → groups_at rest ≡ others → 128 ≤ byte → 0 < length groups
    behind None at more = let e = goes_on byte rest more in absurd (cc)
    behind (Some gs) at more =
        among gs (byte % 128) (sym (ap (option_map (λ (x : List ℕ). byte % 128 ∷ x)) at) ∙ sym (goes_on byte rest more) ∙ read)

    by_test : (test : Bool) → nat_lt byte 128 ≡ test → (others : Option (List ℕ)) → groups_at rest ≡ others → 0 < length groups
    by_test true last others at = among [] byte (sym (ends_at byte rest (ltb-true byte 128 last)) ∙ read)
    by_test false last others at = behind others at (ltb-false byte 128 last)

-- groups that are encoded are read
groups_read : (groups rest : List ℕ) → 0 < length groups → AreGroups groups → groups_at (leb_bytes groups ++ rest) ≡ Some groups
groups_read [] rest some small = absurd (omega arith)
groups_read (g ∷ []) rest some small = ends_at g rest small.0
groups_read (g ∷ h ∷ gs) rest some small =
    let group : (128 + g) % 128 ≡ g = omega (arith, small.0) in
    goes_on (128 + g) (leb_bytes (h ∷ gs) ++ rest) (omega arith)
    ∙ ap (option_map (λ (groups : List ℕ). (128 + g) % 128 ∷ groups)) (groups_read (h ∷ gs) rest (omega arith) small.1)
    ∙ ap (λ (x : ℕ). Some (x ∷ h ∷ gs)) group

pub length-leb_bytes : (groups : List ℕ) → length (leb_bytes groups) ≡ length groups
length-leb_bytes [] = refl
length-leb_bytes (g ∷ []) = refl
length-leb_bytes (g ∷ h ∷ gs) = omega (arith, length-leb_bytes (h ∷ gs))

leb_bytes-cons : (group : ℕ) (groups : List ℕ) → 0 < length groups → leb_bytes (group ∷ groups) ≡ (128 + group) ∷ leb_bytes groups
leb_bytes-cons group [] some = absurd (omega arith)
leb_bytes-cons group (g ∷ gs) some = refl

-- groups that are read were encoded
record IsSpelled (groups bytes : List ℕ) : Type 0 where
  some : 0 < length groups
  small : AreGroups groups
  put : bytes ≡ leb_bytes groups ++ drop (length groups) bytes

one_more : (byte : ℕ) (rest groups : List ℕ) → byte < 256 → 128 ≤ byte → IsSpelled groups rest → IsSpelled (byte % 128 ∷ groups) (byte ∷ rest)
one_more byte rest groups small more is =
    let group : 128 + byte % 128 ≡ byte = omega arith in
    let behind = drop (length groups) rest in
    record {
      some = omega arith;
      small = (omega arith, is.small);
      put =
          ap (λ (x : List ℕ). byte ∷ x) is.put
          ∙ ap (λ (x : ℕ). x ∷ (leb_bytes groups ++ behind)) (sym group)
          ∙ ap (λ (x : List ℕ). x ++ behind) (sym (leb_bytes-cons (byte % 128) groups is.some));
    }

groups_found : (bytes groups : List ℕ) → AreBytes bytes → groups_at bytes ≡ Some groups → IsSpelled groups bytes
groups_found [] groups are read = let none = none_left in absurd (cc)
groups_found (byte ∷ rest) groups are read =
    by_test (nat_lt byte 128) refl (groups_at rest) refl (λ gs at. groups_found rest gs (λ i. are (suc i)) at)
  where
    behind : (others : Option (List ℕ)) → groups_at rest ≡ others → 128 ≤ byte
        → ((gs : List ℕ) → groups_at rest ≡ Some gs → IsSpelled gs rest) → IsSpelled groups (byte ∷ rest)
    behind None at more later = let e = goes_on byte rest more in absurd (cc)
    behind (Some gs) at more later =
        let e : Some (byte % 128 ∷ gs) ≡ Some groups =
        sym (ap (option_map (λ (x : List ℕ). byte % 128 ∷ x)) at) ∙ sym (goes_on byte rest more) ∙ read in
        let same : byte % 128 ∷ gs ≡ groups = cc in
        subst (λ (x : List ℕ). IsSpelled x (byte ∷ rest)) same (one_more byte rest gs (are 0) more (later gs at))

    by_test : (test : Bool) → nat_lt byte 128 ≡ test → (others : Option (List ℕ)) → groups_at rest ≡ others
        → ((gs : List ℕ) → groups_at rest ≡ Some gs → IsSpelled gs rest) → IsSpelled groups (byte ∷ rest)
    by_test true last others at later =
        let small : byte < 128 = ltb-true byte 128 last in
        let e : Some (byte ∷ []) ≡ Some groups = sym (ends_at byte rest small) ∙ read in
        let same : byte ∷ [] ≡ groups = cc in
        subst (λ (x : List ℕ). IsSpelled x (byte ∷ rest)) same (record { some = omega arith; small = (small, tt); put = refl })
    by_test false last others at later = behind others at (ltb-false byte 128 last) later

-- ---- lengths

pub length_at_groups : (bytes : List ℕ) (o : Option (List ℕ)) → groups_at bytes ≡ o → length_at bytes ≡ option_and_then (length_of bytes) o
unfolding length_at
length_at_groups bytes o at = ap (option_and_then (length_of bytes)) at

pub length_fits : (bytes groups : List ℕ) → length groups ≤ 8 → number_of groups < 2 ^ 32
    → length_of bytes groups ≡ Some (number_of groups, drop (length groups) bytes)
length_fits bytes groups few below = rw (le-ltb 8 (length groups) few, lt-ltb (number_of groups) (2 ^ 32) below) refl

pub length_too_long : (bytes groups : List ℕ) → 8 < length groups → length_of bytes groups ≡ None
length_too_long bytes groups many = rw (lt-ltb 8 (length groups) many) refl

pub length_too_great : (bytes groups : List ℕ) → length groups ≤ 8 → 2 ^ 32 ≤ number_of groups → length_of bytes groups ≡ None
length_too_great bytes groups few great = rw (le-ltb 8 (length groups) few, le-ltb (number_of groups) (2 ^ 32) great) refl

-- a length that is encoded is read
pub length_read : (groups rest : List ℕ) (n : ℕ) → IsLength groups n → length_at (leb_bytes groups ++ rest) ≡ Some (n, rest)
length_read groups rest n is =
    let bytes = leb_bytes groups ++ rest in
    length_at_groups bytes (Some groups) (groups_read groups rest is.some is.small)
    ∙ length_fits bytes groups is.few (omega (arith, is.below, is.spelled))
    ∙ ap (λ (x : ℕ). Some (x, drop (length groups) bytes)) is.spelled
    ∙ ap (λ (x : List ℕ). Some (n, x)) (drop_at (leb_bytes groups) rest (length groups) (length-leb_bytes groups))

same_length : (o : Option (ℕ × List ℕ)) (x y : ℕ × List ℕ) → o ≡ Some x → o ≡ Some y → x ≡ y
same_length o x y at_x at_y = cc

-- a length that is read is the one that the groups encode
record IsRead (bytes rest : List ℕ) (n : ℕ) : Type 0 where
  groups : List ℕ
  there : groups_at bytes ≡ Some groups
  few : length groups ≤ 8
  number : number_of groups ≡ n
  below : n < 2 ^ 32
  behind : drop (length groups) bytes ≡ rest

length_parts : (bytes rest : List ℕ) (n : ℕ) → length_at bytes ≡ Some (n, rest) → IsRead bytes rest n
length_parts bytes rest n read = by_groups (groups_at bytes) refl
  where
    fit : (groups : List ℕ) → groups_at bytes ≡ Some groups → length groups ≤ 8 → number_of groups < 2 ^ 32
        → length_of bytes groups ≡ Some (n, rest) → IsRead bytes rest n
    fit groups there few below at =
        let same = same_length (length_of bytes groups) (number_of groups, drop (length groups) bytes) (n, rest) (length_fits bytes groups few below) at in
        let number : number_of groups ≡ n = ap (λ (x : ℕ × List ℕ). x.0) same in
        record {
          groups = groups;
          there = there;
          few = few;
          number = number;
          below = omega (arith, below, number);
          behind = ap (λ (x : ℕ × List ℕ). x.1) same;
        }

    by_tests : (long great : Bool) (groups : List ℕ) → nat_lt 8 (length groups) ≡ long → nat_lt (number_of groups) (2 ^ 32) ≡ great
        → groups_at bytes ≡ Some groups → length_of bytes groups ≡ Some (n, rest) → IsRead bytes rest n
    by_tests true great groups at_long at_great there at = let e = length_too_long bytes groups (ltb-true 8 (length groups) at_long) in absurd (cc)
    by_tests false false groups at_long at_great there at =
        let e = length_too_great bytes groups (ltb-false 8 (length groups) at_long) (ltb-false (number_of groups) (2 ^ 32) at_great) in absurd (cc)
    by_tests false true groups at_long at_great there at =
        fit groups there (ltb-false 8 (length groups) at_long) (ltb-true (number_of groups) (2 ^ 32) at_great) at

    by_groups : (o : Option (List ℕ)) → groups_at bytes ≡ o → IsRead bytes rest n
    by_groups None at = let e = length_at_groups bytes None at in absurd (cc)
    by_groups (Some groups) at =
        by_tests (nat_lt 8 (length groups)) (nat_lt (number_of groups) (2 ^ 32)) groups refl refl at
        (sym (length_at_groups bytes (Some groups) at) ∙ read)

-- it takes at least one byte
pub length_takes : (bytes rest : List ℕ) (n : ℕ) → length_at bytes ≡ Some (n, rest) → (m : ℕ) × (0 < m) × (drop m bytes ≡ rest)
length_takes bytes rest n read =
    let is = length_parts bytes rest n read in (length is.groups, some_groups bytes is.groups is.there, is.behind)

-- a length that is read was encoded
pub record IsLengthAt (bytes rest : List ℕ) (n : ℕ) : Type 0 where
  pub groups : List ℕ
  pub is : IsLength groups n
  pub put : bytes ≡ leb_bytes groups ++ rest

pub length_found : (bytes rest : List ℕ) (n : ℕ) → AreBytes bytes → length_at bytes ≡ Some (n, rest) → IsLengthAt bytes rest n
length_found bytes rest n are read =
    let found = length_parts bytes rest n read in
    let is = groups_found bytes found.groups are found.there in
    record {
      groups = found.groups;
      is = record { some = is.some; few = found.few; small = is.small; spelled = found.number; below = found.below };
      put = is.put ∙ ap (λ (x : List ℕ). leb_bytes found.groups ++ x) found.behind;
    }

-- no length is read exactly if none is encoded
pub no_length_spelled : (bytes : List ℕ) → length_at bytes ≡ None → IsNoLength bytes
no_length_spelled bytes none groups behind n is put =
    let e : length_at bytes ≡ Some (n, behind) = ap length_at put ∙ length_read groups behind n is in absurd (clash (length_at bytes) (n, behind) none e)
  where
    clash : (o : Option (ℕ × List ℕ)) (x : ℕ × List ℕ) → o ≡ None → o ≡ Some x → ⊥
    clash o x none some = cc

pub no_length_read : (bytes : List ℕ) → AreBytes bytes → IsNoLength bytes → length_at bytes ≡ None
no_length_read bytes are none = by_length (length_at bytes) refl
  where
    by_length : (o : Option (ℕ × List ℕ)) → length_at bytes ≡ o → length_at bytes ≡ None
    by_length None at = at
    by_length (Some (n, rest)) at = let found = length_found bytes rest n are at in absurd (none found.groups rest n found.is found.put)
