-- A length that is added up byte by byte.
use Rattle.std.proofs.Common.{◌≡◌, ◌<◌, ◌≤◌, ℕ, ◌+◌, ◌*◌, ◌%◌, ◌^◌, List, [], ◌∷◌, ◌++◌, length, take, drop, map, get_or, Option, Some, None, refl, sym, ap, ◌∙◌, append_assoc, arith, add-one}
use Rattle.std.specs.Option.{option_map}
use Rattle.std.proofs.Math.Seq.{drop-cons}
use Rattle.std.proofs.Math.ListN.{drop_of_length-le}
use Rattle.std.proofs.Math.Nat.{mul-le-mul_left, pow-suc, pow-succ', pow-le-pow_right}
use Rattle.std.proofs.lemmas.List.{take_more, map-append, length-map, length-take-le, length-append}
use Rattle.av1_payload.specs.Leb.{number_of}
use Rattle.av1_payload.specs.Reading.{groups_at, length_at}
use Rattle.av1_payload.proofs.Groups.{none_left, ends_at, goes_on, some_groups, length_at_groups, length_fits, length_too_long, length_too_great}

-- the groups of the bytes before a place
abbrev pub groups_before : ℕ → List ℕ → List ℕ
groups_before place bytes = map (λ (byte : ℕ). byte % 128) (take place bytes)

-- none of the bytes before the place is the last byte of the length, and their groups encode this number
pub record IsBegun (bytes : List ℕ) (place value scale : ℕ) : Type 0 where
  pub goes : groups_at bytes ≡ option_map (λ groups. groups_before place bytes ++ groups) (groups_at (drop place bytes))
  pub number : number_of (groups_before place bytes) ≡ value
  pub scaled : 128 ^ place ≡ scale
  pub below : value < scale
  pub within : place ≤ length bytes

number_of-append : (xs ys : List ℕ) → number_of (xs ++ ys) ≡ number_of xs + 128 ^ length xs * number_of ys
number_of-append [] ys = omega arith
number_of-append (x ∷ xs) ys =
    grouped x (number_of (xs ++ ys)) (number_of xs) (128 ^ length xs) (number_of ys) (number_of-append xs ys)
    ∙ ap (λ (n : ℕ). (x + 128 * number_of xs) + n * number_of ys) (sym (pow-succ' 128 (length xs)))
  where
    grouped : (x all front scale behind : ℕ) → all ≡ front + scale * behind → x + 128 * all ≡ (x + 128 * front) + (128 * scale) * behind
    grouped x all front scale behind e = omega (arith, e)

pub begun : (bytes : List ℕ) → IsBegun bytes 0 0 1
begun bytes = record { goes = nothing (groups_at bytes); number = refl; scaled = refl; below = omega arith; within = omega arith }
  where
    nothing : (o : Option (List ℕ)) → o ≡ option_map (λ (groups : List ℕ). groups) o
    nothing None = refl
    nothing (Some x) = refl

-- one more group
groups_before-suc : (place : ℕ) (bytes : List ℕ) → place < length bytes
    → groups_before (place + 1) bytes ≡ groups_before place bytes ++ (get_or bytes place 0 % 128) ∷ []
groups_before-suc place bytes within =
    let low = λ (byte : ℕ). byte % 128 in
    ap (map low) (take_more bytes place 0 within) ∙ map-append low (take place bytes) (get_or bytes place 0 ∷ [])

number_before-suc : (bytes : List ℕ) (place value scale : ℕ) → place < length bytes → IsBegun bytes place value scale
    → number_of (groups_before (place + 1) bytes) ≡ value + scale * (get_or bytes place 0 % 128)
number_before-suc bytes place value scale within is =
    let group = get_or bytes place 0 % 128 in
    let counted : length (groups_before place bytes) ≡ place =
    length-map (take place bytes) (λ (byte : ℕ). byte % 128) ∙ length-take-le place bytes is.within in
    ap number_of (groups_before-suc place bytes within)
    ∙ number_of-append (groups_before place bytes) (group ∷ [])
    ∙ ap (λ (x : ℕ). x + 128 ^ length (groups_before place bytes) * (group + 128 * 0)) is.number
    ∙ ap (λ (x : ℕ). value + 128 ^ x * (group + 128 * 0)) counted
    ∙ ap (λ (x : ℕ). value + x * (group + 128 * 0)) is.scaled
    ∙ omega arith

term_below : (value scale group : ℕ) → value < scale → group < 128 → value + scale * group < scale * 128
term_below value scale group below small =
    let most : scale * group ≤ scale * 127 = mul-le-mul_left scale (omega arith) in omega (arith, most)

behind_place : (bytes : List ℕ) (place : ℕ) → place < length bytes → drop place bytes ≡ get_or bytes place 0 ∷ drop (place + 1) bytes
behind_place bytes place within = drop-cons bytes place 0 within ∙ ap (λ (n : ℕ). get_or bytes place 0 ∷ drop n bytes) (sym (add-one place))

-- the group that is read at a place follows the groups before it
moved : (o : Option (List ℕ)) (front : List ℕ) (group : ℕ)
    → option_map (λ groups. front ++ groups) (option_map (λ groups. group ∷ groups) o) ≡ option_map (λ groups. (front ++ group ∷ []) ++ groups) o
moved None front group = refl
moved (Some groups) front group = ap (λ (x : List ℕ). Some x) (sym (append_assoc front (group ∷ []) groups))

pub more : (bytes : List ℕ) (place value scale : ℕ) → IsBegun bytes place value scale → place < length bytes → 128 ≤ get_or bytes place 0
    → IsBegun bytes (place + 1) (value + scale * (get_or bytes place 0 % 128)) (scale * 128)
more bytes place value scale is within high =
    let front = groups_before place bytes in
    let byte = get_or bytes place 0 in
    let rest = drop (place + 1) bytes in
    record {
      goes =
          is.goes
          ∙ ap (λ (x : List ℕ). option_map (λ (groups : List ℕ). front ++ groups) (groups_at x)) (behind_place bytes place within)
          ∙ ap (option_map (λ (groups : List ℕ). front ++ groups)) (goes_on byte rest high)
          ∙ moved (groups_at rest) front (byte % 128)
          ∙ ap (λ (x : List ℕ). option_map (λ (groups : List ℕ). x ++ groups) (groups_at rest)) (sym (groups_before-suc place bytes within));
      number = number_before-suc bytes place value scale within is;
      scaled = ap (λ (n : ℕ). 128 ^ n) (add-one place) ∙ pow-suc 128 place ∙ ap (λ (x : ℕ). x * 128) is.scaled;
      below = term_below value scale (byte % 128) is.below (omega arith);
      within = omega arith;
    }

-- the numbers fit 64 bits, also one place after the last possible byte of a length
pub scale_fits : (bytes : List ℕ) (place value scale : ℕ) → IsBegun bytes place value scale → place ≤ 8 → scale ≤ 128 ^ 8
scale_fits bytes place value scale is few =
    let most : 128 ^ place ≤ 128 ^ 8 = pow-le-pow_right {n = 128} (omega arith) {i = place} {j = 8} few in omega (arith, most, is.scaled)

pub value_fits : (bytes : List ℕ) (place value scale group : ℕ) → IsBegun bytes place value scale → place ≤ 8 → group < 128
    → value + scale * group < 2 ^ 64
value_fits bytes place value scale group is few small =
    let most = scale_fits bytes place value scale is few in
    let term = term_below value scale group is.below small in
    omega (arith, most, term)

-- Where the length ends.

-- the bytes end within it
pub cut_off : (bytes : List ℕ) (place value scale : ℕ) → IsBegun bytes place value scale → length bytes ≤ place → length_at bytes ≡ None
cut_off bytes place value scale is past =
    let front = groups_before place bytes in
    length_at_groups bytes None
    (is.goes
    ∙ ap (λ (x : List ℕ). option_map (λ (groups : List ℕ). front ++ groups) (groups_at x)) (drop_of_length-le bytes past)
    ∙ ap (option_map (λ (groups : List ℕ). front ++ groups)) none_left)

-- its last byte is here
last_here : (bytes : List ℕ) (place value scale : ℕ) → IsBegun bytes place value scale → place < length bytes → get_or bytes place 0 < 128
    → groups_at bytes ≡ Some (groups_before (place + 1) bytes)
last_here bytes place value scale is within low =
    let front = groups_before place bytes in
    let byte = get_or bytes place 0 in
    let group : byte ≡ byte % 128 = omega arith in
    is.goes
    ∙ ap (λ (x : List ℕ). option_map (λ (groups : List ℕ). front ++ groups) (groups_at x)) (behind_place bytes place within)
    ∙ ap (option_map (λ (groups : List ℕ). front ++ groups)) (ends_at byte (drop (place + 1) bytes) low)
    ∙ ap (λ (x : ℕ). Some (front ++ x ∷ [])) group
    ∙ ap (λ (x : List ℕ). Some x) (sym (groups_before-suc place bytes within))

length-groups_before : (place : ℕ) (bytes : List ℕ) → place ≤ length bytes → length (groups_before place bytes) ≡ place
length-groups_before place bytes within =
    length-map (take place bytes) (λ (byte : ℕ). byte % 128) ∙ length-take-le place bytes within

pub whole : (bytes : List ℕ) (place value scale : ℕ) → IsBegun bytes place value scale → place < 8 → place < length bytes → get_or bytes place 0 < 128
    → value + scale * (get_or bytes place 0 % 128) < 2 ^ 32
    → length_at bytes ≡ Some (value + scale * (get_or bytes place 0 % 128), drop (place + 1) bytes)
whole bytes place value scale is few within low below =
    let groups = groups_before (place + 1) bytes in
    let number = number_before-suc bytes place value scale within is in
    let count = length-groups_before (place + 1) bytes (omega arith) in
    length_at_groups bytes (Some groups) (last_here bytes place value scale is within low)
    ∙ length_fits bytes groups (omega (arith, count)) (omega (arith, number))
    ∙ ap (λ (x : ℕ). Some (x, drop (length groups) bytes)) number
    ∙ ap (λ (n : ℕ). Some (value + scale * (get_or bytes place 0 % 128), drop n bytes)) count

pub too_great : (bytes : List ℕ) (place value scale : ℕ) → IsBegun bytes place value scale → place < 8 → place < length bytes → get_or bytes place 0 < 128
    → 2 ^ 32 ≤ value + scale * (get_or bytes place 0 % 128) → length_at bytes ≡ None
too_great bytes place value scale is few within low great =
    let groups = groups_before (place + 1) bytes in
    let number = number_before-suc bytes place value scale within is in
    let count = length-groups_before (place + 1) bytes (omega arith) in
    length_at_groups bytes (Some groups) (last_here bytes place value scale is within low)
    ∙ length_too_great bytes groups (omega (arith, count)) (omega (arith, number))

-- eight bytes have passed, and none was its last
pub too_many : (bytes : List ℕ) (place value scale : ℕ) → IsBegun bytes place value scale → 8 ≤ place → length_at bytes ≡ None
too_many bytes place value scale is many = by_groups (groups_at (drop place bytes)) refl
  where
    front : List ℕ
    front = groups_before place bytes

    by_groups : (o : Option (List ℕ)) → groups_at (drop place bytes) ≡ o → length_at bytes ≡ None
    by_groups None at = length_at_groups bytes None (is.goes ∙ ap (option_map (λ (groups : List ℕ). front ++ groups)) at)
    by_groups (Some groups) at =
        let count = length-groups_before place bytes is.within in
        let some = some_groups (drop place bytes) groups at in
        length_at_groups bytes (Some (front ++ groups)) (is.goes ∙ ap (option_map (λ (groups : List ℕ). front ++ groups)) at)
        ∙ length_too_long bytes (front ++ groups) (omega (arith, count, some, length-append front groups))
