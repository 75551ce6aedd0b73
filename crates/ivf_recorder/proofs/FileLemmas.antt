-- The file after one more frame.
use Rattle.std.proofs.Common.{◌≡◌, ℕ, ◌+◌, ◌-◌, ◌%◌, ◌^◌, ◌≤◌, ◌==◌, ◌&&◌, Bool, true, false, cond, List, [], ◌∷◌, ◌++◌, length, refl, sym, ap, ap₂, ◌∙◌, arith, append_assoc}
use Rattle.std.specs.Prelude.{nat_le}
use Rattle.std.specs.Int.{to_le_bytes, w16, w32, w64}
use Rattle.std.specs.List.{flat_map}
use Rattle.std.proofs.lemmas.List.{flat_map_more, length-append, same_from_push}
use Rattle.std.proofs.lemmas.Grind.{common_steps}
use Rattle.ivf_recorder.specs.Added.{BeginsUnit, IsNextTime, SetsUnit, SetsUnitSize}
use Rattle.ivf_recorder.specs.Files.{HasNewest, IsNewest}
use Rattle.ivf_recorder.specs.Units.{RecordedFrame, TemporalUnit, Size, begins, delimiter, grown, header, ivf, joins, most_unit, next_time, rate_bytes, signature, unit_bytes, units_of}
use Rattle.ivf_recorder.proofs.UnitLemmas.{units_more}

-- ---- lengths

pub le16_len : (n : ℕ) → length (to_le_bytes w16 n) ≡ 2
le16_len n = refl

pub le32_len : (n : ℕ) → length (to_le_bytes w32 n) ≡ 4
le32_len n = refl

pub le64_len : (n : ℕ) → length (to_le_bytes w64 n) ≡ 8
le64_len n = refl

header_length : (size : Size) (count : ℕ) (rest : List ℕ) → length (header size count rest) ≡ 32 + length rest
header_length size count rest = omega arith

header_append : (size : Size) (count : ℕ) (x y : List ℕ) → header size count (x ++ y) ≡ header size count x ++ y
header_append size count x y = refl

flat_push : (units : List TemporalUnit) (unit : TemporalUnit) → flat_map unit_bytes (units ++ unit ∷ []) ≡ flat_map unit_bytes units ++ unit_bytes unit
flat_push units unit = sym (flat_map_more unit_bytes [] units unit)

-- the file with its last unit at the end
pub file_split : (size : Size) (count : ℕ) (closed : List TemporalUnit) (unit : TemporalUnit)
    → header size count (flat_map unit_bytes (closed ++ unit ∷ [])) ≡ header size count (flat_map unit_bytes closed) ++ unit_bytes unit
file_split size count closed unit = ap (header size count) (flat_push closed unit) ∙ header_append size count (flat_map unit_bytes closed) (unit_bytes unit)

-- ---- a frame more in the newest unit

pub record JoinedFile (size : Size) (contents : List RecordedFrame) (content : RecordedFrame) (timestamp time at : ℕ) (new : List ℕ) : Type 0 where
  pub bytes : new ≡ ivf size (contents ++ content ∷ [])
  pub newest : IsNewest timestamp time at (contents ++ content ∷ [])
  pub count : length (units_of (contents ++ content ∷ [])) ≡ length (units_of contents)

both_true : (a b : ℕ) (le : Bool) → a ≡ b → le ≡ true → (a == b && le) ≡ true
both_true a b le e h = grind (arith, common_steps)

module _ (size : Size) (contents : List RecordedFrame) (content : RecordedFrame) (timestamp time at : ℕ) (old mid : List ℕ)
    (n : IsNewest timestamp time at contents) (is : old ≡ ivf size contents) (laid : mid ≡ old ++ content.bytes) where
  abbrev front : List ℕ
  front = header size (length (units_of contents)) (flat_map unit_bytes n.closed)

  abbrev tail : List ℕ
  tail = to_le_bytes w64 n.unit.time ++ (n.unit.bytes ++ content.bytes)

  old_is : old ≡ front ++ unit_bytes n.unit
  old_is = is ∙ (ap (λ (us : List TemporalUnit). header size (length (units_of contents)) (flat_map unit_bytes us)) n.units ∙ file_split size (length (units_of contents)) n.closed n.unit)

  mid_is : mid ≡ front ++ (to_le_bytes w32 (length n.unit.bytes % 2 ^ 32) ++ tail)
  mid_is =
      laid ∙ (ap (λ (x : List ℕ). x ++ content.bytes) old_is ∙ (append_assoc front (unit_bytes n.unit) content.bytes
      ∙ ap (λ (x : List ℕ). front ++ x) (append_assoc (to_le_bytes w32 (length n.unit.bytes % 2 ^ 32)) (to_le_bytes w64 n.unit.time ++ n.unit.bytes) content.bytes
      ∙ ap (λ (x : List ℕ). to_le_bytes w32 (length n.unit.bytes % 2 ^ 32) ++ x) (append_assoc (to_le_bytes w64 n.unit.time) n.unit.bytes content.bytes))))

  front_length : length front ≡ at
  front_length = let a = n.at_is in let b = header_length size (length (units_of contents)) (flat_map unit_bytes n.closed) in omega arith

  pub joined_length : length mid - at - 12 ≡ length (n.unit.bytes ++ content.bytes)
  joined_length =
      let e : length mid ≡ length (front ++ (to_le_bytes w32 (length n.unit.bytes % 2 ^ 32) ++ tail)) = ap length mid_is in
      let f = length-append front (to_le_bytes w32 (length n.unit.bytes % 2 ^ 32) ++ tail) in
      let g = front_length in
      omega arith

  joined_units : timestamp ≡ content.timestamp → length mid - at - 12 ≤ most_unit → units_of (contents ++ content ∷ []) ≡ n.closed ++ grown n.unit content ∷ []
  joined_units same fits =
      let l = joined_length in
      let m = length-append n.unit.bytes content.bytes in
      let le : nat_le (length n.unit.bytes + length content.bytes) most_unit ≡ true = grind (arith, common_steps) in
      let j : joins n.unit content ≡ true = both_true n.unit.timestamp content.timestamp (nat_le (length n.unit.bytes + length content.bytes) most_unit) (n.timestamp_is ∙ same) le in
      units_more contents content n.closed n.unit n.units ∙ ap (λ (b : Bool). n.closed ++ cond b (grown n.unit content ∷ []) (n.unit ∷ begins (next_time n.unit content) content ∷ [])) j

  pub joined_file : (new : List ℕ) → timestamp ≡ content.timestamp → length mid - at - 12 ≤ most_unit → SetsUnitSize at mid new
      → JoinedFile size contents content timestamp time at new
  joined_file new same fits updated =
      let us = joined_units same fits in
      let count : length (units_of (contents ++ content ∷ [])) ≡ length (units_of contents) =
      ap length us ∙ (length-append n.closed (grown n.unit content ∷ []) ∙ (sym (length-append n.closed (n.unit ∷ [])) ∙ sym (ap length n.units))) in
      let put = updated front (to_le_bytes w32 (length n.unit.bytes % 2 ^ 32)) tail mid_is front_length refl in
      record {
        bytes =
            put ∙ (ap (λ (l : ℕ). front ++ (to_le_bytes w32 (l % 2 ^ 32) ++ tail)) joined_length
            ∙ (sym (file_split size (length (units_of contents)) n.closed (grown n.unit content))
            ∙ ap₂ (λ (l : ℕ) (v : List TemporalUnit). header size l (flat_map unit_bytes v)) (sym count) (sym us)));
        newest = record { closed = n.closed; unit = grown n.unit content; units = us; timestamp_is = n.timestamp_is; time_is = n.time_is; at_is = n.at_is };
        count = count;
      }

  -- the unit gets too long
  pub apart_if_long : most_unit + 1 ≤ length mid - at - 12 → BeginsUnit contents content
  apart_if_long long closed unit e =
      let s = same_from_push closed n.closed unit n.unit (sym e ∙ n.units) in
      let l = joined_length in
      let m = length-append n.unit.bytes content.bytes in
      let u : length unit.bytes ≡ length n.unit.bytes = ap (λ (v : TemporalUnit). length v.bytes) s.1 in
      let no : nat_le (length unit.bytes + length content.bytes) most_unit ≡ false = grind (arith, common_steps) in
      grind (arith, common_steps)

-- ---- a frame more in a unit of its own

pub record ApartFile (size : Size) (contents : List RecordedFrame) (content : RecordedFrame) (time at count : ℕ) (new : List ℕ) : Type 0 where
  pub bytes : new ≡ ivf size (contents ++ content ∷ [])
  pub newest : IsNewest content.timestamp time at (contents ++ content ∷ [])
  pub counted : (count + 1) % 2 ^ 32 ≡ length (units_of (contents ++ content ∷ [])) % 2 ^ 32

pub new_unit : (begun : Bool) (contents : List RecordedFrame) (content : RecordedFrame) (timestamp newest_time at time : ℕ) → HasNewest begun timestamp newest_time at contents
    → BeginsUnit contents content → IsNextTime contents content.timestamp time → units_of (contents ++ content ∷ []) ≡ units_of contents ++ begins time content ∷ []
new_unit false contents content timestamp newest_time at time none apart next =
    ap (λ (x : List RecordedFrame). units_of (x ++ content ∷ [])) none
    ∙ (ap (λ (t : ℕ). begins t content ∷ []) (sym (next.first none)) ∙ ap (λ (x : List RecordedFrame). units_of x ++ begins time content ∷ []) (sym none))
new_unit true contents content timestamp newest_time at time n apart next =
    units_more contents content n.closed n.unit n.units
    ∙ (ap (λ (b : Bool). n.closed ++ cond b (grown n.unit content ∷ []) (n.unit ∷ begins (next_time n.unit content) content ∷ [])) (apart n.closed n.unit n.units)
    ∙ (ap (λ (t : ℕ). n.closed ++ (n.unit ∷ begins t content ∷ [])) (sym (next.next n.closed n.unit content.bytes n.units))
    ∙ (sym (append_assoc n.closed (n.unit ∷ []) (begins time content ∷ [])) ∙ ap (λ (us : List TemporalUnit). us ++ begins time content ∷ []) (sym n.units))))

module _ (size : Size) (contents : List RecordedFrame) (content : RecordedFrame) (time count : ℕ) (old mid new : List ℕ) (is : old ≡ ivf size contents)
    (counts : count ≡ length (units_of contents) % 2 ^ 32) (us : units_of (contents ++ content ∷ []) ≡ units_of contents ++ begins time content ∷ [])
    (laid : mid ≡ old ++ ((to_le_bytes w32 0 ++ (to_le_bytes w64 time ++ delimiter)) ++ content.bytes)) (updated : SetsUnit (length old) count mid new) where
  abbrev n : ℕ
  n = length (units_of contents)

  abbrev flat : List ℕ
  flat = flat_map unit_bytes (units_of contents)

  abbrev head : List ℕ
  head = signature ++ (to_le_bytes w16 (size.width % 65536) ++ (to_le_bytes w16 (size.height % 65536) ++ rate_bytes))

  abbrev rest : List ℕ
  rest = to_le_bytes w64 time ++ (delimiter ++ content.bytes)

  mid_split : mid ≡ head ++ (to_le_bytes w32 (n % 2 ^ 32) ++ ((to_le_bytes w32 0 ++ flat) ++ (to_le_bytes w32 0 ++ rest)))
  mid_split = laid ∙ ap (λ (x : List ℕ). x ++ ((to_le_bytes w32 0 ++ (to_le_bytes w64 time ++ delimiter)) ++ content.bytes)) is

  old_length : length old ≡ 32 + length flat
  old_length = ap length is ∙ header_length size n flat

  mid_length : length mid - length old - 12 ≡ length (delimiter ++ content.bytes)
  mid_length =
      let e = ap length laid in
      let f = length-append old ((to_le_bytes w32 0 ++ (to_le_bytes w64 time ++ delimiter)) ++ content.bytes) in
      omega arith

  abbrev with_unit : ℕ → ℕ → List ℕ
  with_unit k l =
      signature ++ (to_le_bytes w16 (size.width % 65536) ++ (to_le_bytes w16 (size.height % 65536) ++ (rate_bytes ++ (to_le_bytes w32 k ++ (to_le_bytes w32 0 ++ (flat ++ (to_le_bytes w32 l ++ rest)))))))

  counted_one : (count + 1) % 2 ^ 32 ≡ length (units_of (contents ++ content ∷ [])) % 2 ^ 32
  counted_one =
      let l : length (units_of (contents ++ content ∷ [])) ≡ n + 1 = ap length us ∙ length-append (units_of contents) (begins time content ∷ []) in
      let c = counts in
      omega arith

  pub apart_file : ApartFile size contents content time (length old) count new
  apart_file = record {
    bytes =
        updated head (to_le_bytes w32 (n % 2 ^ 32)) (to_le_bytes w32 0 ++ flat) (to_le_bytes w32 0) rest mid_split refl refl (let l = old_length in omega arith) refl
        ∙ (ap₂ (λ (k l : ℕ). with_unit k (l % 2 ^ 32)) counted_one mid_length
        ∙ (ap (header size (length (units_of (contents ++ content ∷ [])))) (sym (flat_push (units_of contents) (begins time content)))
        ∙ ap (λ (v : List TemporalUnit). header size (length (units_of (contents ++ content ∷ []))) (flat_map unit_bytes v)) (sym us)));
    newest = record {
      closed = units_of contents;
      unit = begins time content;
      units = us;
      timestamp_is = refl;
      time_is = refl;
      at_is = old_length;
    };
    counted = counted_one;
  }
