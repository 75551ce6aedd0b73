-- The outcome of a record's bytes, a few at a time.
use Rattle.std.proofs.Common.{zero, suc, ◌≡◌, ◌≤◌, ◌<◌, ℕ, ◌+◌, ◌-◌, Bool, true, false, cond, leb, eqb, List, [], ◌∷◌, ◌++◌, length, take, drop, refl, sym, ap, ◌∙◌, arith, Option, Some, None, append_assoc, length-append}
use Rattle.std.specs.Prelude.{slice_index}
use Rattle.std.specs.Option.{option_map_or}
use Rattle.std.proofs.lemmas.Bool.Decides.{nat_tests}
use Rattle.std.proofs.lemmas.List.{length-take-le, take_rest}
use Rattle.sfu_driver.specs.Scan.{AllMore, EndsAt, Scan, More, NoUnit, Whole, between}
use Rattle.sfu_driver.proofs.LineScans.{split_at}
use Rattle.script_records.specs.Kinds.{has_length, kind_named, may_have}
use Rattle.script_records.specs.declared.kind.RecordKind.{RecordKind}
use Rattle.script_records.specs.declared.kind.RecordKind.TheVariants as kind
use Rattle.script_records.specs.RecordCut.{header_so_far, is_header, is_length, length_said, record_scan, record_so_far}

-- ---- bytes after other bytes, several at a time

-- the outcome for a unit's bytes so far, as the outcome of the newest byte
abbrev pub by_newest : (List ℕ → Scan) → List ℕ → ℕ → Scan
by_newest so_far kept b = so_far (kept ++ b ∷ [])

pub take_behind : (kept piece : List ℕ) (k : ℕ) → take (length kept + k) (kept ++ piece) ≡ kept ++ take k piece
take_behind [] piece k = let e : 0 + k ≡ k = omega arith in ap (λ (n : ℕ). take n piece) e
take_behind (b ∷ kept) piece k =
    let e : suc (length kept) + k ≡ suc (length kept + k) = omega arith in
    ap (λ (n : ℕ). take n (b ∷ (kept ++ piece))) e ∙ ap (λ (xs : List ℕ). b ∷ xs) (take_behind kept piece k)

one_behind : (kept : List ℕ) (b : ℕ) (piece : List ℕ) → take (length kept + 1) (kept ++ b ∷ piece) ≡ kept ++ b ∷ []
one_behind kept b piece = take_behind kept (b ∷ piece) 1

pub all_more_by : (so_far : List ℕ → Scan) (kept piece : List ℕ) → ((n : ℕ) → length kept < n → n ≤ length kept + length piece → so_far (take n (kept ++ piece)) ≡ More)
    → AllMore (by_newest so_far) kept piece
all_more_by so_far kept [] more = tt
all_more_by so_far kept (b ∷ piece) more = (
  sym (ap so_far (one_behind kept b piece)) ∙ more (length kept + 1) (omega arith) (omega arith),
  all_more_by so_far (kept ++ b ∷ []) piece (λ n above within.
      ap (λ (xs : List ℕ). so_far (take n xs)) (append_assoc kept (b ∷ []) piece)
      ∙ more n (omega (arith, length-append kept (b ∷ []))) (omega (arith, length-append kept (b ∷ [])))),
)

take_fewer : (n m : ℕ) (xs : List ℕ) → n ≤ m → take n (take m xs) ≡ take n xs
take_fewer zero m xs le = refl
take_fewer (suc n) zero xs le = absurd (omega arith)
take_fewer (suc n) (suc m) [] le = refl
take_fewer (suc n) (suc m) (x ∷ xs) le = ap (λ (ys : List ℕ). x ∷ ys) (take_fewer n m xs (omega arith))

pub ends_by : (so_far : List ℕ → Scan) (kept piece : List ℕ) (count : ℕ) (seen : Scan) → 0 < count → count ≤ length piece
    → ((n : ℕ) → length kept < n → n < length kept + count → so_far (take n (kept ++ piece)) ≡ More)
    → so_far (take (length kept + count) (kept ++ piece)) ≡ seen → EndsAt (by_newest so_far) kept piece count seen
ends_by so_far kept piece zero seen some within before at = absurd (omega arith)
ends_by so_far kept piece (suc count) seen some within before at =
    let split = split_at piece count (omega arith) in
    let front = take count piece in
    let size : length front ≡ count = length-take-le count piece (omega arith) in
    let next : count + 1 ≡ suc count = omega arith in
    let is : take (suc count) piece ≡ front ++ split.0 ∷ [] = sym (ap (λ (n : ℕ). take n piece) next) ∙ split.1 in record {
      front = front;
      byte = split.0;
      split = is;
      within = within;
      going = all_more_by so_far kept front (λ n above le.
          let same : take n (kept ++ front) ≡ take n (kept ++ piece) =
          ap (take n) (sym (take_behind kept piece count)) ∙ take_fewer n (length kept + count) (kept ++ piece) (omega (arith, size)) in
          ap so_far same ∙ before n above (omega (arith, size)));
      ends = ap so_far (append_assoc kept front (split.0 ∷ []) ∙ ap (λ (xs : List ℕ). kept ++ xs) (sym is) ∙ sym (take_behind kept piece (suc count))) ∙ at;
    }

-- ---- kinds and lengths

kind_small : (k : RecordKind) (n : ℕ) → has_length k n ≡ true → is_length n ≡ true
kind_small kind.PublishPlain n e = grind (arith, nat_tests)
kind_small kind.PublishLayered n e = grind (arith, nat_tests)
kind_small kind.Unpublish n e = grind (arith, nat_tests)
kind_small kind.Packet n e = grind (arith, nat_tests)
kind_small kind.Tick n e = grind (arith, nat_tests)
kind_small kind.Join n e = grind (arith, nat_tests)
kind_small kind.Leave n e = grind (arith, nat_tests)
kind_small kind.Aim n e = grind (arith, nat_tests)
kind_small kind.Take n e = grind (arith, nat_tests)
kind_small kind.Resend n e = grind (arith, nat_tests)
kind_small kind.Missing n e = grind (arith, nat_tests)
kind_small kind.KeyWanted n e = grind (arith, nat_tests)
kind_small kind.Plead n e = grind (arith, nat_tests)
kind_small kind.Why n e = grind (arith, nat_tests)

named_small : (named : Option RecordKind) (n : ℕ) → option_map_or (λ k. has_length k n) named false ≡ true → is_length n ≡ true
named_small None n e = absurd cc
named_small (Some k) n e = kind_small k n e

pub may_small : (code n : ℕ) → may_have code n ≡ true → is_length n ≡ true
may_small code n e = named_small (kind_named code) n e

pub small_is : (n : ℕ) → is_length n ≡ true → (1 ≤ n) × (n ≤ 2061)
small_is n e = (grind (arith, nat_tests), grind (arith, nat_tests))

-- ---- a record

-- the length in its first bytes
abbrev pub said : List ℕ → ℕ
said bytes = length_said (slice_index bytes 0) (slice_index bytes 1)

pub fewer_go : (bytes : List ℕ) (n : ℕ) → n < 2 → record_so_far (take n bytes) ≡ More
fewer_go bytes zero few = refl
fewer_go [] (suc zero) few = refl
fewer_go (a ∷ bytes) (suc zero) few = refl
fewer_go bytes (suc (suc n)) few = absurd (omega arith)

-- with a length that a body may have
pub length_goes : (bytes : List ℕ) (n : ℕ) → 2 ≤ length bytes → is_length (said bytes) ≡ true → n < 3 → record_so_far (take n bytes) ≡ More
length_goes [] n two ok few = absurd (omega arith)
length_goes (a ∷ []) n two ok few = absurd (omega arith)
length_goes (a ∷ b ∷ bytes) zero two ok few = refl
length_goes (a ∷ b ∷ bytes) (suc zero) two ok few = refl
length_goes (a ∷ b ∷ bytes) (suc (suc zero)) two ok few = ap (λ (t : Bool). cond t More NoUnit) ok
length_goes (a ∷ b ∷ bytes) (suc (suc (suc n))) two ok few = absurd (omega arith)

no_kind_by : (t : Bool) (code n : ℕ) → may_have code n ≡ t → is_length n ≡ false → t ≡ false
no_kind_by false code n e none = refl
no_kind_by true code n e none = let ok = may_small code n e in absurd cc

-- with a length that no body has
pub length_ends : (bytes : List ℕ) (n : ℕ) → is_length (said bytes) ≡ false → 2 ≤ n → n ≤ length bytes → record_so_far (take n bytes) ≡ NoUnit
length_ends [] n none two le = absurd (omega arith)
length_ends (a ∷ []) n none two le = absurd (omega arith)
length_ends (a ∷ b ∷ bytes) zero none two le = absurd (omega arith)
length_ends (a ∷ b ∷ bytes) (suc zero) none two le = absurd (omega arith)
length_ends (a ∷ b ∷ bytes) (suc (suc zero)) none two le = ap (λ (t : Bool). cond t More NoUnit) none
length_ends (a ∷ b ∷ []) (suc (suc (suc n))) none two le = absurd (omega arith)
length_ends (a ∷ b ∷ code ∷ bytes) (suc (suc (suc n))) none two le =
    let e : may_have code (length_said a b) ≡ false = no_kind_by (may_have code (length_said a b)) code (length_said a b) refl none in
    ap (λ (t : Bool). cond t (cond (leb (length_said a b) (length (code ∷ take n bytes))) (Whole (code ∷ take n bytes)) More) NoUnit) e

-- with a kind whose bodies have other lengths
pub kind_ends : (bytes : List ℕ) (n : ℕ) → may_have (slice_index bytes 2) (said bytes) ≡ false → 3 ≤ n → n ≤ length bytes → record_so_far (take n bytes) ≡ NoUnit
kind_ends [] n none three le = absurd (omega arith)
kind_ends (a ∷ []) n none three le = absurd (omega arith)
kind_ends (a ∷ b ∷ []) n none three le = absurd (omega arith)
kind_ends (a ∷ b ∷ code ∷ bytes) zero none three le = absurd (omega arith)
kind_ends (a ∷ b ∷ code ∷ bytes) (suc zero) none three le = absurd (omega arith)
kind_ends (a ∷ b ∷ code ∷ bytes) (suc (suc zero)) none three le = absurd (omega arith)
kind_ends (a ∷ b ∷ code ∷ bytes) (suc (suc (suc n))) none three le =
    ap (λ (t : Bool). cond t (cond (leb (length_said a b) (length (code ∷ take n bytes))) (Whole (code ∷ take n bytes)) More) NoUnit) none

-- with a kind whose bodies can have this length
pub kind_goes : (bytes : List ℕ) (n : ℕ) → may_have (slice_index bytes 2) (said bytes) ≡ true → n < said bytes + 2 → n ≤ length bytes → 3 ≤ length bytes → record_so_far (take n bytes) ≡ More
kind_goes [] n ok few le three = absurd (omega arith)
kind_goes (a ∷ []) n ok few le three = absurd (omega arith)
kind_goes (a ∷ b ∷ []) n ok few le three = absurd (omega arith)
kind_goes (a ∷ b ∷ code ∷ bytes) zero ok few le three = refl
kind_goes (a ∷ b ∷ code ∷ bytes) (suc zero) ok few le three = refl
kind_goes (a ∷ b ∷ code ∷ bytes) (suc (suc zero)) ok few le three = ap (λ (t : Bool). cond t More NoUnit) (may_small code (length_said a b) ok)
kind_goes (a ∷ b ∷ code ∷ bytes) (suc (suc (suc n))) ok few le three =
    let size : length (take n bytes) ≡ n = length-take-le n bytes (omega arith) in
    let e : leb (length_said a b) (length (code ∷ take n bytes)) ≡ false = let less : length (code ∷ take n bytes) < length_said a b = omega arith in grind (arith, nat_tests) in
    ap (λ (t : Bool). cond t (cond (leb (length_said a b) (length (code ∷ take n bytes))) (Whole (code ∷ take n bytes)) More) NoUnit) ok
    ∙ ap (λ (t : Bool). cond t (Whole (code ∷ take n bytes)) More) e

pub record_is_whole : (bytes : List ℕ) (n : ℕ) → may_have (slice_index bytes 2) (said bytes) ≡ true → said bytes + 2 ≤ n → n ≤ length bytes → 3 ≤ n
    → record_so_far (take n bytes) ≡ Whole (drop 2 (take n bytes))
record_is_whole [] n ok all le three = absurd (omega arith)
record_is_whole (a ∷ []) n ok all le three = absurd (omega arith)
record_is_whole (a ∷ b ∷ []) n ok all le three = absurd (omega arith)
record_is_whole (a ∷ b ∷ code ∷ bytes) zero ok all le three = absurd (omega arith)
record_is_whole (a ∷ b ∷ code ∷ bytes) (suc zero) ok all le three = absurd (omega arith)
record_is_whole (a ∷ b ∷ code ∷ bytes) (suc (suc zero)) ok all le three = absurd (omega arith)
record_is_whole (a ∷ b ∷ code ∷ bytes) (suc (suc (suc n))) ok all le three =
    let size : length (take n bytes) ≡ n = length-take-le n bytes (omega arith) in
    let e : leb (length_said a b) (length (code ∷ take n bytes)) ≡ true = let least : length_said a b ≤ length (code ∷ take n bytes) = omega arith in grind (arith, nat_tests) in
    ap (λ (t : Bool). cond t (cond (leb (length_said a b) (length (code ∷ take n bytes))) (Whole (code ∷ take n bytes)) More) NoUnit) ok
    ∙ ap (λ (t : Bool). cond t (Whole (code ∷ take n bytes)) More) e

-- ---- the header

pub header_goes : (bytes : List ℕ) (n : ℕ) → n < 4 → header_so_far (take n bytes) ≡ More
header_goes bytes zero few = refl
header_goes [] (suc n) few = refl
header_goes (a ∷ []) (suc zero) few = refl
header_goes (a ∷ []) (suc (suc n)) few = refl
header_goes (a ∷ b ∷ bytes) (suc zero) few = refl
header_goes (a ∷ b ∷ bytes) (suc (suc zero)) few = refl
header_goes (a ∷ b ∷ []) (suc (suc (suc n))) few = refl
header_goes (a ∷ b ∷ c ∷ bytes) (suc (suc (suc zero))) few = refl
header_goes (a ∷ b ∷ c ∷ bytes) (suc (suc (suc (suc n)))) few = absurd (omega arith)

abbrev pub begins_well : List ℕ → Bool
begins_well bytes = is_header (slice_index bytes 0) (slice_index bytes 1) (slice_index bytes 2) (slice_index bytes 3)

pub header_ends : (bytes : List ℕ) (n : ℕ) → 4 ≤ n → n ≤ length bytes → (n ≡ 4 → begins_well bytes ≡ false) → header_so_far (take n bytes) ≡ NoUnit
header_ends bytes zero four le none = absurd (omega arith)
header_ends bytes (suc zero) four le none = absurd (omega arith)
header_ends bytes (suc (suc zero)) four le none = absurd (omega arith)
header_ends bytes (suc (suc (suc zero))) four le none = absurd (omega arith)
header_ends [] (suc (suc (suc (suc n)))) four le none = absurd (omega arith)
header_ends (a ∷ []) (suc (suc (suc (suc n)))) four le none = absurd (omega arith)
header_ends (a ∷ b ∷ []) (suc (suc (suc (suc n)))) four le none = absurd (omega arith)
header_ends (a ∷ b ∷ c ∷ []) (suc (suc (suc (suc n)))) four le none = absurd (omega arith)
header_ends (a ∷ b ∷ c ∷ d ∷ bytes) (suc (suc (suc (suc zero)))) four le none = ap (λ (t : Bool). cond t (Whole (a ∷ b ∷ c ∷ d ∷ [])) NoUnit) (none refl)
header_ends (a ∷ b ∷ c ∷ d ∷ []) (suc (suc (suc (suc (suc n))))) four le none = absurd (omega arith)
header_ends (a ∷ b ∷ c ∷ d ∷ e ∷ bytes) (suc (suc (suc (suc (suc n))))) four le none = refl

pub header_is_whole : (bytes : List ℕ) → 4 ≤ length bytes → begins_well bytes ≡ true → header_so_far (take 4 bytes) ≡ Whole (take 4 bytes)
header_is_whole [] four ok = absurd (omega arith)
header_is_whole (a ∷ []) four ok = absurd (omega arith)
header_is_whole (a ∷ b ∷ []) four ok = absurd (omega arith)
header_is_whole (a ∷ b ∷ c ∷ []) four ok = absurd (omega arith)
header_is_whole (a ∷ b ∷ c ∷ d ∷ bytes) four ok = ap (λ (t : Bool). cond t (Whole (a ∷ b ∷ c ∷ d ∷ [])) NoUnit) ok

-- ---- the scans

pub records_scan : (n : ℕ) → 0 < n → by_newest record_so_far ≡ record_scan n
records_scan n above =
    let e : eqb n 0 ≡ false = grind (arith, nat_tests) in
    sym (ap (λ (t : Bool). let scan : List ℕ → ℕ → Scan = λ kept b. cond t (header_so_far (kept ++ b ∷ [])) (record_so_far (kept ++ b ∷ [])) in scan) e)

-- the text of a unit that ends with these bytes
pub between_all : (start : ℕ) (kept piece : List ℕ) (count : ℕ) → count ≤ length piece
    → between start (length kept + count) (kept ++ take count piece) ≡ drop start (take (length kept + count) (kept ++ piece))
between_all start kept piece count within =
    let all = kept ++ take count piece in
    let size : length kept + count ≡ length all = omega (arith, length-append kept (take count piece), length-take-le count piece within) in
    ap (λ (n : ℕ). take (n - start) (drop start all)) size ∙ take_rest all start ∙ ap (λ (xs : List ℕ). drop start xs) (sym (take_behind kept piece count))
