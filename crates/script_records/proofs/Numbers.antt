-- Numbers in bytes: a number that is read is there, and a number that is there is read.
use Rattle.std.proofs.Common.{◌≡◌, ◌<◌, ◌≤◌, ℕ, zero, suc, ◌+◌, ◌^◌, ◌/◌, ◌%◌, List, [], ◌∷◌, ◌++◌, length, take, drop, refl, sym, ap, ◌∙◌, arith, append_assoc, append-nil, length-drop}
use Rattle.std.specs.Int.{from_be_bytes, w64}
use Rattle.std.specs.List.{flat_map}
use Rattle.std.proofs.lemmas.List.{drop-drop, drop_all, take_all, get_or-drop}
use Rattle.std.proofs.lemmas.Nat.{be_bytes_8}
use Rattle.byteorder.specs.Endian.{big_bytes, big_number}
use Rattle.byteorder.specs.Numbers.{big_from-lt, big_number-reads_back}
use Rattle.sfu_base.specs.Bytes.{AreBytes}
use Rattle.sfu_script.specs.Fields.{bits_of, place_of, places_of, AreWithin}
use Rattle.script_texts.specs.Grammar.{AllWithin}
use Rattle.sfu_script.specs.declared.fields.Field.{Field}
use Rattle.sfu_script.specs.declared.fields.Field.TheVariants as kind
use Rattle.script_records.specs.Records.{place_bytes}
use Rattle.script_records.specs.ReadRecords.{width_of, size_of, numbers_at}

pub drop_bytes : (n : ℕ) (xs : List ℕ) → AreBytes xs → AreBytes (drop n xs)
drop_bytes n xs fits i = rw (get_or-drop n xs i 0) (fits (n + i))

take_bytes : (n : ℕ) (xs : List ℕ) → AreBytes xs → AreBytes (take n xs)
take_bytes zero xs fits i = omega arith
take_bytes (suc n) [] fits i = omega arith
take_bytes (suc n) (x ∷ xs) fits zero = fits 0
take_bytes (suc n) (x ∷ xs) fits (suc i) = take_bytes n xs (λ k. fits (suc k)) i

-- ---- one number: the bytes of a number that was read are those from which it was read

laid_1 : (bytes : List ℕ) → 1 ≤ length bytes → AreBytes bytes → big_bytes 1 (big_number 1 bytes) ++ drop 1 bytes ≡ bytes
laid_1 (a ∷ rest) capacity fits = let n0 : big_number 1 (a ∷ rest) % 256 ≡ a = omega (arith, fits 0) in ap (λ (x : ℕ). x ∷ rest) n0
laid_1 [] capacity fits = absurd (omega arith)

laid_2 : (bytes : List ℕ) → 2 ≤ length bytes → AreBytes bytes → big_bytes 2 (big_number 2 bytes) ++ drop 2 bytes ≡ bytes
laid_2 (a ∷ b ∷ rest) capacity fits =
    let n = big_number 2 (a ∷ b ∷ rest) in
    let n0 : n / 256 % 256 ≡ a = omega (arith, fits 0, fits 1) in
    let n1 : n % 256 ≡ b = omega (arith, fits 0, fits 1) in
    cc
laid_2 bytes capacity fits = absurd (omega arith)

laid_4 : (bytes : List ℕ) → 4 ≤ length bytes → AreBytes bytes → big_bytes 4 (big_number 4 bytes) ++ drop 4 bytes ≡ bytes
laid_4 (a ∷ b ∷ c ∷ d ∷ rest) capacity fits =
    let n = big_number 4 (a ∷ b ∷ c ∷ d ∷ rest) in
    let n0 : n / 16777216 % 256 ≡ a = omega (arith, fits 0, fits 1, fits 2, fits 3) in
    let n1 : n / 65536 % 256 ≡ b = omega (arith, fits 0, fits 1, fits 2, fits 3) in
    let n2 : n / 256 % 256 ≡ c = omega (arith, fits 0, fits 1, fits 2, fits 3) in
    let n3 : n % 256 ≡ d = omega (arith, fits 0, fits 1, fits 2, fits 3) in
    cc
laid_4 bytes capacity fits = absurd (omega arith)

laid_8 : (bytes : List ℕ) → 8 ≤ length bytes → AreBytes bytes → big_bytes 8 (big_number 8 bytes) ++ drop 8 bytes ≡ bytes
laid_8 (a ∷ b ∷ c ∷ d ∷ e ∷ f ∷ g ∷ h ∷ rest) capacity fits =
    let all : List ℕ = a ∷ b ∷ c ∷ d ∷ e ∷ f ∷ g ∷ h ∷ rest in
    let front : List ℕ = a ∷ b ∷ c ∷ d ∷ e ∷ f ∷ g ∷ h ∷ [] in
    let same : big_number 8 all ≡ from_be_bytes w64 front = omega arith in
    ap (λ (x : List ℕ). x ++ rest) (be_bytes_8 front (big_number 8 all) refl (take_bytes 8 all fits) same)
laid_8 bytes capacity fits = absurd (omega arith)

one_laid : (f : Field) (bytes : List ℕ) → width_of f ≤ length bytes → AreBytes bytes
    → place_bytes (place_of f (big_number (width_of f) bytes)) ++ drop (width_of f) bytes ≡ bytes
one_laid kind.Number8 bytes capacity fits = laid_1 bytes capacity fits
one_laid kind.Number16 bytes capacity fits = laid_2 bytes capacity fits
one_laid kind.Number32 bytes capacity fits = laid_4 bytes capacity fits
one_laid kind.Number64 bytes capacity fits = laid_8 bytes capacity fits
one_laid kind.Ssrc bytes capacity fits = laid_4 bytes capacity fits

one_within : (f : Field) (bytes : List ℕ) → AreBytes bytes → big_number (width_of f) bytes < 2 ^ bits_of f
one_within kind.Number8 bytes fits = big_from-lt 0 1 bytes fits
one_within kind.Number16 bytes fits = big_from-lt 0 2 bytes fits
one_within kind.Number32 bytes fits = big_from-lt 0 4 bytes fits
one_within kind.Number64 bytes fits = big_from-lt 0 8 bytes fits
one_within kind.Ssrc bytes fits = big_from-lt 0 4 bytes fits

-- a number's own bytes are read as that number, whatever follows them
one_back : (f : Field) (n : ℕ) (rest : List ℕ) → n < 2 ^ bits_of f → big_number (width_of f) (place_bytes (place_of f n) ++ rest) ≡ n
one_back kind.Number8 n rest lt = big_number-reads_back 1 n rest lt
one_back kind.Number16 n rest lt = big_number-reads_back 2 n rest lt
one_back kind.Number32 n rest lt = big_number-reads_back 4 n rest lt
one_back kind.Number64 n rest lt = big_number-reads_back 8 n rest lt
one_back kind.Ssrc n rest lt = big_number-reads_back 4 n rest lt

one_dropped : (f : Field) (n : ℕ) (rest : List ℕ) → drop (width_of f) (place_bytes (place_of f n) ++ rest) ≡ rest
one_dropped kind.Number8 n rest = refl
one_dropped kind.Number16 n rest = refl
one_dropped kind.Number32 n rest = refl
one_dropped kind.Number64 n rest = refl
one_dropped kind.Ssrc n rest = refl

place_within : (f : Field) (n : ℕ) (fs : List Field) (ns : List ℕ) → n < 2 ^ bits_of f → AllWithin (places_of fs ns) → AllWithin (places_of (f ∷ fs) (n ∷ ns))
place_within kind.Number8 n fs ns lt h = (lt, h)
place_within kind.Number16 n fs ns lt h = (lt, h)
place_within kind.Number32 n fs ns lt h = (lt, h)
place_within kind.Number64 n fs ns lt h = (lt, h)
place_within kind.Ssrc n fs ns lt h = (lt, h)

-- ---- the numbers of fields

pub numbers_are_within : (fs : List Field) (bytes : List ℕ) → AreBytes bytes → AreWithin fs (numbers_at fs bytes)
numbers_are_within [] bytes fits = tt
numbers_are_within (f ∷ fs) bytes fits = (one_within f bytes fits, numbers_are_within fs (drop (width_of f) bytes) (drop_bytes (width_of f) bytes fits))

pub all_within : (fs : List Field) (bytes : List ℕ) → AreBytes bytes → AllWithin (places_of fs (numbers_at fs bytes))
all_within [] bytes fits = tt
all_within (f ∷ fs) bytes fits =
    place_within f (big_number (width_of f) bytes) fs (numbers_at fs (drop (width_of f) bytes)) (one_within f bytes fits)
    (all_within fs (drop (width_of f) bytes) (drop_bytes (width_of f) bytes fits))

-- the numbers that were read, written again, and the bytes after them
pub numbers_laid : (fs : List Field) (bytes : List ℕ) → size_of fs ≤ length bytes → AreBytes bytes
    → flat_map place_bytes (places_of fs (numbers_at fs bytes)) ++ drop (size_of fs) bytes ≡ bytes
numbers_laid [] bytes capacity fits = refl
numbers_laid (f ∷ fs) bytes capacity fits =
    let w = width_of f in
    let others = numbers_laid fs (drop w bytes) (omega (arith, length-drop w bytes)) (drop_bytes w bytes fits) in
    append_assoc (place_bytes (place_of f (big_number w bytes))) (flat_map place_bytes (places_of fs (numbers_at fs (drop w bytes)))) (drop (w + size_of fs) bytes)
    ∙ ap (λ (x : List ℕ). place_bytes (place_of f (big_number w bytes)) ++ (flat_map place_bytes (places_of fs (numbers_at fs (drop w bytes))) ++ x)) (sym (drop-drop (size_of fs) w bytes))
    ∙ ap (λ (x : List ℕ). place_bytes (place_of f (big_number w bytes)) ++ x) others
    ∙ one_laid f bytes (omega arith) fits

-- the same if nothing follows
pub whole_laid : (fs : List Field) (bytes : List ℕ) → length bytes ≡ size_of fs → AreBytes bytes → bytes ≡ flat_map place_bytes (places_of fs (numbers_at fs bytes))
whole_laid fs bytes same fits =
    let laid = numbers_laid fs bytes (omega arith) fits in
    let none : drop (size_of fs) bytes ≡ [] = drop_all (size_of fs) bytes (omega arith) in
    sym (sym (append-nil (flat_map place_bytes (places_of fs (numbers_at fs bytes))))
    ∙ ap (λ (x : List ℕ). flat_map place_bytes (places_of fs (numbers_at fs bytes)) ++ x) (sym none) ∙ laid)

-- a number that was written is read, whatever follows it
pub numbers_back : (fs : List Field) (ns rest : List ℕ) → length ns ≡ length fs → AreWithin fs ns
    → numbers_at fs (flat_map place_bytes (places_of fs ns) ++ rest) ≡ ns
numbers_back [] [] rest same h = refl
numbers_back [] (n ∷ ns) rest same h = absurd (omega arith)
numbers_back (f ∷ fs) [] rest same h = absurd (omega arith)
numbers_back (f ∷ fs) (n ∷ ns) rest same h =
    let behind : List ℕ = flat_map place_bytes (places_of fs ns) ++ rest in
    let regrouped : flat_map place_bytes (places_of (f ∷ fs) (n ∷ ns)) ++ rest ≡ place_bytes (place_of f n) ++ behind =
    append_assoc (place_bytes (place_of f n)) (flat_map place_bytes (places_of fs ns)) rest in
    let first = one_back f n behind h.0 in
    let left = one_dropped f n behind in
    let others = numbers_back fs ns rest (omega arith) h.1 in
    ap (numbers_at (f ∷ fs)) regrouped
    ∙ ap (λ (x : ℕ). x ∷ numbers_at fs (drop (width_of f) (place_bytes (place_of f n) ++ behind))) first
    ∙ ap (λ (x : List ℕ). n ∷ numbers_at fs x) left
    ∙ ap (λ (x : List ℕ). n ∷ x) others

-- all numbers were read
pub all_read : (fs : List Field) (numbers rest all : List ℕ) (i : ℕ) → length fs ≤ i → length numbers ≡ length fs
    → take i numbers ++ numbers_at (drop i fs) rest ≡ all → numbers ≡ all
all_read fs numbers rest all i end whole reads =
    let front : take i numbers ≡ numbers = take_all i numbers (omega arith) in
    let none : drop i fs ≡ [] = drop_all i fs end in
    sym (ap (λ (x : List ℕ). x ++ numbers_at (drop i fs) rest) front ∙ ap (λ (x : List Field). numbers ++ numbers_at x rest) none ∙ append-nil numbers) ∙ reads
