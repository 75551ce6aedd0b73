-- Fields that are read together: those of the first three bytes, and the flags.
use Rattle.std.proofs.Common.{◌≡◌, ℕ, ◌+◌, ◌-◌, ◌*◌, ◌/◌, ◌%◌, ◌≤◌, ◌<◌, ◌^◌, Bool, eqb, List, [], ◌∷◌, ◌++◌, length, take, drop, slice_index_or, Result, Ok, Err, refl, sym, ap, ◌∙◌, append_assoc, arith}
use Rattle.std.proofs.lemmas.List.{take_rest}
use Rattle.dd_bits.specs.Bits.{bits_of, bits_of_bytes}
use Rattle.dd_bits.specs.Numbers.{fixed}
use Rattle.dd_bits.proofs.Values.{bits_of-mod, bits_of-split, bits_of-join}
use Rattle.dd_bits.proofs.SequenceLaws.{bind_is}
use Rattle.dd_descriptor.specs.declared.fault.DdFault.{DdFault}
use Rattle.dd_descriptor.specs.declared.fault.DdFault.TheVariants as faults
use Rattle.dd_descriptor.specs.declared.parts.Head.{Head}
use Rattle.dd_descriptor.specs.declared.parts.Flags.{Flags}
use Rattle.dd_descriptor.specs.Reading.{number_at, flag_at, head_at, flags_at}
use Rattle.dd_descriptor.specs.Spelling.{flag_bits}
use Rattle.dd_descriptor.proofs.Again.{number_again, flag_again}
use Rattle.dd_descriptor.proofs.FirstBytes.{number_reads, never}
use Rattle.dd_descriptor.proofs.LaidFound.{number_laid, one_bit}

-- the lowest digit of a number, as a flag
flag_digit : (v : ℕ) → bits_of 1 v ≡ flag_bits (eqb (v % 2) 1)
flag_digit v = sym (bits_of-mod 1 v) ∙ one_bit (v % 2) (omega arith)

-- a digit and those below it
next_flag : (n v : ℕ) → bits_of (1 + n) v ≡ flag_bits (eqb (v / 2 ^ n % 2) 1) ++ bits_of n v
next_flag n v = bits_of-split 1 n v ∙ ap (λ (front : List Bool). front ++ bits_of n v) (flag_digit (v / 2 ^ n))

-- ---- the first three bytes

abbrev pub head_in : ℕ → ℕ → ℕ → Head
head_in a b c = record { start = eqb (a / 128) 1; end = eqb (a / 64 % 2) 1; template = a % 64; number = b * 256 + c }

head_parts : (start last : Bool) (template number : ℕ) (rest : List Bool) → template < 2 ^ 6 → number < 2 ^ 16
    → head_at (flag_bits start ++ (flag_bits last ++ (bits_of 6 template ++ (bits_of 16 number ++ rest)))) ≡ Ok (record { start = start; end = last; template = template; number = number }, rest)
unfolding head_at
head_parts start last template number rest small low =
    bind_is (flag_at _) _ _ _ (flag_again start _) (
    bind_is (flag_at _) _ _ _ (flag_again last _) (
    bind_is (number_at 6 _) _ _ _ (number_again 6 template _ small) (
    bind_is (number_at 16 _) _ _ _ (number_again 16 number _ low) refl)))

first_byte : (a : ℕ) → a < 256 → bits_of 8 a ≡ flag_bits (eqb (a / 128) 1) ++ (flag_bits (eqb (a / 64 % 2) 1) ++ bits_of 6 (a % 64))
first_byte a small =
    let top : a / 2 ^ 7 % 2 ≡ a / 128 = omega arith in
    next_flag 7 a
    ∙ ap (λ (d : ℕ). flag_bits (eqb d 1) ++ bits_of 7 a) top
    ∙ ap (λ (behind : List Bool). flag_bits (eqb (a / 128) 1) ++ behind) (next_flag 6 a ∙ ap (λ (behind : List Bool). flag_bits (eqb (a / 64 % 2) 1) ++ behind) (sym (bits_of-mod 6 a)))

pub head_of_bytes : (a b c : ℕ) (rest : List ℕ) → a < 256 → b < 256 → c < 256 → head_at (bits_of_bytes (a ∷ b ∷ c ∷ rest)) ≡ Ok (head_in a b c, bits_of_bytes rest)
unfolding bits_of_bytes
head_of_bytes a b c rest first second third =
    let number = bits_of-join 8 8 b c third in
    let regrouped : bits_of 8 a ++ (bits_of 8 b ++ (bits_of 8 c ++ bits_of_bytes rest))
    ≡ flag_bits (eqb (a / 128) 1) ++ (flag_bits (eqb (a / 64 % 2) 1) ++ (bits_of 6 (a % 64) ++ (bits_of 16 (b * 256 + c) ++ bits_of_bytes rest))) =
    rw (first_byte a first, number) (simp append_assoc) in
    rw regrouped (head_parts (eqb (a / 128) 1) (eqb (a / 64 % 2) 1) (a % 64) (b * 256 + c) (bits_of_bytes rest) (omega arith) (omega arith))

-- the same of bytes that are at least three
pub head_of_front : (bytes : List ℕ) → 3 ≤ length bytes → slice_index_or bytes 0 0 < 256 → slice_index_or bytes 1 0 < 256 → slice_index_or bytes 2 0 < 256
    → head_at (bits_of_bytes bytes) ≡ Ok (head_in (slice_index_or bytes 0 0) (slice_index_or bytes 1 0) (slice_index_or bytes 2 0), bits_of_bytes (take (length bytes - 3) (drop 3 bytes)))
head_of_front [] long first second third = absurd (omega arith)
head_of_front (a ∷ []) long first second third = absurd (omega arith)
head_of_front (a ∷ b ∷ []) long first second third = absurd (omega arith)
head_of_front (a ∷ b ∷ c ∷ rest) long first second third =
    head_of_bytes a b c rest first second third ∙ ap (found (head_in a b c)) (sym (take_rest (a ∷ b ∷ c ∷ rest) 3))
  where
    found : Head → List ℕ → Result (Head × List Bool) DdFault
    found h behind = Ok (h, bits_of_bytes behind)

pub head_cut : (bytes : List ℕ) → length bytes < 3 → head_at (bits_of_bytes bytes) ≡ Err faults.Short
unfolding head_at flag_at fixed bits_of_bytes bits_of
head_cut [] few = refl
head_cut (a ∷ []) few = refl
head_cut (a ∷ b ∷ []) few = refl
head_cut (a ∷ b ∷ c ∷ rest) few = absurd (omega arith)

-- ---- the flags

abbrev pub flags_from : ℕ → Flags
flags_from v = record { structure = eqb (v / 16) 1; mask = eqb (v / 8 % 2) 1; dtis = eqb (v / 4 % 2) 1; fdiffs = eqb (v / 2 % 2) 1; chains = eqb (v % 2) 1 }

flag_row : (v : ℕ) → v < 32 → bits_of 5 v ≡ flag_bits (eqb (v / 16) 1) ++ (flag_bits (eqb (v / 8 % 2) 1) ++ (flag_bits (eqb (v / 4 % 2) 1) ++ (flag_bits (eqb (v / 2 % 2) 1) ++ flag_bits (eqb (v % 2) 1))))
flag_row v small =
    let top : v / 2 ^ 4 % 2 ≡ v / 16 = omega arith in
    next_flag 4 v
    ∙ ap (λ (d : ℕ). flag_bits (eqb d 1) ++ bits_of 4 v) top
    ∙ ap (λ (behind : List Bool). flag_bits (eqb (v / 16) 1) ++ behind) (
    next_flag 3 v ∙ ap (λ (behind : List Bool). flag_bits (eqb (v / 8 % 2) 1) ++ behind) (
    next_flag 2 v ∙ ap (λ (behind : List Bool). flag_bits (eqb (v / 4 % 2) 1) ++ behind) (
    next_flag 1 v ∙ ap (λ (behind : List Bool). flag_bits (eqb (v / 2 % 2) 1) ++ behind) (flag_digit v))))

flags_parts : (a b c d e : Bool) (rest : List Bool)
    → flags_at (flag_bits a ++ (flag_bits b ++ (flag_bits c ++ (flag_bits d ++ (flag_bits e ++ rest))))) ≡ Ok (record { structure = a; mask = b; dtis = c; fdiffs = d; chains = e }, rest)
unfolding flags_at
flags_parts a b c d e rest =
    bind_is (flag_at _) _ _ _ (flag_again a _) (
    bind_is (flag_at _) _ _ _ (flag_again b _) (
    bind_is (flag_at _) _ _ _ (flag_again c _) (
    bind_is (flag_at _) _ _ _ (flag_again d _) (
    bind_is (flag_at _) _ _ _ (flag_again e _) refl))))

pub flags_read : (bits : List Bool) (v : ℕ) (rest : List Bool) → number_at 5 bits ≡ Ok (v, rest) → flags_at bits ≡ Ok (flags_from v, rest)
flags_read bits v rest read =
    let laid = number_laid 5 bits (v, rest) read in
    let regrouped : bits ≡ flag_bits (eqb (v / 16) 1) ++ (flag_bits (eqb (v / 8 % 2) 1) ++ (flag_bits (eqb (v / 4 % 2) 1) ++ (flag_bits (eqb (v / 2 % 2) 1) ++ (flag_bits (eqb (v % 2) 1) ++ rest)))) =
    laid.1 ∙ rw (flag_row v laid.0) (simp append_assoc) in
    rw regrouped (flags_parts (eqb (v / 16) 1) (eqb (v / 8 % 2) 1) (eqb (v / 4 % 2) 1) (eqb (v / 2 % 2) 1) (eqb (v % 2) 1) rest)

abbrev no_number : DdFault → Result (ℕ × List Bool) DdFault
no_number e = Err e

abbrev no_flags : DdFault → Result (Flags × List Bool) DdFault
no_flags e = Err e

same_fault : (d e : DdFault) → no_number d ≡ no_number e → no_flags d ≡ no_flags e
same_fault d e is = let same : d ≡ e = cc in ap no_flags same

pub flags_fault : (bits : List Bool) (e : DdFault) → number_at 5 bits ≡ Err e → flags_at bits ≡ Err e
unfolding flags_at flag_at fixed
flags_fault [] e is = same_fault faults.Short e is
flags_fault (a ∷ []) e is = same_fault faults.Short e is
flags_fault (a ∷ b ∷ []) e is = same_fault faults.Short e is
flags_fault (a ∷ b ∷ c ∷ []) e is = same_fault faults.Short e is
flags_fault (a ∷ b ∷ c ∷ d ∷ []) e is = same_fault faults.Short e is
flags_fault (a ∷ b ∷ c ∷ d ∷ f ∷ rest) e is = let n = number_reads 5 (a ∷ b ∷ c ∷ d ∷ f ∷ rest) (omega arith) in never (number_at 5 (a ∷ b ∷ c ∷ d ∷ f ∷ rest)) n.found e n.is is
