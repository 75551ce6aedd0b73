-- The aggregation header.
use Rattle.std.proofs.Common.{◌≡◌, ◌<◌, ◌==◌, ℕ, zero, suc, ◌/◌, ◌%◌, Bool, true, false, List, [], ◌∷◌, length, refl, ap, ◌∙◌, arith}
use Rattle.av1_payload.specs.declared.fault.PayloadFault.TheVariants.{NoElement}
use Rattle.sfu_base.specs.Bytes.{bit}
use Rattle.av1_payload.specs.Payloads.{Flags, header_byte}
use Rattle.av1_payload.specs.Reading.{only_fault, sized_from, counted_from, count_in, found_behind, found_of, flags_of}

-- a bit that is read and written back
bit_again : (n : ℕ) → n < 2 → bit (n == 1) ≡ n
bit_again zero below = refl
bit_again (suc zero) below = refl
bit_again (suc (suc n)) below = absurd (omega arith)

bit_below : (b : Bool) → bit b < 2
bit_below true = omega arith
bit_below false = omega arith

-- a bit that is written and read back
bit_read : (b : Bool) (n : ℕ) → n ≡ bit b → (n == 1) ≡ b
bit_read true n at = ap (λ (x : ℕ). x == 1) at
bit_read false n at = ap (λ (x : ℕ). x == 1) at

-- a header is composed of the fields that are read from it
pub header_again : (header : ℕ) (rest : List ℕ) → header < 256 → header ≡ header_byte (flags_of (header ∷ rest)) (count_in header) (header % 8)
header_again header rest small =
    let z = bit_again (header / 128) (omega arith) in
    let y = bit_again (header / 64 % 2) (omega arith) in
    let n = bit_again (header / 8 % 2) (omega arith) in
    omega (arith, z, y, n)

-- the fields of which a header is composed are read back
pub count_read : (flags : Flags) (count reserved : ℕ) → count < 4 → reserved < 8 → count_in (header_byte flags count reserved) ≡ count
count_read flags count reserved few ignored =
    omega (arith, bit_below flags.continues, bit_below flags.carries, bit_below flags.new_sequence)

flags_of_bits : (flags : Flags) (header : ℕ) (rest : List ℕ) → header / 128 ≡ bit flags.continues → header / 64 % 2 ≡ bit flags.carries
    → header / 8 % 2 ≡ bit flags.new_sequence → flags_of (header ∷ rest) ≡ flags
flags_of_bits flags header rest z y n =
    ap (λ (x : Bool). record { continues = x; carries = header / 64 % 2 == 1; new_sequence = header / 8 % 2 == 1 }) (bit_read flags.continues (header / 128) z)
    ∙ ap (λ (x : Bool). record { continues = flags.continues; carries = x; new_sequence = header / 8 % 2 == 1 }) (bit_read flags.carries (header / 64 % 2) y)
    ∙ ap (λ (x : Bool). record { continues = flags.continues; carries = flags.carries; new_sequence = x }) (bit_read flags.new_sequence (header / 8 % 2) n)

pub flags_read : (flags : Flags) (count reserved : ℕ) (rest : List ℕ) → count < 4 → reserved < 8
    → flags_of (header_byte flags count reserved ∷ rest) ≡ flags
flags_read flags count reserved rest few ignored =
    let z = bit_below flags.continues in
    let y = bit_below flags.carries in
    let n = bit_below flags.new_sequence in
    flags_of_bits flags (header_byte flags count reserved) rest (omega (arith, z, y, n)) (omega (arith, z, y, n)) (omega (arith, z, y, n))

-- ---- what is found after it

pub found_each : (header : ℕ) (rest : List ℕ) → count_in header ≡ 0 → 0 < length rest → found_of (header ∷ rest) ≡ sized_from 0 rest
found_each header [] none some = absurd (omega arith)
found_each header (byte ∷ rest) none some = ap (λ (n : ℕ). found_behind n (byte ∷ rest)) none

pub found_no_element : (header : ℕ) → count_in header ≡ 0 → found_of (header ∷ []) ≡ only_fault NoElement
found_no_element header none = ap (λ (n : ℕ). found_behind n []) none

pub found_counted : (header n : ℕ) (rest : List ℕ) → count_in header ≡ suc n → found_of (header ∷ rest) ≡ counted_from n rest
found_counted header n rest count = ap (λ (n : ℕ). found_behind n rest) count
