-- Bits in whole bytes are padded bits, and no other bytes are.
use Rattle.std.proofs.Common.{◌≡◌, ℕ, zero, suc, ◌-◌, ◌*◌, ◌%◌, ◌^◌, Bool, false, List, [], ◌∷◌, ◌++◌, length, take, drop, replicate, refl, sym, ap, ap₂, subst, ◌∙◌, arith}
use Rattle.std.proofs.lemmas.List.{length-append, length-replicate, length-take-le, length-drop, take-append-drop, take_at, drop_at}
use Rattle.sfu_base.specs.Bytes.{AreBytes}
use Rattle.dd_bits.specs.Bits.{value, bits_of, bits_of_bytes}
use Rattle.dd_bits.specs.Writer.{IsPadded}
use Rattle.dd_bits.proofs.Values.{bits_of-value, length-bits_of, value-bits_of}
use Rattle.dd_descriptor.proofs.Padding.{length-padded}
use Rattle.packet_format.specs.WholeBytes.{bytes_for, bytes_from, whole_bytes}

eight_back : (bits : List Bool) → length bits ≡ 8 → bits_of 8 (value bits) ≡ bits
eight_back bits e = subst (λ (n : ℕ). bits_of n (value bits) ≡ bits) e (bits_of-value bits)

bits_back : (n : ℕ) (bits : List Bool) → length bits ≡ 8 * n → bits_of_bytes (bytes_from n bits) ≡ bits
unfolding bytes_from bits_of_bytes
bits_back zero [] e = refl
bits_back zero (b ∷ bits) e = absurd (omega arith)
bits_back (suc n) bits e =
    ap₂ (λ (x y : List Bool). x ++ y) (eight_back (take 8 bits) (length-take-le 8 bits (omega arith)))
    (bits_back n (drop 8 bits) (omega (arith, length-drop 8 bits)))
    ∙ take-append-drop 8 bits

bytes_back : (bytes : List ℕ) → AreBytes bytes → bytes_from (length bytes) (bits_of_bytes bytes) ≡ bytes
unfolding bytes_from bits_of_bytes
bytes_back [] are = refl
bytes_back (b ∷ bs) are =
    let small : b % 2 ^ 8 ≡ b = omega (arith, are 0) in
    let front : value (take 8 (bits_of 8 b ++ bits_of_bytes bs)) ≡ b = ap value (take_at (bits_of 8 b) (bits_of_bytes bs) 8 (length-bits_of 8 b)) ∙ value-bits_of 8 b ∙ small in
    let behind = ap (bytes_from (length bs)) (drop_at (bits_of 8 b) (bits_of_bytes bs) 8 (length-bits_of 8 b)) ∙ bytes_back bs (λ i. are (suc i)) in
    ap₂ (λ (x : ℕ) (xs : List ℕ). x ∷ xs) front behind

pub padded : (bits : List Bool) → IsPadded bits (whole_bytes bits)
padded bits =
    let n = bytes_for (length bits) in
    let zeros = replicate (8 * n - length bits) false in
    record {
      zeros = 8 * n - length bits;
      few = omega arith;
      holds = bits_back n (bits ++ zeros) (omega (arith, length-append bits zeros, length-replicate (8 * n - length bits) false));
    }

pub padded_once : (bits : List Bool) (bytes : List ℕ) → IsPadded bits bytes → AreBytes bytes → bytes ≡ whole_bytes bits
padded_once bits bytes p are =
    let len = length-padded bits bytes p in
    let count : length bytes ≡ bytes_for (length bits) = omega (arith, len, p.few) in
    let zeros : p.zeros ≡ 8 * bytes_for (length bits) - length bits = omega (arith, len, count) in
    sym (bytes_back bytes are) ∙ ap (bytes_from (length bytes)) p.holds
    ∙ ap₂ (λ (n z : ℕ). bytes_from n (bits ++ replicate z false)) count zeros

pub length-whole : (bits : List Bool) → length (whole_bytes bits) ≡ bytes_for (length bits)
length-whole bits = let p = padded bits in omega (arith, length-padded bits (whole_bytes bits) p, p.few)
