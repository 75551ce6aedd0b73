-- Items that are written one after another in a loop: the written bits, followed by the encoding of the remaining items, are the result.
use Rattle.std.proofs.Common.{◌≡◌, ℕ, ◌+◌, ◌-◌, ◌<◌, ◌≤◌, Bool, List, ◌++◌, length, get_or, take, drop, Result, Ok, Err, sym, ap, ◌∙◌, append_assoc, arith}
use Rattle.std.specs.List.{flat_map}
use Rattle.std.proofs.lemmas.List.{length-append, length-take, at_drop_more, at_drop_all}
use Rattle.std.proofs.Math.Seq.{take-add}
use Rattle.dd_bits.specs.Bits.{value, bits_of}
use Rattle.dd_bits.specs.Sequences.{until_spelled}
use Rattle.dd_bits.specs.Writer.{capacity, written, Puts}
use Rattle.dd_bits.specs.declared.writer.BitWriter.{BitWriter}
use Rattle.dd_bits.specs.declared.writer.NoRoom.{NoRoom}
use Rattle.dd_bits.proofs.Values.{bits_of-value}

-- if a part doesn't fit, the whole doesn't fit
pub past_capacity : (old item more start whole : List Bool) → old ++ (item ++ more) ≡ start ++ whole → capacity < length old + length item → capacity < length start + length whole
past_capacity old item more start whole e full = omega (arith, ap length e, length-append old (item ++ more), length-append item more, length-append start whole)

pub past_capacity_at : {A : Type 0} (spell : A → List Bool) (xs : List A) (i : ℕ) (d : A) (old start whole : List Bool) → i < length xs → old ++ flat_map spell (drop i xs) ≡ start ++ whole → capacity < length old + length (spell (get_or xs i d)) → capacity < length start + length whole
past_capacity_at spell xs i d old start whole lt e full =
    let next = at_drop_more (flat_map spell) xs i d lt in
    past_capacity old (spell (get_or xs i d)) (flat_map spell (drop (i + 1) xs)) start whole (ap (λ (t : List Bool). old ++ t) (sym next) ∙ e) full

pub put_at : {A : Type 0} (spell : A → List Bool) (xs : List A) (i : ℕ) (d : A) (old new total : List Bool) → i < length xs → old ++ flat_map spell (drop i xs) ≡ total → new ≡ old ++ spell (get_or xs i d) → new ++ flat_map spell (drop (i + 1) xs) ≡ total
put_at spell xs i d old new total lt e here =
    let next = at_drop_more (flat_map spell) xs i d lt in
    rw here (append_assoc old (spell (get_or xs i d)) (flat_map spell (drop (i + 1) xs)) ∙ ap (λ (t : List Bool). old ++ t) (sym next) ∙ e)

-- items, each after the one before it, up to a mark
pub until_past_capacity : {A : Type 0} (item : A → A → List Bool) (mark : List Bool) (before : A) (xs : List A) (i : ℕ) (d : A) (old start whole : List Bool) → i < length xs → old ++ until_spelled item mark before (drop i xs) ≡ start ++ whole
    → capacity < length old + length (item before (get_or xs i d)) → capacity < length start + length whole
until_past_capacity item mark before xs i d old start whole lt e full =
    let next = at_drop_more (until_spelled item mark before) xs i d lt in
    past_capacity old (item before (get_or xs i d)) (until_spelled item mark (get_or xs i d) (drop (i + 1) xs)) start whole (ap (λ (t : List Bool). old ++ t) (sym next) ∙ e) full

pub until_put : {A : Type 0} (item : A → A → List Bool) (mark : List Bool) (before : A) (xs : List A) (i : ℕ) (d : A) (old new total : List Bool) → i < length xs → old ++ until_spelled item mark before (drop i xs) ≡ total
    → new ≡ old ++ item before (get_or xs i d) → new ++ until_spelled item mark (get_or xs i d) (drop (i + 1) xs) ≡ total
until_put item mark before xs i d old new total lt e here =
    let next = at_drop_more (until_spelled item mark before) xs i d lt in
    rw here (append_assoc old (item before (get_or xs i d)) (until_spelled item mark (get_or xs i d) (drop (i + 1) xs)) ∙ ap (λ (t : List Bool). old ++ t) (sym next) ∙ e)

pub until_end : {A : Type 0} (item : A → A → List Bool) (mark : List Bool) (before : A) (xs : List A) (i : ℕ) (old total : List Bool) → length xs ≤ i → old ++ until_spelled item mark before (drop i xs) ≡ total → old ++ mark ≡ total
until_end item mark before xs i old total le e = ap (λ (t : List Bool). old ++ t) (sym (at_drop_all (until_spelled item mark before) xs i le)) ∙ e

-- this number of bits from the start of others
pub front_step : (missing n v : ℕ) (xs ys old mid total : List Bool) → n ≤ missing → missing ≤ length xs → v ≡ value (take n xs) → ys ≡ drop n xs → mid ≡ old ++ bits_of n v → old ++ take missing xs ≡ total → mid ++ take (missing - n) ys ≡ total
front_step missing n v xs ys old mid total few enough number rest here e =
    let all : n + (missing - n) ≡ missing = omega arith in
    let len : length (take n xs) ≡ n = omega (arith, length-take n xs) in
    let same : bits_of n (value (take n xs)) ≡ take n xs = rw len at (bits_of-value (take n xs)) in
    let joined : take n xs ++ take (missing - n) (drop n xs) ≡ take missing xs = sym (take-add n (missing - n) xs) ∙ ap (λ (k : ℕ). take k xs) all in
    rw (here, number, same, rest) (append_assoc old (take n xs) (take (missing - n) (drop n xs)) ∙ ap (λ (t : List Bool). old ++ t) joined ∙ e)

-- ---- one write after another

pub puts_from : (r : Result (Unit {0}) NoRoom) (start mid new : BitWriter) (last whole : List Bool) → Puts r mid new last → written mid ++ last ≡ written start ++ whole → Puts r start new whole
puts_from (Ok x) start mid new last whole h e = h ∙ e
puts_from (Err x) start mid new last whole h e = omega (arith, h, ap length e, length-append (written mid) last, length-append (written start) whole)

pub puts_then : (r : Result (Unit {0}) NoRoom) (start mid new : BitWriter) (a b : List Bool) → written mid ≡ written start ++ a → Puts r mid new b → Puts r start new (a ++ b)
puts_then (Ok x) start mid new a b e h = h ∙ ap (λ (t : List Bool). t ++ b) e ∙ append_assoc (written start) a b
puts_then (Err x) start mid new a b e h = omega (arith, h, ap length e, length-append (written start) a, length-append a b)

pub puts_early : (start : BitWriter) (a b : List Bool) → capacity < length (written start) + length a → capacity < length (written start) + length (a ++ b)
puts_early start a b h = omega (arith, h, length-append a b)
