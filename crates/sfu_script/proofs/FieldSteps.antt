-- The fields of a text, one after another.
use Rattle.std.proofs.Common.{◌≡◌, ◌<◌, ℕ, zero, suc, ◌+◌, List, [], ◌∷◌, ◌++◌, length, take, drop, set, get_or, refl, sym, ap, ◌∙◌, arith, Option, Some, None, append_assoc}
use Rattle.std.proofs.Common.{add-one, Result, Ok, Err}
use Rattle.std.specs.Prelude.{IsErr, MatchResult}
use Rattle.std.proofs.lemmas.List.{take_more_set, take_all}
use Rattle.std.proofs.Math.ListN.{length-set}
use Rattle.sfu_script.specs.Fields.{field_of, fields_of}
use Rattle.sfu_script.specs.Reading.{◌>>=◌, cut, field}
use Rattle.sfu_script.specs.declared.fields.Field.{Field}
use Rattle.sfu_script.specs.declared.fields.Field.TheVariants.{Number8}

-- numbers put before those that are read
abbrev pub with_front : List ℕ → Option (List ℕ) → Option (List ℕ)
with_front front None = None
with_front front (Some numbers) = Some (front ++ numbers)

pub with_front-nil : (o : Option (List ℕ)) → with_front [] o ≡ o
with_front-nil None = refl
with_front-nil (Some numbers) = refl

pub onto_front : (front : List ℕ) (n : ℕ) (o : Option (List ℕ)) → with_front front (o >>= (λ ns. Some (n ∷ ns))) ≡ with_front (front ++ n ∷ []) o
onto_front front n None = refl
onto_front front n (Some ns) = ap (λ (x : List ℕ). Some x) (sym (append_assoc front (n ∷ []) ns))

-- a field with others after it
pub fields_more : (places : List Field) (i : ℕ) (d : Field) (text : List ℕ) → suc i < length places
    → fields_of (drop i places) text ≡ (field (field_of (get_or places i d)) text >>= (λ n. fields_of (drop (suc i) places) n.1 >>= (λ ns. Some (n.0 ∷ ns))))
fields_more [] i d text lt = absurd (omega arith)
fields_more (p ∷ []) zero d text lt = absurd (omega arith)
fields_more (p ∷ q ∷ ps) zero d text lt = refl
fields_more (p ∷ ps) (suc i) d text lt = fields_more ps i d text (omega arith)

-- the last field
pub fields_last : (places : List Field) (i : ℕ) (d : Field) (text : List ℕ) → suc i ≡ length places
    → fields_of (drop i places) text ≡ (field_of (get_or places i d) text >>= (λ n. Some (n ∷ [])))
fields_last [] i d text e = absurd (omega arith)
fields_last (p ∷ []) zero d text e = refl
fields_last (p ∷ q ∷ ps) zero d text e = absurd (omega arith)
fields_last (p ∷ ps) (suc i) d text e = fields_last ps i d text (omega arith)

-- ---- one more iteration of the loop; `all` is the meaning of the whole text

more : (places : List Field) (i : ℕ) (d : Field) (text : List ℕ) → i + 1 < length places
    → fields_of (drop i places) text ≡ (field (field_of (get_or places i d)) text >>= (λ n. fields_of (drop (i + 1) places) n.1 >>= (λ ns. Some (n.0 ∷ ns))))
more places i d text lt = rw add-one (fields_more places i d text (omega arith))

pub field_read : (places : List Field) (numbers rest word after : List ℕ) (i n : ℕ) (d : Field) (all : Option (List ℕ)) → i + 1 < length places → i < length numbers
    → cut rest ≡ Some (word, after) → field_of (get_or places i d) word ≡ Some n → with_front (take i numbers) (fields_of (drop i places) rest) ≡ all
    → with_front (take (i + 1) (set numbers i n)) (fields_of (drop (i + 1) places) after) ≡ all
field_read places numbers rest word after i n d all lt within parts reads so_far =
    let here : fields_of (drop i places) rest ≡ (fields_of (drop (i + 1) places) after >>= (λ ns. Some (n ∷ ns))) = more places i d rest lt ∙ rw (parts, reads) refl in
    ap (λ (front : List ℕ). with_front front (fields_of (drop (i + 1) places) after)) (take_more_set numbers i n within)
    ∙ sym (onto_front (take i numbers) n (fields_of (drop (i + 1) places) after))
    ∙ ap (with_front (take i numbers)) (sym here) ∙ so_far

pub field_cut_short : (places : List Field) (numbers rest : List ℕ) (i : ℕ) (all : Option (List ℕ)) → i + 1 < length places
    → cut rest ≡ None → with_front (take i numbers) (fields_of (drop i places) rest) ≡ all → all ≡ None
field_cut_short places numbers rest i all lt parts so_far =
    let here : fields_of (drop i places) rest ≡ None = more places i Number8 rest lt ∙ rw parts refl in
    sym so_far ∙ ap (with_front (take i numbers)) here

pub last_read : (places : List Field) (numbers rest : List ℕ) (i n : ℕ) (d : Field) (all : Option (List ℕ)) → i + 1 ≡ length places → length numbers ≡ length places
    → field_of (get_or places i d) rest ≡ Some n → with_front (take i numbers) (fields_of (drop i places) rest) ≡ all → all ≡ Some (set numbers i n)
last_read places numbers rest i n d all end whole reads so_far =
    let here : fields_of (drop i places) rest ≡ Some (n ∷ []) = fields_last places i d rest (omega arith) ∙ rw reads refl in
    let full : take (i + 1) (set numbers i n) ≡ set numbers i n = take_all (i + 1) (set numbers i n) (omega (arith, length-set {A = ℕ})) in
    sym so_far ∙ ap (with_front (take i numbers)) here ∙ ap (λ (x : List ℕ). Some x) (sym (take_more_set numbers i n (omega arith)) ∙ full)

-- the meaning of a reading that failed
pub on_err : {T E : Type 0} (r : Result T E) (P : T → Type 0) (Q : Type 0) → IsErr r → Q → MatchResult r P (λ _. Q)
on_err (Ok x) P Q h q = cc
on_err (Err e) P Q h q = q
