-- The numbers that are read from a text are written there, and the numbers written there are read.
use Rattle.std.proofs.Common.{◌≡◌, ◌<◌, ℕ, suc, ◌^◌, true, List, [], ◌∷◌, length, refl, sym, ap, ◌∙◌, arith, subst, Some}
use Rattle.script_texts.specs.Grammar.{Fills, Spells}
use Rattle.sfu_script.specs.Fields.{field_of, fields_of, place_of, places_of, bits_of, AreWithin}
use Rattle.sfu_script.specs.Reading.{◌>>=◌, field}
use Rattle.sfu_script.specs.declared.fields.Field.{Field}
use Rattle.sfu_script.specs.declared.fields.Field.TheVariants as kind
use Rattle.sfu_script.proofs.Options.{bind_some, some_same}
use Rattle.sfu_script.proofs.Filled.{number_found, number_again, ssrc_found, ssrc_again}
use Rattle.sfu_script.proofs.Spaces.{no_space}
use Rattle.sfu_script.proofs.Steps.{field_found, field_again}

-- ---- one field

pub one_found : (f : Field) (word : List ℕ) (n : ℕ) → field_of f word ≡ Some n → Fills (place_of f n) word
one_found kind.Number8 word n e = number_found 8 word n (omega arith) e
one_found kind.Number16 word n e = number_found 16 word n (omega arith) e
one_found kind.Number32 word n e = number_found 32 word n (omega arith) e
one_found kind.Number64 word n e = number_found 64 word n (omega arith) e
one_found kind.Ssrc word n e = ssrc_found word n e

pub one_again : (f : Field) (word : List ℕ) (n : ℕ) → Fills (place_of f n) word → (no_space word ≡ true) × (field_of f word ≡ Some n)
one_again kind.Number8 word n h = number_again 8 n word (omega arith) h
one_again kind.Number16 word n h = number_again 16 n word (omega arith) h
one_again kind.Number32 word n h = number_again 32 n word (omega arith) h
one_again kind.Number64 word n h = number_again 64 n word (omega arith) h
one_again kind.Ssrc word n h = ssrc_again word n h

one_within : (f : Field) (word : List ℕ) (n : ℕ) → Fills (place_of f n) word → n < 2 ^ bits_of f
one_within kind.Number8 word n h = h.0
one_within kind.Number16 word n h = h.0
one_within kind.Number32 word n h = h.0
one_within kind.Number64 word n h = h.0
one_within kind.Ssrc word n h = h.0

-- ---- a list of fields

fields_parts : (places : List Field) (text numbers : List ℕ) → fields_of places text ≡ Some numbers
    → (n : ℕ) × (ns : List ℕ) × (n ∷ ns ≡ numbers) × Spells (places_of places (n ∷ ns)) text × AreWithin places (n ∷ ns)
fields_parts [] text numbers e = cc
fields_parts (f ∷ []) text numbers e =
    let a = bind_some (field_of f text) (λ n. Some (n ∷ [])) numbers e in
    let h = one_found f text a.0 a.1 in
    (a.0, [], some_same (a.0 ∷ []) numbers a.2, h, (one_within f text a.0 h, tt))
fields_parts (f ∷ g ∷ fs) text numbers e =
    let a = bind_some (field (field_of f) text) (λ n. fields_of (g ∷ fs) n.1 >>= (λ ns. Some (n.0 ∷ ns))) numbers e in
    let b = bind_some (fields_of (g ∷ fs) (a.0).1) (λ ns. Some ((a.0).0 ∷ ns)) numbers a.2 in
    let others = fields_parts (g ∷ fs) (a.0).1 b.0 b.1 in
    let first = field_found (field_of f) text a.0 a.1 in
    let h = one_found f first.0 (a.0).0 first.1 in (
      (a.0).0,
      others.0 ∷ others.1,
      ap (λ (ns : List ℕ). (a.0).0 ∷ ns) others.2 ∙ some_same ((a.0).0 ∷ b.0) numbers b.2,
      (first.0, (a.0).1, h, others.3, first.2),
      (one_within f first.0 (a.0).0 h, others.4),
    )

pub fields_found : (places : List Field) (text numbers : List ℕ) → fields_of places text ≡ Some numbers → Spells (places_of places numbers) text
fields_found places text numbers e =
    let h = fields_parts places text numbers e in subst (λ (ns : List ℕ). Spells (places_of places ns) text) h.2 h.3

pub fields_within : (places : List Field) (text numbers : List ℕ) → fields_of places text ≡ Some numbers → AreWithin places numbers
fields_within places text numbers e =
    let h = fields_parts places text numbers e in subst (λ (ns : List ℕ). AreWithin places ns) h.2 h.4

pub fields_length : (places : List Field) (text numbers : List ℕ) → fields_of places text ≡ Some numbers → length numbers ≡ length places
fields_length [] text numbers e = cc
fields_length (f ∷ []) text numbers e =
    let a = bind_some (field_of f text) (λ n. Some (n ∷ [])) numbers e in ap length (sym (some_same (a.0 ∷ []) numbers a.2))
fields_length (f ∷ g ∷ fs) text numbers e =
    let a = bind_some (field (field_of f) text) (λ n. fields_of (g ∷ fs) n.1 >>= (λ ns. Some (n.0 ∷ ns))) numbers e in
    let b = bind_some (fields_of (g ∷ fs) (a.0).1) (λ ns. Some ((a.0).0 ∷ ns)) numbers a.2 in
    ap length (sym (some_same ((a.0).0 ∷ b.0) numbers b.2)) ∙ ap (λ (n : ℕ). suc n) (fields_length (g ∷ fs) (a.0).1 b.0 b.1)

pub fields_again : (places : List Field) (numbers text : List ℕ) → length numbers ≡ length places → 0 < length places
    → Spells (places_of places numbers) text → fields_of places text ≡ Some numbers
fields_again [] numbers text same long h = absurd (omega arith)
fields_again (f ∷ fs) [] text same long h = absurd (omega arith)
fields_again (f ∷ []) (n ∷ []) text same long h = let is = (one_again f text n h).1 in rw is refl
fields_again (f ∷ []) (n ∷ m ∷ ns) text same long h = absurd (omega arith)
fields_again (f ∷ g ∷ fs) (n ∷ []) text same long h = absurd (omega arith)
fields_again (f ∷ g ∷ fs) (n ∷ m ∷ ns) text same long h =
    let one = one_again f h.0 n h.2 in
    let first = field_again (field_of f) h.0 h.1 text n one.0 one.1 h.4 in
    let others = fields_again (g ∷ fs) (m ∷ ns) h.1 (omega arith) (omega arith) h.3 in
    rw (first, others) refl
