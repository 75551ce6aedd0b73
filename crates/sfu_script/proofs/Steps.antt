-- One word of a line, read and spelled.
use Rattle.std.proofs.Common.{◌≡◌, ◌≤◌, ℕ, ◌^◌, true, List, ◌∷◌, ◌++◌, refl, ap, ◌∙◌, Option, Some}
use Rattle.script_texts.specs.Grammar.{Place, Word, Number, Ssrc, Spells}
use Rattle.sfu_script.specs.Reading.{◌>>=◌, cut, field, number_of, ssrc_of}
use Rattle.sfu_script.proofs.Options.{bind_some}
use Rattle.sfu_script.proofs.Spaces.{no_space, cut_found, cut_again}
use Rattle.sfu_script.proofs.Filled.{number_found, number_again, ssrc_found, ssrc_again}

pair_is : {X : Type 0} (x : X) (rest : List ℕ) (p : X × List ℕ) → Some (x, rest) ≡ Some p → (x, rest) ≡ p
pair_is x rest p e = cc

pub field_found : {X : Type 0} (read : List ℕ → Option X) (text : List ℕ) (p : X × List ℕ) → field read text ≡ Some p
    → (word : List ℕ) × (read word ≡ Some p.0) × (text ≡ word ++ 32 ∷ p.1)
field_found {X = X} read text p e =
    let a = bind_some (cut text) (λ parts. read parts.0 >>= (λ value. Some (value, parts.1))) p e in
    let b = bind_some (read (a.0).0) (λ value. Some (value, (a.0).1)) p a.2 in
    let q = pair_is b.0 (a.0).1 p b.2 in
    ((a.0).0, b.1 ∙ ap (λ (r : X × List ℕ). Some r.0) q, cut_found text a.0 a.1 ∙ ap (λ (r : X × List ℕ). (a.0).0 ++ 32 ∷ r.1) q)

pub field_again : {X : Type 0} (read : List ℕ → Option X) (word rest text : List ℕ) (x : X) → no_space word ≡ true → read word ≡ Some x
    → text ≡ word ++ 32 ∷ rest → field read text ≡ Some (x, rest)
field_again read word rest text x h e is = ap (field read) is ∙ rw (cut_again word rest h, e) refl

-- ---- a word that is read is written like this

pub number_read : (bits : ℕ) → 2 ^ bits ≤ 2 ^ 64 → (text : List ℕ) (p : ℕ × List ℕ) (next : Place) (places : List Place)
    → field (number_of bits) text ≡ Some p → Spells (next ∷ places) p.1 → Spells (Number bits p.0 ∷ next ∷ places) text
number_read bits small text p next places e h =
    let f = field_found (number_of bits) text p e in
    (f.0, p.1, number_found bits f.0 p.0 small f.1, h, f.2)

pub ssrc_read : (text : List ℕ) (p : ℕ × List ℕ) (next : Place) (places : List Place)
    → field ssrc_of text ≡ Some p → Spells (next ∷ places) p.1 → Spells (Ssrc p.0 ∷ next ∷ places) text
ssrc_read text p next places e h =
    let f = field_found ssrc_of text p e in
    (f.0, p.1, ssrc_found f.0 p.0 f.1, h, f.2)

pub word_read : (wanted text : List ℕ) (p : List ℕ × List ℕ) (next : Place) (places : List Place)
    → cut text ≡ Some p → p.0 ≡ wanted → Spells (next ∷ places) p.1 → Spells (Word wanted ∷ next ∷ places) text
word_read wanted text p next places e is h = (p.0, p.1, is, h, cut_found text p e)

-- ---- a word that is written like this is read

pub number_spelled : (bits n : ℕ) → 2 ^ bits ≤ 2 ^ 64 → (text : List ℕ) (next : Place) (places : List Place)
    → Spells (Number bits n ∷ next ∷ places) text → (rest : List ℕ) × (field (number_of bits) text ≡ Some (n, rest)) × Spells (next ∷ places) rest
number_spelled bits n small text next places h =
    let again = number_again bits n h.0 small h.2 in
    (h.1, field_again (number_of bits) h.0 h.1 text n again.0 again.1 h.4, h.3)

pub ssrc_spelled : (n : ℕ) (text : List ℕ) (next : Place) (places : List Place)
    → Spells (Ssrc n ∷ next ∷ places) text → (rest : List ℕ) × (field ssrc_of text ≡ Some (n, rest)) × Spells (next ∷ places) rest
ssrc_spelled n text next places h =
    let again = ssrc_again h.0 n h.2 in
    (h.1, field_again ssrc_of h.0 h.1 text n again.0 again.1 h.4, h.3)

pub word_spelled : (wanted text : List ℕ) (next : Place) (places : List Place) → no_space wanted ≡ true
    → Spells (Word wanted ∷ next ∷ places) text → (rest : List ℕ) × (cut text ≡ Some (wanted, rest)) × Spells (next ∷ places) rest
word_spelled wanted text next places free h =
    (h.1, ap cut (h.4 ∙ ap (λ (word : List ℕ). word ++ 32 ∷ h.1) h.2) ∙ cut_again wanted h.1 free, h.3)
