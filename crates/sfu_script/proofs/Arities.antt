-- Calls with one, two, three or six numbers, from the numbers that are read.
use Rattle.std.proofs.Common.{◌≡◌, ℕ, List, [], ◌∷◌, refl, subst, Some}
use Rattle.sfu_base.specs.declared.call.Call.{Call}
use Rattle.script_texts.specs.Grammar.{Spells}
use Rattle.sfu_script.specs.Fields.{fields_of, places_of}
use Rattle.sfu_script.specs.Reading.{◌>>=◌}
use Rattle.sfu_script.specs.ReadLines.{of_one, of_two, of_three, of_six}
use Rattle.sfu_script.specs.declared.fields.Field.{Field}
use Rattle.sfu_script.proofs.Options.{bind_some}
use Rattle.sfu_script.proofs.FieldLaws.{fields_found}

one_of : (call : ℕ → Call) (numbers : List ℕ) (said : Call) → of_one call numbers ≡ Some said → (a : ℕ) × (numbers ≡ a ∷ []) × (call a ≡ said)
one_of call [] said e = cc
one_of call (a ∷ []) said e = (a, refl, cc)
one_of call (a ∷ b ∷ more) said e = cc

two_of : {X : Type 0} (call : ℕ → ℕ → X) (numbers : List ℕ) (said : X) → of_two call numbers ≡ Some said
    → (a b : ℕ) × (numbers ≡ a ∷ b ∷ []) × (call a b ≡ said)
two_of call [] said e = cc
two_of call (a ∷ []) said e = cc
two_of call (a ∷ b ∷ []) said e = (a, b, refl, cc)
two_of call (a ∷ b ∷ c ∷ more) said e = cc

three_of : (call : ℕ → ℕ → ℕ → Call) (numbers : List ℕ) (said : Call) → of_three call numbers ≡ Some said
    → (a b c : ℕ) × (numbers ≡ a ∷ b ∷ c ∷ []) × (call a b c ≡ said)
three_of call [] said e = cc
three_of call (a ∷ []) said e = cc
three_of call (a ∷ b ∷ []) said e = cc
three_of call (a ∷ b ∷ c ∷ []) said e = (a, b, c, refl, cc)
three_of call (a ∷ b ∷ c ∷ d ∷ more) said e = cc

six_of : (call : ℕ → ℕ → ℕ → ℕ → ℕ → ℕ → Call) (numbers : List ℕ) (said : Call) → of_six call numbers ≡ Some said
    → (a b c d e f : ℕ) × (numbers ≡ a ∷ b ∷ c ∷ d ∷ e ∷ f ∷ []) × (call a b c d e f ≡ said)
six_of call [] said is = cc
six_of call (a ∷ []) said is = cc
six_of call (a ∷ b ∷ []) said is = cc
six_of call (a ∷ b ∷ c ∷ []) said is = cc
six_of call (a ∷ b ∷ c ∷ d ∷ []) said is = cc
six_of call (a ∷ b ∷ c ∷ d ∷ e ∷ []) said is = cc
six_of call (a ∷ b ∷ c ∷ d ∷ e ∷ f ∷ []) said is = (a, b, c, d, e, f, refl, cc)
six_of call (a ∷ b ∷ c ∷ d ∷ e ∷ f ∷ g ∷ more) said is = cc

-- ---- after the fields that were read

pub one_read : (places : List Field) (rest : List ℕ) (call : ℕ → Call) (said : Call) → (fields_of places rest >>= of_one call) ≡ Some said
    → (a : ℕ) × Spells (places_of places (a ∷ [])) rest × (call a ≡ said)
one_read places rest call said e =
    let r = bind_some (fields_of places rest) (of_one call) said e in
    let p = one_of call r.0 said r.2 in
    (p.0, subst (λ (ns : List ℕ). Spells (places_of places ns) rest) p.1 (fields_found places rest r.0 r.1), p.2)

pub two_read : {X : Type 0} (places : List Field) (rest : List ℕ) (call : ℕ → ℕ → X) (said : X) → (fields_of places rest >>= of_two call) ≡ Some said
    → (a b : ℕ) × Spells (places_of places (a ∷ b ∷ [])) rest × (call a b ≡ said)
two_read places rest call said e =
    let r = bind_some (fields_of places rest) (of_two call) said e in
    let p = two_of call r.0 said r.2 in
    (p.0, p.1, subst (λ (ns : List ℕ). Spells (places_of places ns) rest) p.2 (fields_found places rest r.0 r.1), p.3)

pub three_read : (places : List Field) (rest : List ℕ) (call : ℕ → ℕ → ℕ → Call) (said : Call) → (fields_of places rest >>= of_three call) ≡ Some said
    → (a b c : ℕ) × Spells (places_of places (a ∷ b ∷ c ∷ [])) rest × (call a b c ≡ said)
three_read places rest call said e =
    let r = bind_some (fields_of places rest) (of_three call) said e in
    let p = three_of call r.0 said r.2 in
    (p.0, p.1, p.2, subst (λ (ns : List ℕ). Spells (places_of places ns) rest) p.3 (fields_found places rest r.0 r.1), p.4)

pub six_read : (places : List Field) (rest : List ℕ) (call : ℕ → ℕ → ℕ → ℕ → ℕ → ℕ → Call) (said : Call) → (fields_of places rest >>= of_six call) ≡ Some said
    → (a b c d e f : ℕ) × Spells (places_of places (a ∷ b ∷ c ∷ d ∷ e ∷ f ∷ [])) rest × (call a b c d e f ≡ said)
six_read places rest call said is =
    let r = bind_some (fields_of places rest) (of_six call) said is in
    let p = six_of call r.0 said r.2 in
    (p.0, p.1, p.2, p.3, p.4, p.5, subst (λ (ns : List ℕ). Spells (places_of places ns) rest) p.6 (fields_found places rest r.0 r.1), p.7)
