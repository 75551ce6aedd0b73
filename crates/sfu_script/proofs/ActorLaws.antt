-- A line of an actor is read as the grammar says, and no other line is.
use Rattle.std.proofs.Common.{◌≡◌, ◌≤◌, ℕ, ◌+◌, ◌-◌, true, false, ◌&&◌, eqb, eqb-true, leb, List, [], ◌∷◌, ◌++◌, refl, sym, ap, ◌∙◌, arith, subst, Some}
use Rattle.std.specs.Prelude.{codes, decimal}
use Rattle.std.proofs.lemmas.Bool.{and_parts}
use Rattle.std.proofs.lemmas.Bool.Decides.{nat_tests}
use Rattle.std.proofs.lemmas.Fmt.{decimal_digit}
use Rattle.sfu_base.specs.declared.call.Call.{Call}
use Rattle.sfu_script.specs.ActorLines.{IsActorLine, actor_of, actor_call_of}
use Rattle.sfu_script.specs.Reading.{◌>>=◌, cut}
use Rattle.sfu_script.specs.ReadLines.{call_of}
use Rattle.sfu_script.proofs.Filled.{le_of, le_test}
use Rattle.sfu_script.proofs.LineLaws.{call_found, call_again}
use Rattle.sfu_script.proofs.Options.{bind_some, chosen, some_same}
use Rattle.sfu_script.proofs.Spaces.{cut_found, cut_again}

digit_found : (mark digit actor : ℕ) → (eqb mark 64 && (leb 49 digit && leb digit 56)) ≡ true → digit - 48 ≡ actor
    → (1 ≤ actor) × (actor ≤ 8) × (mark ∷ digit ∷ [] ≡ codes "@" ++ decimal actor)
digit_found mark digit actor test is =
    let parts = and_parts (eqb mark 64) (leb 49 digit && leb digit 56) test in
    let range = and_parts (leb 49 digit) (leb digit 56) parts.1 in
    let low : 49 ≤ digit = le_of 49 digit range.0 in
    let high : digit ≤ 56 = le_of digit 56 range.1 in
    let at : mark ≡ 64 = eqb-true mark 64 parts.0 in
    let small : actor ≤ 8 = omega arith in
    let one : 1 ≤ actor = omega arith in
    let shown : digit ≡ 48 + actor = omega arith in
    (one, small, ap (λ (m : ℕ). m ∷ digit ∷ []) at ∙ ap (λ (d : ℕ). 64 ∷ d ∷ []) shown ∙ ap (λ (ds : List ℕ). 64 ∷ ds) (sym (decimal_digit actor (omega arith))))

actor_found : (word : List ℕ) (actor : ℕ) → actor_of word ≡ Some actor → (1 ≤ actor) × (actor ≤ 8) × (word ≡ codes "@" ++ decimal actor)
actor_found [] actor e = cc
actor_found (mark ∷ []) actor e = cc
actor_found (mark ∷ digit ∷ []) actor e =
    let c = chosen (eqb mark 64 && (leb 49 digit && leb digit 56)) (Some (digit - 48)) actor e in
    digit_found mark digit actor c.0 (some_same (digit - 48) actor c.1)
actor_found (mark ∷ digit ∷ more ∷ others) actor e = cc

pub actor_call_found : (line : List ℕ) (actor : ℕ) (call : Call) → actor_call_of line ≡ Some (actor, call) → IsActorLine actor call line
actor_call_found line actor call e =
    let a = bind_some (cut line) (λ parts. actor_of parts.0 >>= (λ k. call_of parts.1 >>= (λ c. Some (k, c)))) (actor, call) e in
    let b = bind_some (actor_of (a.0).0) (λ k. call_of (a.0).1 >>= (λ c. Some (k, c))) (actor, call) a.2 in
    let d = bind_some (call_of (a.0).1) (λ c. Some (b.0, c)) (actor, call) b.2 in
    let same : (b.0, d.0) ≡ (actor, call) = some_same (b.0, d.0) (actor, call) d.2 in
    let who = ap (λ (p : ℕ × Call). p.0) same in
    let what = ap (λ (p : ℕ × Call). p.1) same in
    let h = actor_found (a.0).0 actor (subst (λ (k : ℕ). actor_of (a.0).0 ≡ Some k) who b.1) in record {
      first = h.0;
      last = h.1;
      rest = (a.0).1;
      said = call_found (a.0).1 call (subst (λ (c : Call). call_of (a.0).1 ≡ Some c) what d.1);
      is = cut_found line a.0 a.1 ∙ ap (λ (w : List ℕ). w ++ 32 ∷ (a.0).1) h.2;
    }

not_space : (b : ℕ) → 48 ≤ b → eqb b 32 ≡ false
not_space b h = grind (arith, nat_tests)

pub actor_call_again : (line : List ℕ) (actor : ℕ) (call : Call) → IsActorLine actor call line → actor_call_of line ≡ Some (actor, call)
actor_call_again line actor call h =
    let low : 1 ≤ actor = h.first in
    let high : actor ≤ 8 = h.last in
    let digit : decimal actor ≡ (48 + actor) ∷ [] = decimal_digit actor (omega arith) in
    let is : line ≡ (64 ∷ (48 + actor) ∷ []) ++ 32 ∷ h.rest = h.is ∙ ap (λ (ds : List ℕ). 64 ∷ (ds ++ 32 ∷ h.rest)) digit in
    let apart : eqb (48 + actor) 32 ≡ false = not_space (48 + actor) (omega arith) in
    let parts : cut line ≡ Some (64 ∷ (48 + actor) ∷ [], h.rest) = ap cut is ∙ cut_again (64 ∷ (48 + actor) ∷ []) h.rest (rw apart refl) in
    let least : leb 49 (48 + actor) ≡ true = le_test 49 (48 + actor) (omega arith) in
    let most : leb (48 + actor) 56 ≡ true = le_test (48 + actor) 56 (omega arith) in
    let back : (48 + actor) - 48 ≡ actor = omega arith in
    let who : actor_of (64 ∷ (48 + actor) ∷ []) ≡ Some actor = rw (least, most, back) refl in
    let said = call_again call h.rest h.said in
    rw (parts, who, said) refl
