-- A path from one step on, and that the test is exact for it.
use Rattle.std.proofs.Common.{◌≡◌, ◌↔◌, ◌+◌, ◌-◌, ◌<◌, ◌≤◌, ℕ, suc, true, ◌&&◌, List, [], ◌∷◌, length, drop, get_or, drop-cons, ap, arith, refl, sym, ◌∙◌, true≢false}
use Rattle.std.specs.Prelude.{nat_lt}
use Rattle.std.proofs.lemmas.Bool.{and_parts, eqb-true, ltb-true, eq-eqb, lt-ltb}
use Rattle.std.specs.declared.option.Option.{Option}
use Rattle.std.specs.declared.option.Option.TheVariants.{None, Some}
use Rattle.sfu_base.specs.declared.frame.Verdict.{Verdict}
use Rattle.sfu_base.specs.declared.frame.Verdict.TheVariants.{Passed, NotOfTarget, Behind, Reference, Full, Link, Unopened, Hole}
use Rattle.sfu_base.specs.declared.frame.Step.{Step}
use Rattle.forwarding_model.specs.forwarding.Causes.{IsPath, IsPathFrom, IsRoot, followed}
use Rattle.cause_book.specs.Path.{is_number, is_path, is_path_from, is_root, leads_to}

pub path_after_step : (xs : List Step) (j : ℕ) (d : Step) → suc j < length xs
    → is_path (drop j xs) ≡ (leads_to (get_or xs j d) (get_or xs (suc j) d) && is_path (drop (suc j) xs))
path_after_step xs j d lt =
    ap is_path (drop-cons xs j d (omega arith) ∙ ap (λ l. get_or xs j d ∷ l) (drop-cons xs (suc j) d lt))
    ∙ ap (λ l. leads_to (get_or xs j d) (get_or xs (suc j) d) && is_path l) (sym (drop-cons xs (suc j) d lt))

root_fact : (v : Verdict) → (is_root v ≡ true) ↔ IsRoot v
root_fact Passed = ((λ e. true≢false (sym e)), λ h. absurd h)
root_fact (NotOfTarget target) = ((λ e. tt), λ h. refl)
root_fact (Behind fdiff start) = ((λ e. tt), λ h. refl)
root_fact (Reference number) = ((λ e. true≢false (sym e)), λ h. absurd h)
root_fact (Full queued needed) = ((λ e. tt), λ h. refl)
root_fact (Link at number) = ((λ e. true≢false (sym e)), λ h. absurd h)
root_fact (Unopened since) = ((λ e. tt), λ h. refl)
root_fact (Hole below above) = ((λ e. tt), λ h. refl)

number_fact : (o : Option ℕ) (n : ℕ) → (is_number o n ≡ true) ↔ (o ≡ Some n)
number_fact None n = ((λ e. absurd (true≢false (sym e))), λ e. absurd (grind arith))
number_fact (Some m) n = ((λ e. ap Some (eqb-true m n e)), λ e. eq-eqb m n (grind arith))

on_fact : (s : Step) (rest : List Step) → (is_path_from s rest ≡ true) ↔ IsPathFrom s rest
on_fact s [] = root_fact s.verdict
on_fact s (t ∷ rest) = (
  (λ e.
      let a = and_parts (leads_to s t) (is_path_from t rest) e in
      let b = and_parts (is_number (followed s.verdict) t.number) (nat_lt t.number s.number) a.0 in
      ((number_fact (followed s.verdict) t.number).0 b.0, ltb-true _ _ b.1, (on_fact t rest).0 a.1)),
  λ h. rw ((number_fact (followed s.verdict) t.number).1 h.0, lt-ltb t.number s.number h.1) ((on_fact t rest).1 h.2),
)

pub path_fact : (xs : List Step) → (is_path xs ≡ true) ↔ IsPath xs
path_fact [] = ((λ e. true≢false (sym e)), λ h. absurd h)
path_fact (s ∷ rest) = on_fact s rest

pub path_next : (xs : List Step) (i : ℕ) (d : Step) → 1 ≤ i → i < length xs → leads_to (get_or xs (i - 1) d) (get_or xs i d) ≡ true
    → is_path (drop (i - 1) xs) ≡ is_path (drop (i + 1 - 1) xs)
path_next xs i d least lt e =
    path_after_step xs (i - 1) d (omega arith)
    ∙ ap (λ k. leads_to (get_or xs (i - 1) d) (get_or xs k d) && is_path (drop k xs)) (let k : suc (i - 1) ≡ i = omega arith in k)
    ∙ ap (λ b. b && is_path (drop i xs)) e
    ∙ ap (λ k. is_path (drop k xs)) (let k : i ≡ i + 1 - 1 = omega arith in k)
