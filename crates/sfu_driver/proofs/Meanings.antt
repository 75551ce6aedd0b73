-- Another rule with the same meaning, and texts that precede all others.
use Rattle.std.proofs.Common.{◌≡◌, ◌⊎◌, inl, inr, ℕ, List, [], ◌++◌, append-nil, refl, sym, ap, ◌∙◌, subst, Option, Some, None}
use Rattle.std.specs.Prelude.{IfSome}
use Rattle.std.specs.Io.KnownBytes.{Appends, IsAtEnd}
use Rattle.sfu_driver.specs.declared.halt.Ending.{Ending}
use Rattle.sfu_driver.specs.Outcome.{End}
use Rattle.sfu_driver.specs.Drive.{WritesEnd, WritesFront, WritesPart, end_by}
use Rattle.sfu_driver.specs.Statuses.{Completes, Decides, Due, IsPrompt, OfEvery, SaysOf, Statuses, StatusesBehind, full_text, status_of}

if_some : (left : Option (List ℕ)) (P Q : List ℕ → Type 0) → ((b : List ℕ) → P b → Q b) → IfSome left P → IfSome left Q
if_some None P Q f p = tt
if_some (Some b) P Q f p = f b p

-- What is due for these bytes, and for each prefix of them, in an equal form.
pub says_alike : (whole part whole' part' : List ℕ → Due) (taken : List ℕ) (left' w w' : Option (List ℕ)) (f f' status : ℕ) → whole taken ≡ whole' taken
    → ((front more : List ℕ) → taken ≡ front ++ more → part front ≡ part' front)
    → SaysOf whole part taken left' w w' f f' status → SaysOf whole' part' taken left' w w' f f' status
says_alike whole part whole' part' taken left' w w' f f' status same same_part x = record {
  done = λ e. subst (λ (d : Due). IsAtEnd left' × (d.end ≡ None) × Appends w w' d.text) same (x.done e);
  judged = λ e. subst (λ (d : Due). (d.end ≡ None) × Appends w w' d.text) all (x.judged e);
  unwritten = λ e. unwritten_also (x.unwritten e);
  ended = λ why e.
      let y = x.ended why e in
      let z = subst (λ (d : Due). (d.end ≡ Some (end_by why y.1)) × WritesEnd w w' f f' d.text y.1) same (y.2, y.3) in
      (decided_also why y.0, y.1, z.0, z.1);
  memory = λ e.
      let y = x.memory e in
      let z = subst (λ (d : Due). (d.end ≡ None) × Appends w w' d.text) (same_part y.0 y.1 y.2) (y.3, y.4) in
      (y.0, y.1, y.2, z.0, z.1);
  begun = subst (λ (d : Due). WritesFront w w' (full_text d)) same x.begun;
}
  where
    all : part taken ≡ part' taken
    all = same_part taken [] (sym (append-nil taken))

    unwritten_also : WritesPart w w' (part taken).text ⊎ (IsAtEnd left' × WritesPart w w' (whole taken).text) → WritesPart w w' (part' taken).text ⊎ (IsAtEnd left' × WritesPart w w' (whole' taken).text)
    unwritten_also (inl p) = inl (subst (λ (d : Due). WritesPart w w' d.text) all p)
    unwritten_also (inr p) = inr (p.0, subst (λ (d : Due). WritesPart w w' d.text) same p.1)

    decided_also : (why : Ending) → Decides part why left' taken → Decides part' why left' taken
    decided_also why (inl d) = inl (d.0, sym (ap (λ (y : Due). y.end) all) ∙ d.1)
    decided_also why (inr end) = inr end

abbrev pub prompt_alike : (part part' : List ℕ → Due) (left left' w w' : Option (List ℕ)) (x : IsPrompt part left left' w w') → part x.earlier ≡ part' x.earlier → IsPrompt part' left left' w w'
prompt_alike part part' left left' w w' x same = record {
  earlier = x.earlier;
  piece = x.piece;
  consumed = x.consumed;
  small = x.small;
  goes = sym (ap (λ (d : Due). d.end) same) ∙ x.goes;
  wrote = λ some. let y = x.wrote some in (y.0, subst (λ (d : Due). Appends w w' (d.text ++ y.0)) same y.1);
}

abbrev pub every_alike : (whole part whole' part' : List ℕ → Due) (left left' w w' : Option (List ℕ)) (g g' f f' status : ℕ) (x : OfEvery whole part left left' w w' g g' f f' status)
    → whole (x.prompt.earlier ++ x.prompt.piece) ≡ whole' (x.prompt.earlier ++ x.prompt.piece)
    → ((front more : List ℕ) → x.prompt.earlier ++ x.prompt.piece ≡ front ++ more → part front ≡ part' front) → OfEvery whole' part' left left' w w' g g' f f' status
every_alike whole part whole' part' left left' w w' g g' f f' status x same same_part = record {
  prompt = prompt_alike part part' left left' w w' x.prompt (same_part x.prompt.earlier x.prompt.piece refl);
  bounded = x.bounded;
  says = says_alike whole part whole' part' (x.prompt.earlier ++ x.prompt.piece) left' w w' f f' status same same_part x.says;
  complete = λ a c. subst (λ (d : Due). Completes d.end status) same (x.complete a c);
  first_fault = x.first_fault;
}

-- What is due, in an equal form.
pub statuses_same : (whole part whole' part' : List ℕ → Due) (left left' w w' : Option (List ℕ)) (g g' f f' status : ℕ) → ((b : List ℕ) → whole b ≡ whole' b) → ((b : List ℕ) → part b ≡ part' b)
    → Statuses whole part left left' w w' g g' f f' status → Statuses whole' part' left left' w w' g g' f f' status
statuses_same whole part whole' part' left left' w w' g g' f f' status same same_part s = record {
  done = λ e. if_some left _ _ (λ b x. subst (λ (d : Due). IsAtEnd left' × (d.end ≡ None) × Appends w w' d.text) (same b) x) (s.done e);
  source = s.source;
  judged = λ e. if_some left _ _ (λ b x. let y = subst (λ (d : Due). (d.end ≡ None) × Appends w w' d.text) (same_part x.0) (x.2, x.3) in (x.0, x.1, y.0, y.1)) (s.judged e);
  sink = s.sink;
  unwritten = λ e. if_some left _ _ (λ b x. subst (λ (d : Due). WritesPart w w' d.text) (same b) x) (s.unwritten e);
  ended = λ why e. if_some left _ _ (λ b x. subst (λ (d : Due). (last : List ℕ) × (d.end ≡ Some (end_by why last)) × WritesEnd w w' f f' d.text last) (same b) x) (s.ended why e);
  decided = λ why e. if_some left _ _ (λ b x. (x.0, x.1, decided_also why x.0 x.2)) (s.decided why e);
  memory = λ e. if_some left _ _ (λ b x. let y = subst (λ (d : Due). (d.end ≡ None) × Appends w w' d.text) (same_part x.0) (x.3, x.4) in (x.0, x.1, x.2, y.0, y.1)) (s.memory e);
  prompt = if_some left _ _ (λ b x. prompt_alike part part' left left' w w' x (same_part x.earlier)) s.prompt;
  begun = if_some left _ _ (λ b x. subst (λ (d : Due). WritesFront w w' (full_text d)) (same b) x) s.begun;
  only = only_also s.only;
  complete = λ a c. if_some left _ _ (λ b x. subst (λ (d : Due). Completes d.end status) (same b) x) (s.complete a c);
  every = every_alike whole part whole' part' left left' w w' g g' f f' status s.every (same (s.every.prompt.earlier ++ s.every.prompt.piece)) (λ front more split. same_part front);
}
  where
    decided_also : (why : Ending) (taken : List ℕ) → Decides part why left' taken → Decides part' why left' taken
    decided_also why taken (inl d) = inl (d.0, sym (ap (λ (x : Due). x.end) (same_part taken)) ∙ d.1)
    decided_also why taken (inr end) = inr end

    only_also : (status ≡ 0) ⊎ (status ≡ 3) ⊎ (status ≡ 4) ⊎ (status ≡ 6) ⊎ ((bytes : List ℕ) × (end : End) × ((whole bytes).end ≡ Some end) × (status ≡ status_of end.why))
        → (status ≡ 0) ⊎ (status ≡ 3) ⊎ (status ≡ 4) ⊎ (status ≡ 6) ⊎ ((bytes : List ℕ) × (end : End) × ((whole' bytes).end ≡ Some end) × (status ≡ status_of end.why))
    only_also (inl is) = inl is
    only_also (inr (inl is)) = inr (inl is)
    only_also (inr (inr (inl is))) = inr (inr (inl is))
    only_also (inr (inr (inr (inl is)))) = inr (inr (inr (inl is)))
    only_also (inr (inr (inr (inr x)))) = inr (inr (inr (inr (x.0, x.1, sym (ap (λ (d : Due). d.end) (same x.0)) ∙ x.2, x.3))))

-- the same after a first read
pub behind_same : (first : List ℕ) (whole part whole' part' : List ℕ → Due) (left left' w w' : Option (List ℕ)) (g g' f f' status : ℕ) → ((b : List ℕ) → whole b ≡ whole' b) → ((b : List ℕ) → part b ≡ part' b)
    → StatusesBehind first whole part left left' w w' g g' f f' status → StatusesBehind first whole' part' left left' w w' g g' f f' status
behind_same first whole part whole' part' left left' w w' g g' f f' status same same_part s = record {
  statuses = statuses_same whole part whole' part' left left' w w' g g' f f' status same same_part s.statuses;
  every = every_alike whole part whole' part' left left' w w' g g' f f' status s.every (same (s.every.prompt.earlier ++ s.every.prompt.piece)) (λ front more split. same_part front);
  begins = s.begins;
}
