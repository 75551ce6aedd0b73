-- What is due may be stated in an equal form for the bytes that are there, and a text may precede all texts that are due.
use Rattle.std.proofs.Common.{◌≡◌, ◌⊎◌, ◌≤◌, ◌<◌, inl, inr, ℕ, List, [], ◌++◌, refl, sym, ap, ◌∙◌, subst, arith, Option, Some, None, Err, append_assoc}
use Rattle.std.specs.Prelude.{IfSome}
use Rattle.std.specs.Io.KnownBytes.{Appends, Consumes, IsAtEnd, Keeps}
use Rattle.std.proofs.KnownBytes.{Appends-nil, Appends-trans, Consumes-kept, Consumes-nil}
use Rattle.sfu_base.specs.Faults.{Rose, raised}
use Rattle.sfu_driver.specs.declared.halt.Ending.{Ending}
use Rattle.sfu_driver.specs.declared.halt.Ending.TheVariants as ending
use Rattle.sfu_driver.specs.Outcome.{End}
use Rattle.sfu_driver.specs.Drive.{WritesEnd, WritesFront, WritesPart, end_by}
use Rattle.sfu_driver.specs.Statuses.{Completes, Decides, Due, FirstFault, IsPrompt, OfEvery, SaysOf, Statuses, full_text, last_text, status_of, text_before}
use Rattle.sfu_driver.specs.declared.halt.Interruption.TheVariants.{SourceFault, SinkFault}
use Rattle.sfu_driver.proofs.Answering.{first_fault_by}
use Rattle.sfu_driver.proofs.Counting.{rose_by}
use Rattle.sfu_driver.proofs.Fronts.{end_after, front_longer, part_after, part_front, part_longer, rose_since}

if_some : (left : Option (List ℕ)) (P Q : List ℕ → Type 0) → ((b : List ℕ) → P b → Q b) → IfSome left P → IfSome left Q
if_some None P Q f p = tt
if_some (Some b) P Q f p = f b p

if_told : (left : Option (List ℕ)) (P : List ℕ → Type 0) → ((b : List ℕ) → P b) → IfSome left P
if_told None P all = tt
if_told (Some b) P all = all b

no_ending : (n : ℕ) (why : Ending) → (n < 5) ⊎ (n ≡ 6) → n ≡ status_of why → ⊥
no_ending n ending.Outside other is = omega arith
no_ending n ending.Complaint other is = omega arith
no_ending n ending.Obu other is = omega arith

-- the possible statuses if this is due
abbrev pub IsDue : (List ℕ → Due) → ℕ → Type 0
IsDue whole status = (status ≡ 0) ⊎ (status ≡ 3) ⊎ (status ≡ 4) ⊎ (status ≡ 6) ⊎ ((bytes : List ℕ) × (end : End) × ((whole bytes).end ≡ Some end) × (status ≡ status_of end.why))

-- ---- an equal form

-- the bytes that were taken are a prefix of the bytes that were there
front_of : (bytes : List ℕ) (left' : Option (List ℕ)) (taken : List ℕ) → Consumes (Some bytes) left' taken → (rest : List ℕ) × (bytes ≡ taken ++ rest)
front_of bytes None taken from = absurd from
front_of bytes (Some rest) taken from = (rest, from)

-- what is due for these bytes, and for each prefix of them
pub statuses_alike : (whole part whole' part' : List ℕ → Due) (left left' w w' : Option (List ℕ)) (g g' f f' status : ℕ) → ((bytes : List ℕ) → left ≡ Some bytes → whole bytes ≡ whole' bytes)
    → ((bytes front rest : List ℕ) → left ≡ Some bytes → bytes ≡ front ++ rest → part front ≡ part' front) → IsDue whole' status
    → OfEvery whole' part' left left' w w' g g' f f' status → Statuses whole part left left' w w' g g' f f' status → Statuses whole' part' left left' w w' g g' f f' status
statuses_alike whole part whole' part' None left' w w' g g' f f' status same same_part only every s = record {
  done = λ e. tt;
  source = s.source;
  judged = λ e. tt;
  sink = s.sink;
  unwritten = λ e. tt;
  ended = λ why e. tt;
  decided = λ why e. tt;
  memory = λ e. tt;
  prompt = tt;
  begun = tt;
  only = only;
  complete = λ a c. tt;
  every = every;
}
statuses_alike whole part whole' part' (Some bytes) left' w w' g g' f f' status same same_part only every s = record {
  done = λ e. subst (λ (d : Due). IsAtEnd left' × (d.end ≡ None) × Appends w w' d.text) all (s.done e);
  source = s.source;
  judged = λ e.
      let x = s.judged e in
      let y = subst (λ (d : Due). (d.end ≡ None) × Appends w w' d.text) (of_taken x.0 x.1) (x.2, x.3) in
      (x.0, x.1, y.0, y.1);
  sink = s.sink;
  unwritten = λ e. subst (λ (d : Due). WritesPart w w' d.text) all (s.unwritten e);
  ended = λ why e. subst (λ (d : Due). (last : List ℕ) × (d.end ≡ Some (end_by why last)) × WritesEnd w w' f f' d.text last) all (s.ended why e);
  decided = λ why e. let x = s.decided why e in (x.0, x.1, decided_also why x.0 (of_taken x.0 x.1) x.2);
  memory = λ e.
      let x = s.memory e in
      let y = subst (λ (d : Due). (d.end ≡ None) × Appends w w' d.text) (of_front x.0 x.1 x.2) (x.3, x.4) in
      (x.0, x.1, x.2, y.0, y.1);
  prompt =
      let x = s.prompt in
      let e = of_front x.earlier x.piece x.consumed in record {
        earlier = x.earlier;
        piece = x.piece;
        consumed = x.consumed;
        small = x.small;
        goes = sym (ap (λ (d : Due). d.end) e) ∙ x.goes;
        wrote = λ some. let y = x.wrote some in (y.0, subst (λ (d : Due). Appends w w' (d.text ++ y.0)) e y.1);
      };
  begun = subst (λ (d : Due). WritesFront w w' (full_text d)) all s.begun;
  only = only;
  complete = λ a c. subst (λ (d : Due). Completes d.end status) all (s.complete a c);
  every = every;
}
  where
    all : whole bytes ≡ whole' bytes
    all = same bytes refl

    of_taken : (taken : List ℕ) → Consumes (Some bytes) left' taken → part taken ≡ part' taken
    of_taken taken from = let x = front_of bytes left' taken from in same_part bytes taken x.0 refl x.1

    of_front : (front more : List ℕ) → Consumes (Some bytes) left' (front ++ more) → part front ≡ part' front
    of_front front more from = let x = front_of bytes left' (front ++ more) from in same_part bytes front (more ++ x.0) refl (x.1 ∙ append_assoc front more x.0)

    decided_also : (why : Ending) (taken : List ℕ) → part taken ≡ part' taken → Decides part why left' taken → Decides part' why left' taken
    decided_also why taken e (inl d) = inl (d.0, sym (ap (λ (x : Due). x.end) e) ∙ d.1)
    decided_also why taken e (inr end) = inr end

-- ---- the first read fails

pub failed_at_once : (whole part : List ℕ → Due) (left left' w : Option (List ℕ)) (g g' f : ℕ) → part [] ≡ record { text = []; end = None } → g' ≡ raised g → Keeps left left'
    → Statuses whole part left left' w w g g' f f 3
failed_at_once whole part left left' w g g' f none once keeps = record {
  done = λ e. absurd (omega arith);
  source = λ e. rose;
  judged = λ e. if_told left _ (λ b. ([], from, goes, wrote));
  sink = λ e. absurd (omega arith);
  unwritten = λ e. absurd (omega arith);
  ended = λ why e. absurd (no_ending 3 why (inl (omega arith)) e);
  decided = λ why e. absurd (no_ending 3 why (inl (omega arith)) e);
  memory = λ e. absurd (omega arith);
  prompt = if_told left _ (λ b. record { earlier = []; piece = []; consumed = from; small = omega arith; goes = goes; wrote = λ some. absurd (omega arith) });
  begun = if_told left _ (λ b. ([], full_text (whole b), Appends-nil w, refl));
  only = inr (inl refl);
  complete = λ a c. absurd (a rose);
  every = record {
    prompt = record { earlier = []; piece = []; consumed = from; small = omega arith; goes = goes; wrote = λ some. absurd (omega arith) };
    bounded = omega arith;
    says = record {
      done = λ e. absurd (omega arith);
      judged = λ e. (goes, wrote);
      unwritten = λ e. absurd (omega arith);
      ended = λ why e. absurd (no_ending 3 why (inl (omega arith)) e);
      memory = λ e. absurd (omega arith);
      begun = ([], full_text (whole []), Appends-nil w, refl);
    };
    complete = λ a c. absurd (a rose);
    first_fault = first_fault_by g g' f f (Err SourceFault) (record { reading = once; writing = refl });
  };
}
  where
    rose : Rose g g'
    rose = rose_by g g' once

    from : Consumes left left' []
    from = Consumes-kept left left left' [] (Consumes-nil left) keeps

    goes : (part []).end ≡ None
    goes = ap (λ (d : Due). d.end) none

    wrote : Appends w w (part []).text
    wrote = subst (λ (text : List ℕ). Appends w w text) (sym (ap (λ (d : Due). d.text) none)) (Appends-nil w)

-- ---- a text before all texts that are due

module _ (head : List ℕ) (whole part : List ℕ → Due) where
  abbrev prompt_behind : (left left' w0 w1 w' : Option (List ℕ)) → Appends w0 w1 head → IsPrompt part left left' w1 w' → IsPrompt (λ bytes. text_before head (part bytes)) left left' w0 w'
  prompt_behind left left' w0 w1 w' first x = record {
    earlier = x.earlier;
    piece = x.piece;
    consumed = x.consumed;
    small = x.small;
    goes = x.goes;
    wrote = λ some.
        let y = x.wrote some in
        let text = (part x.earlier).text in
        (y.0, subst (Appends w0 w') (sym (append_assoc head text y.0)) (Appends-trans w0 w1 w' head (text ++ y.0) first y.1));
  }

  begun_behind : (due : Due) (w0 w1 w' : Option (List ℕ)) → Appends w0 w1 head → WritesFront w1 w' (full_text due) → WritesFront w0 w' (full_text (text_before head due))
  begun_behind due w0 w1 w' first x =
      (head ++ x.0, x.1, Appends-trans w0 w1 w' head x.0 first x.2, append_assoc head due.text (last_text due.end) ∙ ap (λ (xs : List ℕ). head ++ xs) x.3 ∙ sym (append_assoc head x.0 x.1))

  says_behind : (taken : List ℕ) (left' w0 w1 w' : Option (List ℕ)) (f0 f1 f' status : ℕ) → f0 ≤ f1 → Appends w0 w1 head → SaysOf whole part taken left' w1 w' f1 f' status
      → SaysOf (λ bytes. text_before head (whole bytes)) (λ bytes. text_before head (part bytes)) taken left' w0 w' f0 f' status
  says_behind taken left' w0 w1 w' f0 f1 f' status le first s = record {
    done = λ e. let x = s.done e in (x.0, x.1, Appends-trans w0 w1 w' head (whole taken).text first x.2);
    judged = λ e. let x = s.judged e in (x.0, Appends-trans w0 w1 w' head (part taken).text first x.1);
    unwritten = λ e. unwritten_behind (s.unwritten e);
    ended = λ why e. let x = s.ended why e in (decided_behind why x.0, x.1, x.2, end_after w0 w1 w' f0 f1 f' head (whole taken).text x.1 le first x.3);
    memory = λ e. let x = s.memory e in (x.0, x.1, x.2, x.3, Appends-trans w0 w1 w' head (part x.0).text first x.4);
    begun = begun_behind (whole taken) w0 w1 w' first s.begun;
  }
    where
      unwritten_behind : WritesPart w1 w' (part taken).text ⊎ (IsAtEnd left' × WritesPart w1 w' (whole taken).text)
          → WritesPart w0 w' (head ++ (part taken).text) ⊎ (IsAtEnd left' × WritesPart w0 w' (head ++ (whole taken).text))
      unwritten_behind (inl p) = inl (part_after w0 w1 w' head (part taken).text first p)
      unwritten_behind (inr p) = inr (p.0, part_after w0 w1 w' head (whole taken).text first p.1)

      decided_behind : (why : Ending) → Decides part why left' taken → Decides (λ bytes. text_before head (part bytes)) why left' taken
      decided_behind why (inl d) = inl d
      decided_behind why (inr end) = inr end

  -- the text was written first
  pub statuses_behind : (left left' w0 w1 w' : Option (List ℕ)) (g g' f0 f1 f' status : ℕ) → f1 ≡ f0 → Appends w0 w1 head
      → Statuses whole part left left' w1 w' g g' f1 f' status
      → Statuses (λ bytes. text_before head (whole bytes)) (λ bytes. text_before head (part bytes)) left left' w0 w' g g' f0 f' status
  statuses_behind left left' w0 w1 w' g g' f0 f1 f' status kept first s = record {
    done = λ e. if_some left _ _ (λ b x. (x.0, x.1, Appends-trans w0 w1 w' head (whole b).text first x.2)) (s.done e);
    source = s.source;
    judged = λ e. if_some left _ _ (λ b x. (x.0, x.1, x.2, Appends-trans w0 w1 w' head (part x.0).text first x.3)) (s.judged e);
    sink = λ e. rose_since f0 f1 f' le (s.sink e);
    unwritten = λ e. if_some left _ _ (λ b x. part_after w0 w1 w' head (whole b).text first x) (s.unwritten e);
    ended = λ why e. if_some left _ _ (λ b x. (x.0, x.1, end_after w0 w1 w' f0 f1 f' head (whole b).text x.0 le first x.2)) (s.ended why e);
    decided = s.decided;
    memory = λ e. if_some left _ _ (λ b x. (x.0, x.1, x.2, x.3, Appends-trans w0 w1 w' head (part x.0).text first x.4)) (s.memory e);
    prompt = if_some left _ _ (λ b x. prompt_behind left left' w0 w1 w' first x) s.prompt;
    begun = if_some left _ _ (λ b x. begun_behind (whole b) w0 w1 w' first x) s.begun;
    only = s.only;
    complete = λ a c. s.complete a (λ rose. c (rose_since f0 f1 f' le rose));
    every = record {
      prompt = prompt_behind left left' w0 w1 w' first s.every.prompt;
      bounded = s.every.bounded;
      says = says_behind (s.every.prompt.earlier ++ s.every.prompt.piece) left' w0 w1 w' f0 f1 f' status le first s.every.says;
      complete = λ a c. s.every.complete a (λ rose. c (rose_since f0 f1 f' le rose));
      first_fault = subst (λ (f : ℕ). FirstFault g g' f f' status) kept s.every.first_fault;
    };
  }
    where
      le : f0 ≤ f1
      le = omega (arith, kept)

  -- the sink failed before all of the text was written
  pub failed_before : (left w w' : Option (List ℕ)) (g f f' : ℕ) → (part []).end ≡ None → f' ≡ raised f → WritesPart w w' head
      → Statuses (λ bytes. text_before head (whole bytes)) (λ bytes. text_before head (part bytes)) left left w w' g g f f' 4
  failed_before left w w' g f f' goes once wrote = record {
    done = λ e. absurd (omega arith);
    source = λ e. absurd (omega arith);
    judged = λ e. absurd (omega arith);
    sink = λ e. rose;
    unwritten = λ e. if_told left _ (λ b. part_longer w w' head (whole b).text wrote);
    ended = λ why e. absurd (no_ending 4 why (inl (omega arith)) e);
    decided = λ why e. absurd (no_ending 4 why (inl (omega arith)) e);
    memory = λ e. absurd (omega arith);
    prompt = if_told left _ (λ b. record { earlier = []; piece = []; consumed = Consumes-nil left; small = omega arith; goes = goes; wrote = λ some. absurd (omega arith) });
    begun = if_told left _ (λ b. front_longer w w' (head ++ (whole b).text) (last_text (whole b).end) (part_front w w' (head ++ (whole b).text) (part_longer w w' head (whole b).text wrote)));
    only = inr (inr (inl refl));
    complete = λ a c. absurd (c rose);
    every = record {
      prompt = record { earlier = []; piece = []; consumed = Consumes-nil left; small = omega arith; goes = goes; wrote = λ some. absurd (omega arith) };
      bounded = omega arith;
      says = record {
        done = λ e. absurd (omega arith);
        judged = λ e. absurd (omega arith);
        unwritten = λ e. inl (part_longer w w' head (part []).text wrote);
        ended = λ why e. absurd (no_ending 4 why (inl (omega arith)) e);
        memory = λ e. absurd (omega arith);
        begun = front_longer w w' (head ++ (whole []).text) (last_text (whole []).end) (part_front w w' (head ++ (whole []).text) (part_longer w w' head (whole []).text wrote));
      };
      complete = λ a c. absurd (c rose);
      first_fault = first_fault_by g g f f' (Err SinkFault) (record { reading = refl; writing = once });
    };
  }
    where
      rose : Rose f f'
      rose = rose_by f f' once
