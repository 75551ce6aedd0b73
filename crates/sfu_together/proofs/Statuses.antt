-- The meaning of each status of `together`, after its script was read or wasn't.
use Rattle.std.proofs.Common.{◌≡◌, ◌⊎◌, inl, inr, ⊎_elim, ℕ, List, [], ◌++◌, refl, sym, ap, ◌∙◌, subst, arith, append-nil, Option, Some, None, Ok, Err}
use Rattle.std.specs.Prelude.{IfSome}
use Rattle.std.specs.Io.KnownBytes.{Appends, Consumes, IsAtEnd}
use Rattle.std.proofs.KnownBytes.{Appends-trans, Consumes-whole}
use Rattle.sfu_driver.specs.Exchange.{exchange_by}
use Rattle.sfu_base.specs.Faults.{Rose, raised}
use Rattle.sfu_driver.specs.declared.halt.Ending.{Ending}
use Rattle.sfu_driver.specs.Drive.{WritesPart, outside_end}
use Rattle.sfu_driver.specs.Statuses.{Completes, Due, IsPrompt, full_text, status_of}
use Rattle.sfu_driver.specs.declared.halt.Halt.TheVariants.{Starved}
use Rattle.sfu_driver.specs.declared.halt.Interruption.TheVariants.{Halted, SinkFault}
use Rattle.sfu_driver.proofs.Answering.{first_fault_by, no_status as none_of}
use Rattle.sfu_driver.proofs.Counting.{rose_by}
use Rattle.sfu_driver.proofs.Meanings.{statuses_same}
use Rattle.script_texts.specs.declared.journal.Actors.{Actors}
use Rattle.room_core.specs.History.{Entry, accepted}
use Rattle.room_core.specs.Headline.{Headline}
use Rattle.room_core.proofs.Promising.{headline}
use Rattle.script_texts.specs.WholeLines.{fault_line}
use Rattle.sfu_together.specs.History.{IsMadeBy}
use Rattle.port_config.specs.actors.Reading.{ReadsActors, ReadsNone, read_due, read_part}
use Rattle.port_config.specs.actors.Script.{together_script}
use Rattle.sfu_together.specs.Together.{IsPlayed, Plays, journal_text, text_unless, together_due}

if_some : (left : Option (List ℕ)) (P Q : List ℕ → Type 0) → ((b : List ℕ) → P b → Q b) → IfSome left P → IfSome left Q
if_some None P Q f p = tt
if_some (Some b) P Q f p = f b p

always : (left : Option (List ℕ)) (P : List ℕ → Type 0) → ((b : List ℕ) → P b) → IfSome left P
always None P f = tt
always (Some b) P f = f b

no_journal : (fault : Option ℕ) → text_unless fault [] ≡ []
no_journal None = refl
no_journal (Some line) = refl

no_fault : (fault : Option ℕ) → outside_end fault_line fault ≡ None → fault ≡ None
no_fault None is = refl
no_fault (Some line) is = absurd cc

same_due : (bytes : List ℕ) → read_due bytes ≡ together_due [] bytes
same_due bytes = ap (λ (t : List ℕ). record { text = t; end = outside_end fault_line (together_script bytes).fault }) (sym (no_journal (together_script bytes).fault))

-- no status of an ending is 0, 4 or 6
no_status : (status : ℕ) (why : Ending) → (status ≡ 0) ⊎ (status ≡ 4) ⊎ (status ≡ 6) → status ≡ status_of why → ⊥
no_status status why (inl a) e = none_of status why (inl (omega arith)) e
no_status status why (inr (inl a)) e = none_of status why (inl (omega arith)) e
no_status status why (inr (inr a)) e = none_of status why (inr a) e

-- ---- no script was read

pub plays_none : (left left' w w' : Option (List ℕ)) (g g' f f' status : ℕ) → ReadsNone left left' w w' g g' f f' status → Plays (exchange_by left left' w w' g g' f f') status
plays_none left left' w w' g g' f f' status reads = record {
  history = [];
  statuses = statuses_same read_due read_part (together_due []) read_part left left' w w' g g' f f' status same_due (λ b. refl) reads.statuses;
  played = λ is. absurd (other is reads.only);
  script = λ is. absurd (other is reads.only);
  unwritten = reads.unwritten;
  headline = headline [] tt;
  only = of reads.only;
}
  where
    other : (status ≡ 0) ⊎ (status ≡ 4) → (status ≡ 3) ⊎ (status ≡ 5) ⊎ (status ≡ 6) → ⊥
    other (inl a) (inl b) = omega arith
    other (inl a) (inr (inl b)) = omega arith
    other (inl a) (inr (inr b)) = omega arith
    other (inr a) (inl b) = omega arith
    other (inr a) (inr (inl b)) = omega arith
    other (inr a) (inr (inr b)) = omega arith

    of : (status ≡ 3) ⊎ (status ≡ 5) ⊎ (status ≡ 6) → (status ≡ 0) ⊎ (status ≡ 3) ⊎ (status ≡ 4) ⊎ (status ≡ 5) ⊎ (status ≡ 6)
    of (inl a) = inr (inl a)
    of (inr (inl a)) = inr (inr (inr (inl a)))
    of (inr (inr a)) = inr (inr (inr (inr a)))

-- ---- a script was read

journal_due : (h : List Entry) (bytes : List ℕ) → (together_script bytes).fault ≡ None → together_due h bytes ≡ record { text = journal_text h; end = None }
journal_due h bytes none = ap (λ (x : Option ℕ). record { text = text_unless x h; end = outside_end fault_line x }) none

module _ (left left' w w1 : Option (List ℕ)) (g g' f f1 : ℕ) (actors : Actors) (reads : ReadsActors left left' w w1 g g' f f1 actors) where
  read_whole : IfSome left (λ b. IsAtEnd left' × ((together_script b).fault ≡ None))
  read_whole = if_some left _ _ (λ b x. (x.0, no_fault (together_script b).fault x.1)) (reads.statuses.done refl)

  -- no read and no write failed
  quiet : (g' ≡ g) × (f1 ≡ f)
  quiet = reads.statuses.every.first_fault.none (inl refl)

  -- the same for the bytes that were taken
  abbrev prompt : IsPrompt read_part left left' w w1
  prompt = reads.statuses.every.prompt

  abbrev taken : List ℕ
  taken = prompt.earlier ++ prompt.piece

  taken_end : IsAtEnd left'
  taken_end = let x = reads.statuses.every.says.done refl in x.0

  taken_whole : (together_script taken).fault ≡ None
  taken_whole = let x = reads.statuses.every.says.done refl in no_fault (together_script taken).fault x.1

  -- and for what was written after them
  abbrev prompt_on : (w2 : Option (List ℕ)) (text : List ℕ) → Appends w w2 text → IsPrompt read_part left left' w w2
  prompt_on w2 text all = record { earlier = prompt.earlier; piece = prompt.piece; consumed = prompt.consumed; small = prompt.small; goes = prompt.goes; wrote = λ _. (text, all) }

  -- memory ran out after it
  pub plays_starved : Plays (exchange_by left left' w w1 g g' f f1) 6
  plays_starved = record {
    history = [];
    statuses = record {
      done = λ e. absurd (let no : 6 ≡ 0 = e in omega arith);
      source = λ e. absurd (let no : 6 ≡ 3 = e in omega arith);
      judged = λ e. absurd (let no : 6 ≡ 3 = e in omega arith);
      sink = λ e. absurd (let no : 6 ≡ 4 = e in omega arith);
      unwritten = λ e. absurd (let no : 6 ≡ 4 = e in omega arith);
      ended = λ why e. absurd (no_status 6 why (inr (inr refl)) e);
      decided = λ why e. absurd (no_status 6 why (inr (inr refl)) e);
      memory = λ e. if_some left _ _ (λ b x. (x.earlier, x.piece, x.consumed, x.goes, reads.unwritten)) reads.statuses.prompt;
      prompt = reads.statuses.prompt;
      begun = always left _ (λ b. ([], full_text (together_due [] b), reads.unwritten, refl));
      only = inr (inr (inr (inl refl)));
      complete = λ a c. if_some left _ _ (λ b x. subst (λ (d : Due). Completes d.end 6) (sym (journal_due [] b x.1)) (inr refl)) read_whole;
      every = record {
        prompt = prompt;
        bounded = reads.statuses.every.bounded;
        says = record {
          done = λ e. absurd (let no : 6 ≡ 0 = e in omega arith);
          judged = λ e. absurd (let no : 6 ≡ 3 = e in omega arith);
          unwritten = λ e. absurd (let no : 6 ≡ 4 = e in omega arith);
          ended = λ why e. absurd (no_status 6 why (inr (inr refl)) e);
          memory = λ e. (prompt.earlier, prompt.piece, refl, prompt.goes, reads.unwritten);
          begun = ([], full_text (together_due [] taken), reads.unwritten, refl);
        };
        complete = λ a c. subst (λ (d : Due). Completes d.end 6) (sym (journal_due [] taken taken_whole)) (inr refl);
        first_fault = first_fault_by g g' f f1 (Err (Halted Starved)) (record { reading = quiet.0; writing = quiet.1 });
      };
    };
    played = λ is. ⊎_elim (λ (a : 6 ≡ 0). absurd (omega arith)) (λ (a : 6 ≡ 4). absurd (omega arith)) is;
    script = λ is. ⊎_elim (λ (a : 6 ≡ 0). absurd (omega arith)) (λ (a : 6 ≡ 4). absurd (omega arith)) is;
    unwritten = λ is. reads.unwritten;
    headline = headline [] tt;
    only = inr (inr (inr (inr refl)));
  }

  played_by : (h : List Entry) → IsMadeBy actors h → IfSome left (IsPlayed h)
  played_by h made = Consumes-whole left left' reads.bytes (IsPlayed h) reads.consumed reads.at_end (record { whole = reads.whole; actors = actors; parts = reads.parts; made = made })

  script_by : (h : List Entry) → IsMadeBy actors h → (bytes : List ℕ) × Consumes left left' bytes × IsAtEnd left' × IsPlayed h bytes
  script_by h made = (reads.bytes, reads.consumed, reads.at_end, record { whole = reads.whole; actors = actors; parts = reads.parts; made = made })

  -- the journal was written
  pub plays_whole : (w2 : Option (List ℕ)) (f2 : ℕ) (h : List Entry) → IsMadeBy actors h → Headline (accepted h) → Appends w1 w2 (journal_text h) → f2 ≡ f1 → Plays (exchange_by left left' w w2 g g' f f2) 0
  plays_whole w2 f2 h made promised wrote kept =
      let all : Appends w w2 (journal_text h) = Appends-trans w w1 w2 [] (journal_text h) reads.unwritten wrote in record {
        history = h;
        statuses = record {
          done = λ e. if_some left _ _ (λ b x. subst (λ (d : Due). IsAtEnd left' × (d.end ≡ None) × Appends w w2 d.text) (sym (journal_due h b x.1)) (x.0, refl, all)) read_whole;
          source = λ e. absurd (let no : 0 ≡ 3 = e in omega arith);
          judged = λ e. absurd (let no : 0 ≡ 3 = e in omega arith);
          sink = λ e. absurd (let no : 0 ≡ 4 = e in omega arith);
          unwritten = λ e. absurd (let no : 0 ≡ 4 = e in omega arith);
          ended = λ why e. absurd (no_status 0 why (inl refl) e);
          decided = λ why e. absurd (no_status 0 why (inl refl) e);
          memory = λ e. absurd (let no : 0 ≡ 6 = e in omega arith);
          prompt = if_some left _ _ (λ b x. record { earlier = x.earlier; piece = x.piece; consumed = x.consumed; small = x.small; goes = x.goes; wrote = λ _. (journal_text h, all) }) reads.statuses.prompt;
          begun = if_some left _ _ (λ b x. (journal_text h, [], all, ap full_text (journal_due h b x.1))) read_whole;
          only = inl refl;
          complete = λ a c. if_some left _ _ (λ b x. subst (λ (d : Due). Completes d.end 0) (sym (journal_due h b x.1)) (inl refl)) read_whole;
          every = record {
            prompt = prompt_on w2 (journal_text h) all;
            bounded = reads.statuses.every.bounded;
            says = record {
              done = λ e. subst (λ (d : Due). IsAtEnd left' × (d.end ≡ None) × Appends w w2 d.text) (sym (journal_due h taken taken_whole)) (taken_end, refl, all);
              judged = λ e. absurd (let no : 0 ≡ 3 = e in omega arith);
              unwritten = λ e. absurd (let no : 0 ≡ 4 = e in omega arith);
              ended = λ why e. absurd (no_status 0 why (inl refl) e);
              memory = λ e. absurd (let no : 0 ≡ 6 = e in omega arith);
              begun = (journal_text h, [], all, ap full_text (journal_due h taken taken_whole));
            };
            complete = λ a c. subst (λ (d : Due). Completes d.end 0) (sym (journal_due h taken taken_whole)) (inl refl);
            first_fault = first_fault_by g g' f f2 (Ok tt) (record { reading = quiet.0; writing = kept ∙ quiet.1 });
          };
        };
        played = λ is. played_by h made;
        script = λ is. script_by h made;
        unwritten = λ is. ⊎_elim (λ (a : 0 ≡ 3). absurd (omega arith)) (λ (a : 0 ≡ 6). absurd (omega arith)) is;
        headline = promised;
        only = inl refl;
      }

  -- the sink failed before all of it was written
  pub plays_part : (w2 : Option (List ℕ)) (f2 : ℕ) (h : List Entry) → IsMadeBy actors h → Headline (accepted h) → WritesPart w1 w2 (journal_text h) → f2 ≡ raised f1 → Plays (exchange_by left left' w w2 g g' f f2) 4
  plays_part w2 f2 h made promised part once =
      let all : Appends w w2 part.text = Appends-trans w w1 w2 [] part.text reads.unwritten part.wrote in
      let whole : WritesPart w w2 (journal_text h) = record { text = part.text; more = part.more; wrote = all; split = part.split; missing = part.missing } in
      let risen : Rose f f2 = rose_by f f2 (once ∙ ap raised quiet.1) in record {
        history = h;
        statuses = record {
          done = λ e. absurd (let no : 4 ≡ 0 = e in omega arith);
          source = λ e. absurd (let no : 4 ≡ 3 = e in omega arith);
          judged = λ e. absurd (let no : 4 ≡ 3 = e in omega arith);
          sink = λ e. risen;
          unwritten = λ e. if_some left _ _ (λ b x. subst (λ (d : Due). WritesPart w w2 d.text) (sym (journal_due h b x.1)) whole) read_whole;
          ended = λ why e. absurd (no_status 4 why (inr (inl refl)) e);
          decided = λ why e. absurd (no_status 4 why (inr (inl refl)) e);
          memory = λ e. absurd (let no : 4 ≡ 6 = e in omega arith);
          prompt = if_some left _ _ (λ b x. record { earlier = x.earlier; piece = x.piece; consumed = x.consumed; small = x.small; goes = x.goes; wrote = λ _. (part.text, all) }) reads.statuses.prompt;
          begun = if_some left _ _ (λ b x. (part.text, part.more, all, ap full_text (journal_due h b x.1) ∙ (append-nil (journal_text h) ∙ part.split))) read_whole;
          only = inr (inr (inl refl));
          complete = λ a c. absurd (c risen);
          every = record {
            prompt = prompt_on w2 part.text all;
            bounded = reads.statuses.every.bounded;
            says = record {
              done = λ e. absurd (let no : 4 ≡ 0 = e in omega arith);
              judged = λ e. absurd (let no : 4 ≡ 3 = e in omega arith);
              unwritten = λ e. inr (taken_end, subst (λ (d : Due). WritesPart w w2 d.text) (sym (journal_due h taken taken_whole)) whole);
              ended = λ why e. absurd (no_status 4 why (inr (inl refl)) e);
              memory = λ e. absurd (let no : 4 ≡ 6 = e in omega arith);
              begun = (part.text, part.more, all, ap full_text (journal_due h taken taken_whole) ∙ (append-nil (journal_text h) ∙ part.split));
            };
            complete = λ a c. absurd (c risen);
            first_fault = first_fault_by g g' f f2 (Err SinkFault) (record { reading = quiet.0; writing = once ∙ ap raised quiet.1 });
          };
        };
        played = λ is. played_by h made;
        script = λ is. script_by h made;
        unwritten = λ is. ⊎_elim (λ (a : 4 ≡ 3). absurd (omega arith)) (λ (a : 4 ≡ 6). absurd (omega arith)) is;
        headline = promised;
        only = inr (inr (inl refl));
      }
