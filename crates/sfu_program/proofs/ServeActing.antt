-- The outcome for the ports, after the replies that were written before them.
use Rattle.std.proofs.Common.{◌≡◌, ◌⊎◌, inl, inr, ◌+◌, ◌<◌, ◌≤◌, ℕ, suc, Bool, true, false, List, [], ◌∷◌, ◌++◌, length, map, refl, sym, ap, subst, ◌∙◌, arith, Option, Some, None, append-nil, append_assoc, Result, Ok, Err}
use Rattle.std.specs.Prelude.{◌&&◌, OnOk, is_err}
use Rattle.std.proofs.lemmas.List.{length-map}
use Rattle.std.specs.Io.KnownBytes.{Appends}
use Rattle.sfu_base.specs.Faults.{Rose, raised}
use Rattle.sfu_base.specs.Links.{Traffic}
use Rattle.sfu_base.specs.declared.call.Call.{Call}
use Rattle.turn_lock.specs.declared.history.Entry.{Entry}
use Rattle.sfu_driver.specs.declared.halt.Halt.TheVariants as halt
use Rattle.sfu_driver.specs.declared.halt.Interruption.TheVariants.{Halted, SinkFault}
use Rattle.sfu_driver.specs.Drive.{WritesPart}
use Rattle.sfu_driver.specs.Statuses.{FirstFault}
use Rattle.sfu_driver.proofs.Answering.{first_fault_by, not_seven}
use Rattle.sfu_driver.proofs.Counting.{rose_by}
use Rattle.sfu_driver.proofs.Fronts.{part_after}
use Rattle.sfu_script.specs.declared.ports.PortLine.{PortLine}
use Rattle.session_steps.specs.Deeds.{Listen, Ask, Post, Over, received_of}
use Rattle.sfu_serve.specs.Parts.{MeetsEnd}
use Rattle.sfu_serve.specs.Runs.{After, AreSessions, Before, job_after, job_before}
use Rattle.session_steps.specs.Sessions.{Doing}
use Rattle.sfu_serve.specs.declared.ends.SessionEnd.{SessionEnd}
use Rattle.sfu_serve.specs.declared.ends.SessionEnd.TheVariants.{AllTurns, LinkFault, Worn}
use Rattle.sfu_serve.specs.declared.run.Ended.{Ended}
use Rattle.sfu_serve.specs.declared.run.Job.{Job}
use Rattle.sfu_program.specs.Serve.{Acts, Ends, HasServed, HaveServed, Starved, afters}
use Rattle.sfu_program.specs.ServeEnding.{EndsWith}
use Rattle.sfu_program.specs.ServeEnds.{AreUnworn, all_made, ends_of, ends_text, is_all}
use Rattle.sfu_program.specs.ServeOpening.{first_text}
use Rattle.sfu_program.specs.ServePorts.{AreFresh, NoFault, PortsSeen, SomeFault, WasUnbound, befores}

pub appends_none : (w : Option (List ℕ)) → Appends w w []
appends_none None = tt
appends_none (Some xs) = sym (append-nil xs)

pub appends_both : (w w1 w2 : Option (List ℕ)) (xs ys : List ℕ) → Appends w w1 xs → Appends w1 w2 ys → Appends w w2 (xs ++ ys)
appends_both None w1 w2 xs ys a b = tt
appends_both (Some ws) None w2 xs ys a b = absurd a
appends_both (Some ws) (Some us) None xs ys a b = absurd b
appends_both (Some ws) (Some us) (Some vs) xs ys a b = b ∙ (ap (λ (l : List ℕ). l ++ ys) a ∙ append_assoc ws xs ys)

-- a count that rose in the first or in the second half
pub rose_first : (a b c : ℕ) → Rose a b → b ≤ c → Rose a c
rose_first a b c r le = omega arith

pub rose_then : (a b c : ℕ) → a ≤ b → Rose b c → Rose a c
rose_then a b c le r = omega arith

-- ---- the first fault

-- with status 6 none failed
starved_once : {f f' : ℕ} → f' ≡ f → FirstFault 0 0 f f' 6
starved_once {f} {f'} kept = first_fault_by 0 0 f f' (Err (Halted halt.Starved)) (record { reading = refl; writing = kept })

-- with status 7 no write failed
at_seven : {f f' : ℕ} → f' ≡ f → FirstFault 0 0 f f' 7
at_seven kept = record {
  none = λ e. absurd (neither e);
  source = λ e. absurd (omega arith);
  sink = λ e. absurd (omega arith);
  ended = λ why e. absurd (not_seven why (sym e));
  refused = λ e. absurd (omega arith);
  ports = λ e. (refl, kept);
}
  where
    neither : ◌≡◌ {A = ℕ} 7 0 ⊎ ◌≡◌ {A = ℕ} 7 6 → ⊥
    neither (inl is) = omega arith
    neither (inr is) = omega arith

-- ---- sessions

-- each job has its end
pub same_count : (limit : ℕ) (history : List (Entry Call)) (number : ℕ) (jobs : List Before) (ended : List After) → AreSessions limit 0 history number jobs ended → length jobs ≡ length ended
same_count limit history number [] [] all = refl
same_count limit history number [] (e ∷ es) all = absurd all
same_count limit history number (j ∷ js) [] all = absurd all
same_count limit history number (j ∷ js) (e ∷ es) all = ap (λ (n : ℕ). suc n) (same_count limit history (number + 1) js es all.1)

-- a session that didn't make all its turns has a link with faults
link_failed : (after limit : ℕ) (rest : Doing) (turns : ℕ) (end : SessionEnd) → MeetsEnd 0 after 0 limit rest turns end → is_all end ≡ false → 0 < after
link_failed after limit rest turns AllTurns h few = absurd (cc few)
link_failed after limit Over turns (LinkFault turn) h few = absurd h
link_failed after limit (Listen f) turns (LinkFault turn) h few = let r = h.0.counts in omega arith
link_failed after limit (Post what next) turns (LinkFault turn) h few = let r = h.0.counts in omega arith
link_failed after limit (Ask call f) turns (LinkFault turn) h few = absurd h
link_failed after limit Over turns Worn h few = absurd h
link_failed after limit (Listen f) turns Worn h few = absurd h
link_failed after limit (Post what next) turns Worn h few = absurd h
link_failed after limit (Ask call f) turns Worn h few = absurd (let z = h.1 in omega arith)

-- a session that made all its turns has a link whose count is unchanged
link_quiet : (before after limit : ℕ) (rest : Doing) (turns : ℕ) (end : SessionEnd) → MeetsEnd before after 0 limit rest turns end → is_all end ≡ true → after ≡ before
link_quiet before after limit Over turns AllTurns h made = h.0
link_quiet before after limit (Listen f) turns AllTurns h made = absurd h
link_quiet before after limit (Post what next) turns AllTurns h made = absurd h
link_quiet before after limit (Ask call f) turns AllTurns h made = absurd h
link_quiet before after limit rest turns (LinkFault turn) h made = absurd (cc made)
link_quiet before after limit rest turns Worn h made = absurd (cc made)

module _ {L : Type 0} (traffic : L → Option Traffic) (faults name : L → ℕ) where
  pub some_failed : (limit : ℕ) (history : List (Entry Call)) (number : ℕ) (lines : List PortLine) (jobs : List Before) (ended : List (Ended L)) → AreFresh lines jobs
      → AreSessions limit 0 history number jobs (afters traffic faults ended) → all_made (ends_of ended) ≡ false → SomeFault faults (map (λ session. session.link) ended)
  some_failed limit history number lines [] [] fresh all few = absurd (cc few)
  some_failed limit history number lines [] (e ∷ es) fresh all few = absurd all
  some_failed limit history number lines (j ∷ js) [] fresh all few = absurd all
  some_failed limit history number [] (j ∷ js) (e ∷ es) fresh all few = absurd fresh
  some_failed limit history number (l ∷ ls) (j ∷ js) (e ∷ es) fresh all few = go (is_all e.end) refl (some_failed limit history (number + 1) ls js es fresh.1 all.1) few
    where
      go : (b : Bool) → is_all e.end ≡ b → (all_made (ends_of es) ≡ false → SomeFault faults (map (λ session. session.link) es)) → (b && all_made (ends_of es)) ≡ false → SomeFault faults (map (λ session. session.link) (e ∷ es))
      go true here rest few = inr (rest few)
      go false here rest few = inl (link_failed (faults e.link) limit all.0.rest (length (received_of all.0.steps)) e.end (subst (λ (n : ℕ). MeetsEnd n (faults e.link) 0 limit all.0.rest (length (received_of all.0.steps)) e.end) fresh.0.quiet all.0.ends) here)

  -- if all sessions made all their turns, no link has faults
  pub none_failed : (limit : ℕ) (history : List (Entry Call)) (number : ℕ) (lines : List PortLine) (jobs : List Before) (ended : List (Ended L)) → AreFresh lines jobs
      → AreSessions limit 0 history number jobs (afters traffic faults ended) → all_made (ends_of ended) ≡ true → NoFault faults (map (λ session. session.link) ended)
  none_failed limit history number lines [] [] fresh all made = tt
  none_failed limit history number lines [] (e ∷ es) fresh all made = absurd all
  none_failed limit history number lines (j ∷ js) [] fresh all made = absurd all
  none_failed limit history number [] (j ∷ js) (e ∷ es) fresh all made = absurd fresh
  none_failed limit history number (l ∷ ls) (j ∷ js) (e ∷ es) fresh all made = go (is_all e.end) refl (none_failed limit history (number + 1) ls js es fresh.1 all.1) made
    where
      go : (b : Bool) → is_all e.end ≡ b → (all_made (ends_of es) ≡ true → NoFault faults (map (λ session. session.link) es)) → (b && all_made (ends_of es)) ≡ true → NoFault faults (map (λ session. session.link) (e ∷ es))
      go true here rest made = (link_quiet j.faults (faults e.link) limit all.0.rest (length (received_of all.0.steps)) e.end all.0.ends here ∙ fresh.0.quiet, rest made)
      go false here rest made = absurd (cc made)

  -- ---- statuses

  module _ (limit : ℕ) (calls : List Call) (lines : List PortLine) (w w' : Option (List ℕ)) (f f' : ℕ) (old new : PortsSeen L) where
    -- memory ran out
    pub ends_starved : Appends w w' [] → f' ≡ f → new.faults ≡ old.faults → Ends traffic faults name limit calls lines w w' f f' old new 6
    ends_starved none kept quiet = record {
      done = λ e. absurd (omega arith);
      sink = λ e. absurd (omega arith);
      unwritten = λ e. absurd (omega arith);
      memory = λ e. (none, inl quiet);
      ports = λ e. absurd (omega arith);
      failed = λ e. absurd (omega arith);
      only = inr (inr (inl refl));
      first_fault = starved_once kept;
      calm = λ e. absurd (omega arith);
    }

    -- a port wasn't bound
    pub ends_unbound : Appends w w' [] → f' ≡ f → WasUnbound traffic faults name lines old new → Ends traffic faults name limit calls lines w w' f f' old new 7
    ends_unbound none kept unbound = record {
      done = λ e. absurd (omega arith);
      sink = λ e. absurd (omega arith);
      unwritten = λ e. absurd (omega arith);
      memory = λ e. absurd (omega arith);
      ports = λ e. rose_by old.faults new.faults unbound.once;
      failed = λ e. inl (unbound, none);
      only = inr (inr (inr refl));
      first_fault = at_seven kept;
      calm = λ e. absurd (omega arith);
    }

    -- sessions ended
    pub ends_served : (status : ℕ) (ended : List (Ended L)) → HasServed traffic faults name limit calls lines old new ended → (SomeFault faults (map (λ session. session.link) ended) → Rose old.faults new.faults)
        → (NoFault faults (map (λ session. session.link) ended) → new.faults ≡ old.faults) → EndsWith (ends_of ended) w w' f f' status → Ends traffic faults name limit calls lines w w' f f' old new status
    ends_served status ended served rose calm ends = record {
      done = λ e. (ended, served, (ends.done e).0, (ends.done e).1);
      sink = λ e. (ends.sink e).0;
      unwritten = λ e. (ended, served, (ends.sink e).1);
      memory = λ e. (ends.memory e, inr (ended, served));
      ports = λ e. rose (some_failed limit served.served.history 1 lines served.jobs ended served.fresh served.served.each (ends.failed e).0);
      failed = λ e. inr (ended, served, (ends.failed e).0, (ends.failed e).1);
      only = ends.only;
      first_fault = ends.first_fault;
      calm = λ e. calm (none_failed limit served.served.history 1 lines served.jobs ended served.fresh served.served.each (ends.done e).0);
    }

    -- memory ran out for the first calls
    pub acts_starved : new ≡ old → Appends w w' [] → f' ≡ f → Acts traffic faults name limit calls lines w w' f f' old new 6
    acts_starved same none kept = record {
      done = λ e. absurd (omega arith);
      sink = λ e. absurd (omega arith);
      unwritten = λ e. absurd (omega arith);
      memory = λ e. inl (none, same);
      ports = λ e. absurd (omega arith);
      failed = λ e. absurd (omega arith);
      only = inr (inr (inl refl));
      first_fault = starved_once kept;
      calm = λ e. absurd (omega arith);
    }

    -- the sink failed in the replies to them
    pub acts_unwritten : new ≡ old → f' ≡ raised f → WritesPart w w' (first_text calls) → Acts traffic faults name limit calls lines w w' f f' old new 4
    acts_unwritten same once part = record {
      done = λ e. absurd (omega arith);
      sink = λ e. rose_by f f' once;
      unwritten = λ e. inl (part, same);
      memory = λ e. absurd (omega arith);
      ports = λ e. absurd (omega arith);
      failed = λ e. absurd (omega arith);
      only = inr (inl refl);
      first_fault = first_fault_by 0 0 f f' (Err SinkFault) (record { reading = refl; writing = once });
      calm = λ e. absurd (omega arith);
    }

  -- the replies to the first calls were written, and then came the ports
  pub acts_behind : (limit : ℕ) (calls : List Call) (lines : List PortLine) (w w1 w' : Option (List ℕ)) (f f1 f' : ℕ) (old new : PortsSeen L) (status : ℕ) → f1 ≡ f → Appends w w1 (first_text calls)
      → Ends traffic faults name limit calls lines w1 w' f1 f' old new status → Acts traffic faults name limit calls lines w w' f f' old new status
  acts_behind limit calls lines w w1 w' f f1 f' old new status kept first ends = record {
    done = λ e. let d = ends.done e in (d.0, d.1, d.2, appends_both w w1 w' (first_text calls) (ends_text 1 (ends_of d.0)) first d.3);
    sink = λ e. subst (λ (n : ℕ). Rose n f') kept (ends.sink e);
    unwritten = λ e. let u = ends.unwritten e in inr (u.0, u.1, part_after w w1 w' (first_text calls) (ends_text 1 (ends_of u.0)) first u.2);
    memory = λ e. inr (subst (λ (text : List ℕ). Appends w w' text) (append-nil (first_text calls)) (appends_both w w1 w' (first_text calls) [] first (ends.memory e).0), (ends.memory e).1);
    ports = ends.ports;
    failed = λ e. by_failure (ends.failed e);
    only = ends.only;
    first_fault = subst (λ (n : ℕ). FirstFault 0 0 n f' status) kept ends.first_fault;
    calm = ends.calm;
  }
    where
      by_failure : (WasUnbound traffic faults name lines old new × Appends w1 w' [])
          ⊎ ((ended : List (Ended L)) × HasServed traffic faults name limit calls lines old new ended × (all_made (ends_of ended) ≡ false) × Appends w1 w' (ends_text 1 (ends_of ended)))
          → (WasUnbound traffic faults name lines old new × Appends w w' (first_text calls))
          ⊎ ((ended : List (Ended L)) × HasServed traffic faults name limit calls lines old new ended × (all_made (ends_of ended) ≡ false) × Appends w w' (first_text calls ++ ends_text 1 (ends_of ended)))
      by_failure (inl u) = inl (u.0, subst (λ (text : List ℕ). Appends w w' text) (append-nil (first_text calls)) (appends_both w w1 w' (first_text calls) [] first u.1))
      by_failure (inr d) = inr (d.0, d.1, d.2, appends_both w w1 w' (first_text calls) (ends_text 1 (ends_of d.0)) first d.3)

-- ---- the ports that the sessions returned

module _ {L : Type 0} (traffic : L → Option Traffic) (faults : L → ℕ) where
  -- each job's port was released
  pub ended_count : (limit : ℕ) (calls : List Call) (jobs : List (Job L)) (ended : List (Ended L)) → HaveServed limit calls (befores traffic faults jobs) (afters traffic faults ended) → length ended ≡ length jobs
  ended_count limit calls jobs ended served =
      sym (length-map ended (λ session. job_after session.end (traffic session.link) (faults session.link)))
      ∙ (sym (same_count limit served.history 1 (befores traffic faults jobs) (afters traffic faults ended) served.each)
      ∙ length-map jobs (λ job. job_before job.role (traffic job.link) (faults job.link)))

  pub ends_are : (ended : List (Ended L)) → map (λ after. after.end) (afters traffic faults ended) ≡ ends_of ended
  ends_are [] = refl
  ends_are (e ∷ es) = ap (λ (ends : List SessionEnd). e.end ∷ ends) (ends_are es)

  pub all_unworn : (limit : ℕ) (calls : List Call) (jobs : List Before) (ended : List (Ended L)) → HaveServed limit calls jobs (afters traffic faults ended) → AreUnworn (ends_of ended)
  all_unworn limit calls jobs ended served = subst AreUnworn (ends_are ended) served.unworn

-- ---- no text was written before

pub appends_behind : (w w1 w' : Option (List ℕ)) (text : List ℕ) → Appends w w1 [] → Appends w1 w' text → Appends w w' text
appends_behind w w1 w' text none more = appends_both w w1 w' [] text none more

pub acts_before : {L : Type 0} (traffic : L → Option Traffic) (faults name : L → ℕ) (limit : ℕ) (calls : List Call) (lines : List PortLine) (w w1 w' : Option (List ℕ)) (f f1 f' : ℕ) (old new : PortsSeen L) (status : ℕ) → f1 ≡ f → Appends w w1 []
    → Acts traffic faults name limit calls lines w1 w' f1 f' old new status → Acts traffic faults name limit calls lines w w' f f' old new status
acts_before {L} traffic faults name limit calls lines w w1 w' f f1 f' old new status kept none acts = record {
  done = λ e. let d = acts.done e in (d.0, d.1, d.2, appends_behind w w1 w' _ none d.3);
  sink = λ e. subst (λ (n : ℕ). Rose n f') kept (acts.sink e);
  unwritten = λ e. by_part (acts.unwritten e);
  memory = λ e. by_memory (acts.memory e);
  ports = acts.ports;
  failed = λ e. by_failure (acts.failed e);
  only = acts.only;
  first_fault = subst (λ (n : ℕ). FirstFault 0 0 n f' status) kept acts.first_fault;
  calm = acts.calm;
}
  where
    by_part : (WritesPart w1 w' (first_text calls) × (new ≡ old)) ⊎ ((ended : List (Ended L)) × HasServed traffic faults name limit calls lines old new ended × WritesPart w1 w' (first_text calls ++ ends_text 1 (ends_of ended)))
        → (WritesPart w w' (first_text calls) × (new ≡ old)) ⊎ ((ended : List (Ended L)) × HasServed traffic faults name limit calls lines old new ended × WritesPart w w' (first_text calls ++ ends_text 1 (ends_of ended)))
    by_part (inl part) = inl (part_after w w1 w' [] (first_text calls) none part.0, part.1)
    by_part (inr d) = inr (d.0, d.1, part_after w w1 w' [] (first_text calls ++ ends_text 1 (ends_of d.0)) none d.2)

    by_memory : (Appends w1 w' [] × (new ≡ old)) ⊎ (Appends w1 w' (first_text calls) × Starved traffic faults name limit calls lines old new)
        → (Appends w w' [] × (new ≡ old)) ⊎ (Appends w w' (first_text calls) × Starved traffic faults name limit calls lines old new)
    by_memory (inl a) = inl (appends_behind w w1 w' [] none a.0, a.1)
    by_memory (inr a) = inr (appends_behind w w1 w' (first_text calls) none a.0, a.1)

    by_failure : (WasUnbound traffic faults name lines old new × Appends w1 w' (first_text calls))
        ⊎ ((ended : List (Ended L)) × HasServed traffic faults name limit calls lines old new ended × (all_made (ends_of ended) ≡ false) × Appends w1 w' (first_text calls ++ ends_text 1 (ends_of ended)))
        → (WasUnbound traffic faults name lines old new × Appends w w' (first_text calls))
        ⊎ ((ended : List (Ended L)) × HasServed traffic faults name limit calls lines old new ended × (all_made (ends_of ended) ≡ false) × Appends w w' (first_text calls ++ ends_text 1 (ends_of ended)))
    by_failure (inl u) = inl (u.0, appends_behind w w1 w' (first_text calls) none u.1)
    by_failure (inr d) = inr (d.0, d.1, d.2, appends_behind w w1 w' (first_text calls ++ ends_text 1 (ends_of d.0)) none d.3)

-- the statuses of a configuration, and those if nothing fails
pub acts_only : (status : ℕ) → (status ≡ 0) ⊎ (status ≡ 4) ⊎ (status ≡ 6) ⊎ (status ≡ 7) → (status ≡ 0) ⊎ (status ≡ 3) ⊎ (status ≡ 4) ⊎ (status ≡ 5) ⊎ (status ≡ 6) ⊎ (status ≡ 7)
acts_only status (inl is) = inl is
acts_only status (inr (inl is)) = inr (inr (inl is))
acts_only status (inr (inr (inl is))) = inr (inr (inr (inr (inl is))))
acts_only status (inr (inr (inr is))) = inr (inr (inr (inr (inr is))))

pub acts_complete : (status a a' b b' : ℕ) → (status ≡ 4 → Rose a a') → (status ≡ 7 → Rose b b') → (status ≡ 0) ⊎ (status ≡ 4) ⊎ (status ≡ 6) ⊎ (status ≡ 7) → ¬ (Rose a a') → ¬ (Rose b b') → (status ≡ 0) ⊎ (status ≡ 5) ⊎ (status ≡ 6)
acts_complete status a a' b b' sink ports (inl is) calm quiet = inl is
acts_complete status a a' b b' sink ports (inr (inl is)) calm quiet = absurd (calm (sink is))
acts_complete status a a' b b' sink ports (inr (inr (inl is))) calm quiet = inr (inr is)
acts_complete status a a' b b' sink ports (inr (inr (inr is))) calm quiet = absurd (quiet (ports is))

pub ok_of : {T E : Type 0} {P : Type 0} (r : Result T E) → is_err r ≡ false → OnOk r P → P
ok_of (Ok x) is p = p
ok_of (Err e) is p = absurd (cc is)
