-- What a command has done, by its status.
use Rattle.std.proofs.Common.{◌≡◌, ◌≢◌, ◌<◌, ◌⊎◌, inl, inr, ℕ, List, ◌++◌, refl, sym, ap, ◌∙◌, subst, arith, Option, Some, None, Result, Ok, Err}
use Rattle.std.specs.Prelude.{IfSome, IsOk}
use Rattle.std.specs.Io.KnownBytes.{Consumes, IsAtEnd}
use Rattle.sfu_base.specs.Faults.{Rose, raised}
use Rattle.sfu_driver.specs.declared.halt.Ending.{Ending}
use Rattle.sfu_driver.specs.declared.halt.Ending.TheVariants as ending
use Rattle.sfu_driver.specs.declared.halt.Halt.TheVariants.{Ended, Starved}
use Rattle.sfu_driver.specs.declared.halt.Interruption.{Interruption}
use Rattle.sfu_driver.specs.declared.halt.Interruption.TheVariants.{SourceFault, SinkFault, Halted}
use Rattle.sfu_driver.specs.Outcome.{End, Outcome, takes, then_due}
use Rattle.sfu_driver.specs.Drive.{CauseOf, Drove, DroveBehind, DroveBy, WritesFront, end_by}
use Rattle.sfu_driver.specs.Statuses.{Completes, Decides, FirstFault, IsPrompt, KeptOrCut, OfEvery, SaysOf, Statuses, StatusesBehind, due_of, end_of, full_text, status_for, status_of}
use Rattle.sfu_driver.proofs.Driving.{ToldBy, begun_of, told, told_begun}
use Rattle.sfu_driver.proofs.Counting.{rose_by}

if_some : (left : Option (List ℕ)) (P Q : List ℕ → Type 0) → ((b : List ℕ) → P b → Q b) → IfSome left P → IfSome left Q
if_some None P Q f p = tt
if_some (Some b) P Q f p = f b p

always : (left : Option (List ℕ)) (P : Type 0) → P → IfSome left (λ bytes. P)
always None P p = tt
always (Some b) P p = p

pub no_end : {S : Type 0} (r : Result S End) → IsOk r → end_of r ≡ None
no_end (Ok s) is = refl
no_end (Err end) is = absurd cc

ended_by : {S : Type 0} (r : Result S End) (end : End) → r ≡ Err end → end_of r ≡ Some end
ended_by {S} r end is = ap (λ (x : Result S End). end_of x) is

goes_by : {S : Type 0} (r : Result S End) (s : S) → r ≡ Ok s → end_of r ≡ None
goes_by {S} r s is = ap (λ (x : Result S End). end_of x) is

completes_none : (e : Option End) (status : ℕ) → e ≡ None → (status ≡ 0) ⊎ (status ≡ 6) → Completes e status
completes_none e status is either = subst (λ (x : Option End). Completes x status) (sym is) either

completes_some : (e : Option End) (end : End) (status : ℕ) → e ≡ Some end → status ≡ status_of end.why → Completes e status
completes_some e end status is same = subst (λ (x : Option End). Completes x status) (sym is) (inl same)

completes_six : (e : Option End) → Completes e 6
completes_six None = inr refl
completes_six (Some end) = inr refl

-- a number that isn't the status of an input
pub no_status : (n : ℕ) (why : Ending) → (n < 5) ⊎ (n ≡ 6) → n ≡ status_of why → ⊥
no_status n ending.Outside other is = omega arith
no_status n ending.Complaint other is = omega arith
no_status n ending.Obu other is = omega arith

status_above : (why : Ending) (n : ℕ) → status_of why ≡ n → (n < 5) ⊎ (n ≡ 6) → ⊥
status_above why n is other = no_status n why other (sym is)

neither : (n : ℕ) → (n ≡ 0) ⊎ (n ≡ 6) → n ≢ 0 → n ≢ 6 → ⊥
neither n (inl is) a b = a is
neither n (inr is) a b = b is

pub not_seven : (why : Ending) → status_of why ≡ 7 → ⊥
not_seven ending.Outside is = absurd (omega arith)
not_seven ending.Complaint is = absurd (omega arith)
not_seven ending.Obu is = absurd (omega arith)

neither_ending : (why : Ending) → (status_of why ≡ 0) ⊎ (status_of why ≡ 6) → ⊥
neither_ending why (inl is) = status_above why 0 is (inl (omega arith))
neither_ending why (inr is) = status_above why 6 is (inr refl)

same_why : (why other : Ending) → status_of why ≡ status_of other → why ≡ other
same_why ending.Outside ending.Outside is = refl
same_why ending.Outside ending.Complaint is = absurd (omega arith)
same_why ending.Complaint ending.Outside is = absurd (omega arith)
same_why ending.Complaint ending.Complaint is = refl
same_why ending.Outside ending.Obu is = absurd (omega arith)
same_why ending.Complaint ending.Obu is = absurd (omega arith)
same_why ending.Obu ending.Outside is = absurd (omega arith)
same_why ending.Obu ending.Complaint is = absurd (omega arith)
same_why ending.Obu ending.Obu is = refl

-- the count of faults of a source whose first read succeeded is that before the read
pub cause_since : (g0 g g' f f' : ℕ) (result : Result (Unit {0}) Interruption) → g ≡ g0 → CauseOf g g' f f' result → CauseOf g0 g' f f' result
cause_since g0 g g' f f' result same cause = subst (λ (n : ℕ). CauseOf n g' f f' result) same cause

-- the facts about known bytes, for every source
told_if : {U S T : Type 0} (stands : U → T → Type 0) (byte : S → ℕ → Outcome S) (ends : S → Outcome T) (s : S) (new : U) (left left' w w' : Option (List ℕ)) (f f' : ℕ) (result : Result (Unit {0}) Interruption)
    → Drove stands byte ends s new left left' w w' f f' result → IfSome left (λ b. ToldBy byte ends s b left' w w' f f' result)
told_if stands byte ends s new None left' w w' f f' result d = tt
told_if stands byte ends s new (Some b) left' w w' f f' result d = told stands byte ends s b new left' w w' f f' result d

-- the bytes that were read before the last piece don't end the command
abbrev pub prompt_of : {U S T : Type 0} (stands : U → T → Type 0) (byte : S → ℕ → Outcome S) (ends : S → Outcome T) (s : S) (new : U) (left left' w w' : Option (List ℕ)) (f f' : ℕ) (result : Result (Unit {0}) Interruption)
    → Drove stands byte ends s new left left' w w' f f' result → IsPrompt (λ taken. due_of (takes byte s taken)) left left' w w'
prompt_of stands byte ends s new left left' w w' f f' result d = record {
  earlier = d.earlier;
  piece = d.piece;
  consumed = d.consumed;
  small = d.small;
  goes = no_end (takes byte s d.earlier).result d.first.0;
  wrote = λ some. (d.first.1, d.first.2);
}

prompt_by : {U S T : Type 0} (stands : U → T → Type 0) (byte : S → ℕ → Outcome S) (ends : S → Outcome T) (s : S) (new : U) (left left' w w' : Option (List ℕ)) (f f' : ℕ) (result : Result (Unit {0}) Interruption)
    → Drove stands byte ends s new left left' w w' f f' result → IfSome left (λ b. IsPrompt (λ taken. due_of (takes byte s taken)) left left' w w')
prompt_by stands byte ends s new left left' w w' f f' result d = always left _ (prompt_of stands byte ends s new left left' w w' f f' result d)

begun_by : {U S T : Type 0} (stands : U → T → Type 0) (byte : S → ℕ → Outcome S) (ends : S → Outcome T) (s : S) (new : U) (left left' w w' : Option (List ℕ)) (f f' : ℕ) (result : Result (Unit {0}) Interruption)
    → Drove stands byte ends s new left left' w w' f f' result → IfSome left (λ b. WritesFront w w' (full_text (due_of (then_due (takes byte s b) ends))))
begun_by stands byte ends s new left left' w w' f f' result d =
    if_some left _ _ (λ b t. told_begun byte ends s b left' w w' f f' result t) (told_if stands byte ends s new left left' w w' f f' result d)

-- the command ended in these bytes, or at the end of all bytes
decided_by : {S : Type 0} (byte : S → ℕ → Outcome S) (s : S) (taken : List ℕ) (why other : Ending) (left' : Option (List ℕ)) → why ≡ other → ((last : List ℕ) × ((takes byte s taken).result ≡ Err (end_by why last))) ⊎ IsAtEnd left'
    → Decides (λ bytes. due_of (takes byte s bytes)) other left' taken
decided_by byte s taken why other left' same (inl bad) =
    inl (bad.0, ended_by (takes byte s taken).result (end_by why bad.0) bad.1 ∙ ap (λ (e : Ending). Some (end_by e bad.0)) same)
decided_by byte s taken why other left' same (inr end) = inr end

-- ---- for every source

-- the meaning of a status for the bytes that were taken
pub says_by : {U S T : Type 0} (stands : U → T → Type 0) (byte : S → ℕ → Outcome S) (ends : S → Outcome T) (s : S) (taken : List ℕ) (new : U) (left' w w' : Option (List ℕ)) (f f' : ℕ) (result : Result (Unit {0}) Interruption)
    → DroveBy stands byte ends s taken new left' w w' f f' result
    → SaysOf (λ bytes. due_of (then_due (takes byte s bytes) ends)) (λ bytes. due_of (takes byte s bytes)) taken left' w w' f f' (status_for result)
says_by {U} {S} {T} stands byte ends s taken new left' w w' f f' (Ok _) d = record {
  done = λ e. (d.0, goes_by (then_due (takes byte s taken) ends).result d.1.0 d.1.1, d.1.3);
  judged = λ e. absurd (omega arith);
  unwritten = λ e. absurd (omega arith);
  ended = λ why e. absurd (no_status 0 why (inl (omega arith)) e);
  memory = λ e. absurd (omega arith);
  begun = begun_of stands byte ends s taken new left' w w' f f' (Ok tt) d;
}
says_by {U} {S} {T} stands byte ends s taken new left' w w' f f' (Err SourceFault) d = record {
  done = λ e. absurd (omega arith);
  judged = λ e. (no_end (takes byte s taken).result d.0, d.1);
  unwritten = λ e. absurd (omega arith);
  ended = λ why e. absurd (no_status 3 why (inl (omega arith)) e);
  memory = λ e. absurd (omega arith);
  begun = begun_of stands byte ends s taken new left' w w' f f' (Err SourceFault) d;
}
says_by {U} {S} {T} stands byte ends s taken new left' w w' f f' (Err SinkFault) d = record {
  done = λ e. absurd (omega arith);
  judged = λ e. absurd (omega arith);
  unwritten = λ e. d;
  ended = λ why e. absurd (no_status 4 why (inl (omega arith)) e);
  memory = λ e. absurd (omega arith);
  begun = begun_of stands byte ends s taken new left' w w' f f' (Err SinkFault) d;
}
says_by {U} {S} {T} stands byte ends s taken new left' w w' f f' (Err (Halted Starved)) d = record {
  done = λ e. absurd (omega arith);
  judged = λ e. absurd (omega arith);
  unwritten = λ e. absurd (omega arith);
  ended = λ why e. absurd (no_status 6 why (inr refl) e);
  memory = λ e. (d.front, d.more, d.split, no_end (takes byte s d.front).result d.goes, d.wrote);
  begun = begun_of stands byte ends s taken new left' w w' f f' (Err (Halted Starved)) d;
}
says_by {U} {S} {T} stands byte ends s taken new left' w w' f f' (Err (Halted (Ended why))) d = record {
  done = λ e. absurd (status_above why 0 e (inl (omega arith)));
  judged = λ e. absurd (status_above why 3 e (inl (omega arith)));
  unwritten = λ e. absurd (status_above why 4 e (inl (omega arith)));
  ended = λ other e.
      let same = same_why why other e in (
        decided_by byte s taken why other left' same d.0,
        d.1.0,
        ended_by (then_due (takes byte s taken) ends).result (end_by why d.1.0) d.1.1 ∙ ap (λ (k : Ending). Some (end_by k d.1.0)) same,
        d.1.2,
      );
  memory = λ e. absurd (status_above why 6 e (inr refl));
  begun = begun_of stands byte ends s taken new left' w w' f f' (Err (Halted (Ended why))) d;
}

pub completes_by : {U S T : Type 0} (stands : U → T → Type 0) (byte : S → ℕ → Outcome S) (ends : S → Outcome T) (s : S) (taken : List ℕ) (new : U) (left' w w' : Option (List ℕ)) (g g' f f' : ℕ) (result : Result (Unit {0}) Interruption)
    → CauseOf g g' f f' result → DroveBy stands byte ends s taken new left' w w' f f' result → ¬ (Rose g g') → ¬ (Rose f f') → Completes (end_of (then_due (takes byte s taken) ends).result) (status_for result)
completes_by stands byte ends s taken new left' w w' g g' f f' (Ok _) cause d a c = completes_none (end_of (then_due (takes byte s taken) ends).result) 0 (goes_by (then_due (takes byte s taken) ends).result d.1.0 d.1.1) (inl refl)
completes_by stands byte ends s taken new left' w w' g g' f f' (Err SourceFault) cause d a c = absurd (a (rose_by g g' cause.reading))
completes_by stands byte ends s taken new left' w w' g g' f f' (Err SinkFault) cause d a c = absurd (c (rose_by f f' cause.writing))
completes_by stands byte ends s taken new left' w w' g g' f f' (Err (Halted Starved)) cause d a c = completes_six (end_of (then_due (takes byte s taken) ends).result)
completes_by stands byte ends s taken new left' w w' g g' f f' (Err (Halted (Ended why))) cause d a c =
    completes_some (end_of (then_due (takes byte s taken) ends).result) (end_by why d.1.0) (status_of why) (ended_by (then_due (takes byte s taken) ends).result (end_by why d.1.0) d.1.1) refl

pub first_fault_by : (g g' f f' : ℕ) (result : Result (Unit {0}) Interruption) → CauseOf g g' f f' result → FirstFault g g' f f' (status_for result)
first_fault_by g g' f f' (Ok _) cause = record {
  none = λ e. (cause.reading, cause.writing);
  source = λ e. absurd (omega arith);
  sink = λ e. absurd (omega arith);
  ended = λ why e. absurd (no_status 0 why (inl (omega arith)) e);
  refused = λ e. absurd (omega arith);
  ports = λ e. absurd (omega arith);
}
first_fault_by g g' f f' (Err SourceFault) cause = record {
  none = λ e. absurd (neither 3 e (omega arith) (omega arith));
  source = λ e. (cause.reading, cause.writing);
  sink = λ e. absurd (omega arith);
  ended = λ why e. absurd (no_status 3 why (inl (omega arith)) e);
  refused = λ e. absurd (omega arith);
  ports = λ e. absurd (omega arith);
}
first_fault_by g g' f f' (Err SinkFault) cause = record {
  none = λ e. absurd (neither 4 e (omega arith) (omega arith));
  source = λ e. absurd (omega arith);
  sink = λ e. (cause.reading, cause.writing);
  ended = λ why e. absurd (no_status 4 why (inl (omega arith)) e);
  refused = λ e. absurd (omega arith);
  ports = λ e. absurd (omega arith);
}
first_fault_by g g' f f' (Err (Halted Starved)) cause = record {
  none = λ e. (cause.reading, cause.writing);
  source = λ e. absurd (omega arith);
  sink = λ e. absurd (omega arith);
  ended = λ why e. absurd (no_status 6 why (inr refl) e);
  refused = λ e. absurd (omega arith);
  ports = λ e. absurd (omega arith);
}
first_fault_by g g' f f' (Err (Halted (Ended why))) cause = record {
  none = λ e. absurd (neither_ending why e);
  source = λ e. absurd (status_above why 3 e (inl (omega arith)));
  sink = λ e. absurd (status_above why 4 e (inl (omega arith)));
  ended = λ other e. (cause.reading, cause.writing);
  refused = λ e. absurd (status_above why 2 e (inl (omega arith)));
  ports = λ e. absurd (not_seven why e);
}

-- the same if the reads before it succeeded, or if there were none
pub with_reads : (g g' f f' status : ℕ) → g' ≡ g → FirstFault 0 0 f f' status → FirstFault g g' f f' status
with_reads g g' f f' status kept x = record {
  none = λ e. (kept, (x.none e).1);
  source = λ e. absurd (zero_isnt (x.source e).0);
  sink = λ e. (kept, (x.sink e).1);
  ended = λ why e. (kept, (x.ended why e).1);
  refused = λ e. (kept, (x.refused e).1);
  ports = λ e. (kept, (x.ports e).1);
}
  where
    zero_isnt : 0 ≡ raised 0 → ⊥
    zero_isnt is = omega (arith, is)

-- arguments that aren't a command
pub at_two : (g f f' : ℕ) → KeptOrCut f f' → FirstFault g g f f' 2
at_two g f f' once = record {
  none = λ e. absurd (neither 2 e (omega arith) (omega arith));
  source = λ e. absurd (omega arith);
  sink = λ e. absurd (omega arith);
  ended = λ why e. absurd (no_status 2 why (inl (omega arith)) e);
  refused = λ e. (refl, once);
  ports = λ e. absurd (omega arith);
}

abbrev pub every_of : {U S T : Type 0} (stands : U → T → Type 0) (byte : S → ℕ → Outcome S) (ends : S → Outcome T) (s : S) (new : U) (left left' w w' : Option (List ℕ)) (g g' f f' : ℕ) (result : Result (Unit {0}) Interruption)
    → CauseOf g g' f f' result → Drove stands byte ends s new left left' w w' f f' result
    → OfEvery (λ bytes. due_of (then_due (takes byte s bytes) ends)) (λ taken. due_of (takes byte s taken)) left left' w w' g g' f f' (status_for result)
every_of stands byte ends s new left left' w w' g g' f f' result cause d = record {
  prompt = prompt_of stands byte ends s new left left' w w' f f' result d;
  bounded = d.bounded;
  says = says_by stands byte ends s (d.earlier ++ d.piece) new left' w w' f f' result d.by_result;
  complete = completes_by stands byte ends s (d.earlier ++ d.piece) new left' w w' g g' f f' result cause d.by_result;
  first_fault = first_fault_by g g' f f' result cause;
}

pub statuses : {U S T : Type 0} (stands : U → T → Type 0) (byte : S → ℕ → Outcome S) (ends : S → Outcome T) (s : S) (new : U) (left left' w w' : Option (List ℕ)) (g g' f f' : ℕ) (result : Result (Unit {0}) Interruption)
    → CauseOf g g' f f' result → Drove stands byte ends s new left left' w w' f f' result
    → Statuses (λ bytes. due_of (then_due (takes byte s bytes) ends)) (λ taken. due_of (takes byte s taken)) left left' w w' g g' f f' (status_for result)
statuses {U} {S} {T} stands byte ends s new left left' w w' g g' f f' (Ok _) cause d =
    let t = told_if stands byte ends s new left left' w w' f f' (Ok tt) d in record {
      done = λ e. if_some left _ _ (λ b x. (x.0, goes_by (then_due (takes byte s b) ends).result x.1.0 x.1.1, x.2)) t;
      source = λ e. absurd (omega arith);
      judged = λ e. absurd (omega arith);
      sink = λ e. absurd (omega arith);
      unwritten = λ e. absurd (omega arith);
      ended = λ why e. absurd (no_status 0 why (inl (omega arith)) e);
      decided = λ why e. absurd (no_status 0 why (inl (omega arith)) e);
      memory = λ e. absurd (omega arith);
      prompt = prompt_by stands byte ends s new left left' w w' f f' (Ok tt) d;
      begun = begun_by stands byte ends s new left left' w w' f f' (Ok tt) d;
      only = inl refl;
      complete = λ a c. if_some left _ _ (λ b x. completes_none (end_of (then_due (takes byte s b) ends).result) 0 (goes_by (then_due (takes byte s b) ends).result x.1.0 x.1.1) (inl refl)) t;
      every = every_of stands byte ends s new left left' w w' g g' f f' (Ok tt) cause d;
    }
statuses {U} {S} {T} stands byte ends s new left left' w w' g g' f f' (Err SourceFault) cause d =
    let t = told_if stands byte ends s new left left' w w' f f' (Err SourceFault) d in record {
      done = λ e. absurd (omega arith);
      source = λ e. rose_by g g' cause.reading;
      judged = λ e. always left _ (d.earlier ++ d.piece, d.consumed, no_end (takes byte s (d.earlier ++ d.piece)).result d.by_result.0, d.by_result.1);
      sink = λ e. absurd (omega arith);
      unwritten = λ e. absurd (omega arith);
      ended = λ why e. absurd (no_status 3 why (inl (omega arith)) e);
      decided = λ why e. absurd (no_status 3 why (inl (omega arith)) e);
      memory = λ e. absurd (omega arith);
      prompt = prompt_by stands byte ends s new left left' w w' f f' (Err SourceFault) d;
      begun = begun_by stands byte ends s new left left' w w' f f' (Err SourceFault) d;
      only = inr (inl refl);
      complete = λ a c. absurd (a (rose_by g g' cause.reading));
      every = every_of stands byte ends s new left left' w w' g g' f f' (Err SourceFault) cause d;
    }
statuses {U} {S} {T} stands byte ends s new left left' w w' g g' f f' (Err SinkFault) cause d =
    let t = told_if stands byte ends s new left left' w w' f f' (Err SinkFault) d in record {
      done = λ e. absurd (omega arith);
      source = λ e. absurd (omega arith);
      judged = λ e. absurd (omega arith);
      sink = λ e. rose_by f f' cause.writing;
      unwritten = λ e. t;
      ended = λ why e. absurd (no_status 4 why (inl (omega arith)) e);
      decided = λ why e. absurd (no_status 4 why (inl (omega arith)) e);
      memory = λ e. absurd (omega arith);
      prompt = prompt_by stands byte ends s new left left' w w' f f' (Err SinkFault) d;
      begun = begun_by stands byte ends s new left left' w w' f f' (Err SinkFault) d;
      only = inr (inr (inl refl));
      complete = λ a c. absurd (c (rose_by f f' cause.writing));
      every = every_of stands byte ends s new left left' w w' g g' f f' (Err SinkFault) cause d;
    }
statuses {U} {S} {T} stands byte ends s new left left' w w' g g' f f' (Err (Halted Starved)) cause d =
    let t = told_if stands byte ends s new left left' w w' f f' (Err (Halted Starved)) d in record {
      done = λ e. absurd (omega arith);
      source = λ e. absurd (omega arith);
      judged = λ e. absurd (omega arith);
      sink = λ e. absurd (omega arith);
      unwritten = λ e. absurd (omega arith);
      ended = λ why e. absurd (no_status 6 why (inr refl) e);
      decided = λ why e. absurd (no_status 6 why (inr refl) e);
      memory = λ e. always left _ (d.by_result.front, d.by_result.more, subst (Consumes left left') d.by_result.split d.consumed, no_end (takes byte s d.by_result.front).result d.by_result.goes, d.by_result.wrote);
      prompt = prompt_by stands byte ends s new left left' w w' f f' (Err (Halted Starved)) d;
      begun = begun_by stands byte ends s new left left' w w' f f' (Err (Halted Starved)) d;
      only = inr (inr (inr (inl refl)));
      complete = λ a c. if_some left _ _ (λ b x. completes_six (end_of (then_due (takes byte s b) ends).result)) t;
      every = every_of stands byte ends s new left left' w w' g g' f f' (Err (Halted Starved)) cause d;
    }
statuses {U} {S} {T} stands byte ends s new left left' w w' g g' f f' (Err (Halted (Ended why))) cause d =
    let t = told_if stands byte ends s new left left' w w' f f' (Err (Halted (Ended why))) d in record {
      done = λ e. absurd (status_above why 0 e (inl (omega arith)));
      source = λ e. absurd (status_above why 3 e (inl (omega arith)));
      judged = λ e. absurd (status_above why 3 e (inl (omega arith)));
      sink = λ e. absurd (status_above why 4 e (inl (omega arith)));
      unwritten = λ e. absurd (status_above why 4 e (inl (omega arith)));
      ended = λ other e. if_some left _ _ (λ b x. (x.0, ended_by (then_due (takes byte s b) ends).result (end_by why x.0) x.1 ∙ ap (λ (k : Ending). Some (end_by k x.0)) (same_why why other e), x.2)) t;
      decided = λ other e. always left _ (d.earlier ++ d.piece, d.consumed, decided_by byte s (d.earlier ++ d.piece) why other left' (same_why why other e) d.by_result.0);
      memory = λ e. absurd (status_above why 6 e (inr refl));
      prompt = prompt_by stands byte ends s new left left' w w' f f' (Err (Halted (Ended why))) d;
      begun = begun_by stands byte ends s new left left' w w' f f' (Err (Halted (Ended why))) d;
      only = inr (inr (inr (inr (d.earlier ++ d.piece, end_by why d.by_result.1.0, ended_by (then_due (takes byte s (d.earlier ++ d.piece)) ends).result (end_by why d.by_result.1.0) d.by_result.1.1, refl))));
      complete = λ a c. if_some left _ _ (λ b x. completes_some (end_of (then_due (takes byte s b) ends).result) (end_by why x.0) (status_of why) (ended_by (then_due (takes byte s b) ends).result (end_by why x.0) x.1) refl) t;
      every = every_of stands byte ends s new left left' w w' g g' f f' (Err (Halted (Ended why))) cause d;
    }

-- the same after a first read
pub statuses_behind : {U S T : Type 0} (first : List ℕ) (stands : U → T → Type 0) (byte : S → ℕ → Outcome S) (ends : S → Outcome T) (s : S) (new : U) (left left' w w' : Option (List ℕ)) (g g' f f' : ℕ) (result : Result (Unit {0}) Interruption)
    → CauseOf g g' f f' result → DroveBehind first stands byte ends s new left left' w w' f f' result
    → StatusesBehind first (λ bytes. due_of (then_due (takes byte s bytes) ends)) (λ taken. due_of (takes byte s taken)) left left' w w' g g' f f' (status_for result)
statuses_behind first stands byte ends s new left left' w w' g g' f f' result cause d = record {
  statuses = statuses stands byte ends s new left left' w w' g g' f f' result cause d.drove;
  every = every_of stands byte ends s new left left' w w' g g' f f' result cause d.drove;
  begins = d.begins;
}
