-- The end of the input, and the whole input.
use Rattle.std.proofs.Common.{◌≡◌, ◌≤◌, ℕ, ◌⊎◌, inl, inr, List, [], ◌++◌, refl, sym, ap, ◌∙◌, subst, Option, Some, None, Result, Ok, Err, append_assoc, append-nil}
use Rattle.std.specs.Io.KnownBytes.{Appends, IsAtEnd}
use Rattle.std.proofs.KnownBytes.{Appends-trans}
use Rattle.sfu_driver.specs.declared.halt.Ending.{Ending}
use Rattle.sfu_driver.specs.declared.halt.Halt.TheVariants.{Ended, Starved}
use Rattle.sfu_driver.specs.declared.halt.Interruption.{Interruption}
use Rattle.sfu_driver.specs.declared.halt.Interruption.TheVariants.{SourceFault, SinkFault, Halted}
use Rattle.sfu_driver.specs.Outcome.{End, Outcome, before, takes, then_due}
use Rattle.sfu_driver.specs.Drive.{Drove, DroveBy, EndsBy, Fed, HaltsFor, Starves, Stopped, Took, WritesEnd, WritesFor, WritesFront, WritesPart, end_by}
use Rattle.sfu_driver.specs.Statuses.{due_of, end_of, full_text, last_text}
use Rattle.sfu_driver.proofs.Takes.{takes_err, takes_front, then_err, then_front, then_ok}
use Rattle.sfu_driver.proofs.Fronts.{end_after, end_front, front_all, front_longer, part_after, part_front, part_longer}
use Rattle.sfu_driver.proofs.Feeding.{all_flushed, goes_ok}

-- ---- the end

-- ---- the command stopped before the end

pub stopped_drove : {U S T : Type 0} (wants : S → Type 0) (stands : U → T → Type 0) (byte : S → ℕ → Outcome S) (ends : S → Outcome T) (s : S) (bytes : List ℕ) (new : U) (left' w w' : Option (List ℕ)) (f f' : ℕ) (stop : Interruption)
    → Stopped wants stop byte s bytes [] w w' f f' → DroveBy stands byte ends s bytes new left' w w' f f' (Err stop)
stopped_drove wants stands byte ends s bytes new left' w w' f f' SourceFault b = b
stopped_drove wants stands byte ends s bytes new left' w w' f f' SinkFault b = inl b.1
stopped_drove {U} {S} {T} wants stands byte ends s bytes new left' w w' f f' (Halted (Ended why)) b =
    let due = then_err (takes byte s bytes) (end_by why b.0) ends b.1 in (
      inl (b.0, b.1),
      (b.0, ap (λ (o : Outcome T). o.result) due, subst (λ (text : List ℕ). WritesEnd w w' f f' text b.0) (sym (ap (λ (o : Outcome T). o.text) due)) b.2),
    )
stopped_drove wants stands byte ends s bytes new left' w w' f f' (Halted Starved) b = b.writes

-- ---- the command reached the end

pub ended_drove : {U V S T : Type 0} (at : V → S → Type 0) (stands : U → T → Type 0) (byte : S → ℕ → Outcome S) (ends : S → Outcome T) (s : S) (bytes : List ℕ) (u : V) (new : U) (r : List ℕ) (left' w0 w1 w2 : Option (List ℕ)) (f0 f1 f2 : ℕ)
    (result : Result (Unit {0}) Interruption) → f0 ≤ f1 → (a : Fed at byte s bytes u [] r w0 w1) → r ≡ [] → IsAtEnd left' → EndsBy stands (ends a.later) new w1 w2 f1 f2 result
    → DroveBy stands byte ends s bytes new left' w0 w2 f0 f2 result
ended_drove {U} {V} {S} {T} at stands byte ends s bytes u new r left' w0 w1 w2 f0 f1 f2 result le a empty end e =
    by_result result (then_ok (takes byte s bytes) a.later ends a.goes) (all_flushed at byte s bytes u [] r w0 w1 refl empty a) e
  where
    by_result : (x : Result (Unit {0}) Interruption) → then_due (takes byte s bytes) ends ≡ before (takes byte s bytes).text (ends a.later) → Appends w0 w1 (takes byte s bytes).text
        → EndsBy stands (ends a.later) new w1 w2 f1 f2 x → DroveBy stands byte ends s bytes new left' w0 w2 f0 f2 x
    by_result (Ok _) due first e = (
      end,
      (
        e.0,
        ap (λ (o : Outcome T). o.result) due ∙ e.1,
        e.2,
        subst (Appends w0 w2) (sym (ap (λ (o : Outcome T). o.text) due)) (Appends-trans w0 w1 w2 (takes byte s bytes).text (ends a.later).text first e.3),
      ),
    )
    by_result (Err SourceFault) due first e = absurd e
    by_result (Err SinkFault) due first e = inr (end, subst (WritesPart w0 w2) (sym (ap (λ (o : Outcome T). o.text) due)) (part_after w0 w1 w2 (takes byte s bytes).text (ends a.later).text first e))
    by_result (Err (Halted (Ended why))) due first e = (
      inr end,
      (
        e.0,
        ap (λ (o : Outcome T). o.result) due ∙ e.1,
        subst (λ (text : List ℕ). WritesEnd w0 w2 f0 f2 text e.0) (sym (ap (λ (o : Outcome T). o.text) due)) (end_after w0 w1 w2 f0 f1 f2 (takes byte s bytes).text (ends a.later).text e.0 le first e.2),
      ),
    )
    by_result (Err (Halted Starved)) due first e = record {
      front = bytes;
      more = [];
      split = sym (append-nil bytes);
      goes = goes_ok (takes byte s bytes).result a.later a.goes;
      wrote = subst (Appends w0 w2) (append-nil (takes byte s bytes).text) (Appends-trans w0 w1 w2 (takes byte s bytes).text [] first e);
    }

-- ---- contracts see the whole input

-- The facts about a command whose whole input contracts see, by the reason why it stopped.
abbrev pub ToldBy : {S T : Type 0} → (S → ℕ → Outcome S) → (S → Outcome T) → S → List ℕ → Option (List ℕ) → Option (List ℕ) → Option (List ℕ) → ℕ → ℕ → Result (Unit {0}) Interruption → Type 0
ToldBy {S} {T} byte ends s all left' w w' f f' (Ok _) = IsAtEnd left' × ((later : T) × ((then_due (takes byte s all) ends).result ≡ Ok later)) × Appends w w' (then_due (takes byte s all) ends).text
ToldBy {S} {T} byte ends s all left' w w' f f' (Err SourceFault) = WritesFor byte s all [] w w'
ToldBy {S} {T} byte ends s all left' w w' f f' (Err SinkFault) = WritesPart w w' (then_due (takes byte s all) ends).text
ToldBy {S} {T} byte ends s all left' w w' f f' (Err (Halted (Ended why))) =
    (last : List ℕ) × ((then_due (takes byte s all) ends).result ≡ Err (end_by why last)) × WritesEnd w w' f f' (then_due (takes byte s all) ends).text last
ToldBy {S} {T} byte ends s all left' w w' f f' (Err (Halted Starved)) = WritesFor byte s all [] w w'

-- the text of a prefix of the input is a prefix of the whole text
whole_front : {S T : Type 0} (byte : S → ℕ → Outcome S) (ends : S → Outcome T) (s : S) (xs ys : List ℕ) → (more : List ℕ) × ((then_due (takes byte s (xs ++ ys)) ends).text ≡ (takes byte s xs).text ++ more)
whole_front byte ends s xs ys =
    let more = takes_front byte s xs ys in
    let last = then_front (takes byte s (xs ++ ys)) ends in
    (more.0 ++ last.0, last.1 ∙ ap (λ (text : List ℕ). text ++ last.0) more.1 ∙ append_assoc (takes byte s xs).text more.0 last.0)

at_end : (taken r : List ℕ) → IsAtEnd (Some r) → taken ++ r ≡ taken
at_end taken r end = ap (λ (xs : List ℕ). taken ++ xs) end ∙ append-nil taken

-- the command ended in the first bytes, or at the end of all bytes
all_due : {S T : Type 0} (byte : S → ℕ → Outcome S) (ends : S → Outcome T) (s : S) (xs r : List ℕ) (why : Ending) → ((last : List ℕ) × ((takes byte s xs).result ≡ Err (end_by why last))) ⊎ IsAtEnd (Some r)
    → then_due (takes byte s (xs ++ r)) ends ≡ then_due (takes byte s xs) ends
all_due {S} {T} byte ends s xs r why (inl bad) =
    ap (λ (o : Outcome S). then_due o ends) (takes_err byte s xs r (end_by why bad.0) bad.1) ∙ sym (then_err (takes byte s xs) (end_by why bad.0) ends bad.1)
all_due {S} {T} byte ends s xs r why (inr end) = ap (λ (bytes : List ℕ). then_due (takes byte s bytes) ends) (at_end xs r end)

more_for : {S : Type 0} (byte : S → ℕ → Outcome S) (s : S) (xs r : List ℕ) (w w' : Option (List ℕ)) → WritesFor byte s xs [] w w' → WritesFor byte s (xs ++ r) [] w w'
more_for byte s xs r w w' b = record {
  front = b.front;
  more = b.more ++ r;
  split = ap (λ (zs : List ℕ). zs ++ r) b.split ∙ append_assoc b.front b.more r;
  goes = b.goes;
  wrote = b.wrote;
}

told_of : {U S T : Type 0} (stands : U → T → Type 0) (byte : S → ℕ → Outcome S) (ends : S → Outcome T) (s : S) (xs r : List ℕ) (new : U) (w w' : Option (List ℕ)) (f f' : ℕ) (result : Result (Unit {0}) Interruption)
    → DroveBy stands byte ends s xs new (Some r) w w' f f' result → ToldBy byte ends s (xs ++ r) (Some r) w w' f f' result
told_of {U} {S} {T} stands byte ends s xs r new w w' f f' (Ok _) d =
    subst (λ (bytes : List ℕ). ToldBy byte ends s bytes (Some r) w w' f f' (Ok tt)) (sym (at_end xs r d.0)) (d.0, (d.1.0, d.1.1), d.1.3)
told_of stands byte ends s xs r new w w' f f' (Err SourceFault) d = record { front = xs; more = r; split = refl; goes = d.0; wrote = d.1 }
told_of stands byte ends s xs r new w w' f f' (Err SinkFault) (inl part) =
    let more = whole_front byte ends s xs r in subst (WritesPart w w') (sym more.1) (part_longer w w' (takes byte s xs).text more.0 part)
told_of stands byte ends s xs r new w w' f f' (Err SinkFault) (inr last) =
    subst (λ (bytes : List ℕ). ToldBy byte ends s bytes (Some r) w w' f f' (Err SinkFault)) (sym (at_end xs r last.0)) last.1
told_of {U} {S} {T} stands byte ends s xs r new w w' f f' (Err (Halted (Ended why))) d =
    let P : Outcome T → Type 0 = λ due. (last : List ℕ) × (due.result ≡ Err (end_by why last)) × WritesEnd w w' f f' due.text last in
    subst P (sym (all_due byte ends s xs r why d.0)) d.1
told_of stands byte ends s xs r new w w' f f' (Err (Halted Starved)) d = more_for byte s xs r w w' d

pub told : {U S T : Type 0} (stands : U → T → Type 0) (byte : S → ℕ → Outcome S) (ends : S → Outcome T) (s : S) (b : List ℕ) (new : U) (left' w w' : Option (List ℕ)) (f f' : ℕ) (result : Result (Unit {0}) Interruption)
    → Drove stands byte ends s new (Some b) left' w w' f f' result → ToldBy byte ends s b left' w w' f f' result
told stands byte ends s b new None w w' f f' result d = absurd d.consumed
told {U} {S} {T} stands byte ends s b new (Some r) w w' f f' result d =
    subst (λ (bytes : List ℕ). ToldBy byte ends s bytes (Some r) w w' f f' result) (sym d.consumed) (told_of stands byte ends s (d.earlier ++ d.piece) r new w w' f f' result d.by_result)

-- the text of a prefix of the input was written
front_of_all : {S T : Type 0} (byte : S → ℕ → Outcome S) (ends : S → Outcome T) (s : S) (all : List ℕ) (w w' : Option (List ℕ)) → WritesFor byte s all [] w w' → WritesFront w w' (then_due (takes byte s all) ends).text
front_of_all byte ends s all w w' b =
    let more = whole_front byte ends s b.front b.more in
    subst (WritesFront w w') (sym (ap (λ (bytes : List ℕ). (then_due (takes byte s bytes) ends).text) b.split ∙ more.1)) (front_longer w w' (takes byte s b.front).text more.0 (front_all w w' (takes byte s b.front).text b.wrote))

-- a prefix of the text that is due was written, whatever stopped the command
pub told_begun : {S T : Type 0} (byte : S → ℕ → Outcome S) (ends : S → Outcome T) (s : S) (all : List ℕ) (left' w w' : Option (List ℕ)) (f f' : ℕ) (result : Result (Unit {0}) Interruption)
    → ToldBy byte ends s all left' w w' f f' result → WritesFront w w' ((then_due (takes byte s all) ends).text ++ last_text (end_of (then_due (takes byte s all) ends).result))
told_begun {S} {T} byte ends s all left' w w' f f' result b =
    by_result result b
  where
    due : Outcome T
    due = then_due (takes byte s all) ends

    longer : WritesFront w w' due.text → WritesFront w w' (due.text ++ last_text (end_of due.result))
    longer front = front_longer w w' due.text (last_text (end_of due.result)) front

    by_result : (x : Result (Unit {0}) Interruption) → ToldBy byte ends s all left' w w' f f' x → WritesFront w w' (due.text ++ last_text (end_of due.result))
    by_result (Ok _) b = longer (front_all w w' due.text b.2)
    by_result (Err SourceFault) b = longer (front_of_all byte ends s all w w' b)
    by_result (Err SinkFault) b = longer (part_front w w' due.text b)
    by_result (Err (Halted (Ended why))) b =
        subst (λ (x : Result T End). WritesFront w w' (due.text ++ last_text (end_of x))) (sym b.1) (end_front w w' f f' due.text b.0 b.2)
    by_result (Err (Halted Starved)) b = longer (front_of_all byte ends s all w w' b)

-- the same for the bytes that were taken
taken_by : {U S T : Type 0} (stands : U → T → Type 0) (byte : S → ℕ → Outcome S) (ends : S → Outcome T) (s : S) (xs : List ℕ) (new : U) (left' w w' : Option (List ℕ)) (f f' : ℕ) (result : Result (Unit {0}) Interruption)
    → DroveBy stands byte ends s xs new left' w w' f f' result → ToldBy byte ends s xs left' w w' f f' result
taken_by stands byte ends s xs new left' w w' f f' (Ok _) d = (d.0, (d.1.0, d.1.1), d.1.3)
taken_by stands byte ends s xs new left' w w' f f' (Err SourceFault) d = record { front = xs; more = []; split = sym (append-nil xs); goes = d.0; wrote = d.1 }
taken_by stands byte ends s xs new left' w w' f f' (Err SinkFault) (inl part) =
    let more = then_front (takes byte s xs) ends in subst (WritesPart w w') (sym more.1) (part_longer w w' (takes byte s xs).text more.0 part)
taken_by stands byte ends s xs new left' w w' f f' (Err SinkFault) (inr last) = last.1
taken_by stands byte ends s xs new left' w w' f f' (Err (Halted (Ended why))) d = d.1
taken_by stands byte ends s xs new left' w w' f f' (Err (Halted Starved)) d = d

pub begun_of : {U S T : Type 0} (stands : U → T → Type 0) (byte : S → ℕ → Outcome S) (ends : S → Outcome T) (s : S) (xs : List ℕ) (new : U) (left' w w' : Option (List ℕ)) (f f' : ℕ) (result : Result (Unit {0}) Interruption)
    → DroveBy stands byte ends s xs new left' w w' f f' result → WritesFront w w' (full_text (due_of (then_due (takes byte s xs) ends)))
begun_of stands byte ends s xs new left' w w' f f' result d = told_begun byte ends s xs left' w w' f f' result (taken_by stands byte ends s xs new left' w w' f f' result d)

-- ---- causes

-- ---- the bytes and the end

abbrev pub drove_took : {U V S T : Type 0} (wants at : V → S → Type 0) (stands : U → T → Type 0) (byte : S → ℕ → Outcome S) (ends : S → Outcome T) (u u1 : V) (new : U) (r r1 : List ℕ) (left left' w0 w1 : Option (List ℕ)) (f0 f1 : ℕ) (stop : Interruption)
    → r ≡ [] → Took wants at byte u u1 r r1 left left' w0 w1 f0 f1 (Err stop) → (s : S) → at u s → Drove stands byte ends s new left left' w0 w1 f0 f1 (Err stop)
drove_took {U} {V} {S} {T} wants at stands byte ends u u1 new r r1 left left' w0 w1 f0 f1 stop none took s stand = record {
  earlier = took.earlier;
  piece = took.piece;
  consumed = took.consumed;
  small = took.small;
  bounded = took.bounded;
  first = took.first s stand;
  by_result = stopped_drove (wants u1) stands byte ends s (took.earlier ++ took.piece) new left' w0 w1 f0 f1 stop
      (subst (λ (xs : List ℕ). Stopped (wants u1) stop byte s (took.earlier ++ took.piece) xs w0 w1 f0 f1) none (took.feeds s stand));
}

-- for every result at the end, some text was written
pub some_end : {U T : Type 0} (stands : U → T → Type 0) (due : Outcome T) (new : U) (w w' : Option (List ℕ)) (f f' : ℕ) (result : Result (Unit {0}) Interruption) → EndsBy stands due new w w' f f' result → (text : List ℕ) × Appends w w' text
some_end stands due new w w' f f' (Ok _) e = (due.text, e.3)
some_end stands due new w w' f f' (Err SourceFault) e = absurd e
some_end stands due new w w' f f' (Err SinkFault) e = (e.text, e.wrote)
some_end stands due new w w' f f' (Err (Halted (Ended why))) e = (due.text ++ e.2.front, e.2.wrote)
some_end stands due new w w' f f' (Err (Halted Starved)) e = ([], e)

abbrev pub drove_ended : {U V S T : Type 0} (wants at : V → S → Type 0) (stands : U → T → Type 0) (byte : S → ℕ → Outcome S) (ends : S → Outcome T) (u u1 : V) (new : U) (r r1 : List ℕ) (left left' w0 w1 w2 : Option (List ℕ)) (f0 f1 f2 : ℕ)
    (result : Result (Unit {0}) Interruption) → f0 ≤ f1 → r ≡ [] → Took wants at byte u u1 r r1 left left' w0 w1 f0 f1 (Ok tt) → r1 ≡ [] → IsAtEnd left'
    → ((p : S) → at u1 p → EndsBy stands (ends p) new w1 w2 f1 f2 result) → (s : S) → at u s → Drove stands byte ends s new left left' w0 w2 f0 f2 result
drove_ended {U} {V} {S} {T} wants at stands byte ends u u1 new r r1 left left' w0 w1 w2 f0 f1 f2 result le none took empty end e s stand =
    let bytes = took.earlier ++ took.piece in
    let a : Fed at byte s bytes u1 [] r1 w0 w1 = subst (λ (xs : List ℕ). Fed at byte s bytes u1 xs r1 w0 w1) none (took.feeds s stand) in
    let last = e a.later a.at in
    let more = some_end stands (ends a.later) new w1 w2 f1 f2 result last in
    let text = (takes byte s took.earlier).text in
    let first = took.first s stand in record {
      earlier = took.earlier;
      piece = took.piece;
      consumed = took.consumed;
      small = took.small;
      bounded = took.bounded;
      first = (first.0, first.1 ++ more.0, subst (Appends w0 w2) (append_assoc text first.1 more.0) (Appends-trans w0 w1 w2 (text ++ first.1) more.0 first.2 more.1));
      by_result = ended_drove at stands byte ends s bytes u1 new r1 left' w0 w1 w2 f0 f1 f2 result le a empty end last;
    }

-- ---- out of memory

-- memory ran out for the bytes
pub starves_took : {U S : Type 0} (wants at : U → S → Type 0) (byte : S → ℕ → Outcome S) (u u1 : U) (r r1 : List ℕ) (left left' w w' : Option (List ℕ)) (f f' : ℕ) (stop : Interruption)
    → r ≡ [] → Took wants at byte u u1 r r1 left left' w w' f f' (Err stop) → (s : S) → at u s → Starves wants byte s u1 left left' w w' (Err stop)
starves_took wants at byte u u1 r r1 left left' w w' f f' SourceFault none took s stand = tt
starves_took wants at byte u u1 r r1 left left' w w' f f' SinkFault none took s stand = tt
starves_took wants at byte u u1 r r1 left left' w w' f f' (Halted (Ended why)) none took s stand = tt
starves_took wants at byte u u1 r r1 left left' w w' f f' (Halted Starved) none took s stand =
    let bytes = took.earlier ++ took.piece in
    (bytes, took.consumed, subst (λ (xs : List ℕ). HaltsFor (wants u1) byte s bytes xs w w') none (took.feeds s stand))

-- memory ran out for the end
pub starves_ended : {U S T : Type 0} (wants at : U → S → Type 0) (stands : U → T → Type 0) (byte : S → ℕ → Outcome S) (ends : S → Outcome T) (u u1 new : U) (r r1 : List ℕ) (left left' w0 w1 w2 : Option (List ℕ)) (f0 f1 f2 : ℕ)
    (result : Result (Unit {0}) Interruption) → r ≡ [] → Took wants at byte u u1 r r1 left left' w0 w1 f0 f1 (Ok tt) → r1 ≡ []
    → ((p : S) → at u1 p → EndsBy stands (ends p) new w1 w2 f1 f2 result) → (s : S) → at u s → Starves wants byte s new left left' w0 w2 result
starves_ended wants at stands byte ends u u1 new r r1 left left' w0 w1 w2 f0 f1 f2 (Ok _) none took empty e s stand = tt
starves_ended wants at stands byte ends u u1 new r r1 left left' w0 w1 w2 f0 f1 f2 (Err SourceFault) none took empty e s stand = tt
starves_ended wants at stands byte ends u u1 new r r1 left left' w0 w1 w2 f0 f1 f2 (Err SinkFault) none took empty e s stand = tt
starves_ended wants at stands byte ends u u1 new r r1 left left' w0 w1 w2 f0 f1 f2 (Err (Halted (Ended why))) none took empty e s stand = tt
starves_ended wants at stands byte ends u u1 new r r1 left left' w0 w1 w2 f0 f1 f2 (Err (Halted Starved)) none took empty e s stand =
    let bytes = took.earlier ++ took.piece in
    let a : Fed at byte s bytes u1 [] r1 w0 w1 = subst (λ (xs : List ℕ). Fed at byte s bytes u1 xs r1 w0 w1) none (took.feeds s stand) in
    let text = (takes byte s bytes).text in
    let first : Appends w0 w1 text = all_flushed at byte s bytes u1 [] r1 w0 w1 refl empty a in (
      bytes,
      took.consumed,
      record {
        writes = record {
          front = bytes;
          more = [];
          split = sym (append-nil bytes);
          goes = goes_ok (takes byte s bytes).result a.later a.goes;
          wrote = subst (Appends w0 w2) (append-nil text) (Appends-trans w0 w1 w2 text [] first (e a.later a.at));
        };
        later = a.later;
        goes = a.goes;
        at = inr refl;
      },
    )
