-- The finished runs of a list of marks are its whole cuts.
use Rattle.std.proofs.Common.{◌≡◌, ◌+◌, ◌<◌, ◌≤◌, ℕ, arith, Bool, true, false, List, [], ◌∷◌, ◌++◌, refl, sym, subst, ap, ◌∙◌, cond, true≢false, ◌&&◌, map, not, length, append_assoc, append-nil}
use Rattle.std.specs.Prelude.{◌==◌, nat_lt}
use Rattle.std.specs.Bool.{beq}
use Rattle.std.proofs.lemmas.Bool.{eqb-true, eq-eqb, ltb-true, lt-ltb, and_parts, not-true}
use Rattle.std.specs.List.{AllByRecursion}
use Rattle.std.specs.declared.option.Option.{Option}
use Rattle.std.specs.declared.option.Option.TheVariants.{None, Some}
use Rattle.forwarding_model.specs.frames.Cuts.{Part, Mark, Run, parts_of, is_next, begun, continued, extended, run_of, whole, cut_of, LastAloneEnds, Join, JoinSoFar, IsWholeCut, IsUnfinishedCut, without_padding, NewestIsPart, newest_first, EndsIn}
use Rattle.forwarding_model.specs.frames.Cuts.Mark.{Gone, Padding, Unreadable, Read}

pub beq-true : (a b : Bool) → beq a b ≡ true → a ≡ b
beq-true true true e = refl
beq-true true false e = absurd (true≢false (sym e))
beq-true false true e = absurd (true≢false (sym e))
beq-true false false e = refl

-- ---- lists that grow at their end

pub all-append : {X : Type 0} (P : X → Type 0) (xs : List X) (x : X) → AllByRecursion P xs → P x → AllByRecursion P (xs ++ x ∷ [])
all-append P [] x h p = (p, tt)
all-append P (y ∷ ys) x h p = (h.0, all-append P ys x h.1 p)

length-append_one : {X : Type 0} (xs : List X) (x : X) → length (xs ++ x ∷ []) ≡ length xs + 1
length-append_one [] x = refl
length-append_one (y ∷ ys) x = let e = length-append_one ys x in omega arith

pub newest_first-append : {X : Type 0} (xs : List (Part X)) (x : Part X) → newest_first (xs ++ x ∷ []) ≡ Read x ∷ newest_first xs
newest_first-append [] x = refl
newest_first-append (y ∷ ys) x = ap (λ l. l ++ Read y ∷ []) (newest_first-append ys x)

-- the elements of these parts join; `now` says whether one is open after them
abbrev pub JoinsTo : {X : Type 0} → Bool → List (Part X) → Bool → Type 0
JoinsTo open_element [] now = open_element ≡ now
JoinsTo open_element (part ∷ more) now = (part.continues ≡ open_element) × JoinsTo part.carries more now

joins_to-append : {X : Type 0} (o : Bool) (xs : List (Part X)) (x : Part X) (now : Bool) → JoinsTo o xs now → x.continues ≡ now → JoinsTo o (xs ++ x ∷ []) x.carries
joins_to-append o [] x now h e = (e ∙ sym h, refl)
joins_to-append o (y ∷ ys) x now h e = (h.0, joins_to-append y.carries ys x now h.1 e)

pub join_closed : {X : Type 0} (o : Bool) (xs : List (Part X)) (now : Bool) → JoinsTo o xs now → now ≡ false → Join o xs
join_closed o [] now h e = h ∙ e
join_closed o (x ∷ xs) now h e = (h.0, join_closed x.carries xs now h.1 e)

-- no part but the last has an end; `now` is the end bit of the last part
abbrev pub EndsWith : {X : Type 0} → List (Part X) → Bool → Type 0
EndsWith [] now = ⊥
EndsWith (part ∷ []) now = part.end ≡ now
EndsWith (part ∷ next ∷ more) now = (part.end ≡ false) × EndsWith (next ∷ more) now

ends_with-append : {X : Type 0} (xs : List (Part X)) (x : Part X) → EndsWith xs false → EndsWith (xs ++ x ∷ []) x.end
ends_with-append [] x h = absurd h
ends_with-append (y ∷ []) x h = (h, refl)
ends_with-append (y ∷ z ∷ zs) x h = (h.0, ends_with-append (z ∷ zs) x h.1)

pub last_ends : {X : Type 0} (xs : List (Part X)) (now : Bool) → EndsWith xs now → now ≡ true → LastAloneEnds xs
last_ends [] now h e = h
last_ends (x ∷ []) now h e = h ∙ e
last_ends (x ∷ y ∷ ys) now h e = (h.0, last_ends (y ∷ ys) now h.1 e)

-- turns a list of parts with the newest first into one with the oldest first
abbrev oldest_first : {X : Type 0} → List (Part X) → List (Part X)
oldest_first [] = []
oldest_first (part ∷ older) = oldest_first older ++ part ∷ []

-- ---- the properties of a run

pub record IsRunOf {X : Type 0} (marks : List (Mark X)) (run : Run X) : Type 0 where
  pub few : length run.more + 1 ≤ 512
  pub start : run.first.start ≡ true
  pub more_start : AllByRecursion (λ p. p.start ≡ false) run.more
  pub number : AllByRecursion (λ p. p.number ≡ run.first.number) run.more
  pub joins : JoinsTo false (parts_of run) run.newest.carries
  pub ends : EndsWith (parts_of run) run.newest.end
  pub older : List (Mark X)
  pub adjacent : without_padding marks ≡ newest_first (parts_of run) ++ older

abbrev pub IsRunFound : {X : Type 0} → List (Mark X) → Option (Run X) → Type 0
IsRunFound marks None = Unit {0}
IsRunFound marks (Some run) = IsRunOf marks run

begun_found : {X : Type 0} (past : List (Mark X)) (part : Part X) → part.start ≡ true → IsRunFound (Read part ∷ past) (begun part)
begun_found past part st = go part.continues refl
  where
    go : (b : Bool) → part.continues ≡ b → IsRunFound (Read part ∷ past) (cond b None (Some (record { first = part; more = []; newest = part })))
    go true e = tt
    go false e =
        record {
          few = omega arith;
          start = st;
          more_start = tt;
          number = tt;
          joins = (e, refl);
          ends = refl;
          older = without_padding past;
          adjacent = refl;
        }

not_false : (b : Bool) → not b ≡ true → b ≡ false
not_false false h = refl
not_false true h = absurd (true≢false (sym h))

continued_found : {X : Type 0} (past : List (Mark X)) (o : Option (Run X)) (part : Part X) → part.start ≡ false → IsRunFound past o → IsRunFound (Read part ∷ past) (continued o part)
continued_found past None part st h = tt
continued_found {X} past (Some run) part st h = go (is_next run part) refl
  where
    next : Run X
    next = record { first = run.first; more = run.more ++ part ∷ []; newest = part }

    go : (b : Bool) → is_next run part ≡ b → IsRunFound (Read part ∷ past) (cond b (Some next) None)
    go false e = tt
    go true e =
        let a = and_parts (not run.newest.end) _ e in
        let b = and_parts (part.number == run.first.number) (beq part.continues run.newest.carries && nat_lt (length run.more + 1) 512) a.1 in
        let c = and_parts (beq part.continues run.newest.carries) (nat_lt (length run.more + 1) 512) b.1 in
        let fits : length run.more + 1 < 512 = ltb-true _ _ c.1 in
        let longer : length (run.more ++ part ∷ []) ≡ length run.more + 1 = length-append_one run.more part in
        let opened : EndsWith (parts_of run) false = subst (EndsWith (parts_of run)) (not_false run.newest.end a.0) h.ends in
        record {
          few = omega arith;
          start = h.start;
          more_start = all-append (λ p. p.start ≡ false) run.more part h.more_start st;
          number = all-append (λ p. p.number ≡ run.first.number) run.more part h.number (eqb-true part.number run.first.number b.0);
          joins = joins_to-append false (parts_of run) part run.newest.carries h.joins (beq-true part.continues run.newest.carries c.0);
          ends = ends_with-append (parts_of run) part opened;
          older = h.older;
          adjacent = ap (λ l. Read part ∷ l) h.adjacent ∙ ap (λ l. l ++ h.older) (sym (newest_first-append (parts_of run) part));
        }

padded_found : {X : Type 0} (past : List (Mark X)) (o : Option (Run X)) → IsRunFound past o → IsRunFound (Padding ∷ past) o
padded_found past None h = tt
padded_found past (Some run) h =
    record { few = h.few; start = h.start; more_start = h.more_start; number = h.number; joins = h.joins; ends = h.ends; older = h.older; adjacent = h.adjacent }

pub run_found : {X : Type 0} (marks : List (Mark X)) → IsRunFound marks (run_of marks)
run_found [] = tt
run_found (Gone ∷ past) = tt
run_found (Padding ∷ past) = padded_found past (run_of past) (run_found past)
run_found (Unreadable ∷ past) = tt
run_found (Read part ∷ past) = go part.start refl (run_found past)
  where
    go : (b : Bool) → part.start ≡ b → IsRunFound past (run_of past) → IsRunFound (Read part ∷ past) (cond b (begun part) (continued (run_of past) part))
    go true e h = begun_found past part e
    go false e h = continued_found past (run_of past) part e h

-- ---- a cut that is found is whole, and is at the end

cut_from_run : {X : Type 0} (marks : List (Mark X)) (o : Option (Run X)) (run : Run X) → IsRunFound marks o → NewestIsPart marks → whole o ≡ Some run
    → IsWholeCut (parts_of run) × EndsIn marks (parts_of run)
cut_from_run marks None run h newest e = absurd (grind arith)
cut_from_run {X} marks (Some found) run h newest e = go (found.newest.end && not found.newest.carries) refl e
  where
    here : (found.newest.end && not found.newest.carries) ≡ true → IsWholeCut (parts_of found) × EndsIn marks (parts_of found)
    here t =
        let a = and_parts found.newest.end (not found.newest.carries) t in (
          record {
            few = (let few = h.few in omega arith);
            starts = (h.start, h.more_start);
            ends = last_ends (parts_of found) found.newest.end h.ends a.0;
            number = h.number;
            joins = join_closed false (parts_of found) found.newest.carries h.joins (not-true found.newest.carries a.1);
          },
          record { newest = newest; older = h.older; adjacent = h.adjacent },
        )

    go : (b : Bool) → (found.newest.end && not found.newest.carries) ≡ b → cond b (Some found) None ≡ Some run → IsWholeCut (parts_of run) × EndsIn marks (parts_of run)
    go false t k = absurd (grind arith)
    go true t k = let same : found ≡ run = cc in subst (λ (r : Run X). IsWholeCut (parts_of r) × EndsIn marks (parts_of r)) same (here t)

pub cut_is_whole : {X : Type 0} (marks : List (Mark X)) (run : Run X) → cut_of marks ≡ Some run → IsWholeCut (parts_of run) × EndsIn marks (parts_of run)
cut_is_whole [] run e = absurd (grind arith)
cut_is_whole (Gone ∷ past) run e = absurd (grind arith)
cut_is_whole (Padding ∷ past) run e = absurd (grind arith)
cut_is_whole (Unreadable ∷ past) run e = absurd (grind arith)
cut_is_whole (Read part ∷ past) run e = cut_from_run (Read part ∷ past) (run_of (Read part ∷ past)) run (run_found (Read part ∷ past)) tt e

-- ---- a whole cut at the end is found

-- the parts of a run, the newest first
abbrev IsRunBack : {X : Type 0} → List (Part X) → Type 0
IsRunBack [] = ⊥
IsRunBack (part ∷ []) = (part.start ≡ true) × (part.continues ≡ false)
IsRunBack (part ∷ before ∷ older) =
    (part.start ≡ false) × (part.number ≡ before.number) × (part.continues ≡ before.carries) × (before.end ≡ false) × (length (before ∷ older) < 512) × IsRunBack (before ∷ older)

pub record IsFound {X : Type 0} (marks : List (Mark X)) (newest : Part X) (older : List (Part X)) : Type 0 where
  pub run : Run X
  pub found : run_of marks ≡ Some run
  pub parts : parts_of run ≡ oldest_first (newest ∷ older)
  pub newest_is : run.newest ≡ newest
  pub number : run.first.number ≡ newest.number
  pub size : length run.more ≡ length older

beq_same : (a b : Bool) → a ≡ b → beq a b ≡ true
beq_same true b e = rw (← e) refl
beq_same false b e = rw (← e) refl

found_first : {X : Type 0} (past : List (Mark X)) (part : Part X) → part.start ≡ true → part.continues ≡ false → IsFound (Read part ∷ past) part []
found_first past part st c =
    record { run = record { first = part; more = []; newest = part }; found = rw (st, c) refl; parts = refl; newest_is = refl; number = refl; size = refl }

extended_more : {X : Type 0} (o : Option (Run X)) (part : Part X) → part.start ≡ false → extended o (Read part) ≡ continued o part
extended_more o part st = ap (λ b. cond b (begun part) (continued o part)) st

found_next : {X : Type 0} (past : List (Mark X)) (part before : Part X) (older : List (Part X)) → IsFound past before older
    → part.start ≡ false → part.number ≡ before.number → part.continues ≡ before.carries → before.end ≡ false → length (before ∷ older) < 512
    → IsFound (Read part ∷ past) part (before ∷ older)
found_next {X} past part before older h st n j e few =
    record {
      run = next;
      found = extended_more (run_of past) part st ∙ ap (λ o. continued o part) h.found ∙ ap (λ b. cond b (Some next) None) goes;
      parts = ap (λ l. l ++ part ∷ []) h.parts;
      newest_is = refl;
      number = h.number ∙ sym n;
      size = let longer = length-append_one h.run.more part in let same = h.size in omega arith;
    }
  where
    next : Run X
    next = record { first = h.run.first; more = h.run.more ++ part ∷ []; newest = part }

    ended : h.run.newest.end ≡ false
    ended = ap (λ (p : Part X). p.end) h.newest_is ∙ e

    carries : part.continues ≡ h.run.newest.carries
    carries = j ∙ sym (ap (λ (p : Part X). p.carries) h.newest_is)

    goes : is_next h.run part ≡ true
    goes =
        rw (
          ended,
          eq-eqb part.number h.run.first.number (n ∙ sym h.number),
          beq_same part.continues h.run.newest.carries carries,
          lt-ltb (length h.run.more + 1) 512 (let same = h.size in omega arith),
        ) refl

padded : {X : Type 0} (past : List (Mark X)) (part : Part X) (older : List (Part X)) → IsFound past part older → IsFound (Padding ∷ past) part older
padded past part older h = record { run = h.run; found = h.found; parts = h.parts; newest_is = h.newest_is; number = h.number; size = h.size }

back_found : {X : Type 0} (marks : List (Mark X)) (part : Part X) (older : List (Part X)) (rest : List (Mark X)) → without_padding marks ≡ map Read (part ∷ older) ++ rest
    → IsRunBack (part ∷ older) → IsFound marks part older
back_found [] part older rest e h = absurd (grind arith)
back_found (Gone ∷ past) part older rest e h = absurd (grind arith)
back_found (Unreadable ∷ past) part older rest e h = absurd (grind arith)
back_found (Padding ∷ past) part older rest e h = padded past part older (back_found past part older rest e h)
back_found (Read p ∷ past) part [] rest e h =
    let same : p ≡ part = cc in
    subst (λ x. IsFound (Read x ∷ past) part []) (sym same) (found_first past part h.0 h.1)
back_found (Read p ∷ past) part (before ∷ older) rest e h =
    let same : p ≡ part = cc in
    let tail : without_padding past ≡ map Read (before ∷ older) ++ rest = cc in
    subst (λ x. IsFound (Read x ∷ past) part (before ∷ older)) (sym same)
    (found_next past part before older (back_found past before older rest tail h.5) h.0 h.1 h.2 h.3 h.4)

-- from the oldest first to the newest first
abbrev onto : {X : Type 0} → List (Part X) → List (Part X) → List (Part X)
onto back [] = back
onto back (part ∷ more) = onto (part ∷ back) more

oldest_first-onto : {X : Type 0} (back parts : List (Part X)) → oldest_first (onto back parts) ≡ oldest_first back ++ parts
oldest_first-onto back [] = sym (append-nil (oldest_first back))
oldest_first-onto back (part ∷ more) = oldest_first-onto (part ∷ back) more ∙ append_assoc (oldest_first back) (part ∷ []) more

reads-onto : {X : Type 0} (back parts : List (Part X)) (rest : List (Mark X)) → newest_first parts ++ (map Read back ++ rest) ≡ map Read (onto back parts) ++ rest
reads-onto back [] rest = refl
reads-onto back (part ∷ more) rest = append_assoc (newest_first more) (Read part ∷ []) (map Read back ++ rest) ∙ reads-onto (part ∷ back) more rest

-- parts with the newest first that can be the run of a list of marks, and a property of the newest part
pub record IsBack {X : Type 0} (P : Part X → Type 0) (back : List (Part X)) : Type 0 where
  pub newest : Part X
  pub older : List (Part X)
  pub is : back ≡ newest ∷ older
  pub run : IsRunBack (newest ∷ older)
  pub last : P newest

-- of a part and those after it, none but the last has an end, and the last part has the property P
abbrev pub LastHas : {X : Type 0} → (Part X → Type 0) → Part X → List (Part X) → Type 0
LastHas P part [] = P part
LastHas P part (next ∷ more) = (part.end ≡ false) × LastHas P next more

run_back : {X : Type 0} (P : Part X → Type 0) (number : ℕ) (newest : Part X) (older parts : List (Part X)) → IsRunBack (newest ∷ older) → newest.number ≡ number
    → length older + 1 + length parts ≤ 512 → AllByRecursion (λ p. p.start ≡ false) parts → AllByRecursion (λ p. p.number ≡ number) parts
    → LastHas P newest parts → JoinSoFar newest.carries parts → IsBack P (onto (newest ∷ older) parts)
run_back P number newest older [] run n few starts numbers last joins = record { newest = newest; older = older; is = refl; run = run; last = last }
run_back P number newest older (part ∷ more) run n few starts numbers last joins =
    run_back P number part (newest ∷ older) more (starts.0, numbers.0 ∙ sym n, joins.0, last.0, omega arith, run) numbers.0
    (omega arith) starts.1 numbers.1 last.1 joins.1

-- the newest part of a whole cut ends it, with no element open
abbrev pub EndsClosed : {X : Type 0} → Part X → Type 0
EndsClosed part = (part.end ≡ true) × (part.carries ≡ false)

last_closed : {X : Type 0} (part : Part X) (more : List (Part X)) → LastAloneEnds (part ∷ more) → Join part.carries more → LastHas EndsClosed part more
last_closed part [] ends joins = (ends, joins)
last_closed part (next ∷ more) ends joins = (ends.0, last_closed next more ends.1 joins.1)

join_so_far : {X : Type 0} (o : Bool) (parts : List (Part X)) → Join o parts → JoinSoFar o parts
join_so_far o [] joins = tt
join_so_far o (part ∷ more) joins = (joins.0, join_so_far part.carries more joins.1)

pub record IsCutFound {X : Type 0} (marks : List (Mark X)) (parts : List (Part X)) : Type 0 where
  pub run : Run X
  pub found : cut_of marks ≡ Some run
  pub is : parts_of run ≡ parts

cut_at_part : {X : Type 0} (marks : List (Mark X)) → NewestIsPart marks → cut_of marks ≡ whole (run_of marks)
cut_at_part [] n = absurd n
cut_at_part (Gone ∷ past) n = absurd n
cut_at_part (Padding ∷ past) n = absurd n
cut_at_part (Unreadable ∷ past) n = absurd n
cut_at_part (Read part ∷ past) n = refl

found_cut : {X : Type 0} (marks : List (Mark X)) (newest : Part X) (older parts : List (Part X)) → NewestIsPart marks → IsFound marks newest older
    → newest.end ≡ true → newest.carries ≡ false → oldest_first (newest ∷ older) ≡ parts → IsCutFound marks parts
found_cut {X} marks newest older parts n h end carries e =
    record {
      run = h.run;
      found = cut_at_part marks n ∙ ap whole h.found ∙ rw (ap (λ (p : Part X). p.end) h.newest_is ∙ end, ap (λ (p : Part X). p.carries) h.newest_is ∙ carries) refl;
      is = h.parts ∙ e;
    }

-- parts at the end of the marks, the newest first, are found as a run
marks_found : {X : Type 0} (marks : List (Mark X)) (part : Part X) (more : List (Part X)) → EndsIn marks (part ∷ more) → (newest : Part X) (older : List (Part X))
    → onto (part ∷ []) more ≡ newest ∷ older → IsRunBack (newest ∷ older) → IsFound marks newest older
marks_found marks part more at newest older is run =
    let marked : without_padding marks ≡ map Read (onto (part ∷ []) more) ++ at.older
    = at.adjacent ∙ append_assoc (newest_first more) (Read part ∷ []) at.older ∙ reads-onto (part ∷ []) more at.older in
    back_found marks newest older at.older (marked ∙ ap (λ l. map Read l ++ at.older) is) run

pub whole_is_cut : {X : Type 0} (marks : List (Mark X)) (part : Part X) (more : List (Part X)) → EndsIn marks (part ∷ more) → IsWholeCut (part ∷ more)
    → IsCutFound marks (part ∷ more)
whole_is_cut {X} marks part more at cut =
    let back : IsBack EndsClosed (onto (part ∷ []) more) = run_back EndsClosed part.number part [] more (cut.starts.0, cut.joins.0) refl
    (let few = cut.few in omega arith) cut.starts.1 cut.number (last_closed part more cut.ends cut.joins.1) (join_so_far part.carries more cut.joins.1) in
    found_cut marks back.newest back.older (part ∷ more) at.newest (marks_found marks part more at back.newest back.older back.is back.run)
    back.last.0 back.last.1
    (ap oldest_first (sym back.is) ∙ oldest_first-onto (part ∷ []) more)

-- ---- a run that continues is an unfinished cut

none_ends : {X : Type 0} (parts : List (Part X)) → EndsWith parts false → AllByRecursion (λ p. p.end ≡ false) parts
none_ends [] h = absurd h
none_ends (part ∷ []) h = (h, tt)
none_ends (part ∷ next ∷ more) h = (h.0, none_ends (next ∷ more) h.1)

joined_so_far : {X : Type 0} (o : Bool) (parts : List (Part X)) (now : Bool) → JoinsTo o parts now → JoinSoFar o parts
joined_so_far o [] now h = tt
joined_so_far o (part ∷ more) now h = (h.0, joined_so_far part.carries more now h.1)

pub open_run_is_unfinished : {X : Type 0} (marks : List (Mark X)) (run : Run X) → IsRunOf marks run → run.newest.end ≡ false → IsUnfinishedCut (parts_of run)
open_run_is_unfinished marks run h goes_on =
    record {
      few = (let few = h.few in omega arith);
      starts = (h.start, h.more_start);
      ends = none_ends (parts_of run) (subst (EndsWith (parts_of run)) goes_on h.ends);
      number = h.number;
      joins = joined_so_far false (parts_of run) run.newest.carries h.joins;
    }

pub run_is_unfinished : {X : Type 0} (past : List (Mark X)) (part : Part X) (run : Run X) → run_of (Read part ∷ past) ≡ Some run → run.newest.end ≡ false
    → IsUnfinishedCut (parts_of run) × EndsIn (Read part ∷ past) (parts_of run)
run_is_unfinished past part run e goes_on =
    let h : IsRunOf (Read part ∷ past) run = subst (IsRunFound (Read part ∷ past)) e (run_found (Read part ∷ past)) in
    (open_run_is_unfinished (Read part ∷ past) run h goes_on, record { newest = tt; older = h.older; adjacent = h.adjacent })

last_open : {X : Type 0} (part : Part X) (more : List (Part X)) → AllByRecursion (λ p. p.end ≡ false) (part ∷ more) → LastHas (λ p. p.end ≡ false) part more
last_open part [] h = h.0
last_open part (next ∷ more) h = (h.0, last_open next more h.1)

pub record IsOngoing {X : Type 0} (marks : List (Mark X)) (parts : List (Part X)) : Type 0 where
  pub run : Run X
  pub found : run_of marks ≡ Some run
  pub is : parts_of run ≡ parts
  pub goes_on : run.newest.end ≡ false

pub unfinished_is_run : {X : Type 0} (marks : List (Mark X)) (part : Part X) (more : List (Part X)) → EndsIn marks (part ∷ more) → IsUnfinishedCut (part ∷ more)
    → IsOngoing marks (part ∷ more)
unfinished_is_run {X} marks part more at cut =
    let back : IsBack (λ p. p.end ≡ false) (onto (part ∷ []) more) = run_back (λ p. p.end ≡ false) part.number part [] more (cut.starts.0, cut.joins.0) refl
    (let few = cut.few in omega arith) cut.starts.1 cut.number (last_open part more cut.ends) cut.joins.1 in
    let h = marks_found marks part more at back.newest back.older back.is back.run in
    record {
      run = h.run;
      found = h.found;
      is = h.parts ∙ ap oldest_first (sym back.is) ∙ oldest_first-onto (part ∷ []) more;
      goes_on = ap (λ (p : Part X). p.end) h.newest_is ∙ back.last;
    }
