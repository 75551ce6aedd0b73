-- What contracts see after one more mark is what follows from the longer list of marks.
use Rattle.std.proofs.Common.{◌≡◌, ◌+◌, ℕ, arith, Bool, true, false, ◌&&◌, List, [], ◌∷◌, ◌++◌, map, length, cond, Option, Some, None, refl, sym, ap, ◌∙◌, subst}
use Rattle.std.specs.Prelude.{◌==◌, nat_lt}
use Rattle.std.specs.Bool.{beq}
use Rattle.std.proofs.lemmas.List.{length-map}
use Rattle.std.proofs.lemmas.Bool.{eqb-true, eq-eqb, and_parts}
use Rattle.forwarding_model.specs.frames.Cuts.{Part, Mark as CutMark, Run, is_next, begun as cut_begun, continued as cut_continued, extended, run_of, whole, outcome, run_outcome}
use Rattle.forwarding_model.specs.frames.Cuts.Mark.{Gone, Padding, Unreadable, Read}
use Rattle.frame_assembly.specs.declared.mark.Outcome.{Outcome}
use Rattle.frame_assembly.specs.Assembled.{IsAfter, Seen, Unfinished, answer, frame_of, packets_of, unfinished_of}
use Rattle.frame_assembly.specs.Steps.{answered, ended, made_of, pushed, with_part}

-- a run, whether or not it has ended
abbrev summary : Option (Run (List ℕ)) → Option Unfinished
summary None = None
summary (Some run) = Some (record { number = run.first.number; open_element = run.newest.carries; packets = packets_of run })

abbrev bytes_of : List (Part (List ℕ)) → List (List ℕ)
bytes_of parts = map (λ p. p.brings) parts

bytes-append : (parts : List (Part (List ℕ))) (part : Part (List ℕ)) → bytes_of (parts ++ part ∷ []) ≡ bytes_of parts ++ part.brings ∷ []
bytes-append [] part = refl
bytes-append (p ∷ ps) part = ap (λ (x : List (List ℕ)). p.brings ∷ x) (bytes-append ps part)

packet_count : (run : Run (List ℕ)) → length (packets_of run) ≡ length run.more + 1
packet_count run = let more : length (bytes_of run.more) ≡ length run.more = length-map run.more (λ (p : Part (List ℕ)). p.brings) in omega arith

started : (part : Part (List ℕ)) (u : Option Unfinished) → part.start ≡ true → with_part u part ≡ summary (cut_begun part)
started part u start = by part.continues refl
  where
    by : (b : Bool) → part.continues ≡ b → with_part u part ≡ summary (cut_begun part)
    by true e = rw (start, e, eq-eqb part.number part.number refl) refl
    by false e = rw (start, e, eq-eqb part.number part.number refl) refl

goes_on : (run : Run (List ℕ)) (part : Part (List ℕ)) → part.start ≡ false → run.newest.end ≡ false
    → with_part (unfinished_of (Some run)) part ≡ summary (cut_continued (Some run) part)
goes_on run part start end = by (is_next run part) refl
  where
    fits : Bool
    fits = part.number == run.first.number && (beq part.continues run.newest.carries && nat_lt (length run.more + 1) 512)

    next : is_next run part ≡ fits
    next = rw end refl

    same : with_part (unfinished_of (Some run)) part
        ≡ cond fits (Some (record { number = part.number; open_element = part.carries; packets = packets_of run ++ part.brings ∷ [] })) None
    same = rw (start, end, packet_count run) refl

    by : (b : Bool) → is_next run part ≡ b → with_part (unfinished_of (Some run)) part ≡ summary (cut_continued (Some run) part)
    by false e = same ∙ rw (sym next ∙ e, end) refl
    by true e =
        let number : part.number ≡ run.first.number = eqb-true part.number run.first.number (and_parts _ _ (sym next ∙ e)).0 in
        same ∙ rw (sym next ∙ e, end, bytes-append run.more part, number) refl

pub step : (o : Option (Run (List ℕ))) (part : Part (List ℕ)) → with_part (unfinished_of o) part ≡ summary (extended o (Read part))
step o part = by part.start refl
  where
    later : (o : Option (Run (List ℕ))) → part.start ≡ false → with_part (unfinished_of o) part ≡ summary (cut_continued o part)
    later None e = rw e refl
    later (Some run) e = at run.newest.end refl
      where
        at : (b : Bool) → run.newest.end ≡ b → with_part (unfinished_of (Some run)) part ≡ summary (cut_continued (Some run) part)
        at true end = rw (e, end) refl
        at false end = goes_on run part e end

    by : (b : Bool) → part.start ≡ b → with_part (unfinished_of o) part ≡ summary (extended o (Read part))
    by true e = started part (unfinished_of o) e ∙ rw e refl
    by false e = later o e ∙ rw e refl

-- the newest part of a run is the last mark's
abbrev HasNewest : Part (List ℕ) → Option (Run (List ℕ)) → Type 0
HasNewest part None = Unit {0}
HasNewest part (Some run) = run.newest ≡ part

newest : (o : Option (Run (List ℕ))) (part : Part (List ℕ)) → HasNewest part (extended o (Read part))
newest o part = by part.start part.continues o
  where
    later : (o : Option (Run (List ℕ))) → HasNewest part (cut_continued o part)
    later None = tt
    later (Some run) = at (is_next run part)
      where
        at : (b : Bool) → HasNewest part (cond b (Some (record { first = run.first; more = run.more ++ part ∷ []; newest = part })) None)
        at true = refl
        at false = tt

    by : (start continues : Bool) (o : Option (Run (List ℕ)))
        → HasNewest part (cond start (cond continues None (Some (record { first = part; more = []; newest = part }))) (cut_continued o part))
    by true true o = tt
    by true false o = refl
    by false continues o = later o

record Ends (part : Part (List ℕ)) (o : Option (Run (List ℕ))) : Type 0 where
  unfinished : (ended part.end (summary o)).unfinished ≡ unfinished_of o
  frame : (ended part.end (summary o)).frame ≡ frame_of (whole o)
  made : answered part.end (summary o) ≡ answer (run_outcome o)

ends : (part : Part (List ℕ)) (o : Option (Run (List ℕ))) → HasNewest part o → Ends part o
ends part None is = record { unfinished = refl; frame = refl; made = refl }
ends part (Some run) is = by run.newest.end run.newest.carries refl refl (ap (λ (p : Part (List ℕ)). p.end) (sym is))
  where
    by : (end carries : Bool) → run.newest.end ≡ end → run.newest.carries ≡ carries → part.end ≡ run.newest.end → Ends part (Some run)
    by true true e c same = record { unfinished = rw (same, e, c) refl; frame = rw (same, e, c) refl; made = rw (same, e, c) refl }
    by true false e c same = record { unfinished = rw (same, e, c) refl; frame = rw (same, e, c) refl; made = rw (same, e, c) refl }
    by false carries e c same = record { unfinished = rw (same, e) refl; frame = rw (same, e) refl; made = rw (same, e) refl }

after : (a : Seen) (past : List (CutMark (List ℕ))) (mark : CutMark (List ℕ)) → IsAfter a past → IsAfter (pushed a mark) (mark ∷ past)
after a past Gone is = record { unfinished = refl; frame = refl }
after a past Padding is = record { unfinished = is.unfinished; frame = refl }
after a past Unreadable is = record { unfinished = refl; frame = refl }
after a past (Read part) is =
    let same = ap (λ (u : Option Unfinished). with_part u part) is.unfinished ∙ step (run_of past) part in
    let h = ends part (extended (run_of past) (Read part)) (newest (run_of past) part) in
    record {
      unfinished = ap (λ (u : Option Unfinished). (ended part.end u).unfinished) same ∙ h.unfinished;
      frame = ap (λ (u : Option Unfinished). (ended part.end u).frame) same ∙ h.frame;
    }

made : (a : Seen) (past : List (CutMark (List ℕ))) (mark : CutMark (List ℕ)) → IsAfter a past → made_of a mark ≡ answer (outcome (run_of past) mark)
made a past Gone is = refl
made a past Padding is = refl
made a past Unreadable is = refl
made a past (Read part) is =
    let same = ap (λ (u : Option Unfinished). with_part u part) is.unfinished ∙ step (run_of past) part in
    let h = ends part (extended (run_of past) (Read part)) (newest (run_of past) part) in
    ap (answered part.end) same ∙ h.made

-- ---- the state and the outcome after a call

pub stands : (a b : Seen) (past : List (CutMark (List ℕ))) (mark : CutMark (List ℕ)) → IsAfter a past → b ≡ pushed a mark → IsAfter b (mark ∷ past)
stands a b past mark is e = subst (λ x. IsAfter x (mark ∷ past)) (sym e) (after a past mark is)

pub replies : (a : Seen) (past : List (CutMark (List ℕ))) (mark : CutMark (List ℕ)) (reply : Outcome) → IsAfter a past → reply ≡ made_of a mark
    → reply ≡ answer (outcome (run_of past) mark)
replies a past mark reply is e = e ∙ made a past mark is
