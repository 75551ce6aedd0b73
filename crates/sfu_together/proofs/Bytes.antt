-- Each call of a journal can be written.
use Rattle.std.proofs.Common.{◌≡◌, ℕ, zero, suc, ◌+◌, ◌<◌, ◌≤◌, Bool, true, false, cond, eqb, List, [], ◌∷◌, ◌++◌, length, map, get_or, refl, sym, subst, arith, eq-eqb}
use Rattle.std.specs.List.{All, AllByRecursion}
use mathlib.Core.Option.{some, some-injective, some-ne-none}
use lib.ListN.{get_elem?}
use Rattle.sfu_base.specs.declared.call.Call.{Call}
use Rattle.script_texts.specs.declared.journal.Actors.{Actors}
use Rattle.script_texts.specs.declared.journal.Entry as journal
use Rattle.script_texts.specs.Lines.{HasBytes}
use Rattle.room_core.specs.History.{Entry}
use Rattle.turn_lock.proofs.Lists.{there}
use Rattle.sfu_together.specs.History.{IsJournal, journal_from, made_by, own}
use Rattle.port_config.specs.actors.Counts.{HaveBytes}

abbrev Written : List Entry → Type 0
Written h = AllByRecursion (λ e. HasBytes e.call) h

written_calls : (n : ℕ) (calls : List Call) → AllByRecursion HasBytes calls → Written (map (made_by n) calls)
written_calls n [] all = tt
written_calls n (c ∷ cs) all = (all.0, written_calls n cs all.1)

written_append : (xs ys : List Entry) → Written xs → Written ys → Written (xs ++ ys)
written_append [] ys p q = q
written_append (x ∷ xs) ys p q = (p.0, written_append xs ys p.1 q)

in_lists : (lists : List (List Call)) (i : ℕ) (calls : List Call) → AllByRecursion (AllByRecursion HasBytes) lists → get_elem? lists i ≡ some calls → AllByRecursion HasBytes calls
in_lists [] i calls all at = absurd (some-ne-none calls (sym at))
in_lists (l ∷ ls) zero calls all at = subst (AllByRecursion HasBytes) (some-injective l calls at) all.0
in_lists (l ∷ ls) (suc i) calls all at = in_lists ls i calls all.1 at

first_of_own : (b : Bool) (e : Entry) (es : List Entry) → b ≡ true → Written (cond b (e ∷ es) es) → HasBytes e.call
first_of_own true e es is all = all.0
first_of_own false e es is all = absurd (cc is)

rest_of_own : (b : Bool) (e : Entry) (es : List Entry) → Written (cond b (e ∷ es) es) → Written es
rest_of_own true e es all = all.1
rest_of_own false e es all = all

written_middle : (middle : List Entry) → All (λ e. (0 < e.seat) × (e.seat ≤ 8)) middle → ((k : ℕ) → 0 < k → k ≤ 8 → Written (own k middle)) → Written middle
written_middle [] bounds each = tt
written_middle (e ∷ es) bounds each =
    let here : (0 < e.seat) × (e.seat ≤ 8) = bounds 0 e (omega arith) in (
      first_of_own (eqb e.seat e.seat) e (own e.seat es) (eq-eqb e.seat e.seat refl) (each e.seat here.0 here.1),
      written_middle es (λ k d low. bounds (suc k) d (omega arith)) (λ k pos le. rest_of_own (eqb e.seat k) e (own k es) (each k pos le)),
    )

written_journal : (past h : List Entry) → Written h → (k : ℕ) (d : journal.Entry) → k < length (journal_from past h) → HasBytes (get_or (journal_from past h) k d).call
written_journal past [] all k d low = absurd (omega arith)
written_journal past (e ∷ es) all zero d low = all.0
written_journal past (e ∷ es) all (suc k) d low = written_journal (past ++ e ∷ []) es all.1 k d (omega arith)

pub all_written : (script : Actors) (entries : List journal.Entry) → length script.actors ≡ 8 → HaveBytes script → IsJournal script entries → All (λ e. HasBytes e.call) entries
all_written script entries eight have is =
    let m = is.made in
    let middle : Written m.middle = written_middle m.middle m.actors by_seat in
    let whole : Written is.history = subst Written (sym m.parts)
    (written_append (map (made_by 0) script.opening) (m.middle ++ map (made_by 0) script.closing) (written_calls 0 script.opening have.opening)
    (written_append m.middle (map (made_by 0) script.closing) middle (written_calls 0 script.closing have.closing))) in
    subst (λ (l : List journal.Entry). All (λ e. HasBytes e.call) l) (sym is.reported) (written_journal [] is.history whole)
  where
    by_seat : (k : ℕ) → 0 < k → k ≤ 8 → Written (own k is.made.middle)
    by_seat zero pos le = absurd (omega arith)
    by_seat (suc i) pos le =
        let at = there script.actors i (omega arith) in
        let n : i + 1 ≡ suc i = omega arith in
        subst (λ (m : ℕ). Written (own m is.made.middle)) n (subst Written (sym (is.made.acts i (omega arith) at.0 at.1)) (written_calls (i + 1) at.0 (in_lists script.actors i at.0 have.acts at.1)))
