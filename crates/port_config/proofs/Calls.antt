-- The calls of a script for `together`: their number, and that each can be written.
use Rattle.std.proofs.Common.{◌≡◌, ℕ, zero, suc, ◌+◌, ◌<◌, ◌≤◌, Bool, true, false, cond, eqb, leb, ltb, List, [], ◌∷◌, ◌++◌, length, refl, sym, ap, subst, arith, Option, Some, None, length-append, eq-eqb, ne_eqb, lt-ltb, le-ltb, leb-true}
use Rattle.std.specs.Prelude.{sum_by}
use Rattle.std.specs.List.{AllByRecursion}
use mathlib.Core.Logic.{dite}
use native.Mathlib.Decide.{ℕ_discrete, dec_le}
use Rattle.sfu_base.specs.declared.call.Call.{Call}
use Rattle.sfu_base.specs.declared.call.Call.TheVariants as call
use Rattle.sfu_driver.specs.Scan.{Scan, More, Whole, NoUnit}
use Rattle.sfu_driver.specs.Input.{Line, lines_of, said}
use Rattle.script_texts.specs.declared.journal.Actors.{Actors}
use Rattle.sfu_script.specs.ActorLines.{actor_call_of}
use Rattle.script_texts.specs.Lines.{HasBytes, IsLine}
use Rattle.sfu_script.specs.ReadLines.{call_of}
use Rattle.sfu_script.specs.Skipped.{is_skipped}
use Rattle.sfu_script.proofs.ActorLaws.{actor_call_found}
use Rattle.sfu_script.proofs.LineLaws.{call_found}
use Rattle.port_config.specs.actors.Script.{AreActors, Said, acts_of, calls_by, closing_of, is_plain, may_follow, opening_of, or_actor, said_behind, said_by, stops_at, together_script, with_line, with_said, Lines}
use Rattle.port_config.specs.actors.Counts.{HaveBytes, count_of}

-- ---- the number of calls

few_with : (past : List Said) (seen : Scan) (n : ℕ) (next : List Said → Lines) → length past < n → length past ≤ 100000 → ((later : List Said) → length later < n + 1 → length later ≤ 100000 → length (next later).said ≤ 100000) → length (with_line past seen n next).said ≤ 100000
few_with past More n next low few rest = rest past (omega arith) few
few_with past NoUnit n next low few rest = few
few_with past (Whole text) n next low few rest = go (leb n 100000) refl (is_skipped text) (said_by text)
  where
    by_follow : (x : Said) (may : Bool) → n ≤ 100000 → length (cond may (next (past ++ x ∷ [])) (stops_at past n)).said ≤ 100000
    by_follow x true within = let k = length-append past (x ∷ []) in rest (past ++ x ∷ []) (omega arith) (omega arith)
    by_follow x false within = few

    go : (b : Bool) → leb n 100000 ≡ b → (skipped : Bool) (found : Option Said) → length (cond b (cond skipped (next past) (with_said past found n next)) (stops_at past n)).said ≤ 100000
    go false is skipped found = few
    go true is true found = rest past (omega arith) few
    go true is false None = few
    go true is false (Some x) = by_follow x (may_follow past x) (leb-true n 100000 is)

few_behind : (lines : List Line) (n : ℕ) (past : List Said) → length past < n → length past ≤ 100000 → length (said_behind past lines n).said ≤ 100000
few_behind [] n past low few = few
few_behind (line ∷ lines) n past low few = few_with past (said line) n (λ later. said_behind later lines (n + 1)) low few (λ later. few_behind lines (n + 1) later)

few_said : (bytes : List ℕ) → length (together_script bytes).said ≤ 100000
few_said bytes = few_behind (lines_of bytes) 1 [] (omega arith) (omega arith)

-- the calls of the actors below n
abbrev total : ℕ → List Said → ℕ
total zero xs = 0
total (suc n) xs = total n xs + length (calls_by n xs)

abbrev one_if : Bool → ℕ
one_if true = 1
one_if false = 0

by_one : (b : Bool) (c : Call) (cs : List Call) → length (cond b (c ∷ cs) cs) ≡ length cs + one_if b
by_one true c cs = omega arith
by_one false c cs = omega arith

total_one : (n : ℕ) (x : Said) (xs : List Said) → total n (x ∷ xs) ≡ total n xs + one_if (ltb x.actor n)
total_one zero x xs = let k : one_if (ltb x.actor 0) ≡ 0 = ap one_if (le-ltb x.actor 0 (omega arith)) in omega arith
total_one (suc n) x xs =
    let rest : total n (x ∷ xs) ≡ total n xs + one_if (ltb x.actor n) = total_one n x xs in
    let here : length (calls_by n (x ∷ xs)) ≡ length (calls_by n xs) + one_if (eqb x.actor n) = by_one (eqb x.actor n) x.call (calls_by n xs) in
    dite (ℕ_discrete x.actor n)
    (λ same.
    let a : one_if (ltb x.actor (suc n)) ≡ 1 = ap one_if (lt-ltb x.actor (suc n) (omega arith)) in
    let b : one_if (ltb x.actor n) ≡ 0 = ap one_if (le-ltb x.actor n (omega arith)) in
    let d : one_if (eqb x.actor n) ≡ 1 = ap one_if (eq-eqb x.actor n same) in omega arith)
    (λ other.
    let d : one_if (eqb x.actor n) ≡ 0 = ap one_if (ne_eqb x.actor n other) in
    dite (dec_le x.actor n)
    (λ low.
    let a : one_if (ltb x.actor (suc n)) ≡ 1 = ap one_if (lt-ltb x.actor (suc n) (omega arith)) in
    let b : one_if (ltb x.actor n) ≡ 1 = ap one_if (lt-ltb x.actor n (omega arith)) in omega arith)
    (λ high.
    let a : one_if (ltb x.actor (suc n)) ≡ 0 = ap one_if (le-ltb x.actor (suc n) (omega arith)) in
    let b : one_if (ltb x.actor n) ≡ 0 = ap one_if (le-ltb x.actor n (omega arith)) in omega arith))

no_more_than_one : (b : Bool) → one_if b ≤ 1
no_more_than_one true = omega arith
no_more_than_one false = omega arith

total_none : (n : ℕ) → total n [] ≡ 0
total_none zero = refl
total_none (suc n) = let k = total_none n in omega arith

total_few : (n : ℕ) (xs : List Said) → total n xs ≤ length xs
total_few n [] = let k = total_none n in omega arith
total_few n (x ∷ xs) = let a = total_one n x xs in let b = no_more_than_one (ltb x.actor n) in let c = total_few n xs in omega arith

plain_parts : (xs : List Said) → length (opening_of xs) + length (closing_of xs) ≡ length (calls_by 0 xs)
plain_parts [] = refl
plain_parts (x ∷ xs) = go (is_plain x) (plain_parts xs)
  where
    go : (b : Bool) → length (opening_of xs) + length (closing_of xs) ≡ length (calls_by 0 xs)
        → length (cond b (x.call ∷ opening_of xs) []) + length (cond b (closing_of xs) (calls_by 0 xs)) ≡ length (cond b (x.call ∷ calls_by 0 xs) (calls_by 0 xs))
    go true h = omega arith
    go false h = omega arith

parts_few : (xs : List Said) → length (opening_of xs) + (sum_by length (acts_of xs) + length (closing_of xs)) ≤ length xs
parts_few xs =
    let a = total_few 9 xs in
    let b = plain_parts xs in
    let s : sum_by length (acts_of xs) ≡ 0 + length (calls_by 1 xs) + length (calls_by 2 xs) + length (calls_by 3 xs) + length (calls_by 4 xs) + length (calls_by 5 xs) + length (calls_by 6 xs) + length (calls_by 7 xs) + length (calls_by 8 xs) = refl in
    omega arith

-- a script that was read has at most 100,000 calls
pub few_calls : (bytes : List ℕ) (actors : Actors) → AreActors (together_script bytes).said actors → count_of actors ≤ 100000
few_calls bytes actors are =
    let xs = (together_script bytes).said in
    let a = parts_few xs in
    let b = few_said bytes in
    let same : count_of actors ≡ length (opening_of xs) + (sum_by length (acts_of xs) + length (closing_of xs)) = λ i. length (are.opening i) + (sum_by length (are.acts i) + length (are.closing i)) in
    omega arith

-- ---- each call can be written

line_has_bytes : (c : Call) (line : List ℕ) → IsLine c line → HasBytes c
line_has_bytes (call.Packet track moment bytes) line says = says.3.3.3.0
line_has_bytes (call.Join subscriber track ssrc first wish) line says = tt
line_has_bytes (call.Publish track kind ssrc hold) line says = tt
line_has_bytes (call.Unpublish track) line says = tt
line_has_bytes (call.Tick track moment) line says = tt
line_has_bytes (call.Leave subscriber) line says = tt
line_has_bytes (call.Aim subscriber wish) line says = tt
line_has_bytes (call.Take subscriber) line says = tt
line_has_bytes (call.Resend subscriber sequence) line says = tt
line_has_bytes (call.Missing track) line says = tt
line_has_bytes (call.KeyWanted track) line says = tt
line_has_bytes (call.Plead subscriber) line says = tt
line_has_bytes (call.Why subscriber number) line says = tt

abbrev AllSaid : List Said → Type 0
AllSaid xs = AllByRecursion (λ x. HasBytes x.call) xs

abbrev MaySay : Option Said → Type 0
MaySay None = Unit {0}
MaySay (Some x) = HasBytes x.call

said_has_bytes : (line : List ℕ) → MaySay (said_by line)
said_has_bytes line = go (call_of line) (actor_call_of line) refl refl
  where
    go : (c : Option Call) (by : Option (ℕ × Call)) → call_of line ≡ c → actor_call_of line ≡ by → MaySay (or_actor c by)
    go None None e f = tt
    go None (Some by) e f = let says = actor_call_found line by.0 by.1 f in line_has_bytes by.1 says.rest says.said
    go (Some c) by e f = line_has_bytes c line (call_found line c e)

all_more : (past : List Said) (x : Said) → AllSaid past → HasBytes x.call → AllSaid (past ++ x ∷ [])
all_more [] x all here = (here, tt)
all_more (y ∷ ys) x all here = (all.0, all_more ys x all.1 here)

bytes_with : (past : List Said) (seen : Scan) (n : ℕ) (next : List Said → Lines) → AllSaid past → ((later : List Said) → AllSaid later → AllSaid (next later).said) → AllSaid (with_line past seen n next).said
bytes_with past More n next all rest = rest past all
bytes_with past NoUnit n next all rest = all
bytes_with past (Whole text) n next all rest = go (leb n 100000) (is_skipped text) (said_by text) (said_has_bytes text)
  where
    by_follow : (x : Said) (may : Bool) → HasBytes x.call → AllSaid (cond may (next (past ++ x ∷ [])) (stops_at past n)).said
    by_follow x true here = rest (past ++ x ∷ []) (all_more past x all here)
    by_follow x false here = all

    go : (b skipped : Bool) (found : Option Said) → MaySay found → AllSaid (cond b (cond skipped (next past) (with_said past found n next)) (stops_at past n)).said
    go false skipped found h = all
    go true true found h = rest past all
    go true false None h = all
    go true false (Some x) h = by_follow x (may_follow past x) h

bytes_behind : (lines : List Line) (n : ℕ) (past : List Said) → AllSaid past → AllSaid (said_behind past lines n).said
bytes_behind [] n past all = all
bytes_behind (line ∷ lines) n past all = bytes_with past (said line) n (λ later. said_behind later lines (n + 1)) all (λ later. bytes_behind lines (n + 1) later)

one_bytes : (b : Bool) (xs ys : List Call) → AllByRecursion HasBytes xs → AllByRecursion HasBytes ys → AllByRecursion HasBytes (cond b xs ys)
one_bytes true xs ys p q = p
one_bytes false xs ys p q = q

either_bytes : (b : Bool) (c : Call) (xs ys : List Call) → HasBytes c × AllByRecursion HasBytes xs → AllByRecursion HasBytes ys → AllByRecursion HasBytes (cond b (c ∷ xs) ys)
either_bytes true c xs ys p q = p
either_bytes false c xs ys p q = q

by_bytes : (k : ℕ) (xs : List Said) → AllSaid xs → AllByRecursion HasBytes (calls_by k xs)
by_bytes k [] all = tt
by_bytes k (x ∷ xs) all = either_bytes (eqb x.actor k) x.call (calls_by k xs) (calls_by k xs) (all.0, by_bytes k xs all.1) (by_bytes k xs all.1)

opening_bytes : (xs : List Said) → AllSaid xs → AllByRecursion HasBytes (opening_of xs)
opening_bytes [] all = tt
opening_bytes (x ∷ xs) all = either_bytes (is_plain x) x.call (opening_of xs) [] (all.0, opening_bytes xs all.1) tt

closing_bytes : (xs : List Said) → AllSaid xs → AllByRecursion HasBytes (closing_of xs)
closing_bytes [] all = tt
closing_bytes (x ∷ xs) all = one_bytes (is_plain x) (closing_of xs) (calls_by 0 xs) (closing_bytes xs all.1) (by_bytes 0 xs all.1)

-- each call of a script that was read can be written
pub bytes_calls : (bytes : List ℕ) (actors : Actors) → AreActors (together_script bytes).said actors → HaveBytes actors
bytes_calls bytes actors are =
    let xs = (together_script bytes).said in
    let all : AllSaid xs = bytes_behind (lines_of bytes) 1 [] tt in record {
      opening = subst (AllByRecursion HasBytes) (sym are.opening) (opening_bytes xs all);
      acts = subst (AllByRecursion (AllByRecursion HasBytes)) (sym are.acts)
          (by_bytes 1 xs all, (by_bytes 2 xs all, (by_bytes 3 xs all, (by_bytes 4 xs all, (by_bytes 5 xs all, (by_bytes 6 xs all, (by_bytes 7 xs all, (by_bytes 8 xs all, tt))))))));
      closing = subst (AllByRecursion HasBytes) (sym are.closing) (closing_bytes xs all);
    }
