-- Seats that are split off and joined in order.
use Rattle.std.proofs.Common.{◌≡◌, ℕ, zero, suc, ◌+◌, ◌<◌, ◌≤◌, List, [], ◌∷◌, ◌++◌, length, map, get_or, refl, ap, sym, subst, ◌∙◌, ⊎_elim, arith, append-nil, append_assoc, Result, Ok, Err, max}
use Rattle.std.specs.List.{All}
use Rattle.std.specs.Prelude.{IfOk}
use Rattle.std.proofs.lemmas.List.{length-map, map-append}
use Rattle.std.proofs.lemmas.List.Concat.{flat_map-append}
use mathlib.Core.List.{IsPrefix}
use mathlib.Core.Option.{some, some-injective, some-ne-none}
use lib.ListN.{get_elem?}
use Rattle.atomic_table.specs.Seated.{TableId}
use Rattle.sfu_base.specs.declared.NoMemory.{NoMemory}
use Rattle.sfu_base.specs.declared.call.Call.{Call}
use Rattle.script_texts.specs.declared.journal.Actors.{Actors}
use Rattle.turn_lock.specs.declared.history.Joined.{Joined}
use Rattle.turn_lock.specs.Known.{Fits, Known, another, together}
use Rattle.turn_lock.proofs.Lists.{at_end, prefix_self, prefix_trans, there, within}
use Rattle.port_config.specs.declared.actors.turns.Placed.{Placed}
use Rattle.sfu_together.specs.declared.cast.Done.{Done}
use Rattle.sfu_together.specs.declared.cast.Job.{Job}
use Rattle.port_config.specs.actors.Counts.{count_of}
use Rattle.sfu_together.proofs.Histories.{no_longer}
use Rattle.sfu_together.specs.Acting.{Acts, AreDone, AreJobs, HasActed, HasJoined, IsDone, IsReady, IsJob, counting, joined_as, kept_by}

-- ---- splitting

pub no_jobs : (root : Known Call) (jobs : List Job) → jobs ≡ [] → AreJobs root jobs
no_jobs root jobs none = λ i job at. absurd (some-ne-none job (sym (ap (λ (l : List Job). get_elem? l i) (sym none) ∙ at)))

pub one_job : (root : Known Call) (jobs jobs' : List Job) (job : Job) → AreJobs root jobs → jobs' ≡ jobs ++ job ∷ [] → job.seat ≡ another (counting root job.actor) → Fits job.seat → length jobs + 1 ≡ job.actor → AreJobs root jobs'
one_job root jobs jobs' job old grown seat fits count = λ i x at.
    ⊎_elim
    (λ (before : get_elem? jobs i ≡ some x). old i x before)
    (λ (here : (i ≡ length jobs) × (job ≡ x)).
    let n : job.actor ≡ i + 1 = (let p = here.0 in omega arith) in
    subst (IsJob root i) here.1 (record { seat = seat ∙ ap (λ (m : ℕ). another (counting root m)) n; actor = n; fits = fits }))
    (at_end jobs job x i (ap (λ (l : List Job). get_elem? l i) (sym grown) ∙ at))

-- ---- joining

pub none_joined : (v : Known Call) → HasJoined v [] v
none_joined v = record {
  lock = refl;
  number = refl;
  first = refl;
  own = refl;
  count = refl;
  joined = sym (append-nil v.joined);
  goes_on = prefix_self v.seen;
  found = omega arith;
  each = λ i d at. absurd (some-ne-none d (sym at));
}

pub one_joined : (v w w' : Known Call) (ds : List Done) (d : Done) → HasJoined v ds w → w' ≡ together w d.seat → IsPrefix w.seen w'.seen → IsPrefix d.seat.seen w'.seen → HasJoined v (ds ++ d ∷ []) w'
one_joined v w w' ds d was is mine its = record {
  lock = ap (λ (k : Known Call). k.lock) is ∙ was.lock;
  number = ap (λ (k : Known Call). k.number) is ∙ was.number;
  first = ap (λ (k : Known Call). k.first) is ∙ was.first;
  own = ap (λ (k : Known Call). k.own) is ∙ was.own;
  count = ap (λ (k : Known Call). k.count) is ∙ was.count;
  joined = ap (λ (k : Known Call). k.joined) is ∙ (ap (λ (l : List (Joined Call)). l ++ joined_as d ∷ []) was.joined ∙ (append_assoc v.joined (map joined_as ds) (joined_as d ∷ []) ∙ ap (λ (l : List (Joined Call)). v.joined ++ l) (sym (map-append joined_as ds (d ∷ [])))));
  goes_on = prefix_trans v.seen w.seen w'.seen was.goes_on mine;
  found = (let a = was.found in let b : w'.found ≡ max w.found d.seat.found = ap (λ (k : Known Call). k.found) is in omega arith);
  each = λ i x at. ⊎_elim
      (λ (old : get_elem? ds i ≡ some x). let e = was.each i x old in
      let low : x.seat.found ≤ w.found = e.0 in
      let b : w'.found ≡ max w.found d.seat.found = ap (λ (k : Known Call). k.found) is in
      let up : x.seat.found ≤ w'.found = omega arith in (up, prefix_trans x.seat.seen w.seen w'.seen e.1 mine))
      (λ (new : (i ≡ length ds) × (d ≡ x)). subst (λ (z : Done). (z.seat.found ≤ w'.found) × IsPrefix z.seat.seen w'.seen) new.1
      ((let b : w'.found ≡ max w.found d.seat.found = ap (λ (k : Known Call). k.found) is in omega arith), its))
      (at_end ds d x i at);
}

pub kept_more : (ds : List Done) (d : Done) → kept_by (ds ++ d ∷ []) ≡ kept_by ds ++ d.kept.items
kept_more ds d = flat_map-append (λ (x : Done). x.kept.items) ds (d ∷ []) ∙ ap (λ (l : List Placed). kept_by ds ++ l) (append-nil d.kept.items)

-- ---- the results of the jobs

at_index : {A : Type 0} (xs : List A) (i : ℕ) (a : A) → i < length xs → a ≡ get_or xs i a → get_elem? xs i ≡ some a
at_index [] i a low is = absurd (omega arith)
at_index (x ∷ xs) zero a low is = ap (λ (y : _). some y) (sym is)
at_index (x ∷ xs) (suc i) a low is = at_index xs i a (omega arith) is

read_at : {A : Type 0} (xs : List A) (i : ℕ) (a d : A) → get_elem? xs i ≡ some a → get_or xs i d ≡ a
read_at [] i a d e = absurd (some-ne-none a (sym e))
read_at (x ∷ xs) zero a d e = some-injective x a e
read_at (x ∷ xs) (suc i) a d e = read_at xs i a d e

at_map : {A B : Type 0} (f : A → B) (xs : List A) (i : ℕ) (a : A) → get_elem? xs i ≡ some a → get_elem? (map f xs) i ≡ some (f a)
at_map f [] i a e = absurd (some-ne-none a (sym e))
at_map f (x ∷ xs) zero a e = ap (λ (y : _). some (f y)) (some-injective x a e)
at_map f (x ∷ xs) (suc i) a e = at_map f xs i a e

-- a job that can be moved to a thread
pub job_at : (root : Known Call) (jobs : List Job) (i : ℕ) (job : Job) → AreJobs root jobs → i < length jobs → job ≡ get_or jobs i job → IsJob root i job
job_at root jobs i job are low is = are i job (at_index jobs i job low is)

pub done_at : (root : Known Call) (lists : List (List Call)) (i : ℕ) (job : Job) (done : Done) → IsJob root i job → HasActed lists job done → (calls : List Call) × (get_elem? lists i ≡ some calls) × IsDone root i calls done
done_at root lists i job done is acted =
    let index : acted.index ≡ i = (let a = acted.actor in let b = is.actor in omega arith) in (
      acted.calls,
      subst (λ (n : ℕ). get_elem? lists n ≡ some acted.calls) index acted.are,
      record { acts = subst (λ (k : Known Call). Acts k done.seat acted.calls done.kept.items) is.seat acted.acts; fits = acted.fits },
    )

-- if each job returned a result, and all results are Ok, each job is done
pub all_came : (root : Known Call) (lists : List (List Call)) (jobs : List Job) (dones : List Done) (ended : List (Result Done NoMemory)) → AreJobs root jobs → map Ok dones ≡ ended → length ended ≡ length jobs
    → ((i : ℕ) (d : Result Done NoMemory) → i < length jobs → (job : Job) × (job ≡ get_or jobs i job) × IfOk (get_or ended i d) (λ done. HasActed lists job done)) → AreDone root lists dones
all_came root lists jobs dones ended are ok long gives = λ i done at.
    let here : get_elem? ended i ≡ some (Ok done) = ap (λ (l : List (Result Done NoMemory)). get_elem? l i) (sym ok) ∙ at_map Ok dones i done at in
    let low : i < length jobs = (let k = within ended i (Ok done) here in omega arith) in
    let g = gives i (Ok done) low in
    let acted : HasActed lists g.0 done = subst (λ (r : Result Done NoMemory). IfOk r (λ x. HasActed lists g.0 x)) (read_at ended i (Ok done) (Ok done) here) g.2 in
    done_at root lists i g.0 done (job_at root jobs i g.0 are low g.1) acted

pub all_long : (dones : List Done) (ended : List (Result Done NoMemory)) → map Ok dones ≡ ended → length dones ≡ length ended
all_long dones ended ok = sym (length-map dones Ok) ∙ ap length ok

-- ---- the requirements of the joins

pub all_locks : (root : Known Call) (lists : List (List Call)) (dones : List Done) (lock : TableId) → AreDone root lists dones → root.lock ≡ lock → All (λ done. done.seat.lock ≡ lock) dones
all_locks root lists dones lock are same = λ i d low.
    let at = there dones i low in
    let k = (are i at.0 at.1).2.acts.keeps in
    subst (λ (x : Done). x.seat.lock ≡ lock) (sym (read_at dones i at.0 d at.1)) (k.0 ∙ same)

pub all_others : (root : Known Call) (lists : List (List Call)) (dones : List Done) → AreDone root lists dones → All (λ done. 0 < done.seat.number) dones
all_others root lists dones are = λ i d low.
    let at = there dones i low in
    let n : at.0.seat.number ≡ i + 1 = (are i at.0 at.1).2.acts.keeps.2 in
    subst (λ (x : Done). 0 < x.seat.number) (sym (read_at dones i at.0 d at.1)) (omega arith)

pub if_ok : {A E : Type 0} (P Q : A → Type 0) (r : Result A E) → ((a : A) → P a → Q a) → IfOk r P → IfOk r Q
if_ok P Q (Ok a) f p = f a p
if_ok P Q (Err e) f p = tt

-- no list of a script has more calls than all lists together
pub part_few : (script : Actors) (i : ℕ) (calls : List Call) → count_of script ≤ 100000 → get_elem? script.actors i ≡ some calls → length calls ≤ 100000
part_few script i calls few at = let k = no_longer script.actors i calls at in omega arith

pub part_at : {A : Type 0} (xs : List A) (i : ℕ) (a : A) → i < length xs → a ≡ get_or xs i a → get_elem? xs i ≡ some a
part_at xs i a low is = at_index xs i a low is

-- jobs that can be moved to threads
pub all_ready : (root : Known Call) (jobs : List Job) (lock : TableId) → AreJobs root jobs → length jobs ≡ 8 → root.lock ≡ lock → root.first ≡ 0 → All (λ job. IsReady lock job) jobs
all_ready root jobs lock are eight same first = λ i d low.
    let at = there jobs i low in
    let j = are i at.0 at.1 in
    let actor : at.0.actor ≡ i + 1 = j.actor in
    subst (λ (x : Job). IsReady lock x) (sym (read_at jobs i at.0 d at.1)) (record {
      lock_is = ap (λ (k : Known Call). k.lock) j.seat ∙ same;
      fits = j.fits;
      first = ap (λ (k : Known Call). k.first) j.seat ∙ first;
      number = ap (λ (k : Known Call). k.number) j.seat ∙ sym actor;
      some = omega arith;
      within = omega arith;
    })
