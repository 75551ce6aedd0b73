-- Sessions that ran after the first calls. None found all tickets drawn, since the history is shorter than the number of tickets.
use Rattle.std.proofs.Common.{◌≡◌, ◌+◌, ◌*◌, ◌<◌, ◌≤◌, ◌^◌, ℕ, Bool, false, List, [], ◌∷◌, ◌++◌, length, map, ap, sym, subst, ◌∙◌, arith, length-append}
use Rattle.std.proofs.Math.Nat.{mul-le-mul_left}
use Rattle.std.proofs.lemmas.List.{length-map}
use Rattle.sfu_base.specs.declared.call.Call.{Call}
use Rattle.turn_lock.specs.declared.history.Entry.{Entry}
use Rattle.turn_lock.specs.History.{entry}
use Rattle.turn_lock.specs.Known.{Known}
use Rattle.atomic_table.specs.Seated.{TableId}
use Rattle.session_steps.specs.Deeds.{Listen, Ask, Post, Over}
use Rattle.room_core.specs.Content.{TakesMemory}
use Rattle.room_core.specs.History.{accepted}
use Rattle.room_core.specs.WellFormed.{AreWellFormed}
use Rattle.room_core.proofs.Promising.{headline}
use Rattle.sfu_serve.specs.declared.ends.SessionEnd.{SessionEnd}
use Rattle.sfu_serve.specs.declared.ends.SessionEnd.TheVariants.{AllTurns, LinkFault, Worn}
use Rattle.sfu_serve.specs.History.{entries_of}
use Rattle.sfu_serve.specs.Parts.{MeetsEnd}
use Rattle.sfu_serve.specs.Runs.{After, AllMayStarve, AreSessions, Before, HaveRun}
use Rattle.sfu_serve.specs.Replies.{MayStarve}
use Rattle.session_steps.specs.Sessions.{Doing}
use Rattle.sfu_serve.proofs.Starving.{takers_only}
use Rattle.sfu_program.specs.Serve.{HaveServed}
use Rattle.sfu_program.specs.ServeEnds.{AreUnworn, IsUnworn}
use Rattle.sfu_program.specs.ServeOpening.{HasMade, made_first}

meets : (before after found limit : ℕ) (rest : Doing) (turns : ℕ) (end : SessionEnd) → (found ≡ 2 ^ 63 → ⊥) → MeetsEnd before after found limit rest turns end
    → MeetsEnd before after 0 limit rest turns end × IsUnworn end
meets before after found limit Over turns AllTurns low h = (h, tt)
meets before after found limit Over turns (LinkFault turn) low h = absurd h
meets before after found limit Over turns Worn low h = absurd h
meets before after found limit (Listen f) turns AllTurns low h = absurd h
meets before after found limit (Listen f) turns (LinkFault turn) low h = (h, tt)
meets before after found limit (Listen f) turns Worn low h = absurd h
meets before after found limit (Post what next) turns AllTurns low h = absurd h
meets before after found limit (Post what next) turns (LinkFault turn) low h = (h, tt)
meets before after found limit (Post what next) turns Worn low h = absurd h
meets before after found limit (Ask call f) turns AllTurns low h = absurd h
meets before after found limit (Ask call f) turns (LinkFault turn) low h = absurd h
meets before after found limit (Ask call f) turns Worn low h = absurd (low h.1)

sessions_unworn : (limit found : ℕ) (history : List (Entry Call)) (number : ℕ) (jobs : List Before) (ended : List After) → (found ≡ 2 ^ 63 → ⊥) → AreSessions limit found history number jobs ended
    → AreSessions limit 0 history number jobs ended × AreUnworn (map (λ after. after.end) ended)
sessions_unworn limit found history number [] [] low all = (tt, tt)
sessions_unworn limit found history number [] (e ∷ es) low all = absurd all
sessions_unworn limit found history number (j ∷ js) [] low all = absurd all
sessions_unworn limit found history number (j ∷ js) (e ∷ es) low all =
    let one = meets j.faults e.faults found limit all.0.rest _ e.end low all.0.ends in
    let rest = sessions_unworn limit found history (number + 1) js es low all.1 in (
      (
        record {
          steps = all.0.steps;
          rest = all.0.rest;
          leads = all.0.leads;
          words = all.0.words;
          link = all.0.link;
          short = all.0.short;
          most = all.0.most;
          ends = one.0;
        },
        rest.0,
      ),
      (one.1, rest.1),
    )

-- the greatest number of calls that these sessions make in these turns
few_entries : (jobs limit : ℕ) → jobs ≤ 64 → limit ≤ 1000000000000 → jobs * (10000 * limit) ≤ 640000000000000000
few_entries jobs limit few short = let each : 10000 * limit ≤ 10000000000000000 = omega arith in let all = mul-le-mul_left jobs each in omega arith

-- the first calls didn't run out of memory
made_may : (calls : List Call) (added : List (Entry Call)) → AllMayStarve TakesMemory added → AllMayStarve TakesMemory (made_first calls ++ added)
made_may [] added all = all
made_may (call ∷ calls) added all = (λ starved. absurd (cc starved), made_may calls added all)

pub served : {R : Type 0} (may_refuse : R → Bool) (never : (recorder : R) → may_refuse recorder ≡ false) (lock : TableId) (calls : List Call) (limit : ℕ) (old new : Known Call) (jobs : List Before) (ended : List After) → HasMade lock calls old → length calls < 2 ^ 32
    → length jobs ≤ 64 → limit ≤ 1000000000000 → HaveRun (MayStarve may_refuse) limit old new jobs ended → new.found ≤ new.first + length new.seen → AreWellFormed (accepted (entries_of new.seen))
    → HaveServed limit calls jobs ended
served may_refuse never lock calls limit old new jobs ended made few many short run found well =
    let first : new.first ≡ 0 = run.kept.1 ∙ made.first_is in
    let begins : new.seen ≡ made_first calls ++ run.added = run.seen ∙ ap (λ (h : List (Entry Call)). h ++ run.added) made.seen_is in
    let count : length new.seen ≡ length (made_first calls) + length run.added = ap length begins ∙ length-append (made_first calls) run.added in
    let opening : length (made_first calls) ≡ length calls = length-map calls (λ call. entry 0 call false) in
    let bound = few_entries (length jobs) limit many short in
    let added = run.few in
    let low : new.found ≡ 2 ^ 63 → ⊥ = λ worn. omega arith in
    let each = sessions_unworn limit new.found new.seen 1 jobs ended low run.each in
    record {
      history = new.seen;
      added = run.added;
      begins = begins;
      no_other = run.no_other;
      below = run.below;
      each = each.0;
      unworn = each.1;
      memory = subst (AllMayStarve TakesMemory) (sym begins) (made_may calls run.added (takers_only may_refuse run.added never run.memory));
      headline = headline (entries_of new.seen) well;
    }
