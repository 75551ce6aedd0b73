-- A session's contract, as seen in a later history.
use Rattle.std.proofs.Common.{◌≡◌, ℕ, ◌*◌, ◌^◌, List, [], ◌++◌, ap, sym, subst, ◌∙◌, Option}
use mathlib.Core.List.{IsPrefix}
use Rattle.sfu_base.specs.Answer.{Answer, Refused}
use Rattle.sfu_base.specs.Links.{Traffic}
use Rattle.sfu_base.specs.declared.call.Call.{Call}
use Rattle.sfu_base.specs.declared.call.Refusal.TheVariants.{NoMemory}
use Rattle.turn_lock.specs.declared.history.Entry.{Entry}
use Rattle.turn_lock.specs.History.{own_of}
use Rattle.turn_lock.specs.Known.{Known}
use Rattle.session_steps.specs.Deeds.{Listen, Ask, Post, Over, Word, said_of}
use Rattle.sfu_serve.specs.Doing.{StarveWhereTheyMay}
use Rattle.sfu_serve.proofs.Words.{words_none, words_same}
use Rattle.sfu_serve.proofs.Counting.{AsksAtMost, few_said}
use Rattle.sfu_serve.specs.declared.ends.SessionEnd.{SessionEnd}
use Rattle.sfu_serve.specs.declared.ends.SessionEnd.TheVariants.{AllTurns, LinkFault, Worn}
use Rattle.session_steps.specs.Datagrams.{IsOne}
use Rattle.session_steps.specs.Sessions.{Doing}
use Rattle.sfu_serve.specs.Parts.{Keeps, MeetsEnd, reply_after, words_of}
use Rattle.sfu_serve.specs.Runs.{IsSession}

-- the end of a session whose seat found the number that a later seat has, if that is the greatest number
pub ends_later : (before after found found' limit : ℕ) (rest : Doing) (turns : ℕ) (end : SessionEnd) → (found ≡ 2 ^ 63 → found' ≡ 2 ^ 63) → MeetsEnd before after found limit rest turns end → MeetsEnd before after found' limit rest turns end
ends_later before after found found' limit Over turns AllTurns p e = e
ends_later before after found found' limit Over turns (LinkFault turn) p e = absurd e
ends_later before after found found' limit Over turns Worn p e = absurd e
ends_later before after found found' limit (Listen f) turns AllTurns p e = absurd e
ends_later before after found found' limit (Listen f) turns (LinkFault turn) p e = e
ends_later before after found found' limit (Listen f) turns Worn p e = absurd e
ends_later before after found found' limit (Post what next) turns AllTurns p e = absurd e
ends_later before after found found' limit (Post what next) turns (LinkFault turn) p e = e
ends_later before after found found' limit (Post what next) turns Worn p e = absurd e
ends_later before after found found' limit (Ask call f) turns AllTurns p e = absurd e
ends_later before after found found' limit (Ask call f) turns (LinkFault turn) p e = absurd e
ends_later before after found found' limit (Ask call f) turns Worn p e = (e.0, p e.1, e.2)

-- the calls of a seat that had no entries are those of its session, in each later history in which the seat has no further entries
pub later_words : (P : Call → Type 0) (whole : Doing) (limit : ℕ) (old new : Known Call) (history : List (Entry Call)) (traffic traffic' : Option Traffic) (before after : ℕ) (end : SessionEnd)
    → (k : Keeps P whole limit old new traffic traffic' before after end) → own_of old.number old.seen ≡ [] → IsPrefix new.seen history → own_of old.number history ≡ new.own → words_of old.number history ≡ said_of k.done.steps
later_words P whole limit old new history traffic traffic' before after end k none pre own =
    let d = k.done in
    let n : new.number ≡ old.number = d.seat.2 in
    let had : own_of old.number new.seen ≡ new.own = ap (λ (m : ℕ). own_of m new.seen) (sym n) ∙ d.fits.own in
    let same : words_of old.number history ≡ words_of old.number new.seen = words_same reply_after (Refused NoMemory) old.number new.seen history new.own pre had own in
    let start : words_of old.number old.seen ≡ [] = words_none reply_after (Refused NoMemory) [] old.number old.seen none in
    same ∙ (ap (λ (m : ℕ). words_of m new.seen) (sym n) ∙ (d.words ∙ ap (λ (l : List (Word Call Answer)). l ++ said_of d.steps) start))

-- and memory ran out only for calls that may run out of memory
pub later_memory : (P : Call → Type 0) (whole : Doing) (limit : ℕ) (old new : Known Call) (history : List (Entry Call)) (traffic traffic' : Option Traffic) (before after : ℕ) (end : SessionEnd)
    → Keeps P whole limit old new traffic traffic' before after end → own_of old.number old.seen ≡ [] → IsPrefix new.seen history → own_of old.number history ≡ new.own
    → StarveWhereTheyMay (Refused NoMemory) P (words_of old.number history)
later_memory P whole limit old new history traffic traffic' before after end k none pre own =
    subst (λ (l : List (Word Call Answer)). StarveWhereTheyMay (Refused NoMemory) P l) (sym (later_words P whole limit old new history traffic traffic' before after end k none pre own)) k.done.memory

-- a session of a seat with no earlier entries is in each later history in which the seat has no further entries
pub is_session : (P : Call → Type 0) (whole : Doing) (limit found : ℕ) (old new : Known Call) (history : List (Entry Call)) (traffic traffic' : Option Traffic) (before after : ℕ) (end : SessionEnd)
    → Keeps P whole limit old new traffic traffic' before after end → own_of old.number old.seen ≡ [] → IsPrefix new.seen history → own_of old.number history ≡ new.own → (new.found ≡ 2 ^ 63 → found ≡ 2 ^ 63)
    → AsksAtMost whole (10000 * limit) → IsSession whole limit old.number found history traffic traffic' before after end
is_session P whole limit found old new history traffic traffic' before after end k none pre own worn few =
    let d = k.done in
    record {
      steps = d.steps;
      rest = k.rest;
      leads = d.leads;
      words = later_words P whole limit old new history traffic traffic' before after end k none pre own;
      link = d.link;
      short = d.short;
      most = few_said IsOne whole d.steps k.rest (10000 * limit) d.leads d.short few;
      ends = subst (λ (t : ℕ). MeetsEnd before after found limit k.rest t end) (sym d.count) (ends_later before after new.found found limit k.rest k.turns end worn k.ends);
    }
