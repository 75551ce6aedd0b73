-- The part of a session that is done, and the end of a session.
use Rattle.std.specs.Prelude.{◌≡◌, ℕ, ◌+◌, ◌^◌, ◌<◌, ◌≤◌, List, Option}
use Rattle.sfu_base.specs.Answer.{Answer, Refused}
use Rattle.sfu_base.specs.Faults.{raised}
use Rattle.sfu_base.specs.Links.{Traffic}
use Rattle.sfu_base.specs.declared.call.Call.{Call}
use Rattle.sfu_base.specs.declared.call.Refusal.TheVariants.{NoMemory}
use Rattle.turn_lock.specs.declared.history.Entry.{Entry}
use Rattle.turn_lock.specs.Known.{Known}
use Rattle.room_core.specs.Headline.{Headline}
use Rattle.room_core.specs.History.{accepted, reply_of}
use Rattle.session_steps.specs.Deeds.{Listen, Ask, Post, Over, Word}
use Rattle.sfu_serve.specs.Words as words
use Rattle.sfu_serve.specs.Doing.{IsDone}
use Rattle.sfu_serve.specs.declared.ends.SessionEnd.{SessionEnd}
use Rattle.sfu_serve.specs.declared.ends.SessionEnd.TheVariants.{AllTurns, LinkFault, Worn}
use Rattle.sfu_serve.specs.History.{entries_of}
use Rattle.session_steps.specs.Datagrams.{IsOne}
use Rattle.session_steps.specs.Sessions.{Doing}

-- the room's answer to a call after these turns
abbrev pub reply_after : List (Entry Call) → Call → Answer
reply_after history call = reply_of (entries_of history) call

-- the calls of the seat n with their answers: each answer is that of the history before it, or `NoMemory` if the entry says so
abbrev pub words_of : ℕ → List (Entry Call) → List (Word Call Answer)
words_of n history = words.words_of reply_after (Refused NoMemory) n history

-- the same for the entries that a history has after `before`
abbrev pub words_behind : ℕ → List (Entry Call) → List (Entry Call) → List (Word Call Answer)
words_behind n before added = words.words_from reply_after (Refused NoMemory) before n added

-- The guarantees (`Headline`) hold for this history.
pub record HasHeadline (history : List (Entry Call)) : Type 0 where
  pub headline : Headline (accepted (entries_of history))

-- Steps with this many receives lead from a session's rule `whole` to `rest`, which remains.
-- The seat and the link went from old to new. Only calls that may run out of memory did so.
abbrev pub Done : (Call → Type 0) → Doing → Doing → Known Call → Known Call → Option Traffic → Option Traffic → ℕ → ℕ → ℕ → Type 0
Done MayStarve whole rest old new traffic traffic' before after turns =
    IsDone reply_after (Refused NoMemory) MayStarve IsOne HasHeadline whole rest old new traffic traffic' before after turns

-- no call may run out of memory
abbrev pub NoneMayStarve : Call → Type 0
NoneMayStarve call = ⊥

-- Exactly one call failed: the count is one higher, or it was 2^64 - 1 and stays there.
pub record FailedOnce (before after : ℕ) : Type 0 where
  pub never_falls : before ≤ after
  pub counts : after ≡ raised before

-- The end of a session of `limit` turns, by the rest that remains and the number of receives. `AllTurns`: nothing remains after
-- `limit` receives, and no call on the link failed. `LinkFault`: in this turn a receive or a send failed, and no other call on
-- the link failed. `Worn`: a call wasn't made, since the seat found that all tickets were drawn; no call on the link failed.
abbrev pub MeetsEnd : ℕ → ℕ → ℕ → ℕ → Doing → ℕ → SessionEnd → Type 0
MeetsEnd before after found limit Over turns AllTurns = (after ≡ before) × (turns ≡ limit)
MeetsEnd before after found limit (Listen f) turns (LinkFault turn) = FailedOnce before after × (turn < limit) × (turns ≡ turn)
MeetsEnd before after found limit (Post what next) turns (LinkFault turn) = FailedOnce before after × (turn < limit) × (turns ≡ turn + 1)
MeetsEnd before after found limit (Ask call f) turns Worn = (after ≡ before) × (found ≡ 2 ^ 63) × (turns ≤ limit)
MeetsEnd before after found limit rest turns end = ⊥

-- The effect of a session of `limit` turns on its seat and its link. No call on the link failed before the call, if any, that ended the session.
pub record Keeps (MayStarve : Call → Type 0) (whole : Doing) (limit : ℕ) (old new : Known Call) (traffic traffic' : Option Traffic)
    (before after : ℕ) (end : SessionEnd) : Type 0 where
  pub rest : Doing
  pub turns : ℕ
  pub done : Done MayStarve whole rest old new traffic traffic' before before turns
  pub ends : MeetsEnd before after new.found limit rest turns end
