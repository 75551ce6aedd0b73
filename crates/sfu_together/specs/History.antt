-- The history of a script for `together`, and its journal. Own rule.
use Rattle.std.specs.Prelude.{◌≡◌, ℕ, ◌+◌, ◌<◌, ◌≤◌, ◌==◌, if◌then◌else◌, false, List, [], ◌∷◌, ◌++◌, map}
use Rattle.std.specs.List.{All}
use mathlib.Core.Option.{some}
use lib.ListN.{get_elem?}
use Rattle.sfu_base.specs.declared.call.Call.{Call}
use Rattle.room_core.specs.Headline.{Headline}
use Rattle.room_core.specs.History.{Entry, accepted, reply_of}
use Rattle.script_texts.specs.declared.journal.Actors.{Actors}
use Rattle.script_texts.specs.declared.journal.Entry as journal
use Rattle.script_texts.specs.Replies.{answer_text}

-- ---- the history

-- the entry of a seat's call that didn't run out of memory
abbrev pub made_by : ℕ → Call → Entry
made_by seat call = record { seat = seat; call = call; starved = false }

-- the entries of a seat, in order
abbrev pub own : ℕ → List Entry → List Entry
own seat [] = []
own seat (e ∷ es) = if e.seat == seat then e ∷ own seat es else own seat es

-- The history has three parts. The first has the opening part's calls by seat 0. The second has each actor's calls, in
-- the actor's order, and no other seat's calls; actor 1 has seat 1. The third has the closing part's calls by seat 0.
pub record IsMadeBy (script : Actors) (history : List Entry) : Type 0 where
  pub middle : List Entry
  pub parts : history ≡ map (made_by 0) script.opening ++ (middle ++ map (made_by 0) script.closing)
  pub acts : (i : ℕ) → i < 8 → (calls : List Call) → get_elem? script.actors i ≡ some calls → own (i + 1) middle ≡ map (made_by (i + 1)) calls
  pub actors : All (λ e. (0 < e.seat) × (e.seat ≤ 8)) middle

-- ---- the journal

-- the journal's entry of a call after this history
abbrev pub journal_entry_of : List Entry → ℕ → Call → journal.Entry
journal_entry_of past actor call = record { actor = actor; call = call; reply = answer_text (reply_of past call) }

-- the journal's entries of the calls after this history
abbrev pub journal_from : List Entry → List Entry → List journal.Entry
journal_from past [] = []
journal_from past (e ∷ es) = journal_entry_of past e.seat e.call ∷ journal_from (past ++ e ∷ []) es

-- the journal of a whole history
abbrev pub journal_of : List Entry → List journal.Entry
journal_of history = journal_from [] history

-- The journal is that of a history of the script's actors. The guarantees (`Headline`) hold for that history.
pub record IsJournal (script : Actors) (entries : List journal.Entry) : Type 0 where
  pub history : List Entry
  pub made : IsMadeBy script history
  pub reported : entries ≡ journal_of history
  pub headline : Headline (accepted history)
