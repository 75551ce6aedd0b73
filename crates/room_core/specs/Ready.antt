-- The subscribers of a track that have packets queued, by the history. Own rule. The code lists them in its table's order, but no clause says so.
use Rattle.std.specs.Prelude.{◌≡◌, ◌<◌, ◌==◌, ◌&&◌, ℕ, Bool, true, false, nat_eq, nat_lt, List, Option, None, Some, Contains, filter, length}
use Rattle.std.specs.List.{IsDistinct}
use Rattle.std.specs.Map.{keys_of}
use Rattle.sfu_base.specs.declared.call.Call.{Call}
use Rattle.forwarding_model.specs.forwarding.Outgoing.{queue}
use Rattle.room_core.specs.declared.live.LiveSubscriber.{LiveSubscriber}
use Rattle.room_core.specs.Live.{Joined, joined, kind_of}
use Rattle.room_core.specs.Sent.{sent}
use Rattle.room_core.specs.Views.{events_for, subscriber_by}

abbrev pub is_ready_by : (track number : ℕ) → Option Joined → List Call → Bool
is_ready_by track number None past = false
is_ready_by track number (Some j) past = (j.track == track) && nat_lt 0 (length (queue (sent (kind_of j.track past)) (subscriber_by j) (events_for number j past)))

-- the live subscriber with this number joined this track, and has packets queued
abbrev pub is_ready : (track number : ℕ) → List Call → Bool
is_ready track number past = is_ready_by track number (joined number past) past

-- The list has only such subscribers, each once. If it has fewer than `limit` numbers, it has all of them.
pub record AreReady (track limit : ℕ) (past : List Call) (listed : List ℕ) : Type 0 where
  pub distinct : IsDistinct nat_eq listed
  pub ready : (n : ℕ) → Contains listed n → is_ready track n past ≡ true
  pub all : length listed < limit → (n : ℕ) → is_ready track n past ≡ true → Contains listed n

-- ---- in the table

abbrev pub is_entry_ready : ℕ → LiveSubscriber → Bool
is_entry_ready track s = (s.track == track) && nat_lt 0 (length s.feed.value.ring.queued)

-- the numbers of these entries, in the table's order
abbrev pub ready_in : ℕ → List (ℕ × LiveSubscriber) → List ℕ
ready_in track es = keys_of (filter (λ e. is_entry_ready track e.1) es)
